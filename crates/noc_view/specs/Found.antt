-- Findings: the verdict, the packet and the output channel of an input channel in a cycle.
use Rattle.std.specs.Prelude.{None, ℕ, List, slice_index_or}
use Rattle.noc_view.specs.declared.verdict.Verdict.TheVariants.{Empty}
use Rattle.noc_view.specs.declared.finding.Finding.{Finding}

abbrev pub empty_finding : Finding
empty_finding = record { verdict = Empty; packet = None; out = None }

-- the finding of channel i
abbrev pub finding_at : List Finding → ℕ → Finding
finding_at findings i = slice_index_or findings i empty_finding
