-- What the routers of all blocks find in a cycle.
use Rattle.std.specs.Prelude.{◌≡◌, ℕ, ◌+◌, ◌*◌, ◌<◌, List}
use Rattle.noc_view.specs.Found.{finding_at}
use Rattle.noc_view.specs.declared.finding.Finding.{Finding}
use Rattle.noc_columns.specs.Picks.{channels_of}
use Rattle.noc_columns.specs.Words.{set_of}
use Rattle.noc_counts.specs.Findings.{finding_of, outs_of}
use Rattle.noc_counts.specs.Told.{told_at}
use Rattle.noc_cycles.specs.Held.{held_at}
use Rattle.noc_cycles.specs.declared.block.Block.{Block}
use Rattle.noc_cycles.specs.declared.block.Work.{Work}
use Rattle.noc_cycles.specs.declared.pattern.Pattern.{Pattern}

-- the output channels of router r of a block that were granted in the cycle
abbrev pub outs_at : Pattern → Block → ℕ → ℕ
outs_at pattern block r =
    outs_of ((pattern.table.ports.links.width + 1) * pattern.table.ports.links.vcs)
    pattern.table.ports.links.vcs
    (set_of (channels_of pattern.table.ports) r block.grants.granted)
    (held_at pattern.table.ports block r)

-- what the router finds of its input channel i
abbrev pub found_at : Pattern → Block → Work → ℕ → ℕ → Finding
found_at pattern block work r i =
    finding_of pattern.table.ports.links.vcs
    (told_at (channels_of pattern.table.ports) block work r) (outs_at pattern block r)
    (held_at pattern.table.ports block r) i

-- the places of a router begin at the first: they have this of each of so many channels
abbrev pub HaveFindings : (ℕ → Finding) → ℕ → ℕ → List Finding → Type 0
HaveFindings of count first found =
    (i : ℕ) → i < count → finding_at found (first + i) ≡ of i
