use Rattle.std.proofs.Common.{◌∙◌}
use Rattle.std.proofs.lemmas.List.{get_or-replicate}
use Rattle.noc_cycles.proofs.OpeningLemmas.{low-bits, nobody-asks, nothing-fits}
use Rattle.noc_cycles.proofs.opening.open_marks.Goals as goal

pub invariant_of-marks : goal.invariant_of-marks
invariant_of-marks c = record {
  unasked = c.args.marks.now.unasked;
  asks = λ r few. nobody-asks r _ _ few;
  fit = nothing-fits;
}

pub returns-clause-waiting : goal.returns-clause-waiting
returns-clause-waiting c = λ r few. get_or-replicate 64 r 0 0 few

pub returns-clause-wanted : goal.returns-clause-wanted
returns-clause-wanted c = λ r few. get_or-replicate 64 r 0 0 few

pub returns-clause-idle : goal.returns-clause-idle
returns-clause-idle c = λ r few. get_or-replicate 64 r _ 0 few ∙ low-bits c.args.channels c.requires
