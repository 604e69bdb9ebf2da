use Rattle.std.proofs.Common.{◌≡◌, ℕ, ◌<◌}
use Rattle.noc_view.specs.Found.{finding_at}
use Rattle.noc_engine.specs.Finds.{HaveFindings, found_at}
use Rattle.noc_engine.proofs.finds.find_in.Given as goal

abbrev pub invariant-loop-channel : goal.invariant-loop-channel
invariant-loop-channel l = record {
  here : HaveFindings (found_at l.pattern l.block l.work l.router) l.channel l.first l.found;
  before : (p : ℕ) → p < l.first → finding_at l.found p ≡ finding_at l.fn.found p;
}
