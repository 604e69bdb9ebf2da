use Rattle.std.proofs.Common.{◌≡◌, ◌+◌, ◌*◌, ◌<◌, ℕ, Some}
use Rattle.std.specs.Prelude.{slice_get}
use Rattle.noc_theory.specs.Good.{IsGoodSetup}
use Rattle.noc_theory.specs.Network.{Setup}
use Rattle.noc_cycles.specs.Held.{links_at}
use Rattle.noc_cycles.specs.declared.block.Work.{Work}
use Rattle.noc_engine.specs.Passes.{coming}
use Rattle.noc_engine.specs.Shows.{IsPlanOf}
use Rattle.noc_engine.proofs.passes.gather_all.Given as goal

abbrev pub invariant-loop-number : goal.invariant-loop-number
invariant-loop-number l = (net : Setup) → IsGoodSetup net → IsPlanOf net l.plan → (b r : ℕ) (work : Work) → b < l.number → slice_get l.works b ≡ Some work → r < 64
    → links_at l.plan.pattern.table.ports work.came r ≡ coming net l.plan.pattern.table.ports l.left (64 * (l.first + b) + r)
