use Rattle.std.proofs.Common.{◌≡◌, ℕ, ◌+◌, ◌*◌, ◌/◌, ◌%◌, ◌<◌, Some}
use Rattle.std.specs.Prelude.{slice_get}
use Rattle.noc_cycles.specs.declared.block.Block.{Block}
use Rattle.noc_cycles.specs.declared.block.Work.{Work}
use Rattle.noc_engine.specs.Finds.{HaveFindings, found_at}
use Rattle.noc_engine.proofs.finds.find_all.Given as goal

abbrev pub invariant-loop-router : goal.invariant-loop-router
invariant-loop-router l =
    (s : ℕ) (block : Block) (work : Work) → s < l.router → slice_get l.blocks (s / 64) ≡ Some block → slice_get l.works (s / 64) ≡ Some work
    → HaveFindings (found_at l.plan.pattern block work (s % 64)) ((l.plan.pattern.table.ports.links.width + 1) * l.plan.pattern.table.ports.links.vcs) (s * 64) l.found
