use Rattle.std.proofs.Common.{◌*◌}
use Rattle.noc_topo.specs.Shape.{nodes}
use Rattle.noc_route.specs.Entered.{sets_in}
use Rattle.noc_route.specs.Trimming.{reached_at}
use Rattle.noc_steps.proofs.WrittenLemmas.{StandsTo, LeavesOthers}
use Rattle.noc_route.proofs.trim.trim_column.Given as goal

abbrev pub invariant-loop-dst : goal.invariant-loop-dst
invariant-loop-dst l =
    let f = l.sizes in
    record {
      column : StandsTo (reached_at f (sets_in f l.entered) l.coming l.pair l.input) l.block (l.input * nodes f.shape) l.dst;
      others : LeavesOthers l.fn.block l.block (l.input * nodes f.shape) l.dst;
    }
