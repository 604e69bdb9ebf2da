use Rattle.std.proofs.Common.{◌*◌}
use Rattle.std.specs.Prelude.{slice_index}
use Rattle.noc_cycles.specs.Concluding.{HaveArrived}
use Rattle.noc_engine.specs.Passes.{arrived_of, packets_of}
use Rattle.noc_engine.proofs.passes.arrive_blocks.Given as goal

abbrev pub invariant-loop-number : goal.invariant-loop-number
invariant-loop-number l =
    HaveArrived l.cycle.number (64 * l.number) (arrived_of l.cycle.plan.now.pattern.table.ports l.works) (packets_of l.blocks) (slice_index l.fn.arrivals) (slice_index l.arrivals)
