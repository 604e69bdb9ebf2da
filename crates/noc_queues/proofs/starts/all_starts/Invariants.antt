use Rattle.std.proofs.Common.{◌≡◌}
use Rattle.noc_columns.specs.Sources.{starts_by}
use Rattle.noc_theory_bits.specs.Starts.{starts_list}
use Rattle.noc_theory_cycles.specs.Firsts.{AreFirsts}
use Rattle.noc_queues.proofs.starts.all_starts.Given as goal

-- the packets of the routers so far
abbrev pub invariant-loop-queue : goal.invariant-loop-queue
invariant-loop-queue l = record {
  list : starts_by l.list.items ≡ starts_list l.packets l.queue-index;
  firsts : AreFirsts l.packets l.queue-index l.firsts.items;
}
