use Rattle.std.proofs.Common.{◌≡◌, ◌++◌, map, take}
use Rattle.noc_columns.specs.Sources.{starts_by}
use Rattle.noc_theory_bits.specs.Starts.{start_of}
use Rattle.noc_queues.proofs.starts.add_starts.Given as goal

-- the packets so far
abbrev pub invariant-loop-number : goal.invariant-loop-number
invariant-loop-number l = starts_by l.starts.items ≡ starts_by l.initial.starts.items ++ map start_of (take l.number-index l.queue)
