use Rattle.std.proofs.Common.{ℕ, flat_map, sum}
use Rattle.noc_topo.specs.Lists.{below}
use Rattle.noc_files.specs.Summary.{AreRaised, column_entry}
use Rattle.noc_files.proofs.summary.add_port.Given as goal

-- by the channels so far
abbrev pub invariant-loop-vc : goal.invariant-loop-vc
invariant-loop-vc l =
    AreRaised (λ (column : ℕ). sum (flat_map (column_entry l.network column l.router l.port) (below l.vc))) l.vc l.fn.totals l.totals
