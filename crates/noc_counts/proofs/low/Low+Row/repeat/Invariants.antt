use Rattle.std.proofs.Common.{◌*◌}
use Rattle.noc_packet.specs.Set.{has_bit}
use Rattle.noc_topo.specs.Lists.{one_if}
use Rattle.noc_columns.specs.Words.{word}
use Rattle.noc_counts.specs.Low.{HasRaised}
use Rattle.noc_counts.proofs.low.Low+Row.repeat.Given as goal

abbrev pub invariant-loop-i : goal.invariant-loop-i
invariant-loop-i l = HasRaised (λ j r. l.times * one_if (has_bit (word j l.set) r)) 0 l.i l.fn.self l.self l.fn.carry l.carry
