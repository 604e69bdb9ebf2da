use Rattle.std.proofs.Common.{◌*◌, replicate}
use Rattle.noc_counts.specs.Low.{HasRaised, set_sum}
use Rattle.noc_counts.proofs.low.Low+Row.add.Given as goal

abbrev pub invariant-loop-verdict : goal.invariant-loop-verdict
invariant-loop-verdict l = HasRaised (set_sum l.sets 16) 0 (4 * l.verdict) l.fn.self l.self (replicate 32 0) l.carry
