use Rattle.noc_theory_bits.proofs.bits.BufferLemmas.{frozen-consecutive, start-consecutive}
use Rattle.noc_theory_bits.proofs.worms.buffers_hold_consecutive_flits.Goals as goal

pub returns-clause-start : goal.returns-clause-start
returns-clause-start c = λ net n r i made l u. start-consecutive net made n r l i u

pub returns-clause-frozen : goal.returns-clause-frozen
returns-clause-frozen c = λ net n r i made l u. frozen-consecutive net made n r l i u
