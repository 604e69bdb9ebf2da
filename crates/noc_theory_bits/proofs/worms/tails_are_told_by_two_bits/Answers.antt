use Rattle.noc_sets.proofs.TailLemmas.{tail-first}
use Rattle.noc_theory_bits.proofs.Common.{view_buffer, frozen_of}
use Rattle.noc_theory_bits.proofs.bits.BufferLemmas.{frozen-consecutive}
use Rattle.noc_theory_bits.proofs.worms.tails_are_told_by_two_bits.Goals as goal

pub returns : goal.returns
returns c = λ net n r i made l u. tail-first (view_buffer (frozen_of net n r) i) (frozen-consecutive net made n r l i u)
