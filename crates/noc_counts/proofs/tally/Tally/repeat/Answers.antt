use Rattle.std.proofs.Common.{◌∙◌, List, ℕ, ap, arith, replicate}
use Rattle.noc_counts.specs.Tallies.{carry_over, sum_of}
use Rattle.noc_columns.specs.Words.{word}
use Rattle.noc_counts.proofs.RepeatLemmas.{repeated, zero-word}
use Rattle.noc_counts.proofs.tally.Tally.repeat.Goals as goal

pub returns : goal.returns
returns c = λ times i r few small.
    let self = c.args.self.now in
    let none : List ℕ = replicate 32 0 in
    let ones = λ (w : List ℕ). sum_of (word i self.ones) (word i w) (word i none) in
    let over = λ (w : List ℕ). carry_over (word i self.ones) (word i w) (word i none) in
    let twos = λ (w : List ℕ). sum_of (word i self.twos) (word i w) (word i c.add_pending.new.carry) in
    let last = λ (w : List ℕ). carry_over (word i self.twos) (word i w) (word i c.add_pending.new.carry) in
    repeated c.args.set.now none c.args.cycles times i r self.bits c.add_number.new.bits self.pending self.ones self.twos c.add_pending.new.bits c.add_pending-2.new.bits c.add_pending.new.carry c.add_pending-2.new.carry _
    (zero-word i)
    (c.add_pending.ensures.bits i few ∙ ap ones c.where_bit-first.ensures) (c.add_pending.ensures.carry i few ∙ ap over c.where_bit-first.ensures)
    (c.add_pending-2.ensures.bits i few ∙ ap twos c.where_bit-second.ensures) (c.add_pending-2.ensures.carry i few ∙ ap last c.where_bit-second.ensures)
    (c.add_number.ensures (omega arith) i r few) small
