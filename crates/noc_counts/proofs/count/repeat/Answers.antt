use Rattle.std.proofs.Common.{arith}
use Rattle.noc_packet.specs.Set.{has_bit}
use Rattle.noc_columns.specs.Words.{word}
use Rattle.noc_counts.proofs.CountLemmas.{none-more, repeated}
use Rattle.noc_counts.proofs.count.repeat.Goals as goal

pub returns-then-times-ge16 : goal.returns-then-times-ge16
returns-then-times-ge16 c = λ before j r few small.
    repeated c.args.times _ _ _ _ _ (has_bit (word j c.repeat.new.carry) r) (has_bit (word j c.args.set.now) r) (c.repeat.ensures j r few)
    (λ fits. c.repeat-2.ensures before j r few fits) (λ fits. c.repeat-then-times-ge16.ensures before j r few fits) small

pub returns-else-times-ge16 : goal.returns-else-times-ge16
returns-else-times-ge16 c = λ before j r few small.
    repeated c.args.times _ _ _ _ _ (has_bit (word j c.repeat.new.carry) r) (has_bit (word j c.args.set.now) r) (c.repeat.ensures j r few)
    (λ fits. c.repeat-2.ensures before j r few fits) (λ fits. none-more _ c.args.times (has_bit (word j c.args.set.now) r) (omega arith)) small
