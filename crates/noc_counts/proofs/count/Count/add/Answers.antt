use Rattle.std.proofs.Common.{◌%◌, arith, refl, set}
use Rattle.noc_counts.proofs.CountLemmas.{added-part, added-whole, set-four}
use Rattle.noc_counts.proofs.count.Count.add.Goals as goal

pub returns-then-slot-eq3 : goal.returns-then-slot-eq3
returns-then-slot-eq3 c =
    added-whole c.args.times c.args.self.now c.add.new.self c.add.new.carry (omega arith) c.add.ensures c.add-then-slot-eq3.new.self (omega arith)
    (λ fits j r few. omega (arith, c.add-then-slot-eq3.ensures fits j r few, set-four (set c.args.self.now.carried (c.args.times % 4) c.add.new.carry) _ _ _ _ j r refl refl refl refl))

pub returns-else-slot-eq3 : goal.returns-else-slot-eq3
returns-else-slot-eq3 c = added-part c.args.times c.args.self.now c.add.new.self c.add.new.carry (omega arith) c.add.ensures (omega arith)
