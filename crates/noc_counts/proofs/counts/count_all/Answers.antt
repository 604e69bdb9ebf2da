use Rattle.noc_counts.proofs.CountLemmas.{counted-full, counted-next}
use Rattle.noc_counts.proofs.counts.count_all.Goals as goal

pub returns-then-slot-eq-SLOTS : goal.returns-then-slot-eq-SLOTS
returns-then-slot-eq-SLOTS c = λ g l. counted-full c.args.cycles _ _ _ (c.note_all.ensures g l) _ c.if-slot-eq-SLOTS.true (c.add_all.ensures g l)

pub returns-else-slot-eq-SLOTS : goal.returns-else-slot-eq-SLOTS
returns-else-slot-eq-SLOTS c = λ g l. counted-next c.args.cycles _ _ _ (c.note_all.ensures g l) c.if-slot-eq-SLOTS.false
