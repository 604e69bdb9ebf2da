use Rattle.std.proofs.Common.{refl}
use Rattle.noc_ring.proofs.RingLemmas.{new-is, new-fits}
use Rattle.noc_ring.proofs.HeldLemmas.{new-held}
use Rattle.noc_ring.proofs.bank.Bank.new.Goals as goal

pub invariant_of-result : goal.invariant_of-result
invariant_of-result c = (
  new-fits c.args.rings c.args.capacity _ _ c.requires.rings c.requires.some_slot c.requires.capacity refl c.in_ok-new.ensures.0,
  new-held _ c.args.capacity c.args.rings _ c.requires.rings refl c.in_ok-new.ensures.1,
)

pub returns : goal.returns
returns c = new-is c.args.rings c.args.capacity _ _ c.requires.rings refl
