use Rattle.std.specs.Prelude.{nat_eq}
use Rattle.noc_packet.specs.Set.{has_bit}
use Rattle.noc_columns.proofs.LeftLemmas.{six-put}
use Rattle.noc_columns.proofs.left.Left.put.Goals as goal

pub returns : goal.returns
returns c = λ r.
    let self = c.args.self.now in
    six-put (nat_eq r c.args.router) _ _ _ _ _ _ (has_bit self.ones r) (has_bit self.twos r) (has_bit self.fours r) (has_bit self.eights r) (has_bit self.sixteens r) (has_bit self.thirty_twos r)
    c.args.number c.requires.number (c.with_router.ensures r) (c.with_router-2.ensures r) (c.with_router-3.ensures r) (c.with_router-4.ensures r) (c.with_router-5.ensures r) (c.with_router-6.ensures r)
