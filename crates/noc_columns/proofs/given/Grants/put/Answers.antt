use Rattle.std.proofs.Common.{arith}
use Rattle.noc_columns.specs.declared.given.Grant.{Grant}
use Rattle.noc_columns.proofs.GivenLemmas.{all-put, grants-put}
use Rattle.noc_columns.proofs.given.Grants.put.Goals as goal

pub invariant_of-self : goal.invariant_of-self
invariant_of-self c =
    let self = c.args.self.now in
    let e : Grant = record { router = c.args.router; index = c.args.index; port = c.args.port; vc = c.args.vc } in
    record {
      few = omega (arith, c.requires.room);
      right = grants-put self.given self.count self.granted c.put_router.new.words self.sends (record { port = c.put_number.new.self; vc = c.put_number-2.new.self }) e (omega (arith, c.requires.room)) self.right self.all c.put_router.ensures c.put_number.ensures c.put_number-2.ensures c.requires.free c.requires.router_within c.requires.index_within;
      all = all-put self.given self.count self.granted c.put_router.new.words self.sends (record { port = c.put_number.new.self; vc = c.put_number-2.new.self }) e (omega (arith, c.requires.room)) self.right self.all c.put_router.ensures c.put_number.ensures c.put_number-2.ensures c.requires.free c.requires.router_within c.requires.index_within;
    }
