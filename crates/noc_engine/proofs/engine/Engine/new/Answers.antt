use Rattle.std.proofs.Common.{arith}
use Rattle.noc_engine.specs.Origins.{setup_by}
use Rattle.noc_engine.proofs.RunLemmas.{own-shown, run-is}
use Rattle.noc_engine.proofs.engine.Engine.new.Goals as goal

pub invariant_of-result : goal.invariant_of-result
invariant_of-result c =
    let shows = c.in_ok-new.ensures in
    record {
      shows = own-shown (setup_by c.args.setup.now) 0 c.in_ok-new.field-0 shows;
      found = record { each = λ r i l m some. let none = shows.1.tile.cycle in absurd (omega (arith, some, none)) };
    }

pub returns : goal.returns
returns c = run-is (setup_by c.args.setup.now) 0 c.in_ok-new.field-0 c.in_ok-new.ensures
