use Rattle.std.proofs.Common.{arith}
use Rattle.noc_columns.specs.Sources.{come_in}
use Rattle.noc_columns.proofs.DueLemmas.{some-come}
use Rattle.noc_columns.proofs.due.Due.next_known.Goals as goal

pub returns-then-self-following-ne0-clause-some : goal.returns-then-self-following-ne0-clause-some
returns-then-self-following-ne0-clause-some c = λ known.
    let one = some-come (come_in c.args.self.now c.loop-following.following) c.if-self-following-ne0.true (omega arith) in (omega arith, one.0, one.1, one.2)
