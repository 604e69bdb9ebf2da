use Rattle.std.proofs.Common.{arith}
use Rattle.noc_columns.proofs.DueLemmas.{come-due}
use Rattle.noc_columns.proofs.due.Due.come.Goals as goal

pub returns-then-next-self-clause-due : goal.returns-then-next-self-clause-due
returns-then-next-self-clause-due c = λ before earlier are.
    let known = c.if-next-self.true in
    let one = c.next_known-next.ensures.some known in
    come-due before c.args.cycle c.next_known-next.result c.args.self.now (omega arith) earlier c.requires.next c.requires.known are c.next_known-next.ensures.none known one.0 (one.1, one.2, one.3)
