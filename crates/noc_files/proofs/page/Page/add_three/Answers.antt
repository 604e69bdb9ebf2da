use Rattle.std.proofs.Common.{arith}
use Rattle.noc_files.proofs.PageLemmas.{first_digit, last_digit}
use Rattle.noc_files.proofs.page.Page.add_three.Goals as goal

pub returns-then-number-lt10-clause-added : goal.returns-then-number-lt10-clause-added
returns-then-number-lt10-clause-added c = first_digit c.args.self.now c.add_digit.new.self c.args.number c.if-number-lt10.true c.add_digit.ensures.added

pub returns-else-number-lt10-clause-added : goal.returns-else-number-lt10-clause-added
returns-else-number-lt10-clause-added c =
    last_digit c.args.self.now c.add_two.new.self c.add_digit-else-number-lt10.new.self c.args.number c.if-number-lt10.false (omega (arith, c.requires.number)) c.add_two.ensures.added
    c.add_digit-else-number-lt10.ensures.added
