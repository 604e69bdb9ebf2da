use Rattle.std.proofs.Common.{arith, set, subst, sym, ◌∙◌}
use Rattle.noc_columns.specs.Sources.{AreDue}
use Rattle.noc_columns.specs.declared.due.Due.{Due}
use Rattle.noc_columns.proofs.DueLemmas.{put-due}
use Rattle.noc_columns.proofs.due.Due.put.Goals as goal

pub returns-clause-due : goal.returns-clause-due
returns-clause-due c = λ was are.
    let due : Due = c.args.self.now in
    let soon = c.keep.new.self.soon in
    subst (AreDue c.args.cycle)
    ((λ i. record { at = set due.at c.args.router c.args.when; ready = sym c.less-self.ensures i; next = sym c.min-self.ensures i; soon = soon; until = due.until }) ∙ sym c.keep.ensures.rest)
    (put-due c.args.cycle c.args.router c.args.when c.alone_if.result c.if_later.result due (omega arith) (omega arith) c.requires c.alone_if.ensures c.if_later.ensures was are soon c.keep.ensures.soon)
