use Rattle.std.proofs.Common.{ap}
use Rattle.noc_workers.proofs.RoundLemmas.{same-start}
use Rattle.noc_workers.proofs.mail.Mail.new.Goals as goal

pub returns-clause-start : goal.returns-clause-start
returns-clause-start c =
    let o = c.of.ensures in
    same-start _ _ _ _ _ _ _ _ _ _ o.relation o.depth (ap (λ v. v.items) o.packets) o.plan o.cycle
