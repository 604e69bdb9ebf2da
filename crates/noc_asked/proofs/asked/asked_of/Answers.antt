use Rattle.noc_asked.proofs.RequestLemmas.{named_alike}
use Rattle.noc_asked.proofs.asked.asked_of.Goals as goal

pub returns : goal.returns
returns g c =
    let made = c.request_of-request.ensures in
    (made.command, named_alike _ c.args.args.now.table c.request_of-request.result.table made.table, named_alike _ c.args.args.now.ranks c.request_of-request.result.ranks made.ranks)
