use Rattle.std.proofs.Common.{refl}
use Rattle.std.proofs.lemmas.Result.{err_from_is_err_and}
use Rattle.noc_files.specs.Configuration.{settings}
use Rattle.noc_requests.specs.Asked.{lent_files}
use Rattle.noc_requests.specs.Answer.{TextsFault, in_packets}
use Rattle.noc_requests.specs.Run.{PacketsFault}
use Rattle.noc_requests.proofs.EndingLemmas.{refuses_more}
use Rattle.noc_requests.proofs.opening.opening_network.Goals as goal

pub returns-in_err-network-clause-fault : goal.returns-in_err-network-clause-fault
returns-in_err-network-clause-fault g c =
    let a = lent_files c.args.files.now in
    let p = err_from_is_err_and c.from_residual-in_err-network.result c.from_residual-in_err-network.ensures.1 in
    rw (p.1, p.2) (refuses_more (PacketsFault c.in_ok-config.relation a.traffic) (TextsFault a) _
    (λ first. in_packets c.requires c.in_ok-config.ensures.checked first) c.in_err-network.ensures.fault)

pub returns-clause-network : goal.returns-clause-network
returns-clause-network g c = (
  record {
    settings = settings c.in_ok-config.config;
    routes = c.in_ok-config.relation;
    before = c.in_ok-config.ensures.checked;
    network = c.in_ok-network.ensures.network;
  },
  refl,
)
