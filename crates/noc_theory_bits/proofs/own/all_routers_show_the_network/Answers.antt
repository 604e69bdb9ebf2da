use Rattle.noc_theory_bits.proofs.bits.NetworkLemmas.{network-own, own-network}
use Rattle.noc_theory_bits.proofs.own.all_routers_show_the_network.Goals as goal

pub returns-clause-some : goal.returns-clause-some
returns-clause-some c = λ count net own n w made shows. network-own net made own n w shows

pub returns-clause-all : goal.returns-clause-all
returns-clause-all c = λ count net n w made shows. own-network net made n w shows
