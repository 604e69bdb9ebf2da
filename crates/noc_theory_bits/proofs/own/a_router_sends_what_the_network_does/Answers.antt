use Rattle.noc_theory_bits.proofs.Common.{all_starts, numbers_in}
use Rattle.noc_theory_bits.proofs.bits.ThroughLemmas.{sends, through}
use Rattle.noc_theory_bits.proofs.own.a_router_sends_what_the_network_does.Goals as goal

pub returns : goal.returns
returns c = λ count net layout n r port b t made is_layout few l low shows turn.
    sends net made n (all_starts net) r l (numbers_in net layout n b) t (through net made n few layout is_layout (all_starts net) r l b shows t turn) port low
