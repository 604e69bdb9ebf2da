use Rattle.noc_theory_bits.proofs.Common.{all_starts, numbers_in}
use Rattle.noc_theory_bits.proofs.bits.ThroughLemmas.{router-next, through}
use Rattle.noc_theory_bits.proofs.own.a_router_shows_the_next_count.Goals as goal

pub returns : goal.returns
returns c = λ count net layout n r b t left tells next made is_layout few l shows turn sent have turned.
    router-next net made n (all_starts net) r l (numbers_in net layout n b) t (through net made n few layout is_layout (all_starts net) r l b shows t turn) few left tells sent next have turned
