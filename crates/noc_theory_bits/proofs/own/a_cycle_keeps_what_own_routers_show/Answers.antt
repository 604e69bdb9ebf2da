use Rattle.noc_theory_bits.proofs.bits.OwnLemmas.{own-next}
use Rattle.noc_theory_bits.proofs.own.a_cycle_keeps_what_own_routers_show.Goals as goal

pub returns : goal.returns
returns c = λ count net layout own n b t left tells next made is_layout few shows run. own-next net made layout is_layout own n b t left tells next few shows run
