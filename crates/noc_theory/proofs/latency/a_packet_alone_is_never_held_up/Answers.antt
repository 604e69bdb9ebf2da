use Rattle.noc_theory.proofs.alone.ApartLemmas.{alone-in_time, apart-in_time}
use Rattle.noc_theory.proofs.latency.a_packet_alone_is_never_held_up.Goals as goal

pub returns-clause-alone : goal.returns-clause-alone
returns-clause-alone c = λ net n p good two low alone late. alone-in_time net good two p low alone n late

pub returns-clause-apart : goal.returns-clause-apart
returns-clause-apart c = λ net n p good two low apart late. apart-in_time net good two p low apart n late
