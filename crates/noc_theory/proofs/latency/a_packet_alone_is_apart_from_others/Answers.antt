use Rattle.noc_theory.proofs.alone.ApartLemmas.{alone-apart, apart-alone}
use Rattle.noc_theory.proofs.latency.a_packet_alone_is_apart_from_others.Goals as goal

pub returns-clause-apart : goal.returns-clause-apart
returns-clause-apart c = λ net p good two low alone. alone-apart net good two p low alone

pub returns-clause-alone : goal.returns-clause-alone
returns-clause-alone c = λ net p good two low apart. apart-alone net good two p low apart
