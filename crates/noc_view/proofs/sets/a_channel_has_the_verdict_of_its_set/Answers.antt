use Rattle.noc_view.proofs.VerdictOfSetLemmas.{has-verdict, only-verdict}
use Rattle.noc_view.proofs.sets.a_channel_has_the_verdict_of_its_set.Goals as goal

pub returns-clause-has : goal.returns-clause-has
returns-clause-has c = λ sets i. has-verdict sets i

pub returns-clause-only : goal.returns-clause-only
returns-clause-only c = λ sets i v few h. only-verdict sets i few v h
