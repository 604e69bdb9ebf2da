use Rattle.std.proofs.Common.{ap, ◌∙◌}
use Rattle.noc_theory.specs.declared.event.Event.TheVariants.{Take, Decide, Put}
use Rattle.noc_theory.specs.Core.{CoreState}
use Rattle.noc_theory.proofs.runs.OrderLemmas.{net-happens}
use Rattle.noc_net.proofs.event_core.Core.apply.Goals as goal

pub returns-in-Take-clause-net : goal.returns-in-Take-clause-net
returns-in-Take-clause-net c = ap (λ (k : CoreState). k.net) c.take.ensures ∙ net-happens c.args.self.now (Take c.in-Take.router c.in-Take.port)

pub returns-in-Decide-clause-net : goal.returns-in-Decide-clause-net
returns-in-Decide-clause-net c = ap (λ (k : CoreState). k.net) c.decide.ensures ∙ net-happens c.args.self.now (Decide c.in-Decide.router)

pub returns-in-Put-clause-net : goal.returns-in-Put-clause-net
returns-in-Put-clause-net c = ap (λ (k : CoreState). k.net) c.put.ensures ∙ net-happens c.args.self.now (Put c.in-Put.router c.in-Put.port)
