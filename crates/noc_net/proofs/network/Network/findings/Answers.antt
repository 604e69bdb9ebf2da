use Rattle.std.proofs.Common.{◌<◌, ap, sym, ◌∙◌, subst}
use Rattle.noc_topo.specs.Shape.{nodes}
use Rattle.noc_theory.specs.Lockstep.{findings_before}
use Rattle.noc_theory.specs.Network.{Run}
use Rattle.noc_net.proofs.NetworkLemmas.{routers-run, shown}
use Rattle.noc_net.proofs.network.Network.findings.Goals as goal

pub findings-requires : goal.findings-requires
findings-requires c = subst (λ (u : Run). c.args.router < nodes u.net.relation.grid) (sym (shown c.self.inside c.self.invariant c.in-Some.engine c.in-Some.is ∙ c.self.view_is)) c.requires

pub findings-requires-in-None-clause-parts : goal.findings-requires-in-None-clause-parts
findings-requires-in-None-clause-parts c = c.self.invariant.parts

pub findings-requires-in-None-clause-router : goal.findings-requires-in-None-clause-router
findings-requires-in-None-clause-router c = subst (λ (u : Run). c.args.router < nodes u.net.relation.grid) (sym c.self.view_is) c.requires

pub returns-in-Some : goal.returns-in-Some
returns-in-Some c = c.findings.ensures ∙ ap (λ (u : Run). findings_before u.net u.count c.args.router) (shown c.self.inside c.self.invariant c.in-Some.engine c.in-Some.is ∙ c.self.view_is)

pub returns-in-None : goal.returns-in-None
returns-in-None c = c.findings-in-None.ensures ∙ ap (λ (u : Run). findings_before u.net u.count c.args.router) (routers-run c.self.inside c.self.invariant c.in-None.is ∙ c.self.view_is)
