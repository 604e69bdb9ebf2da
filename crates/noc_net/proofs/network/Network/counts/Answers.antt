use Rattle.std.proofs.Common.{◌+◌, ◌*◌, ◌<◌, ap, sym, ◌∙◌, subst}
use Rattle.noc_topo.specs.Shape.{nodes, ports}
use Rattle.noc_theory.specs.Lockstep.{counts_before}
use Rattle.noc_theory.specs.Network.{Run}
use Rattle.noc_net.proofs.NetworkLemmas.{routers-run, shown}
use Rattle.noc_net.proofs.network.Network.counts.Goals as goal

pub counts-requires : goal.counts-requires
counts-requires c =
    let is = shown c.self.inside c.self.invariant c.in-Some.engine c.in-Some.is ∙ c.self.view_is in
    record {
      router = subst (λ (u : Run). c.args.router < nodes u.net.relation.grid) (sym is) c.requires.router;
      port = subst (λ (u : Run). c.args.port < ports u.net.relation.grid) (sym is) c.requires.port;
      vc = subst (λ (u : Run). c.args.vc < u.net.relation.vcs) (sym is) c.requires.vc;
    }

pub counts-requires-in-None-clause-parts : goal.counts-requires-in-None-clause-parts
counts-requires-in-None-clause-parts c = c.self.invariant.parts

pub counts-requires-in-None-clause-router : goal.counts-requires-in-None-clause-router
counts-requires-in-None-clause-router c = subst (λ (u : Run). c.args.router < nodes u.net.relation.grid) (sym c.self.view_is) c.requires.router

pub counts-requires-in-None-clause-port : goal.counts-requires-in-None-clause-port
counts-requires-in-None-clause-port c = subst (λ (u : Run). c.args.port < ports u.net.relation.grid) (sym c.self.view_is) c.requires.port

pub counts-requires-in-None-clause-vc : goal.counts-requires-in-None-clause-vc
counts-requires-in-None-clause-vc c = subst (λ (u : Run). c.args.vc < u.net.relation.vcs) (sym c.self.view_is) c.requires.vc

pub returns-in-Some : goal.returns-in-Some
returns-in-Some c =
    c.counts.ensures ∙ ap (λ (u : Run). counts_before u.net u.count c.args.router (c.args.port * u.net.relation.vcs + c.args.vc)) (shown c.self.inside c.self.invariant c.in-Some.engine c.in-Some.is ∙ c.self.view_is)

pub returns-in-None : goal.returns-in-None
returns-in-None c =
    c.counts-in-None.ensures ∙ ap (λ (u : Run). counts_before u.net u.count c.args.router (c.args.port * u.net.relation.vcs + c.args.vc)) (routers-run c.self.inside c.self.invariant c.in-None.is ∙ c.self.view_is)
