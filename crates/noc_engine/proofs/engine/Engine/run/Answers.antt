use Rattle.std.proofs.Common.{◌+◌, ◌≤◌, ◌∙◌, ap, sym, subst}
use Rattle.noc_theory.specs.Network.{Run}
use Rattle.noc_theory.specs.declared.limits.TheConstants.{CYCLE_LIMIT}
use Rattle.noc_engine.specs.Origins.{net_in}
use Rattle.noc_engine.proofs.RunLemmas.{found-then, own-shown, run-is}
use Rattle.noc_engine.proofs.engine.Engine.run.Goals as goal

pub run-requires : goal.run-requires
run-requires c = record {
  is = ap (λ (u : Run). u.net.relation) c.self.view_is ∙ c.requires.relation;
  within = subst (λ (u : Run). u.count + c.args.cycles ≤ CYCLE_LIMIT) (sym c.self.view_is) c.requires.within;
  shows = c.self.invariant.shows;
}

pub invariant_of-self : goal.invariant_of-self
invariant_of-self c =
    let all = c.self.inside.columns in
    let next = c.run.new.self in
    record {
      shows = own-shown (net_in all.origin) (all.tile.cycle + c.args.cycles) next c.run.ensures.shows;
      found = found-then (net_in all.origin) (all.tile.cycle + c.args.cycles) c.args.cycles all next c.run.ensures.shows (λ none. c.self.invariant.found) c.run.ensures.found c.run.ensures.kept;
    }

pub returns : goal.returns
returns c =
    let all = c.self.inside.columns in
    run-is (net_in all.origin) (all.tile.cycle + c.args.cycles) c.run.new.self c.run.ensures.shows
    ∙ ap (λ (u : Run). (let v : Run = record { net = u.net; count = u.count + c.args.cycles } in v)) c.self.view_is
