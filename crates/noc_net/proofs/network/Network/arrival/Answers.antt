use Rattle.std.proofs.Common.{◌≡◌, ℕ, ◌<◌, ◌≤◌, Option, Some, length, ap, sym, ◌∙◌, subst}
use Rattle.noc_route.specs.Ranks.{IsRankedBy, Ranking}
use Rattle.noc_theory.specs.Good.{IsGoodSetup}
use Rattle.noc_theory.specs.Network.{Run, arrival_in, state_at}
use Rattle.noc_net.specs.Limit.{IsLimit}
use Rattle.noc_net.proofs.LimitLemmas.{arrives}
use Rattle.noc_net.proofs.NetworkLemmas.{routers-run, shown}
use Rattle.noc_net.proofs.network.Network.arrival.Goals as goal

-- a ranked network has this answer by its limit
abbrev IsInTime : Run → Option ℕ → Type 0
IsInTime u answer = (ranks : Ranking) → (limit : ℕ) → IsRankedBy u.net.relation ranks → IsLimit u.net limit → limit ≤ u.count → (cycle : ℕ) × (answer ≡ Some cycle) × (cycle < limit)

in-time : (u : Run) → IsGoodSetup u.net → (number : ℕ) → number < length u.net.packets → (answer : Option ℕ) → answer ≡ arrival_in u.net (state_at u.net u.count) number → IsInTime u answer
in-time u good number l answer e = λ ranks limit ranked is late.
    let one = arrives u.net good ranks ranked limit is u.count late number l in
    (one.0, e ∙ one.1, one.2)

pub arrival-requires : goal.arrival-requires
arrival-requires c = subst (λ (u : Run). c.args.packet < length u.net.packets) (sym (shown c.self.inside c.self.invariant c.in-Some.engine c.in-Some.is ∙ c.self.view_is)) c.requires

pub arrival-requires-in-None-clause-parts : goal.arrival-requires-in-None-clause-parts
arrival-requires-in-None-clause-parts c = c.self.invariant.parts

pub arrival-requires-in-None-clause-packet : goal.arrival-requires-in-None-clause-packet
arrival-requires-in-None-clause-packet c = subst (λ (u : Run). c.args.packet < length u.net.packets) (sym c.self.view_is) c.requires

pub returns-in-Some-clause-value : goal.returns-in-Some-clause-value
returns-in-Some-clause-value c = c.arrival.ensures ∙ ap (λ (u : Run). arrival_in u.net (state_at u.net u.count) c.args.packet) (shown c.self.inside c.self.invariant c.in-Some.engine c.in-Some.is ∙ c.self.view_is)

pub returns-in-None-clause-value : goal.returns-in-None-clause-value
returns-in-None-clause-value c =
    c.arrival-in-None.ensures ∙ ap (λ (u : Run). arrival_in u.net (state_at u.net u.count) c.args.packet) (routers-run c.self.inside c.self.invariant c.in-None.is ∙ c.self.view_is)

pub returns-in-Some-clause-ranked : goal.returns-in-Some-clause-ranked
returns-in-Some-clause-ranked c =
    in-time c.args.self.now (subst (λ (u : Run). IsGoodSetup u.net) c.self.view_is c.self.invariant.parts.good) c.args.packet c.requires c.arrival.result (returns-in-Some-clause-value c)

pub returns-in-None-clause-ranked : goal.returns-in-None-clause-ranked
returns-in-None-clause-ranked c =
    in-time c.args.self.now (subst (λ (u : Run). IsGoodSetup u.net) c.self.view_is c.self.invariant.parts.good) c.args.packet c.requires c.arrival-in-None.result (returns-in-None-clause-value c)
