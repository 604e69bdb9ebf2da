use Rattle.std.proofs.Common.{true, ap}
use Rattle.noc_router.specs.Parts.{ChannelStates}
use Rattle.noc_router.proofs.RouterLemmas.{IsRouter-channels}
use Rattle.noc_router.proofs.router.Router.route_head.Goals as goal

pub invariant_of-self : goal.invariant_of-self
invariant_of-self c = IsRouter-channels c.self.inside c.route.new.self true c.self.invariant (ap (λ (s : ChannelStates). s.size) c.route.ensures.states) (ap (λ (s : ChannelStates). s.bank.capacity) c.route.ensures.states) c.route.ensures.awaits
