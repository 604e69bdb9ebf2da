use Rattle.std.proofs.Common.{◌≡◌, ◌+◌, ◌*◌, ◌∙◌, ap, subst, sym, arith}
use Rattle.noc_topo.specs.Shape.{local_port, distance}
use Rattle.noc_rank.specs.LeastAhead.{outputs}
use Rattle.noc_rank.specs.Filled.{IsFilled}
use Rattle.noc_rank.proofs.AheadLemmas.{least-next_router, least-other_router}
use Rattle.noc_rank.proofs.ahead.Search.fill_router.Goals as goal
use Rattle.noc_rank.proofs.ahead.Search.fill_router.Goals.{After-distance}

-- the distance of the router
here : (c : After-distance) → c.distance.result ≡ distance c.args.self.now.relation.now.grid c.args.router c.args.self.now.dst
here c = c.distance.ensures.value ∙ ap (λ g. distance g c.args.router c.args.self.now.dst) c.shape.ensures.value

pub returns-then-distance : goal.returns-then-distance
returns-then-distance c =
    let s = c.args.self.now in
    let at = (goal.at.returns-then-distance c).After-distance in
    least-other_router s c.shape.ensures.built c.args.distance c.args.router c.args.least.now (λ e. c.if-distance.true (here at ∙ e)) c.requires.before

pub loop-input-init : goal.loop-input-init
loop-input-init c =
    let s = c.args.self.now in
    let at = (goal.at.loop-input-init c).After-distance in
    subst (λ d. IsFilled s d c.args.router 0 c.args.least.now) (sym c.if-distance.false ∙ here at) c.requires.before

pub returns : goal.returns
returns c =
    let s = c.args.self.now in
    let routes = s.relation.now in
    let least = c.loop-input.least in
    let d = distance routes.grid c.args.router s.dst in
    let at = (goal.at.returns c).After-distance in
    let count : c.link_ports.result * c.vcs.result ≡ outputs routes
    = ap (λ x. x * c.vcs.result) (c.link_ports.ensures.value ∙ ap local_port c.shape-2.ensures.value) ∙ ap (λ x. local_port routes.grid * x) c.vcs.ensures.value in
    let last : c.loop-input.input ≡ outputs routes = omega (arith, count, c.loop-input-test.false, c.loop-input.auto.input-end) in
    subst (λ x. IsFilled s x (c.args.router + 1) 0 least) (sym (here at) ∙ c.if-distance.false)
    (least-next_router s c.vcs.ensures.built d c.args.router least (subst (λ i. IsFilled s d c.args.router i least) last c.loop-input.invariant))
