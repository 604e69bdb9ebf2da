use Rattle.std.proofs.Common.{◌≡◌, ◌*◌, ap, sym, take, ◌∙◌, arith, subst}
use Rattle.noc_topo.specs.Shape.{ports}
use Rattle.noc_view.specs.View.{size_of}
use Rattle.noc_router.proofs.PlannedLemmas.{planned-parts}
use Rattle.noc_router.proofs.WholeLemmas.{few-channels, few-ports, ports_view, size_view}
use Rattle.noc_alloc.specs.Requests.{AllBelow}
use Rattle.noc_router.proofs.router.Router.plan.Goals as goal

pub invariant_of-plan : goal.invariant_of-plan
invariant_of-plan c = record {
  few_ports = few-ports c.self.inside c.self.invariant;
  few = few-channels c.self.inside c.self.invariant;
}

pub returns-clause-value : goal.returns-clause-value
returns-clause-value c =
    let r = c.self.inside in
    let v = c.args.self.now in
    let size : r.ports * r.vcs ≡ size_of v.site = sym (size_view r v c.self.view_is c.self.invariant) in
    let many : r.ports ≡ ports v.site.grid = ports_view r v c.self.view_is c.self.invariant in
    let requests = c.find_requests in
    let granted = c.grant_channels in
    let switched = c.grant_ports in
    planned-parts c.args.relation.now v _ _ _ _ _ _
    (ap (λ n. take n granted.new.grants) size ∙ granted.ensures)
    (ap (λ n. take n switched.new.picks) many ∙ switched.ensures.picks)
    (ap (λ n. take n switched.new.wins) many ∙ switched.ensures.wins)
    (ap (λ n. take n requests.new.asks) size ∙ requests.ensures.asks)
    (ap (λ n. take n c.find_verdicts.new.verdicts) size ∙ c.find_verdicts.ensures)
    (ap (λ n. take n requests.new.routes) size ∙ requests.ensures.routes)

pub find_verdicts-requires-clause-asks : goal.find_verdicts-requires-clause-asks
find_verdicts-requires-clause-asks c =
    let size : c.self.inside.ports * c.self.inside.vcs ≡ size_of c.args.self.now.site = sym (size_view c.self.inside c.args.self.now c.self.view_is c.self.invariant) in
    ap (λ n. take n c.find_requests.new.asks) size ∙ c.find_requests.ensures.asks

pub overflow_mul-size : goal.overflow_mul-size
overflow_mul-size c = omega (arith, few-channels c.self.inside c.self.invariant)

pub grant_channels-requires : goal.grant_channels-requires
grant_channels-requires c =
    let size : c.self.inside.ports * c.self.inside.vcs ≡ size_of c.args.self.now.site = sym (size_view c.self.inside c.args.self.now c.self.view_is c.self.invariant) in
    ap (λ n. take n c.find_requests.new.asks) size ∙ c.find_requests.ensures.asks

pub grant_ports-requires : goal.grant_ports-requires
grant_ports-requires c =
    let size : c.self.inside.ports * c.self.inside.vcs ≡ size_of c.args.self.now.site = sym (size_view c.self.inside c.args.self.now c.self.view_is c.self.invariant) in
    ap (λ n. take n c.find_requests.new.ready) size ∙ c.find_requests.ensures.ready

pub returns-clause-picks : goal.returns-clause-picks
returns-clause-picks c =
    let v = c.args.self.now in
    let many : c.self.inside.ports ≡ ports v.site.grid = ports_view c.self.inside v c.self.view_is c.self.invariant in
    subst (λ n. AllBelow v.site.vcs (take n c.grant_ports.new.picks)) (sym many) c.grant_ports.ensures.vcs
