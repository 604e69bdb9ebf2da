use Rattle.std.proofs.Common.{None, arith, sym, ◌∙◌}
use Rattle.std.specs.Prelude.{not}
use Rattle.noc_vc.specs.Input.{is_empty}
use Rattle.noc_view.specs.Verdict.{ask_of, ready_port}
use Rattle.noc_view.specs.View.{route_of, size_of, view_buffer, view_claim}
use Rattle.noc_view.proofs.StandLemmas.{asks_of-stands, ready_of-stands}
use Rattle.noc_router.proofs.TableLemmas.{written-all, written-more}
use Rattle.noc_router.proofs.WholeLemmas.{few-channels, size_view}
use Rattle.noc_router.proofs.router.Router.find_requests.Goals as goal

pub loop-index-preserved : goal.loop-index-preserved
loop-index-preserved c =
    let l = c.loop-index in
    let v = c.args.self.now in
    let few = few-channels c.self.inside c.self.invariant in (
      written-more 56 l.index 0 (route_of c.args.relation.now v) l.routes c.find_request.new.route (omega (arith, few, c.loop-index-test.true)) c.find_request.ensures.route l.invariant.0,
      written-more 56 l.index None (λ k. ask_of (view_claim v k)) l.asks c.find_request.new.ask (omega (arith, few, c.loop-index-test.true)) c.find_request.ensures.ask l.invariant.1,
      written-more 56 l.index None (λ k. ready_port v.site.vcs (view_claim v k) (not (is_empty (view_buffer v k)))) l.ready c.find_request.new.ready (omega (arith, few, c.loop-index-test.true)) c.find_request.ensures.ready l.invariant.2,
    )

pub returns-clause-routes : goal.returns-clause-routes
returns-clause-routes c =
    let l = c.loop-index in
    let v = c.args.self.now in
    let size = size_view c.self.inside v c.self.view_is c.self.invariant in
    written-all 56 (size_of v.site) l.index 0 (route_of c.args.relation.now v) l.routes (omega (arith, size, few-channels c.self.inside c.self.invariant)) (omega (arith, size, c.loop-index-test.false)) l.invariant.0

pub returns-clause-asks : goal.returns-clause-asks
returns-clause-asks c =
    let l = c.loop-index in
    let v = c.args.self.now in
    let size = size_view c.self.inside v c.self.view_is c.self.invariant in
    written-all 56 (size_of v.site) l.index None (λ k. ask_of (view_claim v k)) l.asks (omega (arith, size, few-channels c.self.inside c.self.invariant)) (omega (arith, size, c.loop-index-test.false)) l.invariant.1
    ∙ sym (asks_of-stands v)

pub returns-clause-ready : goal.returns-clause-ready
returns-clause-ready c =
    let l = c.loop-index in
    let v = c.args.self.now in
    let size = size_view c.self.inside v c.self.view_is c.self.invariant in
    written-all 56 (size_of v.site) l.index None (λ k. ready_port v.site.vcs (view_claim v k) (not (is_empty (view_buffer v k)))) l.ready (omega (arith, size, few-channels c.self.inside c.self.invariant)) (omega (arith, size, c.loop-index-test.false)) l.invariant.2
    ∙ sym (ready_of-stands v)
