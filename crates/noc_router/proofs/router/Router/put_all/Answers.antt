use Rattle.std.proofs.Common.{ap, refl, arith}
use Rattle.noc_topo.specs.Shape.{local_port}
use Rattle.noc_view.specs.View.{View}
use Rattle.noc_router.proofs.CommitLemmas.{put-first, put-more, put-view, put-beats, beats_count, links_view}
use Rattle.noc_router.proofs.router.Router.put_all.Goals as goal

pub loop-port-init : goal.loop-port-init
loop-port-init c =
    let v = c.args.self.now in
    put-first v (local_port v.site.grid) c.args.beats.now (beats_count c.self.inside v c.self.view_is c.self.invariant) c.requires

pub loop-port-preserved : goal.loop-port-preserved
loop-port-preserved c =
    let v = c.args.self.now in
    put-more v c.loop-port.self c.put.new.self (local_port v.site.grid) c.loop-port.port c.loop-port.beats _ c.put.result c.loop-port.invariant
    (omega (arith, c.loop-port-test.true, links_view c.self.inside v c.self.view_is c.self.invariant)) c.put.ensures.view c.put.ensures.beat refl

pub put-requires : goal.put-requires
put-requires c =
    let v = c.args.self.now in
    let same = ap (λ (x : View). local_port x.site.grid) c.loop-port.invariant.others in
    omega (arith, c.loop-port-test.true, links_view c.self.inside v c.self.view_is c.self.invariant, same)

pub returns-clause-view : goal.returns-clause-view
returns-clause-view c =
    let v = c.args.self.now in
    put-view v c.loop-port.self (local_port v.site.grid) c.loop-port.port c.loop-port.beats c.loop-port.invariant
    (omega (arith, c.loop-port-test.false, links_view c.self.inside v c.self.view_is c.self.invariant)) refl

pub returns-clause-beats : goal.returns-clause-beats
returns-clause-beats c =
    let v = c.args.self.now in
    put-beats v c.loop-port.self (local_port v.site.grid) c.loop-port.port c.loop-port.beats c.loop-port.invariant
    (omega (arith, c.loop-port-test.false, links_view c.self.inside v c.self.view_is c.self.invariant))
