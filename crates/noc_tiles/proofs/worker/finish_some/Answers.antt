use Rattle.std.proofs.Common.{◌≡◌, ◌<◌, ◌∙◌, List, length, refl, ap, subst, arith, rules}
use Rattle.std.specs.Vec.{with_items}
use Rattle.std.proofs.lemmas.List.{with_items_is}
use Rattle.noc_topo.specs.Shape.{neighbour}
use Rattle.noc_packet.specs.declared.packet.Beat.{Beat}
use Rattle.noc_view.specs.Finish.{view_after_finish}
use Rattle.noc_theory.specs.Halves.{beat_at, wire_after_puts}
use Rattle.noc_tiles.specs.Phases.{HaveFinished}
use Rattle.noc_tiles.proofs.FinishLemmas.{finished-none, finished-more, next-built, next-node, next-idle}
use Rattle.noc_tiles.proofs.worker.finish_some.Goals as goal

pub loop-i-init : goal.loop-i-init
loop-i-init c = finished-none c.args.relation.now c.args.cycle c.args.from c.args.to c.args.tile.now c.requires

pub index_mut-requires : goal.index_mut-requires
index_mut-requires c =
    let l : c.loop-i.i < length c.loop-i.tile.routers.items = omega (arith, c.loop-i.invariant.count, c.requires.within) in
    search (rules, arith)

pub finish-requires : goal.finish-requires
finish-requires c =
    let relation = c.args.relation.now in
    let v = c.loop-i.invariant in
    let at = c.index_mut.result.now in
    let node = next-node relation c.args.cycle c.args.from c.args.to c.args.tile.now c.requires c.loop-i.tile c.loop-i.i v c.loop-i.auto.i c.loop-i-test.true at c.index_mut.ensures.value in
    record {
      built = next-built relation c.args.cycle c.args.from c.args.to c.args.tile.now c.requires c.loop-i.tile c.loop-i.i v c.loop-i.auto.i c.loop-i-test.true at c.index_mut.ensures.value;
      node = omega (arith, node, c.requires.within, c.requires.wide, c.loop-i-test.true);
      count = ap length c.deref_mut.ensures.value ∙ v.size ∙ c.requires.count;
      idle = λ r q p e. ap (λ b. beat_at b r q) c.deref_mut.ensures.value
          ∙ next-idle relation c.args.cycle c.args.from c.args.to c.args.tile.now c.requires c.loop-i.tile c.loop-i.i v c.loop-i.auto.i c.loop-i-test.true at c.index_mut.ensures.value r q p e;
    }

pub loop-i-preserved : goal.loop-i-preserved
loop-i-preserved c =
    let b = c.loop-i.tile in
    let size : length c.finish.new.beats ≡ length b.beats.items = search (rules, arith) in
    let now : (with_items b.beats c.finish.new.beats).items ≡ c.finish.new.beats = with_items_is b.beats c.finish.new.beats (search (rules, arith)) in
    let old = c.deref_mut.ensures.value in
    finished-more c.args.relation.now c.args.cycle c.args.from c.args.to c.args.tile.now c.requires b c.loop-i.i c.loop-i.invariant c.loop-i.auto.i c.loop-i-test.true
    c.index_mut.result.now c.index_mut.ensures.value _ c.finish.new.router c.finish.ensures.router refl refl
    (ap length now ∙ size)
    (λ r q l. ap (λ (w : List (List Beat)). beat_at w r q) now ∙ c.finish.ensures.beats r q l
    ∙ ap (λ (w : List (List Beat)). wire_after_puts (view_after_finish c.args.relation.now c.args.cycle c.index_mut.result.now) (neighbour c.args.relation.now.grid r q) (beat_at w r q)) old)

pub returns : goal.returns
returns c =
    let end : c.loop-i.i ≡ c.args.to = omega (arith, c.requires.order) in
    subst (λ m. HaveFinished c.args.relation.now c.args.cycle c.args.from m c.args.tile.now c.loop-i.tile) end c.loop-i.invariant
