use Rattle.std.proofs.Common.{◌≡◌, ◌+◌, ◌*◌, [], ◌∷◌, ◌++◌, List, length, refl, ap, sym, ◌∙◌, subst, arith}
use Rattle.std.proofs.lemmas.List.{length_push}
use Rattle.noc_topo.specs.Shape.{Grid, nodes}
use Rattle.noc_packet.specs.declared.packet.Beat.{Beat}
use Rattle.noc_tiles.specs.Rings.{AreSlots, in_slots, out_slots}
use Rattle.noc_tiles.specs.Partition.{IsTileOf}
use Rattle.noc_tiles.proofs.PartitionLoopLemmas.{AreTilesOf, tiles-all, tiles-more, uncut-all}
use Rattle.noc_tiles.proofs.partition.partition.Goals as goal

pub loop-worker-init : goal.loop-worker-init
loop-worker-init c =
    let f = c.args.kept.now in
    let I = in_slots c.in_ok-ins.ins.items in
    let O = out_slots c.in_ok-ins.outs.items in
    let slots = subst (λ (b : List (List Beat)). AreSlots c.shape.result.now f.workers b (nodes c.shape.result.now * 6) I O) c.deref.ensures.value c.in_ok-ins.ensures in
    let none : length c.in_ok-tiles.tiles.items ≡ 0 = ap length c.in_ok-tiles.ensures.items in
    record {
      count = none;
      room = c.in_ok-tiles.ensures.capacity;
      rest = uncut-all f _ c.requires.can refl c.requires.views (subst (λ (g : Grid). AreSlots g f.workers f.parts.beats.items (nodes g * 6) I O) c.shape.ensures.value slots);
      tiles = λ t d l. absurd (omega (arith, l, none));
    }

pub push_reserved-requires : goal.push_reserved-requires
push_reserved-requires c =
    let v = c.loop-worker.invariant in
    omega (arith, v.count, v.room, c.loop-worker.tiles.ok.0, c.loop-worker-test.true)

pub loop-worker-preserved : goal.loop-worker-preserved
loop-worker-preserved c =
    let f = c.args.kept.now in
    let I = in_slots c.in_ok-ins.ins.items in
    let O = out_slots c.in_ok-ins.outs.items in
    let v = c.loop-worker.invariant in
    let ts = c.loop-worker.tiles.items in
    let T = c.in_ok-tile.tile in
    let cut = c.in_ok-tile.ensures I O v.rest in
    let push : c.push_reserved.new.self.items ≡ ts ++ T ∷ [] = c.push_reserved.ensures.items in
    record {
      room = omega (arith, v.room, c.push_reserved.ensures.capacity);
      count = ap length push ∙ (length_push ts T ∙ ap (λ n. n + 1) v.count);
      rest = cut.1;
      tiles = subst (AreTilesOf f I O) (sym push) (tiles-more f I O ts T v.tiles (subst (λ w. IsTileOf f I O w T) (sym v.count) cut.0));
    }

pub returns : goal.returns
returns c =
    let f = c.args.kept.now in
    let I = in_slots c.in_ok-ins.ins.items in
    let O = out_slots c.in_ok-ins.outs.items in
    let v = c.loop-worker.invariant in
    let ts = c.loop-worker.tiles.items in
    let count : length ts ≡ f.workers = omega (arith, v.count, c.loop-worker-test.false, c.loop-worker.auto.worker-end) in
    record {
      ins = I;
      outs = O;
      partition = tiles-all f I O ts c.requires.can v.tiles count v.rest.unassigned.slots;
      numbered = record { count = count; worker = λ t d l. (v.tiles t d l).worker };
    }
