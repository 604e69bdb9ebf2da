use Rattle.std.proofs.Common.{ℕ, ◌≡◌, ◌+◌, ◌<◌, [], ◌∷◌, ◌++◌, map, length, get_or, set, drop, sym, ◌∙◌, ap, arith, refl, rules}
use Rattle.std.proofs.lemmas.List.{length_push, length-map, take_at, length-set}
use Rattle.noc_theory.specs.Halves.{beat_at}
use Rattle.noc_tiles.specs.Ends.{End, inlet}
use Rattle.noc_tiles.specs.TileStep.{arrival_ports, with_row, names}
use Rattle.noc_tiles.proofs.TileStepLemmas.{names-fed, names-set, fed-nil, filled-nil, length-same, place-at, within-at, one-more, filled-more, with_beat-same}
use Rattle.noc_tiles.proofs.worker.receive_all.Goals as goal

pub loop-one-init : goal.loop-one-init
loop-one-init g c = record {
  row = [];
  width = refl;
  ends = sym (fed-nil _);
  beats = λ r q. sym (filled-nil (beat_at c.args.beats.now) (arrival_ports (map inlet c.deref_mut-one-items.result.now)) r q);
  size = refl;
}

pub set_beat-requires : goal.set_beat-requires
set_beat-requires g c =
    let items0 = c.deref_mut-one-items.result.now in
    let v = c.loop-one.invariant in
    let p = within-at inlet (length c.args.beats.now) 6 c.args.ins.now.items items0 c.loop-one.one-items v.row c.loop-one.one-index c.one-item.result c.requires c.deref_mut-one-items.ensures.value v.ends (search rules) in
    let at = ap (λ (w : End). w.at) c.in-Some.ensures.took in
    (omega (arith, p.0, ap (λ (w : ℕ × ℕ). w.0) at, v.size), omega (arith, p.1, ap (λ (w : ℕ × ℕ). w.1) at))

pub loop-one-preserved : goal.loop-one-preserved
loop-one-preserved g c =
    let items0 = c.deref_mut-one-items.result.now in
    let v = c.loop-one.invariant in
    let i = c.loop-one.one-index in
    let bs = c.loop-one.beats in
    let new = c.take.new.self in
    let x = c.in-Some.beat in
    let l : i < length c.loop-one.one-items = search rules in
    let took = c.in-Some.ensures.took in
    let at : (new.router, new.port) ≡ (inlet (get_or c.loop-one.one-items i c.one-item.result)).at = ap (λ (w : End). w.at) took in
    let place : (new.router, new.port) ≡ get_or (arrival_ports (map inlet items0)) (length v.row) (0, 0) =
    at ∙ sym (place-at inlet items0 c.loop-one.one-items v.row i c.one-item.result (0, 0) v.ends l) ∙ ap (λ k. get_or (arrival_ports (map inlet items0)) k (0, 0)) (sym v.width) in
    let n = length-same inlet items0 c.loop-one.one-items v.row v.ends in
    let l0 : length v.row < length (arrival_ports (map inlet items0)) = rw (length-map, length-map) (omega (arith, v.width, n, l)) in
    record {
      row = v.row ++ x ∷ [];
      width = length_push v.row x ∙ ap (λ n. n + 1) v.width;
      ends = one-more inlet items0 c.loop-one.one-items v.row i x c.one-item.result new v.ends l v.width took;
      beats = λ r q.
          c.set_beat.ensures r q
          ∙ with_beat-same (beat_at bs) (with_row (beat_at c.args.beats.now) (arrival_ports (map inlet items0)) v.row) (new.router, new.port) (get_or (arrival_ports (map inlet items0)) (length v.row) (0, 0)) x r q place (v.beats r q)
          ∙ filled-more (beat_at c.args.beats.now) (arrival_ports (map inlet items0)) v.row x (0, 0) r q l0;
      size = c.set_beat.auto.beats ∙ v.size;
    }

pub returns-in_default-clause-ends : goal.returns-in_default-clause-ends
returns-in_default-clause-ends g c =
    let items0 = c.deref_mut-one-items.result.now in
    let items = c.loop-one.one-items in
    let i = c.loop-one.one-index in
    let new = c.take.new.self in
    let l : i < length items = search rules in
    let n = length-set items i new in
    ap (λ q. names (map inlet q)) (take_at (set items i new) (drop (length (set items i new)) c.args.ins.now.items) c.args.ins.now.len (n ∙ (search rules)))
    ∙ (names-set inlet items i c.one-item.result new l c.take.ensures.same.0 c.take.ensures.same.1
    ∙ (ap names c.loop-one.invariant.ends ∙ (names-fed (map inlet items0) c.loop-one.invariant.row ∙ ap (λ q. names (map inlet q)) c.deref_mut-one-items.ensures.value)))

pub returns-clause-ends : goal.returns-clause-ends
returns-clause-ends g c =
    let items0 = c.deref_mut-one-items.result.now in
    let items = c.loop-one.one-items in
    ap (λ q. names (map inlet q)) (take_at items (drop (length items) c.args.ins.now.items) c.args.ins.now.len (search rules))
    ∙ (ap names c.loop-one.invariant.ends ∙ (names-fed (map inlet items0) c.loop-one.invariant.row ∙ ap (λ q. names (map inlet q)) c.deref_mut-one-items.ensures.value))
