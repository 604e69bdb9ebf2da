use Rattle.std.proofs.Common.{ℕ, ◌≡◌, ◌<◌, [], ◌∷◌, ◌++◌, map, take, drop, length, get_or, set, sym, ◌∙◌, ap, arith, refl, rules}
use Rattle.std.proofs.lemmas.List.{length-map, length-take-le, take_more, take_at, take_all, get_or-map, length-set}
use Rattle.noc_view.specs.View.{idle_beat}
use Rattle.noc_theory.specs.Halves.{beat_at}
use Rattle.noc_tiles.specs.Ends.{End, outlet}
use Rattle.noc_tiles.specs.TileStep.{ends_after_beats, arrival_ports, names}
use Rattle.noc_tiles.proofs.TileStepLemmas.{names-fed, names-set, fed-nil, place-at, within-at, one-more}
use Rattle.noc_tiles.proofs.worker.put_all.Goals as goal

pub loop-one-init : goal.loop-one-init
loop-one-init g c = sym (fed-nil (map outlet c.deref_mut-one-items.result.now))

pub bounds-beats-one : goal.bounds-beats-one
bounds-beats-one g c =
    let items0 = c.deref_mut-one-items.result.now in
    let i = c.loop-one.one-index in
    let out = λ (p : ℕ × ℕ). beat_at c.args.beats.now p.0 p.1 in
    let p = within-at outlet (length c.args.beats.now) 6 c.args.ends.now.items items0 c.loop-one.one-items (take i (map out (arrival_ports (map outlet items0)))) i c.one-item.result c.requires c.deref_mut-one-items.ensures.value c.loop-one.invariant (search rules) in
    p.0

pub offset_bounds-beats-one : goal.offset_bounds-beats-one
offset_bounds-beats-one g c =
    let items0 = c.deref_mut-one-items.result.now in
    let i = c.loop-one.one-index in
    let out = λ (p : ℕ × ℕ). beat_at c.args.beats.now p.0 p.1 in
    let p = within-at outlet (length c.args.beats.now) 6 c.args.ends.now.items items0 c.loop-one.one-items (take i (map out (arrival_ports (map outlet items0)))) i c.one-item.result c.requires c.deref_mut-one-items.ensures.value c.loop-one.invariant (search rules) in
    let b : (get_or c.loop-one.one-items i c.one-item.result).router < length c.args.beats.now = p.0 in
    search (rules, arith)

pub bounds-beats-one-in-loop-one : goal.bounds-beats-one-in-loop-one
bounds-beats-one-in-loop-one g c =
    let items0 = c.deref_mut-one-items.result.now in
    let i = c.loop-one.one-index in
    let out = λ (p : ℕ × ℕ). beat_at c.args.beats.now p.0 p.1 in
    let p = within-at outlet (length c.args.beats.now) 6 c.args.ends.now.items items0 c.loop-one.one-items (take i (map out (arrival_ports (map outlet items0)))) i c.one-item.result c.requires c.deref_mut-one-items.ensures.value c.loop-one.invariant (search rules) in
    p.1

pub offset_bounds-beats-one-in-loop-one : goal.offset_bounds-beats-one-in-loop-one
offset_bounds-beats-one-in-loop-one g c =
    let items0 = c.deref_mut-one-items.result.now in
    let i = c.loop-one.one-index in
    let out = λ (p : ℕ × ℕ). beat_at c.args.beats.now p.0 p.1 in
    let p = within-at outlet (length c.args.beats.now) 6 c.args.ends.now.items items0 c.loop-one.one-items (take i (map out (arrival_ports (map outlet items0)))) i c.one-item.result c.requires c.deref_mut-one-items.ensures.value c.loop-one.invariant (search rules) in
    let b : (get_or c.loop-one.one-items i c.one-item.result).port < 6 = p.1 in
    search (rules, arith)

pub loop-one-preserved : goal.loop-one-preserved
loop-one-preserved g c =
    let items0 = c.deref_mut-one-items.result.now in
    let i = c.loop-one.one-index in
    let out = λ (p : ℕ × ℕ). beat_at c.args.beats.now p.0 p.1 in
    let ps = arrival_ports (map outlet items0) in
    let all = map out ps in
    let one = get_or c.loop-one.one-items i c.one-item.result in
    let x = out (one.router, one.port) in
    let l : i < length c.loop-one.one-items = search rules in
    let l0 : i < length ps = rw (length-map, length-map) (search rules) in
    let n : length all ≡ length ps = length-map ps out in
    let r = within-at outlet (length c.args.beats.now) 6 c.args.ends.now.items items0 c.loop-one.one-items (take i all) i c.one-item.result c.requires c.deref_mut-one-items.ensures.value c.loop-one.invariant l in
    let at : get_or ps i (0, 0) ≡ (one.router, one.port) = place-at outlet items0 c.loop-one.one-items (take i all) i c.one-item.result (0, 0) c.loop-one.invariant l in
    let b : get_or all i idle_beat ≡ x = get_or-map out ps i (0, 0) idle_beat l0 ∙ ap out at in
    one-more outlet items0 c.loop-one.one-items (take i all) i x c.one-item.result c.put.new.self c.loop-one.invariant l (length-take-le i all (omega (arith, n, l0))) (c.if-not-put.ensures.put refl)
    ∙ ap (λ row. ends_after_beats (map outlet items0) row) (ap (λ x. take i all ++ x ∷ []) (sym b) ∙ sym (take_more all i idle_beat (omega (arith, n, l0))))

pub returns-clause-put : goal.returns-clause-put
returns-clause-put g c _ =
    let items0 = c.deref_mut-one-items.result.now in
    let items = c.loop-one.one-items in
    let out = λ (p : ℕ × ℕ). beat_at c.args.beats.now p.0 p.1 in
    let all = map out (arrival_ports (map outlet items0)) in
    let n : length all ≡ length items0 = length-map (arrival_ports (map outlet items0)) out ∙ (length-map (map outlet items0) (λ (w : End). w.at) ∙ length-map items0 outlet) in
    ap (map outlet) (take_at items (drop (length items) c.args.ends.now.items) c.args.ends.now.len (search rules))
    ∙ (c.loop-one.invariant
    ∙ (ap (λ row. ends_after_beats (map outlet items0) row) (take_all c.loop-one.one-index all (search rules))
    ∙ ap (λ v. ends_after_beats (map outlet v) (map out (arrival_ports (map outlet v)))) c.deref_mut-one-items.ensures.value))

pub returns-then-not-put-clause-ends : goal.returns-then-not-put-clause-ends
returns-then-not-put-clause-ends g c =
    let items0 = c.deref_mut-one-items.result.now in
    let items = c.loop-one.one-items in
    let i = c.loop-one.one-index in
    let out = λ (p : ℕ × ℕ). beat_at c.args.beats.now p.0 p.1 in
    let new = c.put.new.self in
    let l : i < length items = search rules in
    let n = length-set items i new in
    ap (λ q. names (map outlet q)) (take_at (set items i new) (drop (length (set items i new)) c.args.ends.now.items) c.args.ends.now.len (n ∙ (search rules)))
    ∙ (names-set outlet items i c.one-item.result new l c.put.ensures.same.0 c.put.ensures.same.1
    ∙ (ap names c.loop-one.invariant ∙ (names-fed (map outlet items0) (take i (map out (arrival_ports (map outlet items0)))) ∙ ap (λ q. names (map outlet q)) c.deref_mut-one-items.ensures.value)))

pub returns-clause-ends : goal.returns-clause-ends
returns-clause-ends g c =
    let items0 = c.deref_mut-one-items.result.now in
    let items = c.loop-one.one-items in
    let out = λ (p : ℕ × ℕ). beat_at c.args.beats.now p.0 p.1 in
    ap (λ q. names (map outlet q)) (take_at items (drop (length items) c.args.ends.now.items) c.args.ends.now.len (search rules))
    ∙ (ap names c.loop-one.invariant ∙ (names-fed (map outlet items0) (take c.loop-one.one-index (map out (arrival_ports (map outlet items0)))) ∙ ap (λ q. names (map outlet q)) c.deref_mut-one-items.ensures.value))
