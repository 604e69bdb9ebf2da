-- Tile after tile is cut from a network.
use Rattle.std.proofs.Common.{◌≡◌, ℕ, suc, ◌+◌, ◌-◌, ◌*◌, ◌/◌, ◌%◌, ◌^◌, ◌<◌, ◌≤◌, true, false, List, [], ◌∷◌, ◌++◌, length, get_or, take, drop, vec_len, Option, None, refl, ap, ap₂, sym, ◌∙◌, append_assoc, arith, subst, ⊎_elim}
use Rattle.std.specs.Prelude.{is_some, if◌then◌else◌}
use Rattle.std.specs.List.{flat_map}
use Rattle.std.proofs.lemmas.Bool.{cases_lt}
use Rattle.std.proofs.lemmas.List.{append-nil, drop-drop, get_or_append_left, get_or_push, get_or-take, length-drop, length_push, length-take-le, take_all}
use Rattle.std.proofs.Math.Seq.{take-add}
use Rattle.noc_topo.specs.Shape.{Grid, neighbour, nodes}
use Rattle.noc_packet.specs.declared.packet.Beat.{Beat}
use Rattle.noc_theory.proofs.runs.RunLemmas.{count_views}
use Rattle.noc_view.specs.View.{idle_beat}
use Rattle.noc_theory.specs.Halves.{beat_at}
use Rattle.noc_net.specs.Parts.{setup_in}
use Rattle.noc_tiles.specs.Ends.{End}
use Rattle.noc_tiles.specs.TileStep.{is_inside, is_own}
use Rattle.noc_tiles.specs.Tiles.{inlets, outlets}
use Rattle.noc_tiles.specs.Rings.{AreLeftOut, AreSlots, AreTakenIn, AreTakenOut, GoesOutTo, in_slots, out_slots}
use Rattle.noc_tiles.specs.Partition.{IsKept, IsPartition, IsTileOf, IsUncut, first_of, own_beat, routers_of, views_of}
use Rattle.noc_tiles.specs.declared.partition.Kept.{Kept}
use Rattle.noc_tiles.specs.declared.partition.Uncut.{Uncut}
use Rattle.noc_tiles.specs.declared.tile.Tile.{Tile}
use Rattle.noc_tiles.proofs.BoundaryLemmas.{vec-length}
use Rattle.noc_tiles.proofs.StartsLemmas.{start-none, start-step, start-within, start-end}
use Rattle.noc_tiles.proofs.UnassignedLemmas.{all-in, all-out, new-tile, slots-wires, unassigned-more}

-- no count of the run is too large for a word
counted : {f : Kept} → IsKept f → f.parts.count + f.cycles < 2 ^ 64
counted can = let end = can.end in omega arith

-- a tile is to be cut from what is left, up to the router `end`
pub record IsCutAt (f : Kept) (I0 O0 : List (Option End)) (w : ℕ) (rest : Uncut) (grid : Grid) (end : ℕ) : Type 0 where
  pub can : IsKept f
  pub worker : w < f.workers
  pub uncut : IsUncut f I0 O0 w rest
  pub same : grid ≡ f.parts.relation.grid
  pub end_is : end ≡ first_of f (w + 1)

module _ {f : Kept} {I0 O0 : List (Option End)} {w : ℕ} {rest : Uncut} {grid : Grid} {end : ℕ} (A : IsCutAt f I0 O0 w rest grid end) where
  abbrev B : List (List Beat)
  B = f.parts.beats.items

  abbrev count : ℕ
  count = end - rest.first

  abbrev I : List (Option End)
  I = in_slots rest.ins.items

  abbrev O : List (Option End)
  O = out_slots rest.outs.items

  pub forward : rest.first ≤ end
  forward = let e = A.end_is in let b = A.uncut.first in let l = start-step (nodes f.parts.relation.grid) f.workers A.can.some w in omega arith

  sum : rest.first + count ≡ end
  sum = let l = forward in omega arith

  end-is : rest.first + count ≡ first_of f (w + 1)
  end-is = sum ∙ A.end_is

  pub wide : rest.first + count ≤ nodes f.parts.relation.grid
  wide = subst (λ z. z ≤ nodes f.parts.relation.grid) (sym end-is) (start-within (nodes f.parts.relation.grid) f.workers A.can.some (w + 1) (let l = A.worker in omega arith))

  pub wide-here : rest.first + count ≤ nodes grid
  wide-here = subst (λ (g : Grid). rest.first + count ≤ nodes g) (sym A.same) wide

  pub enough : count ≤ length rest.routers.items
  enough =
      let r : length rest.routers.items ≡ length (views_of f) - rest.first = ap length A.uncut.routers ∙ length-drop rest.first (views_of f) in
      let n = count_views (setup_in f.parts) f.parts.count in
      omega (arith, r, n, wide)

  pub next-in : (m : ℕ) → rest.first * 6 ≤ m → m < (rest.first + count) * 6 → is_inside rest.first count (neighbour grid (m / 6) (m % 6)) ≡ false → is_some (get_or I m None) ≡ true
  next-in m l h out =
      all-in (setup_in f.parts) A.can.good.relation.table.grid f.workers rest.first count wide B I0 O0 I O A.uncut.unassigned w A.worker A.uncut.first end-is m l h
      (ap (λ (g : Grid). is_inside rest.first count (neighbour g (m / 6) (m % 6))) (sym A.same) ∙ out)

  pub next-out : (k at : ℕ) → rest.first * 6 ≤ k → k < (rest.first + count) * 6 → GoesOutTo grid rest.first count k at → is_some (get_or O at None) ≡ true
  next-out k at l h goes =
      all-out (setup_in f.parts) A.can.good.relation.table.grid f.workers rest.first count wide B I0 O0 I O A.uncut.unassigned w A.worker A.uncut.first end-is k at l h
      (subst (λ (g : Grid). GoesOutTo g rest.first count k at) A.same goes)

  pub tile-of : (t : Tile) → t.worker ≡ w → t.first ≡ rest.first → t.start ≡ f.parts.count → t.cycles ≡ f.cycles → t.done ≡ 0
      → t.routers.items ≡ take count rest.routers.items → vec_len t.beats ≡ length B
      → ((r q : ℕ) → beat_at t.beats.items r q ≡ own_beat rest.first count B r q)
      → AreTakenIn grid rest.first count ((rest.first + count) * 6) I (inlets t) → AreTakenOut grid rest.first count ((rest.first + count) * 6) O (outlets t) → IsTileOf f I0 O0 w t
  tile-of t worker first start cycles done routers size beats ins outs =
      let own : (r q : ℕ) → is_own rest.first count r ≡ true → beat_at t.beats.items r q ≡ beat_at B r q = λ r q h. beats r q ∙ ap (λ b. if b then beat_at B r q else idle_beat) h in
      let idle : (r q : ℕ) → is_own rest.first count r ≡ false → beat_at t.beats.items r q ≡ idle_beat = λ r q h. beats r q ∙ ap (λ b. if b then beat_at B r q else idle_beat) h in
      let views : t.routers.items ≡ take count (drop rest.first (views_of f)) = routers ∙ ap (take count) A.uncut.routers in
      record {
        tile = new-tile (setup_in f.parts) A.can.good.relation.table.grid f.workers rest.first count wide B I0 O0 I O A.uncut.unassigned w A.worker A.uncut.first end-is f.parts.count f.cycles A.can.flight t first start cycles done (counted A.can) views
            (sym (vec-length t.beats) ∙ (size ∙ A.can.size)) own idle
            (subst (λ (g : Grid). AreTakenIn g rest.first count ((rest.first + count) * 6) I (inlets t)) A.same ins)
            (subst (λ (g : Grid). AreTakenOut g rest.first count ((rest.first + count) * 6) O (outlets t)) A.same outs);
        worker = worker;
        first = first ∙ A.uncut.first;
        routers = views ∙ ap₂ (λ a b. take (b - a) (drop a (views_of f))) A.uncut.first A.end_is;
      }

  pub uncut-more : (left : Uncut) → left.first ≡ end → left.routers.items ≡ drop count rest.routers.items
      → ((m : ℕ) → (rest.first + count) * 6 ≤ m → get_or (in_slots left.ins.items) m None ≡ get_or I m None) → AreLeftOut grid ((rest.first + count) * 6) O (out_slots left.outs.items) → IsUncut f I0 O0 (w + 1) left
  uncut-more left first routers ins outs = record {
    first = first ∙ A.end_is;
    routers = routers ∙ (ap (drop count) A.uncut.routers ∙ (drop-drop count rest.first (views_of f) ∙ ap (λ z. drop z (views_of f)) (sum ∙ sym first)));
    unassigned = subst (λ z. Rattle.noc_tiles.specs.Partition.AreUnassigned (setup_in f.parts) f.workers z B I0 O0 (in_slots left.ins.items) (out_slots left.outs.items)) (sum ∙ sym first)
        (unassigned-more (setup_in f.parts) A.can.good.relation.table.grid f.workers rest.first count wide B I0 O0 I O A.uncut.unassigned w A.worker A.uncut.first end-is (in_slots left.ins.items) (out_slots left.outs.items) ins
        (subst (λ (g : Grid). AreLeftOut g ((rest.first + count) * 6) O (out_slots left.outs.items)) A.same outs));
  }

-- nothing is cut yet
pub uncut-all : (f : Kept) (rest : Uncut) → IsKept f → rest.first ≡ 0 → rest.routers.items ≡ views_of f
    → AreSlots f.parts.relation.grid f.workers f.parts.beats.items (nodes f.parts.relation.grid * 6) (in_slots rest.ins.items) (out_slots rest.outs.items)
    → IsUncut f (in_slots rest.ins.items) (out_slots rest.outs.items) 0 rest
uncut-all f rest can first routers slots = record {
  first = first ∙ sym (start-none (nodes f.parts.relation.grid) f.workers can.some);
  routers = routers ∙ ap (λ z. drop z (views_of f)) (sym first);
  unassigned = record { slots = slots; left_in = λ m l. refl; left_out = λ s p r q sl pl to l. refl };
}

module _ (f : Kept) (I0 O0 : List (Option End)) where
  -- the tiles of the first workers
  abbrev pub AreTilesOf : List Tile → Type 0
  AreTilesOf ts = (t : ℕ) (d : Tile) → t < length ts → IsTileOf f I0 O0 t (get_or ts t d)

  pub tiles-more : (ts : List Tile) (T : Tile) → AreTilesOf ts → IsTileOf f I0 O0 (length ts) T → AreTilesOf (ts ++ T ∷ [])
  tiles-more ts T old new t d l =
      ⊎_elim (λ (less : t < length ts). subst (IsTileOf f I0 O0 t) (sym (get_or_append_left ts (T ∷ []) d t less)) (old t d less))
      (λ (past : length ts ≤ t).
      let e : length ts ≡ t = omega (arith, length_push ts T) in
      subst (λ k. IsTileOf f I0 O0 k (get_or (ts ++ T ∷ []) t d)) e (subst (IsTileOf f I0 O0 (length ts)) (sym (get_or_push ts T d t e)) new)) (cases_lt t (length ts))

  module _ (some : 0 < f.workers) where
    -- the routers of these tiles, behind those of the tiles before them
    views-from : (w : ℕ) (ts : List Tile) → ((t k : ℕ) (d : Tile) → t < length ts → k ≡ w + t → IsTileOf f I0 O0 k (get_or ts t d))
        → take (first_of f w) (views_of f) ++ flat_map routers_of ts ≡ take (first_of f (w + length ts)) (views_of f)
    views-from w [] all = append-nil (take (first_of f w) (views_of f)) ∙ ap (λ z. take (first_of f z) (views_of f)) (omega arith)
    views-from w (T ∷ ts) all =
        let V = views_of f in
        let one : IsTileOf f I0 O0 w T = all 0 w T (omega arith) (omega arith) in
        let step : first_of f w ≤ first_of f (w + 1) = start-step (nodes f.parts.relation.grid) f.workers some w in
        let sum : first_of f w + (first_of f (w + 1) - first_of f w) ≡ first_of f (w + 1) = omega arith in
        let here : take (first_of f w) V ++ T.routers.items ≡ take (first_of f (w + 1)) V =
        ap (λ xs. take (first_of f w) V ++ xs) one.routers ∙ (sym (take-add (first_of f w) (first_of f (w + 1) - first_of f w) V) ∙ ap (λ z. take z V) sum) in
        sym (append_assoc (take (first_of f w) V) T.routers.items (flat_map routers_of ts))
        ∙ (ap (λ xs. xs ++ flat_map routers_of ts) here
        ∙ (views-from (w + 1) ts (λ t k d l e. all (suc t) k d (omega arith) (omega arith)) ∙ ap (λ z. take (first_of f z) V) (omega arith)))

    tiles-views : (ts : List Tile) → AreTilesOf ts → flat_map routers_of ts ≡ take (first_of f (length ts)) (views_of f)
    tiles-views ts all =
        ap (λ z. take z (views_of f) ++ flat_map routers_of ts) (sym (start-none (nodes f.parts.relation.grid) f.workers some))
        ∙ (views-from 0 ts (λ t k d l e. subst (λ z. IsTileOf f I0 O0 z (get_or ts t d)) (omega arith) (all t d l)) ∙ ap (λ z. take (first_of f z) (views_of f)) (omega arith))

    firsts-at : (ts : List Tile) → AreTilesOf ts → length ts ≤ f.workers → (t : ℕ) (d : Tile) → t < length ts → (get_or ts t d).first ≡ length (flat_map routers_of (take t ts))
    firsts-at ts all few t d l =
        let n : length (take t ts) ≡ t = length-take-le t ts (omega arith) in
        let before : AreTilesOf (take t ts) = λ k e h. subst (IsTileOf f I0 O0 k) (sym (get_or-take t ts k e (omega arith))) (all k e (omega arith)) in
        let low : first_of f t ≤ nodes f.parts.relation.grid = start-within (nodes f.parts.relation.grid) f.workers some t (omega arith) in
        let long : first_of f t ≤ length (views_of f) = subst (λ z. first_of f t ≤ z) (sym (count_views (setup_in f.parts) f.parts.count)) low in
        (all t d l).first ∙ sym (ap length (tiles-views (take t ts) before) ∙ (ap (λ z. length (take (first_of f z) (views_of f))) n ∙ length-take-le (first_of f t) (views_of f) long))

  -- all workers have their tiles
  pub tiles-all : (ts : List Tile) → IsKept f → AreTilesOf ts → length ts ≡ f.workers → AreSlots f.parts.relation.grid f.workers f.parts.beats.items (nodes f.parts.relation.grid * 6) I0 O0 → IsPartition (setup_in f.parts) f.parts.count f.cycles I0 O0 ts
  tiles-all ts can all count slots =
      let end : first_of f (length ts) ≡ length (views_of f) =
      ap (first_of f) count ∙ (start-end (nodes f.parts.relation.grid) f.workers can.some ∙ sym (count_views (setup_in f.parts) f.parts.count)) in
      record {
        grid = can.good.relation.table.grid;
        tiles = λ t d l. (all t d l).tile;
        firsts = firsts-at can.some ts all (omega arith);
        views = tiles-views can.some ts all ∙ take_all (first_of f (length ts)) (views_of f) (omega arith);
        rings = slots-wires (setup_in f.parts) f.parts.count f.workers f.parts.beats.items I0 O0 can.flight slots;
      }
