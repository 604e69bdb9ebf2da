-- One more cycle of a tile's run.
use Rattle.std.proofs.Common.{◌≡◌, ℕ, suc, ◌+◌, ◌<◌, ◌≤◌, List, [], ◌∷◌, ◌++◌, length, get_or, refl, ap, ap₂, sym, ◌∙◌, arith, below_more}
use Rattle.std.proofs.lemmas.List.{length_push, get_or_append_left, get_or_push, same_lists}
use Rattle.noc_topo.specs.Lists.{map_indexed}
use Rattle.noc_topo.specs.Shape.{local_port, nodes}
use Rattle.noc_topo.proofs.ListLemmas.{length-map_indexed, get_or-map_indexed}
use Rattle.noc_packet.specs.declared.packet.Beat.{Beat}
use Rattle.noc_route.specs.Routes.{Routes}
use Rattle.noc_view.specs.View.{View, local_step, idle_beat}
use Rattle.noc_tiles.specs.Ends.{WireEnd}
use Rattle.noc_tiles.specs.TileStep.{Layout, TileState, ends_after_beats, ends_after_rows, arrival_ports, with_row, beats_arriving, steps, after_steps, put_by, tile_after_cycle, put_in, after, beats_put}
use Rattle.noc_tiles.specs.Tiles.{IsReady, IsSameTile, Cycles, Runs, inlets, outlets, layout_of, state_of}
use Rattle.noc_tiles.specs.declared.tile.Tile.{Tile}
use Rattle.noc_tiles.proofs.TileStepLemmas.{length-fed, ports-names, filled-same}
use Rattle.noc_tiles.proofs.CycleLemmas.{tabulate-same, some_view}

module _ {A : Type 0} where
  pub fed_all-more : (ws : List (WireEnd A)) (rows : List (List Beat)) (row : List Beat) → ends_after_rows ws (rows ++ row ∷ []) ≡ ends_after_beats (ends_after_rows ws rows) row
  fed_all-more ws [] row = refl
  fed_all-more ws (r ∷ rows) row = fed_all-more (ends_after_beats ws r) rows row

  pub length-fed_all : (ws : List (WireEnd A)) (rows : List (List Beat)) → length (ends_after_rows ws rows) ≡ length ws
  length-fed_all ws [] = refl
  length-fed_all ws (r ∷ rows) = length-fed_all (ends_after_beats ws r) rows ∙ length-fed ws r

module _ (relation : Routes) (P : Layout) where
  pub after-more : (n : ℕ) (T : TileState) (rows : List (List Beat)) (row : List Beat) → after relation P n T (rows ++ row ∷ []) ≡ tile_after_cycle relation P (n + length rows) (after relation P n T rows) row
  after-more n T [] row = ap (λ k. tile_after_cycle relation P k T row) (omega arith)
  after-more n T (r ∷ rows) row = after-more (suc n) (tile_after_cycle relation P n T r) rows row ∙ ap (λ k. tile_after_cycle relation P k (after relation P (suc n) (tile_after_cycle relation P n T r) rows) row) (omega arith)

  pub puts-more : (n : ℕ) (T : TileState) (rows : List (List Beat)) (row : List Beat)
      → beats_put relation P n T (rows ++ row ∷ []) ≡ beats_put relation P n T rows ++ put_in relation P (n + length rows) (after relation P n T rows) row ∷ []
  puts-more n T [] row = ap (λ k. put_in relation P k T row ∷ []) (omega arith)
  puts-more n T (r ∷ rows) row =
      ap (λ ps. put_in relation P n T r ∷ ps)
      (puts-more (suc n) (tile_after_cycle relation P n T r) rows row ∙ ap (λ k. beats_put relation P (suc n) (tile_after_cycle relation P n T r) rows ++ put_in relation P k (after relation P (suc n) (tile_after_cycle relation P n T r) rows) row ∷ []) (omega arith))

  -- equal views and wires make the same steps
  pub steps-same : (n : ℕ) (T U : TileState) (row : List Beat) → T.views ≡ U.views → ((r q : ℕ) → r < nodes relation.grid → T.wires r q ≡ U.wires r q) → P.first + length T.views ≤ nodes relation.grid
      → steps relation P n T row ≡ steps relation P n U row
  unfolding steps
  steps-same n T U row same wires wide =
      let f = λ (i : ℕ) (v : View). local_step relation v (beats_arriving relation P T row i) n in
      let g = λ (i : ℕ) (v : View). local_step relation v (beats_arriving relation P U row i) n in
      let d = some_view relation in
      let count : length T.views ≡ length U.views = ap length same in
      same_lists (map_indexed f T.views) (map_indexed g U.views) (length-map_indexed f T.views ∙ count ∙ sym (length-map_indexed g U.views))
      (λ i e l.
      let l' : i < length T.views = omega (arith, length-map_indexed f T.views, l) in
      let beats : beats_arriving relation P T row i ≡ beats_arriving relation P U row i =
      tabulate-same (local_port relation.grid) (with_row T.wires P.ins row (P.first + i)) (with_row U.wires P.ins row (P.first + i)) idle_beat
      (λ q h. filled-same T.wires U.wires P.ins row (P.first + i) q (wires (P.first + i) q (omega arith))) in
      get_or-map_indexed f T.views i d e l'
      ∙ ap₂ (λ u b. local_step relation u b n) (ap (λ vs. get_or vs i d) same) beats
      ∙ sym (get_or-map_indexed g U.views i d e (omega (arith, count, l'))))

pub runs-none : (relation : Routes) (a : Tile) → Runs relation 0 a a
runs-none relation a = record { rows = []; count = refl; width = λ i l. absurd (omega arith); views = refl; wires = λ r q l. refl; ins = refl; outs = refl }

pub place-same : (a b : Tile) → IsSameTile a b → layout_of b ≡ layout_of a
place-same a b s =
    let mk : ℕ → List (ℕ × ℕ) → List (ℕ × ℕ) → Layout = λ v p q. record { first = v; ins = p; outs = q } in
    ap₂ (λ v p. mk v p (arrival_ports (outlets b))) s.first (ports-names (inlets b) (inlets a) s.ins) ∙ ap (mk a.first (arrival_ports (inlets a))) (ports-names (outlets b) (outlets a) s.outs)

pub runs-more : (relation : Routes) (k : ℕ) (a b b' : Tile) (row : List Beat) → IsSameTile a b → IsReady relation b → Runs relation k a b → Cycles relation (a.start + k) b b' row → Runs relation (k + 1) a b'
runs-more relation k a b b' row s ready r c =
    let P = layout_of a in
    let T = state_of a in
    let U = after relation P a.start T r.rows in
    let p : layout_of b ≡ P = place-same a b s in
    let e : a.start + k ≡ a.start + length r.rows = ap (λ m. a.start + m) (sym r.count) in
    let w : length row ≡ length (inlets a) = c.width ∙ (ap length r.ins ∙ length-fed_all (inlets a) r.rows) in
    let S : steps relation (layout_of b) (a.start + k) (state_of b) row ≡ steps relation P (a.start + length r.rows) U row =
    ap₂ (λ z m. steps relation z m (state_of b) row) p e
    ∙ steps-same relation P (a.start + length r.rows) (state_of b) U row r.views r.wires (let z = ready.parts.wide in let f = s.first in omega arith) in
    let next : after_steps relation (layout_of b) (steps relation (layout_of b) (a.start + k) (state_of b) row) ≡ after relation P a.start T (r.rows ++ row ∷ []) =
    ap₂ (after_steps relation) p S ∙ sym (after-more relation P a.start T r.rows row) in
    let put : put_by relation (layout_of b) (steps relation (layout_of b) (a.start + k) (state_of b) row) ≡ put_in relation P (a.start + length r.rows) U row = ap₂ (put_by relation) p S in
    record {
      rows = r.rows ++ row ∷ [];
      count = length_push r.rows row ∙ ap (λ m. m + 1) r.count;
      width = below_more (λ i. length (get_or (r.rows ++ row ∷ []) i []) ≡ length (inlets a)) k
          (λ i l. let l' : i < length r.rows = let q = r.count in omega arith in ap length (get_or_append_left r.rows (row ∷ []) [] i l') ∙ r.width i l)
          (ap length (get_or_push r.rows row [] k r.count) ∙ w);
      views = c.views ∙ ap (λ (z : TileState). z.views) next;
      wires = λ i q l. c.wires i q l ∙ ap (λ (z : TileState). z.wires i q) next;
      ins = c.ins ∙ (ap (λ ws. ends_after_beats ws row) r.ins ∙ sym (fed_all-more (inlets a) r.rows row));
      outs =
          c.outs
          ∙ (ap₂ (λ ws ps. ends_after_beats ws ps) r.outs put
          ∙ (sym (fed_all-more (outlets a) (beats_put relation P a.start T r.rows) (put_in relation P (a.start + length r.rows) U row))
          ∙ ap (λ ps. ends_after_rows (outlets a) ps) (sym (puts-more relation P a.start T r.rows row))));
    }
