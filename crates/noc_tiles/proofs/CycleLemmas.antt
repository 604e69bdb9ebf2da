-- One cycle of a tile, from what its phases do.
use Rattle.std.proofs.Common.{◌≡◌, ◌≢◌, inl, inr, ℕ, suc, ◌+◌, ◌-◌, ◌<◌, ◌≤◌, Bool, true, false, List, [], ◌∷◌, map, length, get_or, Option, Some, None, refl, ap, ap₂, sym, ◌∙◌, arith, subst, ⊎_elim}
use Rattle.std.specs.Prelude.{nat_eq, ◌&&◌, if◌then◌else◌}
use Rattle.std.proofs.lemmas.Bool.{cases_lt, false≢true, le-ltb}
use Rattle.std.proofs.lemmas.List.{get_or-map, length-map, length-replicate, same_lists}
use Rattle.noc_topo.specs.Lists.{tabulate, map_indexed}
use Rattle.noc_topo.specs.Shape.{local_port, neighbour, nodes}
use Rattle.noc_topo.proofs.ListLemmas.{length-tabulate, get_or-tabulate, tabulate-from_each, length-map_indexed, get_or-map_indexed}
use Rattle.noc_packet.specs.declared.packet.Beat.{Beat}
use Rattle.noc_route.specs.Routes.{Routes}
use Rattle.noc_view.specs.Finish.{view_after_finish}
use Rattle.noc_view.specs.View.{Site, View, IsRelationOf, view_after_takes, idle_beat, local_step, opening_view}
use Rattle.noc_view.proofs.SiteLemmas.{all_taken-site}
use Rattle.noc_theory.specs.Halves.{HasItsBeats, beat_at, view_after_decide, view_after_puts, incoming}
use Rattle.noc_theory.proofs.runs.RunLemmas.{map_map_indexed}
use Rattle.noc_theory.proofs.runs.StepLemmas.{IsRelationOf-same_site, local_step-view, local_step-beats}
use Rattle.noc_tiles.specs.Phases.{AreInner, CanFinish, to_send, IsCleared}
use Rattle.noc_tiles.specs.TileStep.{Layout, TileState, Beats, with_beat, with_row, is_own, is_from, beat_among, beat_of, beats_arriving, steps, sent_of, out_at, after_steps, put_by}
use Rattle.noc_tiles.specs.Tiles.{PartsFit}
use Rattle.noc_tiles.specs.declared.tile.Inner.{Inner}
use Rattle.noc_tiles.specs.declared.tile.Tile.{Tile}
use Rattle.noc_tiles.proofs.ClearLemmas.{place_at}
use Rattle.noc_tiles.proofs.EdgeLemmas.{cases_bool}
use Rattle.noc_tiles.proofs.FinishLemmas.{finish-site}
use Rattle.noc_tiles.proofs.TileStepLemmas.{Tells}
use Rattle.noc_tiles.proofs.SentLemmas.{past-rows, sent_by}
use Rattle.std.proofs.lemmas.Bool.Decides.{eqb_tells}

-- the first half of a cycle is to take, and then to finish
finish-decide : (relation : Routes) (n : ℕ) (beats : List Beat) (v : View) → view_after_finish relation n (view_after_takes relation beats v) ≡ view_after_decide relation n beats v
unfolding view_after_decide
finish-decide relation n beats v = refl

-- a wire that none of the places is
pub filled-other : (w : Beats) (ps : List (ℕ × ℕ)) (row : List Beat) (r q : ℕ) → ((j : ℕ) → j < length ps → get_or ps j (0, 0) ≢ place_at r q) → with_row w ps row r q ≡ w r q
filled-other w [] row r q none = refl
filled-other w (p ∷ ps) [] r q none = refl
filled-other w (p ∷ ps) (x ∷ row) r q none =
    filled-other (with_beat w p x) ps row r q (λ j l. none (suc j) (omega arith)) ∙ at (eqb_tells r p.0) (eqb_tells q p.1)
  where
    test : Bool → Bool → Beat
    test s t = if s && t then x else w r q

    at : Tells r p.0 → Tells q p.1 → with_beat w p x r q ≡ w r q
    at (inl e) (inl f) = absurd (none 0 (omega arith) (ap₂ place_at (sym e.1) (sym f.1)))
    at (inl e) (inr f) = ap₂ test e.0 f.0
    at (inr e) f = ap (λ s. test s (nat_eq q p.1)) e.0

pub tabulate-same : {X : Type 0} (n : ℕ) (f g : ℕ → X) (d : X) → ((i : ℕ) → i < n → f i ≡ g i) → tabulate n f ≡ tabulate n g
tabulate-same n f g d same = tabulate-from_each n g (tabulate n f) d (length-tabulate n f) (λ i l. get_or-tabulate n i f d l ∙ same i l)

pub not_from : (first count : ℕ) (sent : List (List Beat)) (from : Option (ℕ × ℕ)) → is_from first count from ≡ false → beat_among first count sent from ≡ idle_beat
not_from first count sent None e = refl
not_from first count sent (Some (a, q)) e = ap (λ b. if b then beat_at sent (a - first) q else idle_beat) e

pub no_link : (relation : Routes) (r q : ℕ) → local_port relation.grid ≤ q → neighbour relation.grid r q ≡ None
no_link relation r q l = rw (le-ltb q (local_port relation.grid) l) refl

module _ (relation : Routes) (first : ℕ) (ins outs : List (ℕ × ℕ)) (views : List View) (b0 : List (List Beat)) (set : PartsFit relation first ins outs views b0) (row : List Beat) where
  abbrev pub at_place : Layout
  at_place = record { first = first; ins = ins; outs = outs }

  abbrev pub at_start : TileState
  at_start = record { views = views; wires = beat_at b0 }

  -- what router i has taken
  abbrev pub took_in : ℕ → View → View
  took_in i v = view_after_takes relation (beats_arriving relation at_place at_start row i) v

  -- the wires with the beats of the row
  module _ (b1 : List (List Beat)) (took : (r q : ℕ) → beat_at b1 r q ≡ with_row (beat_at b0) ins row r q) where
    pub linked-taken : (r q : ℕ) → local_port relation.grid ≤ q → beat_at b1 r q ≡ idle_beat
    linked-taken r q l = took r q ∙ filled-other (beat_at b0) ins row r q (λ j h e. let w = (set.within j h).1 in let z = ap (λ (p : ℕ × ℕ). p.1) e in absurd (omega arith)) ∙ set.linked r q l

    pub idle-taken : (r q : ℕ) → is_own first (length views) r ≡ false → beat_at b1 r q ≡ idle_beat
    idle-taken r q l =
        took r q
        ∙ filled-other (beat_at b0) ins row r q (λ j h e. let z : r ≡ (get_or ins j (0, 0)).0 = ap (λ (p : ℕ × ℕ). p.0) (sym e) in absurd (false≢true (sym l ∙ ap (is_own first (length views)) z ∙ set.own j h)))
        ∙ set.idle r q l

    incoming-is : (i : ℕ) → incoming relation.grid (get_or b1 (first + i) []) ≡ beats_arriving relation at_place at_start row i
    unfolding incoming
    incoming-is i = tabulate-same (local_port relation.grid) (λ port. beat_at b1 (first + i) port) (with_row (beat_at b0) ins row (first + i)) idle_beat (λ q l. took (first + i) q)

    pub all-took : map_indexed (λ (i : ℕ) (v : View). view_after_takes relation (incoming relation.grid (get_or b1 (first + i) [])) v) views ≡ map_indexed took_in views
    all-took =
        let took_from : ℕ → View → View = λ i v. view_after_takes relation (incoming relation.grid (get_or b1 (first + i) [])) v in
        same_lists (map_indexed took_from views) (map_indexed took_in views) (length-map_indexed took_from views ∙ sym (length-map_indexed took_in views))
        (λ i d l.
        let few : i < length views = omega (arith, l, length-map_indexed took_from views) in
        get_or-map_indexed took_from views i d d few ∙ ap (λ beats. view_after_takes relation beats (get_or views i d)) (incoming-is i) ∙ sym (get_or-map_indexed took_in views i d d few))

  module _ (n : ℕ) where
    -- what each router makes of the cycle
    abbrev pub made : List (View × List Beat)
    made = steps relation at_place n at_start row

    -- the first half of the cycle of router i
    abbrev pub half : ℕ → View → View
    half i v = view_after_decide relation n (beats_arriving relation at_place at_start row i) v

    abbrev pub halves : List View
    halves = map_indexed half views

    pub made-views : (d : View) → map (λ (s : View × List Beat). s.0) made ≡ map view_after_puts halves
    unfolding steps
    made-views d =
        map_map_indexed (λ (s : View × List Beat). s.0) (λ (i : ℕ) (v : View). local_step relation v (beats_arriving relation at_place at_start row i) n) view_after_puts half views d (d, []) d
        (λ i v l. local_step-view relation v (beats_arriving relation at_place at_start row i) n)

    pub made-sent : (d : View) → sent_of relation at_place made ≡ sent_by halves
    unfolding steps
    made-sent d =
        map_map_indexed (λ (s : View × List Beat). s.1) (λ (i : ℕ) (v : View). local_step relation v (beats_arriving relation at_place at_start row i) n) (λ (v : View). v.to_put) half views d (d, []) d
        (λ i v l. local_step-beats relation v (beats_arriving relation at_place at_start row i) n)

    pub made-count : length made ≡ length views
    unfolding steps
    made-count = length-map_indexed _ views

    module _ (views1 : List View) (taken : views1 ≡ map_indexed took_in views) where
      pub count1 : length views1 ≡ length views
      count1 = ap length taken ∙ length-map_indexed took_in views

      at1 : (i : ℕ) (d : View) → i < length views → get_or views1 i d ≡ took_in i (get_or views i d)
      at1 i d l = ap (λ vs. get_or vs i d) taken ∙ get_or-map_indexed took_in views i d d l

      site1 : (i : ℕ) (d : View) → i < length views → (get_or views1 i d).site ≡ (get_or views i d).site
      site1 i d l = ap (λ (v : View). v.site) (at1 i d l) ∙ all_taken-site relation (beats_arriving relation at_place at_start row i) (get_or views i d)

      half1 : (i : ℕ) (d : View) → i < length views → view_after_finish relation n (get_or views1 i d) ≡ half i (get_or views i d)
      half1 i d l = ap (view_after_finish relation n) (at1 i d l) ∙ finish-decide relation n (beats_arriving relation at_place at_start row i) (get_or views i d)

      sent1 : (d : View) → to_send relation n views1 ≡ sent_of relation at_place made
      sent1 d =
          ap (map (λ (v : View). (view_after_finish relation n v).to_put)) taken
          ∙ map_map_indexed (λ (v : View). (view_after_finish relation n v).to_put) took_in (λ (v : View). v.to_put) half views d d d
          (λ i v l. ap (λ (w : View). w.to_put) (finish-decide relation n (beats_arriving relation at_place at_start row i) v))
          ∙ sym (made-sent d)

      -- all routers of the tile can finish
      pub can1 : (t : Tile) → t.first ≡ first → t.routers.items ≡ views1 → length t.beats.items ≡ nodes relation.grid
          → ((r q : ℕ) → beat_at t.beats.items r q ≡ idle_beat) → CanFinish relation 0 (length views) t
      can1 t same routers count silent = record {
        order = omega arith;
        within = omega (arith, ap length routers, count1);
        wide = omega (arith, ap length routers, count1, same, set.wide);
        count = count;
        built = λ k d u v. subst (λ vs. IsRelationOf relation (get_or vs k d)) (sym routers) (IsRelationOf-same_site relation (get_or views k d) (get_or views1 k d) (site1 k d v) (set.placed k d v).built_for);
        site = λ k d u v. ap (λ vs. (get_or vs k d).site.node) routers ∙ ap (λ (s : Site). s.node) (site1 k d v) ∙ (set.placed k d v).site ∙ ap (λ m. m + k) (sym same);
        idle = λ r q u f. silent r q;
      }

      -- they have finished
      module _ (d : View) (views5 : List View) (count5 : length views5 ≡ length views) where
        pub all-views : ((k : ℕ) (e : View) → k < length views → get_or views5 k e ≡ view_after_puts (view_after_finish relation n (get_or views1 k e))) → views5 ≡ (after_steps relation at_place made).views
        unfolding after_steps
        all-views each =
            same_lists views5 (map view_after_puts halves) (count5 ∙ sym (length-map halves view_after_puts ∙ length-map_indexed half views))
            (λ k e l.
            let few : k < length views = omega (arith, count5, l) in
            each k e few
            ∙ ap view_after_puts (half1 k e few ∙ sym (get_or-map_indexed half views k e e few))
            ∙ sym (get_or-map view_after_puts halves k e e (omega (arith, length-map_indexed half views, few))))
            ∙ sym (made-views d)

        module _ (did : (k : ℕ) (e : View) → k < length views → get_or views5 k e ≡ view_after_puts (view_after_finish relation n (get_or views1 k e))) where
          placed5 : (k : ℕ) (e : View) → k < length views5 → HasItsBeats relation (first + k) (get_or views5 k e)
          placed5 k e l =
              let l' : k < length views = omega (arith, count5, l) in
              let was = set.placed k e l' in
              let same = did k e l' in
              let site : (get_or views5 k e).site ≡ (get_or views k e).site =
              ap (λ (v : View). v.site) same ∙ finish-site relation n (get_or views1 k e) ∙ site1 k e l' in
              record {
                built_for = IsRelationOf-same_site relation (get_or views k e) (get_or views5 k e) site was.built_for;
                site = ap (λ (s : Site). s.node) site ∙ was.site;
                beats = ap (λ (v : View). length v.to_put) same
                    ∙ length-replicate (local_port (view_after_finish relation n (get_or views1 k e)).site.grid) idle_beat
                    ∙ ap (λ (s : Site). local_port s.grid) (finish-site relation n (get_or views1 k e) ∙ site1 k e l')
                    ∙ ap local_port (sym was.built_for.grid);
              }

          -- the wires when those at the edge have put their beats, then with those idle
          -- that went, and in the end
          module _ (b3 b4 b5 : List (List Beat)) (inner : Inner) (fits : AreInner relation.grid first (length views) outs inner) (cleared : (r q : ℕ) → IsCleared outs b3 b4 (length outs) r q)
              (edge : (r q : ℕ) → r < nodes relation.grid → is_from (first + inner.from) (inner.to - inner.from) (neighbour relation.grid r q) ≡ false
              → beat_at b3 r q ≡ beat_among first (length views1) (to_send relation n views1) (neighbour relation.grid r q))
              (whole : (r q : ℕ) → r < nodes relation.grid → beat_at b4 r q ≡ beat_at b3 r q → beat_at b5 r q ≡ beat_among first (length views1) (to_send relation n views1) (neighbour relation.grid r q))
              (kept : (r q : ℕ) → r < nodes relation.grid → is_from (first + inner.from) (inner.to - inner.from) (neighbour relation.grid r q) ≡ false → beat_at b5 r q ≡ beat_at b4 r q) where
            sent-count : length (sent_of relation at_place made) ≡ length views
            sent-count = length-map made (λ (s : View × List Beat). s.1) ∙ made-count

            out-is : (r q : ℕ) → beat_among first (length views1) (to_send relation n views1) (neighbour relation.grid r q) ≡ out_at relation at_place made r q
            out-is r q = ap₂ (λ k sent. beat_among first k sent (neighbour relation.grid r q)) (count1 ∙ sym sent-count) (sent1 d)

            own-wires : (r q : ℕ) → r < nodes relation.grid → is_own first (length views) r ≡ true → IsCleared outs b3 b4 (length outs) r q → beat_at b5 r q ≡ out_at relation at_place made r q
            own-wires r q l own (inl h) =
                absurd (false≢true (sym (set.others h.0 h.1) ∙ ap (λ (p : ℕ × ℕ). is_own first (length views) p.0) h.2 ∙ own))
            own-wires r q l own (inr h) = whole r q l h.1 ∙ out-is r q

            other-wires : (r q : ℕ) → r < nodes relation.grid → is_own first (length views) r ≡ false → IsCleared outs b3 b4 (length outs) r q → beat_at b5 r q ≡ idle_beat
            other-wires r q l other (inl h) =
                kept r q l (ap (λ (p : ℕ × ℕ). is_from (first + inner.from) (inner.to - inner.from) (neighbour relation.grid p.0 p.1)) (sym h.2) ∙ fits.none h.0 h.1) ∙ h.3
            other-wires r q l other (inr h) =
                whole r q l h.1 ∙ out-is r q
                ∙ ⊎_elim (λ (from : is_from first (length views) (neighbour relation.grid r q) ≡ true). let o = set.leaves r q l other from in absurd (h.0 o.0 o.1 o.2))
                (λ (none : is_from first (length views) (neighbour relation.grid r q) ≡ false).
                not_from first (length (sent_of relation at_place made)) (sent_of relation at_place made) (neighbour relation.grid r q) (ap (λ k. is_from first k (neighbour relation.grid r q)) sent-count ∙ none))
                (cases_bool (is_from first (length views) (neighbour relation.grid r q)))

            own-made : (r : ℕ) → is_own first (length made) r ≡ is_own first (length views) r
            own-made r = ap (λ k. is_own first k r) made-count

            pub wires5 : (r q : ℕ) → r < nodes relation.grid → beat_at b5 r q ≡ (after_steps relation at_place made).wires r q
            unfolding after_steps
            wires5 r q l =
                ⊎_elim (λ (own : is_own first (length views) r ≡ true).
                own-wires r q l own (cleared r q) ∙ ap (λ b. if b then out_at relation at_place made r q else idle_beat) (sym (own-made r ∙ own)))
                (λ (other : is_own first (length views) r ≡ false).
                other-wires r q l other (cleared r q) ∙ ap (λ b. if b then out_at relation at_place made r q else idle_beat) (sym (own-made r ∙ other)))
                (cases_bool (is_own first (length views) r))

            pub put5 : map (λ (p : ℕ × ℕ). beat_at b3 p.0 p.1) outs ≡ put_by relation at_place made
            unfolding put_by
            put5 =
                let out = λ (p : ℕ × ℕ). beat_at b3 p.0 p.1 in
                let out' = λ (p : ℕ × ℕ). out_at relation at_place made p.0 p.1 in
                same_lists (map out outs) (map out' outs) (length-map outs out ∙ sym (length-map outs out'))
                (λ k e l.
                let k_in : k < length outs = omega (arith, length-map outs out, l) in
                let p = get_or outs k (0, 0) in
                get_or-map out outs k (0, 0) e k_in ∙ edge p.0 p.1 (set.outs_within k k_in).0 (fits.none k k_in) ∙ out-is p.0 p.1 ∙ sym (get_or-map out' outs k (0, 0) e k_in))

            module _ (rows : length b5 ≡ nodes relation.grid) where
              linked5 : (r q : ℕ) → local_port relation.grid ≤ q → beat_at b5 r q ≡ idle_beat
              linked5 r q past =
                  ⊎_elim (λ (l : r < nodes relation.grid).
                  ⊎_elim (λ (own : is_own first (length views) r ≡ true). own-wires r q l own (cleared r q) ∙ ap (beat_of first (sent_of relation at_place made)) (no_link relation r q past))
                  (λ (other : is_own first (length views) r ≡ false). other-wires r q l other (cleared r q))
                  (cases_bool (is_own first (length views) r)))
                  (λ (h : nodes relation.grid ≤ r). past-rows b5 r q (omega (arith, rows, h)))
                  (cases_lt r (nodes relation.grid))

              idle5 : (r q : ℕ) → is_own first (length views) r ≡ false → beat_at b5 r q ≡ idle_beat
              idle5 r q other =
                  ⊎_elim (λ (l : r < nodes relation.grid). other-wires r q l other (cleared r q))
                  (λ (h : nodes relation.grid ≤ r). past-rows b5 r q (omega (arith, rows, h)))
                  (cases_lt r (nodes relation.grid))

              -- the tile is ready for the next cycle
              pub set5 : PartsFit relation first ins outs views5 b5
              set5 =
                  let one : (r : ℕ) → is_own first (length views5) r ≡ is_own first (length views) r = λ r. ap (λ k. is_own first k r) count5 in
                  record {
                    wide = omega (arith, count5, set.wide);
                    count = rows;
                    placed = placed5;
                    linked = linked5;
                    idle = λ r q h. idle5 r q (sym (one r) ∙ h);
                    within = set.within;
                    own = λ j l. one (get_or ins j (0, 0)).0 ∙ set.own j l;
                    outs_within = set.outs_within;
                    others = λ o l. one (get_or outs o (0, 0)).0 ∙ set.others o l;
                    leaves = λ r q l h f. set.leaves r q l (sym (one r) ∙ h) (ap (λ k. is_from first k (neighbour relation.grid r q)) (sym count5) ∙ f);
                  }

-- some view
abbrev pub some_view : Routes → View
some_view relation = opening_view (record { grid = relation.grid; node = 0; vcs = relation.vcs; depth = 0 }) [] []

pub set-as : (relation : Routes) (first first' : ℕ) (ins ins' outs outs' : List (ℕ × ℕ)) (views views' : List View) (b b' : List (List Beat)) → first ≡ first' → ins ≡ ins' → outs ≡ outs' → views ≡ views' → b ≡ b'
    → PartsFit relation first ins outs views b → PartsFit relation first' ins' outs' views' b'
set-as relation first first' ins ins' outs outs' views views' b b' o p q v w h =
    let O : ℕ → Type 0 = λ z. PartsFit relation z ins outs views b in
    let A : List (ℕ × ℕ) → Type 0 = λ z. PartsFit relation first' z outs views b in
    let B : List (ℕ × ℕ) → Type 0 = λ z. PartsFit relation first' ins' z views b in
    let C : List View → Type 0 = λ z. PartsFit relation first' ins' outs' z b in
    let D : List (List Beat) → Type 0 = λ z. PartsFit relation first' ins' outs' views' z in
    subst D w (subst C v (subst B q (subst A p (subst O o h))))
