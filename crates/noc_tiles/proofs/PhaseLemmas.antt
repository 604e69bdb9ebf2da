-- A cycle of a tile, phase by phase: what was taken, the routers at the edge that finish, what was
-- sent, the inner routers that finish.
use Rattle.std.proofs.Common.{◌≡◌, ℕ, ◌+◌, ◌-◌, ◌<◌, ◌≤◌, false, List, [], length, get_or, map, vec_len, inl, inr, refl, ap, sym, ◌∙◌, subst, arith, rules}
use Rattle.std.specs.List.{All}
use Rattle.std.proofs.lemmas.List.{get_or_default}
use Rattle.noc_topo.specs.Shape.{neighbour, nodes}
use Rattle.noc_topo.proofs.ListLemmas.{length-map_indexed}
use Rattle.noc_packet.specs.declared.packet.Beat.{Beat}
use Rattle.noc_route.specs.Routes.{Routes}
use Rattle.noc_view.specs.Finish.{view_after_finish}
use Rattle.noc_view.specs.View.{View}
use Rattle.noc_theory.specs.Halves.{beat_at, view_after_puts}
use Rattle.noc_tiles.specs.Ends.{End}
use Rattle.noc_tiles.specs.Phases.{AreInner, CanFinish, HaveFinished, to_send, TileHasSent, TileHasTaken, IsCleared}
use Rattle.noc_tiles.specs.TileStep.{beat_among, ends_after_beats, with_row, is_from, arrival_ports}
use Rattle.noc_tiles.specs.Tiles.{AreLinkPorts, Cycles, IsReady, inlets, outlets}
use Rattle.noc_tiles.specs.declared.tile.Inner.{Inner}
use Rattle.noc_tiles.specs.declared.tile.Tile.{Tile}
use Rattle.noc_tiles.proofs.CycleLemmas.{all-views, can1, wires5, put5, set5, set-as, some_view}
use Rattle.noc_tiles.proofs.EdgeLemmas.{can-part, can-after, can-cleared, count5, views5, edge3, whole5, kept5}
use Rattle.noc_tiles.proofs.TileStepLemmas.{names-fed, ports-names}

-- ---- what is taken

pub at_index : (P : List Beat → Type 0) (bs : List (List Beat)) → ((r : ℕ) → P (get_or bs r [])) → All P bs
at_index P bs each k d l = subst P (get_or_default bs k [] d l) (each k)

-- what is taken, where the beats before and after have another name
pub took-as : (ins : List (ℕ × ℕ)) (row : List Beat) (old new b0 b1 : List (List Beat)) → old ≡ b0 → b1 ≡ new → ((r q : ℕ) → beat_at new r q ≡ with_row (beat_at old) ins row r q)
    → (r q : ℕ) → beat_at b1 r q ≡ with_row (beat_at b0) ins row r q
took-as ins row old new b0 b1 before after took r q = ap (λ (b : List (List Beat)). beat_at b r q) after ∙ took r q ∙ ap (λ (b : List (List Beat)). with_row (beat_at b) ins row r q) before

-- ---- a whole cycle

module _ (relation : Routes) (n : ℕ) (inner : Inner) (row : List Beat) (a t1 : Tile) (ready : IsReady relation a) (within : AreInner relation.grid a.first (vec_len a.routers) (arrival_ports (outlets a)) inner)
    (took : TileHasTaken relation row a t1) where
  abbrev ins : List (ℕ × ℕ)
  ins = arrival_ports (inlets a)

  abbrev outs : List (ℕ × ℕ)
  outs = arrival_ports (outlets a)

  abbrev views : List View
  views = a.routers.items

  abbrev views1 : List View
  views1 = t1.routers.items

  len : vec_len a.routers ≡ length views
  len = search (rules, arith)

  fits : AreInner relation.grid a.first (length views) outs inner
  fits = subst (λ k. AreInner relation.grid a.first k outs inner) len within

  first1 : t1.first ≡ a.first
  first1 = ap (λ (t : Tile). t.first) took.rest

  rows1 : length t1.beats.items ≡ nodes relation.grid
  rows1 = took.size ∙ ready.parts.count

  n1 : length views1 ≡ length views
  n1 = ap length took.views ∙ length-map_indexed _ views

  can : CanFinish relation 0 (length views) t1
  can =
      can1 relation a.first ins outs views a.beats.items ready.parts row n views1 took.views t1 first1 refl
      rows1 took.silent

  pub edge-can : CanFinish relation 0 inner.from t1
  edge-can = can-part relation 0 (length views) 0 inner.from t1 can (omega arith) (omega arith) (omega (arith, fits.order, fits.within))

  module _ (count : ℕ) (all : count ≡ vec_len t1.routers) (t2 : Tile) (one : HaveFinished relation n 0 inner.from t1 t2) where
    all1 : count ≡ length views1
    all1 = let q : vec_len t1.routers ≡ length views1 = search (rules, arith) in all ∙ q

    pub rest-can : CanFinish relation inner.to count t2
    rest-can =
        subst (λ k. CanFinish relation inner.to k t2) (sym (all1 ∙ n1))
        (can-after relation n 0 inner.from inner.to (length views) t1 t2 one (can-part relation 0 (length views) inner.to (length views) t1 can (omega arith) fits.within (omega arith)) (omega arith) (inl fits.order))

    module _ (t3 : Tile) (two : HaveFinished relation n inner.to count t2 t3) where
      outs3 : outlets t3 ≡ outlets a
      outs3 = ap outlets two.rest ∙ ap outlets one.rest ∙ ap outlets took.rest

      rows3 : length t3.beats.items ≡ nodes relation.grid
      rows3 = two.size ∙ one.size ∙ rows1

      pub within3 : AreLinkPorts (length t3.beats.items) 6 (arrival_ports (outlets t3))
      within3 = subst (AreLinkPorts (length t3.beats.items) 6) (sym (ap arrival_ports outs3)) (λ j l. let w = ready.parts.outs_within j l in (omega (arith, w.0, rows3), omega (arith, w.1, ready.few_links)))

      middle3 : CanFinish relation inner.from inner.to t3
      middle3 =
          can-after relation n inner.to count inner.from inner.to t2 t3 two
          (can-after relation n 0 inner.from inner.from inner.to t1 t2 one (can-part relation 0 (length views) inner.from inner.to t1 can (omega arith) fits.order fits.within) (omega arith) (inl (omega arith)))
          (omega (arith, all1, n1, fits.within)) (inr (omega arith))

      module _ (t4 : Tile) (sent : TileHasSent t3 t4) where
        rest4 : t4 ≡ record t3 { beats = t4.beats; outs = t4.outs }
        rest4 = sent.rest

        cleared : (r q : ℕ) → IsCleared outs t3.beats.items t4.beats.items (length outs) r q
        cleared r q = subst (λ ps. IsCleared ps t3.beats.items t4.beats.items (length ps) r q) (ap arrival_ports outs3) (sent.cleared r q)

        pub inner-can : CanFinish relation inner.from inner.to t4
        inner-can = can-cleared relation inner.from inner.to (length outs) outs t3 t4 middle3 rest4 sent.size cleared

        module _ (t5 : Tile) (three : HaveFinished relation n inner.from inner.to t4 t5) where
          abbrev views' : List View
          views' = t5.routers.items

          d : View
          d = some_view relation

          second : HaveFinished relation n inner.to (length views1) t2 t3
          second = subst (λ k. HaveFinished relation n inner.to k t2 t3) all1 two

          below : inner.to ≤ length views1
          below = omega (arith, fits.within, n1)

          n5 : length views' ≡ length views
          n5 = count5 relation n inner.from inner.to t1 t2 t3 t4 t5 fits.order below one second rest4 three ∙ n1

          finished-as : (k : ℕ) (e : View) → k < length views → get_or views' k e ≡ view_after_puts (view_after_finish relation n (get_or views1 k e))
          finished-as k e l = views5 relation n inner.from inner.to t1 t2 t3 t4 t5 fits.order below one second rest4 three k e (omega (arith, n1, l))

          same-put : (r q : ℕ) → beat_among t1.first (length views1) (to_send relation n views1) (neighbour relation.grid r q) ≡ beat_among a.first (length views1) (to_send relation n views1) (neighbour relation.grid r q)
          same-put r q = ap (λ m. beat_among m (length views1) (to_send relation n views1) (neighbour relation.grid r q)) first1

          outside : (r q : ℕ) → is_from (a.first + inner.from) (inner.to - inner.from) (neighbour relation.grid r q) ≡ false → is_from (t1.first + inner.from) (inner.to - inner.from) (neighbour relation.grid r q) ≡ false
          outside r q h = ap (λ m. is_from (m + inner.from) (inner.to - inner.from) (neighbour relation.grid r q)) first1 ∙ h

          edge : (r q : ℕ) → r < nodes relation.grid → is_from (a.first + inner.from) (inner.to - inner.from) (neighbour relation.grid r q) ≡ false
              → beat_at t3.beats.items r q ≡ beat_among a.first (length views1) (to_send relation n views1) (neighbour relation.grid r q)
          edge r q l h = edge3 relation n inner.from inner.to t1 t2 t3 t4 t5 fits.order below one second rest4 three d took.silent r q l (outside r q h) ∙ same-put r q

          whole : (r q : ℕ) → r < nodes relation.grid → beat_at t4.beats.items r q ≡ beat_at t3.beats.items r q
              → beat_at t5.beats.items r q ≡ beat_among a.first (length views1) (to_send relation n views1) (neighbour relation.grid r q)
          whole r q l same = whole5 relation n inner.from inner.to t1 t2 t3 t4 t5 fits.order below one second rest4 three d took.silent r q l same ∙ same-put r q

          kept : (r q : ℕ) → r < nodes relation.grid → is_from (a.first + inner.from) (inner.to - inner.from) (neighbour relation.grid r q) ≡ false → beat_at t5.beats.items r q ≡ beat_at t4.beats.items r q
          kept r q l h = kept5 relation n inner.from inner.to t1 t2 t3 t4 t5 fits.order below one second rest4 three d took.silent r q l (outside r q h)

          ins5 : inlets t5 ≡ ends_after_beats (inlets a) row
          ins5 = ap inlets three.rest ∙ ap inlets rest4 ∙ ap inlets two.rest ∙ ap inlets one.rest ∙ took.ins

          outs5 : outlets t5 ≡ ends_after_beats (outlets a) (map (λ (p : ℕ × ℕ). beat_at t3.beats.items p.0 p.1) outs)
          outs5 = ap outlets three.rest ∙ sent.outs ∙ ap (λ (ends : List End). ends_after_beats ends (map (λ (p : ℕ × ℕ). beat_at t3.beats.items p.0 p.1) (arrival_ports ends))) outs3

          first5 : t5.first ≡ a.first
          first5 =
              let first : Tile → ℕ = λ t. t.first in
              ap first three.rest ∙ ap first rest4 ∙ ap first two.rest ∙ ap first one.rest ∙ first1

          rows5 : length t5.beats.items ≡ nodes relation.grid
          rows5 = three.size ∙ sent.size ∙ rows3

          same-ins : arrival_ports (inlets t5) ≡ ins
          same-ins = ap arrival_ports ins5 ∙ ports-names (ends_after_beats (inlets a) row) (inlets a) (names-fed (inlets a) row)

          same-outs : arrival_ports (outlets t5) ≡ outs
          same-outs =
              let beats : List Beat = map (λ (p : ℕ × ℕ). beat_at t3.beats.items p.0 p.1) outs in
              ap arrival_ports outs5 ∙ ports-names (ends_after_beats (outlets a) beats) (outlets a) (names-fed (outlets a) beats)

          -- the tile is ready for the next cycle
          pub ready-again : IsReady relation t5
          ready-again = record {
            few_links = ready.few_links;
            parts = set-as relation a.first t5.first ins (arrival_ports (inlets t5)) outs (arrival_ports (outlets t5)) views' views' t5.beats.items t5.beats.items (sym first5) (sym same-ins) (sym same-outs) refl refl
                (set5 relation a.first ins outs views a.beats.items ready.parts row n views1 took.views d views' n5 finished-as t3.beats.items t4.beats.items t5.beats.items inner fits cleared edge whole kept rows5);
          }

          -- the tile has made this cycle
          pub has-cycled : Cycles relation n a t5 row
          has-cycled = record {
            width = took.width;
            views = all-views relation a.first ins outs views a.beats.items ready.parts row n views1 took.views d views' n5 finished-as;
            wires = wires5 relation a.first ins outs views a.beats.items ready.parts row n views1 took.views d views' n5 finished-as t3.beats.items t4.beats.items t5.beats.items inner fits cleared edge whole kept;
            ins = ins5;
            outs = outs5
                ∙ ap (ends_after_beats (outlets a))
                (put5 relation a.first ins outs views a.beats.items ready.parts row n views1 took.views d views' n5 finished-as t3.beats.items t4.beats.items t5.beats.items inner fits cleared edge whole kept);
          }
