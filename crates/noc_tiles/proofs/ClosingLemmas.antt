-- The runs of the tiles together are the lockstep run.
use Rattle.std.proofs.Common.{◌≡◌, ◌⊎◌, inl, inr, ℕ, zero, suc, ◌+◌, ◌-◌, ◌<◌, ◌≤◌, true, List, [], map, length, get_or, take, slice_get, Option, Some, None, refl, ap, ap₂, sym, ◌∙◌, arith, subst, ⊎_elim}
use Rattle.std.specs.Prelude.{if◌then◌else◌}
use Rattle.std.proofs.lemmas.Bool.{cases_lt}
use Rattle.std.proofs.lemmas.List.{take_more, length-take-le, length-map, get_or-map}
use Rattle.std.proofs.lemmas.Option.{slice_get-get_or, get_or_from_slice_get}
use Rattle.noc_topo.specs.Shape.{local_port, neighbour, nodes}
use Rattle.noc_topo.proofs.ListLemmas.{tabulate-from_each, get_or-map_indexed, length-map_indexed}
use Rattle.noc_packet.specs.declared.packet.Beat.{Beat}
use Rattle.noc_view.specs.View.{View, local_step, idle_beat}
use Rattle.noc_theory.specs.Halves.{beat_at}
use Rattle.noc_theory.specs.Lockstep.{lockstep_at, beats_at}
use Rattle.noc_theory.specs.Network.{Setup}
use Rattle.noc_theory.proofs.runs.RunLemmas.{count_views, count_row}
use Rattle.noc_theory.proofs.runs.SentLemmas.{step_of, next_view, sent_beat, unlinked_beat}
use Rattle.noc_tiles.specs.TileStep.{Layout, TileState, is_own, is_from, is_inside, beat_among, with_row, beats_arriving, steps, sent_of, out_at, after_steps, put_by, tile_after_cycle, after}
use Rattle.noc_tiles.specs.Together.{Trace, Agrees, PutsInFlight, TilesRan, beat_carried, trace_steps_at, tile_at, in_flight}
use Rattle.noc_tiles.proofs.CycleLemmas.{some_view, no_link}
use Rattle.noc_tiles.proofs.FillLemmas.{HasOrGets, filled_right}
use Rattle.noc_tiles.proofs.RunLemmas.{after-more}
use Rattle.noc_tiles.proofs.SentLemmas.{own-true, own-within}

pub steps-count : (net : Setup) (P : Layout) (n : ℕ) (T : TileState) (row : List Beat) → length (steps net.relation P n T row) ≡ length T.views
unfolding steps
steps-count net P n T row = length-map_indexed _ T.views

pub steps-at : (net : Setup) (P : Layout) (n : ℕ) (T : TileState) (row : List Beat) (c : ℕ) (d : View) (e : View × List Beat) → c < length T.views
    → get_or (steps net.relation P n T row) c e ≡ local_step net.relation (get_or T.views c d) (beats_arriving net.relation P T row c) n
unfolding steps
steps-at net P n T row c d e l = get_or-map_indexed (λ (i : ℕ) (v : View). local_step net.relation v (beats_arriving net.relation P T row i) n) T.views c d e l

pub views-after : (net : Setup) (P : Layout) (S : List (View × List Beat)) → (after_steps net.relation P S).views ≡ map (λ (s : View × List Beat). s.0) S
unfolding after_steps
views-after net P S = refl

pub wires-after : (net : Setup) (P : Layout) (S : List (View × List Beat)) (r q : ℕ) → is_own P.first (length S) r ≡ true → (after_steps net.relation P S).wires r q ≡ out_at net.relation P S r q
unfolding after_steps
wires-after net P S r q own = ap (λ b. if b then out_at net.relation P S r q else idle_beat) own

pub put_by-at : (net : Setup) (P : Layout) (S : List (View × List Beat)) (o : ℕ) → o < length P.outs → get_or (put_by net.relation P S) o idle_beat ≡ out_at net.relation P S (get_or P.outs o (0, 0)).0 (get_or P.outs o (0, 0)).1
unfolding put_by
put_by-at net P S o l = get_or-map (λ (p : ℕ × ℕ). out_at net.relation P S p.0 p.1) P.outs o (0, 0) idle_beat l

pub from_inside : (first count : ℕ) (from : Option (ℕ × ℕ)) → is_from first count from ≡ true → is_inside first count from ≡ true
from_inside first count None e = refl
from_inside first count (Some p) e = e

module _ (net : Setup) (n : ℕ) where
  abbrev pub RowRight : Trace → ℕ → Type 0
  RowRight t i = (j : ℕ) → j < length t.layout.ins → get_or (get_or t.rows i []) j idle_beat ≡ in_flight net n (n + i) (get_or t.layout.ins j (0, 0)).0 (get_or t.layout.ins j (0, 0)).1

  pub state_at-next : (t : Trace) (i : ℕ) → i < length t.rows → tile_at net n t (suc i) ≡ after_steps net.relation t.layout (trace_steps_at net n t i)
  state_at-next t i l =
      let e : suc i ≡ i + 1 = omega arith in
      ap (λ q. after net.relation t.layout n t.state (take q t.rows)) e
      ∙ (ap (after net.relation t.layout n t.state) (take_more t.rows i [] l)
      ∙ (after-more net.relation t.layout n t.state (take i t.rows) (get_or t.rows i [])
      ∙ ap (λ q. tile_after_cycle net.relation t.layout (n + q) (tile_at net n t i) (get_or t.rows i [])) (length-take-le i t.rows (omega arith))))

  module _ (k m : ℕ) (T : ℕ → Trace) (tiled : TilesRan net n k m T) where
    -- every wire that arrives at the tile has the beat of the lockstep run, once the row is in
    full-right : (t i : ℕ) → t < m → i < k → Agrees net n (T t) i → RowRight (T t) i → (c q : ℕ) → c < length (T t).state.views
        → with_row (tile_at net n (T t) i).wires (T t).layout.ins (get_or (T t).rows i []) ((T t).layout.first + c) q ≡ in_flight net n (n + i) ((T t).layout.first + c) q
    full-right t i tm ik a right c q l =
        let P = (T t).layout in
        let row = get_or (T t).rows i [] in
        let w : length row ≡ length P.ins = tiled.width t i tm ik in
        let has : HasOrGets (tile_at net n (T t) i).wires P.ins row (in_flight net n (n + i)) (P.first + c) q =
        ⊎_elim (λ h. inl (a.wires c q l h)) (λ h. inr (h.0, h.1, (let z = h.1 in omega arith), h.2)) (tiled.covers t c q tm l) in
        filled_right (tile_at net n (T t) i).wires P.ins row (in_flight net n (n + i)) (P.first + c) q (λ j h h'. right j h') has

    -- each router makes what it makes in the lockstep run
    step-right : (t i : ℕ) → t < m → i < k → Agrees net n (T t) i → RowRight (T t) i → (c : ℕ) (d : View) (e : View × List Beat) → c < length (T t).state.views
        → get_or (trace_steps_at net n (T t) i) c e ≡ step_of net (n + i) ((T t).layout.first + c) (get_or (lockstep_at net (n + i)).views ((T t).layout.first + c) d)
    step-right t i tm ik a right c d e l =
        let P = (T t).layout in
        let S = tile_at net n (T t) i in
        let row = get_or (T t).rows i [] in
        let r = P.first + c in
        let r_in : P.first + c < nodes net.relation.grid = let z = tiled.within t tm in omega arith in
        let beats : beats_at (lockstep_at net (n + i)).wires r ≡ beats_arriving net.relation P S row c =
        tabulate-from_each (local_port net.relation.grid) (with_row S.wires P.ins row r) (beats_at (lockstep_at net (n + i)).wires r) idle_beat (count_row net (n + i) r r_in) (λ q h. sym (full-right t i tm ik a right c q l)) in
        steps-at net P (n + i) S row c d e (let z = a.many in omega arith)
        ∙ ap₂ (λ v b. local_step net.relation v b (n + i)) (a.views c d l) (sym beats)

    has-view : (i r : ℕ) (d : View) → r < nodes net.relation.grid → slice_get (lockstep_at net i).views r ≡ Some (get_or (lockstep_at net i).views r d)
    has-view i r d l = slice_get-get_or (lockstep_at net i).views r d (let z = count_views net i in omega arith)

    in-links : (r q : ℕ) (p : ℕ × ℕ) → neighbour net.relation.grid r q ≡ Some p → q < local_port net.relation.grid
    in-links r q p e = ⊎_elim (λ (l : q < local_port net.relation.grid). l) (λ (h : local_port net.relation.grid ≤ q). let z = no_link net.relation r q h in absurd (cc (z, e))) (cases_lt q (local_port net.relation.grid))

    -- what goes out on a wire of the tile is the beat of the lockstep run
    out-right : (t i : ℕ) → t < m → i < k → Agrees net n (T t) i → RowRight (T t) i → (r q : ℕ) → r < nodes net.relation.grid → (from : Option (ℕ × ℕ)) → neighbour net.relation.grid r q ≡ from
        → is_inside (T t).layout.first (length (T t).state.views) from ≡ true → out_at net.relation (T t).layout (trace_steps_at net n (T t) i) r q ≡ in_flight net n (n + i + 1) r q
    out-right t i tm ik a right r q l None e h =
        ap (λ from. beat_among (T t).layout.first (length (sent_of net.relation (T t).layout (trace_steps_at net n (T t) i))) (sent_of net.relation (T t).layout (trace_steps_at net n (T t) i)) from) e
        ∙ sym (unlinked_beat net (n + i + 1) r q e)
    out-right t i tm ik a right r q l (Some (s, p)) e h =
        let P = (T t).layout in
        let S = trace_steps_at net n (T t) i in
        let sent = sent_of net.relation P S in
        let d = some_view net.relation in
        let own = own-within P.first (length (T t).state.views) s h in
        let own0 = own.0 in
        let own1 = own.1 in
        let sc : length S ≡ length (T t).state.views = steps-count net P (n + i) (tile_at net n (T t) i) (get_or (T t).rows i []) ∙ a.many in
        let c : s - P.first < length (T t).state.views = omega arith in
        let back : P.first + (s - P.first) ≡ s = omega arith in
        let s_in : s < nodes net.relation.grid = let z = tiled.within t tm in omega arith in
        let ls : length sent ≡ length (T t).state.views = length-map S (λ (x : View × List Beat). x.1) ∙ sc in
        let test : is_own P.first (length sent) s ≡ true = ap (λ z. is_own P.first z s) ls ∙ h in
        let v = get_or (lockstep_at net (n + i)).views s d in
        ap (beat_among P.first (length sent) sent) e
        ∙ (ap (λ b. if b then beat_at sent (s - P.first) p else idle_beat) test
        ∙ (ap (λ (row : List Beat). get_or row p idle_beat)
        (get_or-map (λ (x : View × List Beat). x.1) S (s - P.first) (d, []) [] (omega arith)
        ∙ (ap (λ (x : View × List Beat). x.1) (step-right t i tm ik a right (s - P.first) d (d, []) c)
        ∙ ap (λ z. (step_of net (n + i) z (get_or (lockstep_at net (n + i)).views z d)).1) back))
        ∙ sym (sent_beat net (n + i) s p r q v (has-view (n + i) s d s_in) l (in-links r q (s, p) e) e)))

    next-agrees : (t i : ℕ) → t < m → i < k → Agrees net n (T t) i → RowRight (T t) i → Agrees net n (T t) (suc i)
    next-agrees t i tm ik a right =
        let P = (T t).layout in
        let S = trace_steps_at net n (T t) i in
        let d0 = some_view net.relation in
        let rows : i < length (T t).rows = let z = tiled.count t tm in omega arith in
        let is : tile_at net n (T t) (suc i) ≡ after_steps net.relation P S = state_at-next (T t) i rows in
        let vs : (tile_at net n (T t) (suc i)).views ≡ map (λ (s : View × List Beat). s.0) S = ap (λ (z : TileState). z.views) is ∙ views-after net P S in
        let sc : length S ≡ length (T t).state.views = steps-count net P (n + i) (tile_at net n (T t) i) (get_or (T t).rows i []) ∙ a.many in
        let wide = tiled.within t tm in
        let more : n + i + 1 ≡ n + suc i = omega arith in
        record {
          many = ap length vs ∙ (length-map S (λ (s : View × List Beat). s.0) ∙ sc);
          views = λ c d l.
              let r_in : P.first + c < nodes net.relation.grid = omega arith in
              let v = get_or (lockstep_at net (n + i)).views (P.first + c) d in
              ap (λ z. get_or z c d) vs
              ∙ (get_or-map (λ (s : View × List Beat). s.0) S c (d, []) d (omega arith)
              ∙ (ap (λ (s : View × List Beat). s.0) (step-right t i tm ik a right c d (d, []) l)
              ∙ (sym (get_or_from_slice_get (lockstep_at net (n + i + 1)).views (P.first + c) (step_of net (n + i) (P.first + c) v).0 d (next_view net (n + i) (P.first + c) v (has-view (n + i) (P.first + c) d r_in)))
              ∙ ap (λ z. get_or (lockstep_at net z).views (P.first + c) d) more)));
          wires = λ c q l h.
              let r_in : P.first + c < nodes net.relation.grid = omega arith in
              ap (λ (z : TileState). z.wires (P.first + c) q) is
              ∙ (wires-after net P S (P.first + c) q (own-true P.first (length S) (P.first + c) (omega arith) (omega arith))
              ∙ (out-right t i tm ik a right (P.first + c) q r_in (neighbour net.relation.grid (P.first + c) q) refl h
              ∙ ap (λ z. in_flight net n z (P.first + c) q) more));
        }

    puts-right : (t i : ℕ) → t < m → i < k → Agrees net n (T t) i → RowRight (T t) i → PutsInFlight net n (T t) i
    puts-right t i tm ik a right o l =
        let P = (T t).layout in
        let p = get_or P.outs o (0, 0) in
        let w = tiled.outs t o tm l in
        let from = neighbour net.relation.grid p.0 p.1 in
        put_by-at net P (trace_steps_at net n (T t) i) o l
        ∙ (out-right t i tm ik a right p.0 p.1 w.0 from refl (from_inside P.first (length (T t).state.views) from w.1)
        ∙ ap (λ z. in_flight net n z p.0 p.1) (omega arith))

    -- what is known of all tiles after i cycles
    pub record Together (i : ℕ) : Type 0 where
      pub agree : (t : ℕ) → t < m → Agrees net n (T t) i
      pub put : (t c : ℕ) → t < m → c < i → PutsInFlight net n (T t) c

    row-by : (t : ℕ) → t < m → (j : ℕ) → j < length (T t).layout.ins → (i : ℕ) → i < k → Together i
        → get_or (get_or (T t).rows i []) j idle_beat ≡ in_flight net n (n + i) (get_or (T t).layout.ins j (0, 0)).0 (get_or (T t).layout.ins j (0, 0)).1
    row-by t tm j l zero ik g =
        let p = get_or (T t).layout.ins j (0, 0) in
        (tiled.wired t j tm l).5 zero ik ∙ ap (λ z. in_flight net n z p.0 p.1) (omega arith)
    row-by t tm j l (suc i) ik g =
        let w = tiled.wired t j tm l in
        w.5 (suc i) ik ∙ (g.put w.0 i w.2 (omega arith) w.1 w.3 ∙ ap (λ (p : ℕ × ℕ). in_flight net n (n + suc i) p.0 p.1) w.4)

    start : Together 0
    start = record {
      agree = λ t tm. record {
        many = refl;
        views = λ c d l. tiled.views t c d tm l ∙ ap (λ z. get_or (lockstep_at net z).views ((T t).layout.first + c) d) (omega arith);
        wires = λ c q l h. tiled.wires t c q tm l h ∙ ap (λ z. in_flight net n z ((T t).layout.first + c) q) (omega arith);
      };
      put = λ t c tm l. absurd (omega arith);
    }

    put-more : (i : ℕ) → i < k → Together i → (t c : ℕ) → t < m → (c < i) ⊎ (c ≡ i) → PutsInFlight net n (T t) c
    put-more i ik g t c tm (inl l) = g.put t c tm l
    put-more i ik g t c tm (inr e) = subst (PutsInFlight net n (T t)) (sym e) (puts-right t i tm ik (g.agree t tm) (λ j l. row-by t tm j l i ik g))

    pub together : (i : ℕ) → i ≤ k → Together i
    together zero l = start
    together (suc i) l =
        let g = together i (omega arith) in
        let ik : i < k = omega arith in
        record {
          agree = λ t tm. next-agrees t i tm ik (g.agree t tm) (λ j h. row-by t tm j h i ik g);
          put = λ t c tm h. put-more i ik g t c tm (below c i (omega arith));
        }
      where
        below : (c i : ℕ) → c ≤ i → (c < i) ⊎ (c ≡ i)
        below c i h = grind arith

    -- the law
    pub closing : (t : ℕ) → t < m → Agrees net n (T t) k
    closing t tm = (together k (omega arith)).agree t tm

    pub closing-puts : (t i : ℕ) → t < m → i < k → PutsInFlight net n (T t) i
    closing-puts t i tm l = (together k (omega arith)).put t i tm l

    -- what a wire brings is the beat of the lockstep run
    pub carried-right : (u o : ℕ) (p : ℕ × ℕ) → u < m → o < length (T u).layout.outs → get_or (T u).layout.outs o (0, 0) ≡ p → (i : ℕ) → Together i → beat_carried net n (in_flight net n n p.0 p.1) (T u) o i ≡ in_flight net n (n + i) p.0 p.1
    carried-right u o p um ol e zero g = ap (λ z. in_flight net n z p.0 p.1) (omega arith)
    carried-right u o p um ol e (suc i) g = g.put u i um (omega arith) o ol ∙ ap (λ (z : ℕ × ℕ). in_flight net n (n + suc i) z.0 z.1) e
