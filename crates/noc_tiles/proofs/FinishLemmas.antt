-- Routers of a tile finish a cycle, one after another.
use Rattle.std.proofs.Common.{◌≡◌, ◌≢◌, inl, inr, ℕ, ◌+◌, ◌-◌, ◌<◌, ◌≤◌, true, List, [], length, get_or, set, Option, Some, None, refl, ap, sym, ◌∙◌, ⊎_elim, subst, arith}
use Rattle.std.specs.Prelude.{if◌then◌else◌}
use Rattle.std.proofs.lemmas.Bool.{cases_eq, cases_lt}
use Rattle.std.proofs.lemmas.Bool.Decides.{eqb_tells}
use Rattle.std.proofs.lemmas.List.{get_or-map, get_or-set_same, get_or-set_other, get_or_read, length-set}
use Rattle.noc_topo.specs.Shape.{local_port, neighbour, nodes}
use Rattle.noc_packet.specs.declared.packet.Beat.{Beat}
use Rattle.noc_route.specs.Routes.{Routes}
use Rattle.noc_view.specs.Finish.{view_after_finish}
use Rattle.noc_view.specs.View.{Site, View, IsRelationOf, idle_beat, beat_to_put, view_after_inject, decisions_of}
use Rattle.noc_view.proofs.SiteLemmas.{injected-site, committed-site}
use Rattle.noc_theory.proofs.runs.StepLemmas.{IsRelationOf-same_site, count-committed}
use Rattle.noc_theory.specs.Halves.{HasItsBeats, beat_at, view_after_puts, wire_after_puts}
use Rattle.noc_tiles.specs.Phases.{CanFinish, HaveFinished, put_from, to_send}
use Rattle.noc_tiles.specs.TileStep.{is_own, is_from}
use Rattle.noc_tiles.specs.declared.tile.Tile.{Tile}
use Rattle.noc_tiles.proofs.SentLemmas.{own-true, own-false, own-same, past-rows}
use Rattle.noc_tiles.proofs.TileStepLemmas.{Tells}

-- ---- one router that has finished

pub finish-site : (relation : Routes) (n : ℕ) (v : View) → (view_after_finish relation n v).site ≡ v.site
finish-site relation n v = committed-site (decisions_of relation (view_after_inject n v)) (view_after_inject n v) ∙ injected-site n v

pub finish-placed : (relation : Routes) (n : ℕ) (v : View) → IsRelationOf relation v → HasItsBeats relation (view_after_finish relation n v).site.node (view_after_finish relation n v)
finish-placed relation n v fits = record {
  built_for = IsRelationOf-same_site relation v (view_after_finish relation n v) (finish-site relation n v) fits;
  site = refl;
  beats = count-committed (decisions_of relation (view_after_inject n v)) (view_after_inject n v)
      ∙ ap (λ (s : Site). local_port s.grid) (injected-site n v)
      ∙ ap local_port (sym fits.grid);
}

-- ---- the wires

pub from-none : (first i : ℕ) (sent : List (List Beat)) (from : Option (ℕ × ℕ)) (beat : Beat) → put_from first i i sent from beat ≡ beat
from-none first i sent None beat = refl
from-none first i sent (Some (a, q)) beat =
    ap (λ b. if b then beat_at sent (a - first) q else beat) (own-false (first + i) (i - i) a (⊎_elim (λ (l : a < first + i). inl l) (λ (u : first + i ≤ a). inr (omega arith)) (cases_lt a (first + i))))

pub from-more : (first i k : ℕ) (sent : List (List Beat)) (w : View) (from : Option (ℕ × ℕ)) (beat : Beat) → i ≤ k → w.site.node ≡ first + k → get_or sent k [] ≡ w.to_put
    → wire_after_puts w from (put_from first i k sent from beat) ≡ put_from first i (k + 1) sent from beat
from-more first i k sent w None beat l e g = refl
from-more first i k sent w (Some (a, q)) beat l e g = at (eqb_tells a w.site.node)
  where
    rest : Beat
    rest = put_from first i k sent (Some (a, q)) beat

    at : Tells a w.site.node → wire_after_puts w (Some (a, q)) rest ≡ put_from first i (k + 1) sent (Some (a, q)) beat
    at (inl h) =
        let own : is_own (first + i) ((k + 1) - i) a ≡ true = own-true (first + i) ((k + 1) - i) a (omega (arith, h.1, e)) (omega (arith, h.1, e)) in
        let here : a - first ≡ k = omega (arith, h.1, e) in
        ap (λ b. if b then beat_to_put w q else rest) h.0
        ∙ (ap (λ (bs : List Beat). get_or bs q idle_beat) (sym g)
        ∙ (ap (λ m. beat_at sent m q) (sym here)
        ∙ ap (λ b. if b then beat_at sent (a - first) q else beat) (sym own)))
    at (inr h) =
        let other : a ≢ (first + i) + (k - i) = λ f. h.1 (omega (arith, f, e, l)) in
        let more : (k - i) + 1 ≡ (k + 1) - i = omega (arith, l) in
        ap (λ b. if b then beat_to_put w q else rest) h.0
        ∙ ap (λ b. if b then beat_at sent (a - first) q else beat) (sym (ap (λ m. is_own (first + i) m a) (sym more) ∙ own-same (first + i) (k - i) a other))

-- ---- the tile

module _ (relation : Routes) (n : ℕ) (i j : ℕ) (a : Tile) (can : CanFinish relation i j a) where
  pub finished-none : HaveFinished relation n i i a a
  finished-none = record {
    rest = refl;
    count = refl;
    size = refl;
    views = λ k d l m. absurd (omega (arith, l, m));
    others = λ k d h. refl;
    wires = λ r q l. sym (from-none a.first i (to_send relation n a.routers.items) (neighbour relation.grid r q) (beat_at a.beats.items r q));
  }

  module _ (b : Tile) (k : ℕ) (so_far : HaveFinished relation n i k a b) (from : i ≤ k) (below : k < j) (v : View) (is : v ≡ get_or b.routers.items k v) where
    is-first : v ≡ get_or a.routers.items k v
    is-first = is ∙ so_far.others k v (inr (omega arith))

    pub next-built : IsRelationOf relation v
    next-built = subst (IsRelationOf relation) (sym is-first) (can.built k v from below)

    pub next-node : v.site.node ≡ a.first + k
    next-node = ap (λ (w : View). w.site.node) is-first ∙ can.site k v from below

    pub next-idle : (r q p : ℕ) → neighbour relation.grid r q ≡ Some (v.site.node, p) → beat_at b.beats.items r q ≡ idle_beat
    next-idle r q p e =
        ⊎_elim (λ (l : r < nodes relation.grid).
        so_far.wires r q l
        ∙ ap (λ f. put_from a.first i k (to_send relation n a.routers.items) f (beat_at a.beats.items r q)) e
        ∙ ap (λ b. if b then beat_at (to_send relation n a.routers.items) (v.site.node - a.first) p else beat_at a.beats.items r q) (own-false (a.first + i) (k - i) v.site.node (inr (omega (arith, next-node, from))))
        ∙ can.idle r q l (ap (is_from (a.first + i) (j - i)) e ∙ own-true (a.first + i) (j - i) v.site.node (omega (arith, next-node, from)) (omega (arith, next-node, from, below))))
        (λ (past : nodes relation.grid ≤ r). past-rows b.beats.items r q (omega (arith, so_far.size, can.count, past)))
        (cases_lt r (nodes relation.grid))

    module _ (c : Tile) (w : View) (same : w ≡ view_after_puts (view_after_finish relation n v)) (set_is : c.routers.items ≡ set b.routers.items k w) where
      short : k < length b.routers.items
      short = omega (arith, so_far.count, can.within, below)

      here : (d : View) → get_or c.routers.items k d ≡ w
      here d = ap (λ vs. get_or vs k d) set_is ∙ get_or-set_same b.routers.items k w d short

      elsewhere : (m : ℕ) (d : View) → m ≢ k → get_or c.routers.items m d ≡ get_or b.routers.items m d
      elsewhere m d ne = ap (λ vs. get_or vs m d) set_is ∙ get_or-set_other b.routers.items k m w d ne

      first-at : (d : View) → v ≡ get_or a.routers.items k d
      first-at d = get_or_read a.routers.items k v (omega (arith, short, so_far.count)) is-first d

      pub finished-more : c ≡ record b { plan = c.plan; routers = c.routers; beats = c.beats } → length c.beats.items ≡ length b.beats.items
          → ((r q : ℕ) → r < nodes relation.grid → beat_at c.beats.items r q ≡ wire_after_puts (view_after_finish relation n v) (neighbour relation.grid r q) (beat_at b.beats.items r q))
          → HaveFinished relation n i (k + 1) a c
      finished-more rest size wires = record {
        rest = rest ∙ ap (λ (t : Tile). record t { plan = c.plan; routers = c.routers; beats = c.beats }) so_far.rest;
        count = ap length set_is ∙ length-set b.routers.items k w ∙ so_far.count;
        size = size ∙ so_far.size;
        views = λ m d l u.
            ⊎_elim (λ (e : m ≡ k). rw e (here d ∙ same ∙ ap (λ (x : View). view_after_puts (view_after_finish relation n x)) (first-at d)))
            (λ (ne : m ≢ k). elsewhere m d ne ∙ so_far.views m d l (omega arith)) (cases_eq m k);
        others = λ m d h. elsewhere m d (omega arith) ∙ so_far.others m d (⊎_elim (λ (l : m < i). inl l) (λ (u : k + 1 ≤ m). inr (omega arith)) h);
        wires = λ r q l.
            let out = view_after_finish relation n v in
            wires r q l
            ∙ ap (wire_after_puts out (neighbour relation.grid r q)) (so_far.wires r q l)
            ∙ from-more a.first i k (to_send relation n a.routers.items) out (neighbour relation.grid r q) (beat_at a.beats.items r q) from
            (ap (λ (s : Site). s.node) (finish-site relation n v) ∙ next-node)
            (get_or-map (λ (x : View). (view_after_finish relation n x).to_put) a.routers.items k v [] (omega (arith, short, so_far.count))
            ∙ ap (λ (x : View). (view_after_finish relation n x).to_put) (sym is-first));
      }
