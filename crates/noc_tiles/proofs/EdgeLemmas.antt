-- The routers at the edge of a tile finish a cycle, what leaves the tile becomes idle, and then
-- the inner routers finish.
use Rattle.std.proofs.Common.{◌≡◌, ◌⊎◌, inl, inr, ℕ, ◌+◌, ◌-◌, ◌<◌, ◌≤◌, Bool, true, false, List, [], length, get_or, Option, Some, None, refl, ap, sym, ◌∙◌, ⊎_elim, subst, arith}
use Rattle.std.specs.Prelude.{if◌then◌else◌}
use Rattle.std.proofs.lemmas.Bool.{cases_lt, false≢true}
use Rattle.std.proofs.lemmas.List.{get_or-map}
use Rattle.noc_topo.specs.Shape.{neighbour, nodes}
use Rattle.noc_packet.specs.declared.packet.Beat.{Beat}
use Rattle.noc_route.specs.Routes.{Routes}
use Rattle.noc_view.specs.Finish.{view_after_finish}
use Rattle.noc_view.specs.View.{View, IsRelationOf, idle_beat}
use Rattle.noc_theory.specs.Halves.{beat_at, view_after_puts}
use Rattle.noc_tiles.specs.Phases.{CanFinish, HaveFinished, put_from, to_send, IsCleared}
use Rattle.noc_tiles.specs.TileStep.{is_own, is_from, beat_among}
use Rattle.noc_tiles.specs.declared.tile.Tile.{Tile}
use Rattle.noc_tiles.proofs.SentLemmas.{own-true, own-false, own-within}

pub cases_bool : (b : Bool) → (b ≡ true) ⊎ (b ≡ false)
cases_bool true = inl refl
cases_bool false = inr refl

-- ---- whether a router is between two indices

between : (first i j s : ℕ) → i ≤ j → first + i ≤ s → s < first + j → is_own (first + i) (j - i) s ≡ true
between first i j s l m h = own-true (first + i) (j - i) s m (omega arith)

beside : (first i j s : ℕ) → i ≤ j → (s < first + i) ⊎ (first + j ≤ s) → is_own (first + i) (j - i) s ≡ false
beside first i j s l h = own-false (first + i) (j - i) s (⊎_elim (λ (x : s < first + i). inl x) (λ (y : first + j ≤ s). inr (omega arith)) h)

from-wider : (first i j i' j' : ℕ) (from : Option (ℕ × ℕ)) → i ≤ i' → i' ≤ j' → j' ≤ j → is_from (first + i') (j' - i') from ≡ true → is_from (first + i) (j - i) from ≡ true
from-wider first i j i' j' None l m n h = absurd (false≢true h)
from-wider first i j i' j' (Some (s, q)) l m n h = let w = own-within (first + i') (j' - i') s h in between first i j s (omega arith) (omega (arith, w.0)) (omega (arith, w.1))

from-apart : (first i j i' j' : ℕ) (from : Option (ℕ × ℕ)) → i ≤ j → i' ≤ j' → (j ≤ i') ⊎ (j' ≤ i) → is_from (first + i') (j' - i') from ≡ true → is_from (first + i) (j - i) from ≡ false
from-apart first i j i' j' None l m n h = refl
from-apart first i j i' j' (Some (s, q)) l m n h =
    let w = own-within (first + i') (j' - i') s h in
    beside first i j s l (⊎_elim (λ (x : j ≤ i'). inr (omega (arith, w.0, x))) (λ (y : j' ≤ i). inl (omega (arith, w.1, y, m))) n)

-- ---- a wire

put-in : (first i j : ℕ) (sent : List (List Beat)) (s q : ℕ) (beat : Beat) → i ≤ j → first + i ≤ s → s < first + j → put_from first i j sent (Some (s, q)) beat ≡ beat_at sent (s - first) q
put-in first i j sent s q beat l m h = ap (λ b. if b then beat_at sent (s - first) q else beat) (between first i j s l m h)

put-out : (first i j : ℕ) (sent : List (List Beat)) (s q : ℕ) (beat : Beat) → i ≤ j → (s < first + i) ⊎ (first + j ≤ s) → put_from first i j sent (Some (s, q)) beat ≡ beat
put-out first i j sent s q beat l h = ap (λ b. if b then beat_at sent (s - first) q else beat) (beside first i j s l h)

pub from-out : (first i j : ℕ) (sent : List (List Beat)) (from : Option (ℕ × ℕ)) (beat : Beat) → is_from (first + i) (j - i) from ≡ false → put_from first i j sent from beat ≡ beat
from-out first i j sent None beat h = refl
from-out first i j sent (Some (s, q)) beat h = ap (λ b. if b then beat_at sent (s - first) q else beat) h

among-in : (first n : ℕ) (sent : List (List Beat)) (s q : ℕ) → first ≤ s → s < first + n → beat_among first n sent (Some (s, q)) ≡ beat_at sent (s - first) q
among-in first n sent s q l m = ap (λ b. if b then beat_at sent (s - first) q else idle_beat) (own-true first n s l m)

among-out : (first n : ℕ) (sent : List (List Beat)) (s q : ℕ) → (s < first) ⊎ (first + n ≤ s) → beat_among first n sent (Some (s, q)) ≡ idle_beat
among-out first n sent s q h = ap (λ b. if b then beat_at sent (s - first) q else idle_beat) (own-false first n s h)

-- only what the routers between the indices send counts
from-same : (first i j : ℕ) (sent sent' : List (List Beat)) (from : Option (ℕ × ℕ)) (beat : Beat) → i ≤ j → ((k : ℕ) → i ≤ k → k < j → get_or sent k [] ≡ get_or sent' k [])
    → put_from first i j sent from beat ≡ put_from first i j sent' from beat
from-same first i j sent sent' None beat l same = refl
from-same first i j sent sent' (Some (s, q)) beat l same =
    ⊎_elim (λ (own : is_own (first + i) (j - i) s ≡ true).
    let w = own-within (first + i) (j - i) s own in
    put-in first i j sent s q beat l w.0 (omega (arith, w.1))
    ∙ ap (λ (row : List Beat). get_or row q idle_beat) (same (s - first) (omega (arith, w.0)) (omega (arith, w.0, w.1)))
    ∙ sym (put-in first i j sent' s q beat l w.0 (omega (arith, w.1))))
    (λ (other : is_own (first + i) (j - i) s ≡ false). from-out first i j sent (Some (s, q)) beat other ∙ sym (from-out first i j sent' (Some (s, q)) beat other))
    (cases_bool (is_own (first + i) (j - i) s))

-- a wire that begins at no inner router, once the routers at the edge have put their beats
edge-wire : (first a b n : ℕ) (sent : List (List Beat)) (from : Option (ℕ × ℕ)) → a ≤ b → b ≤ n → is_from (first + a) (b - a) from ≡ false
    → put_from first b n sent from (put_from first 0 a sent from idle_beat) ≡ beat_among first n sent from
edge-wire first a b n sent None l m h = refl
edge-wire first a b n sent (Some (s, q)) l m h =
    ⊎_elim (λ (x : s < first + a).
    put-out first b n sent s q first-put m (inl (omega arith))
    ∙ ⊎_elim (λ (y : s < first). put-out first 0 a sent s q idle_beat (omega arith) (inl (omega arith)) ∙ sym (among-out first n sent s q (inl y)))
    (λ (y : first ≤ s). put-in first 0 a sent s q idle_beat (omega arith) (omega arith) x ∙ sym (among-in first n sent s q y (omega arith)))
    (cases_lt s first))
    (λ (x : first + a ≤ s).
    ⊎_elim (λ (y : s < first + b). absurd (false≢true (sym h ∙ between first a b s l x y)))
    (λ (y : first + b ≤ s).
    ⊎_elim (λ (z : s < first + n). put-in first b n sent s q first-put m y z ∙ sym (among-in first n sent s q (omega arith) z))
    (λ (z : first + n ≤ s). put-out first b n sent s q first-put m (inr z) ∙ put-out first 0 a sent s q idle_beat (omega arith) (inr x) ∙ sym (among-out first n sent s q (inr z)))
    (cases_lt s (first + n)))
    (cases_lt s (first + b)))
    (cases_lt s (first + a))
  where
    first-put : Beat
    first-put = put_from first 0 a sent (Some (s, q)) idle_beat

-- any wire, once the inner routers have put their beats too
whole-wire : (first a b n : ℕ) (sent : List (List Beat)) (from : Option (ℕ × ℕ)) → a ≤ b → b ≤ n
    → put_from first a b sent from (put_from first b n sent from (put_from first 0 a sent from idle_beat)) ≡ beat_among first n sent from
whole-wire first a b n sent None l m = refl
whole-wire first a b n sent (Some (s, q)) l m =
    ⊎_elim (λ (own : is_own (first + a) (b - a) s ≡ true).
    let w = own-within (first + a) (b - a) s own in
    put-in first a b sent s q edge l w.0 (omega (arith, w.1)) ∙ sym (among-in first n sent s q (omega (arith, w.0)) (omega (arith, w.1))))
    (λ (other : is_own (first + a) (b - a) s ≡ false). from-out first a b sent (Some (s, q)) edge other ∙ edge-wire first a b n sent (Some (s, q)) l m other)
    (cases_bool (is_own (first + a) (b - a) s))
  where
    edge : Beat
    edge = put_from first b n sent (Some (s, q)) (put_from first 0 a sent (Some (s, q)) idle_beat)

-- ---- who can finish

pub can-part : (relation : Routes) (i j i' j' : ℕ) (t : Tile) → CanFinish relation i j t → i ≤ i' → i' ≤ j' → j' ≤ j → CanFinish relation i' j' t
can-part relation i j i' j' t can l m n = record {
  order = m;
  within = omega (arith, can.within);
  wide = can.wide;
  count = can.count;
  built = λ k d u v. can.built k d (omega arith) (omega arith);
  site = λ k d u v. can.site k d (omega arith) (omega arith);
  idle = λ r q u f. can.idle r q u (from-wider t.first i j i' j' (neighbour relation.grid r q) l m n f);
}

-- those that are not among the ones that have finished still can
pub can-after : (relation : Routes) (n : ℕ) (i j i' j' : ℕ) (a b : Tile) → HaveFinished relation n i j a b → CanFinish relation i' j' a → i ≤ j → (j ≤ i') ⊎ (j' ≤ i) → CanFinish relation i' j' b
can-after relation n i j i' j' a b done can l apart =
    let first : b.first ≡ a.first = ap (λ (t : Tile). t.first) done.rest in
    let other : (k : ℕ) → i' ≤ k → k < j' → (k < i) ⊎ (j ≤ k) = λ k u v. ⊎_elim (λ (x : j ≤ i'). inr (omega arith)) (λ (y : j' ≤ i). inl (omega arith)) apart in
    record {
      order = can.order;
      within = omega (arith, can.within, done.count);
      wide = omega (arith, can.wide, done.count, first);
      count = done.size ∙ can.count;
      built = λ k d u v. subst (IsRelationOf relation) (sym (done.others k d (other k u v))) (can.built k d u v);
      site = λ k d u v. ap (λ (w : View). w.site.node) (done.others k d (other k u v)) ∙ can.site k d u v ∙ ap (λ m. m + k) (sym first);
      idle = λ r q u f.
          let f' : is_from (a.first + i') (j' - i') (neighbour relation.grid r q) ≡ true = ap (λ m. is_from (m + i') (j' - i') (neighbour relation.grid r q)) (sym first) ∙ f in
          done.wires r q u
          ∙ from-out a.first i j (to_send relation n a.routers.items) (neighbour relation.grid r q) (beat_at a.beats.items r q) (from-apart a.first i j i' j' (neighbour relation.grid r q) l can.order apart f')
          ∙ can.idle r q u f';
    }

-- routers that have not finished still can, once some wires have become idle
pub can-cleared : (relation : Routes) (i j k : ℕ) (outs : List (ℕ × ℕ)) (a b : Tile) → CanFinish relation i j a → b ≡ record a { beats = b.beats; outs = b.outs }
    → length b.beats.items ≡ length a.beats.items → ((r q : ℕ) → IsCleared outs a.beats.items b.beats.items k r q) → CanFinish relation i j b
can-cleared relation i j k outs a b can rest size cleared =
    let first : b.first ≡ a.first = ap (λ (t : Tile). t.first) rest in
    let routers : b.routers.items ≡ a.routers.items = ap (λ (t : Tile). t.routers.items) rest in
    record {
      order = can.order;
      within = omega (arith, can.within, ap length routers);
      wide = omega (arith, can.wide, ap length routers, first);
      count = size ∙ can.count;
      built = λ m d u v. subst (λ vs. IsRelationOf relation (get_or vs m d)) (sym routers) (can.built m d u v);
      site = λ m d u v. ap (λ vs. (get_or vs m d).site.node) routers ∙ can.site m d u v ∙ ap (λ x. x + m) (sym first);
      idle = λ r q u f. at r q u (ap (λ x. is_from (x + i) (j - i) (neighbour relation.grid r q)) (sym first) ∙ f) (cleared r q);
    }
  where
    at : (r q : ℕ) → r < nodes relation.grid → is_from (a.first + i) (j - i) (neighbour relation.grid r q) ≡ true → IsCleared outs a.beats.items b.beats.items k r q → beat_at b.beats.items r q ≡ idle_beat
    at r q u f (inl h) = h.3
    at r q u f (inr h) = h.1 ∙ can.idle r q u f

-- ---- what has become of them

sent-same : (relation : Routes) (n : ℕ) (vs ws : List View) (k : ℕ) (d : View) → k < length vs → k < length ws → get_or vs k d ≡ get_or ws k d → get_or (to_send relation n vs) k [] ≡ get_or (to_send relation n ws) k []
sent-same relation n vs ws k d l m same =
    let put = λ (v : View). (view_after_finish relation n v).to_put in
    get_or-map put vs k d [] l ∙ ap put same ∙ sym (get_or-map put ws k d [] m)

-- the tile before all, after the routers at its edge below the inner ones and after those above
-- them, with some wires idle, and after the inner ones
module _ (relation : Routes) (n : ℕ) (i j : ℕ) (t1 t2 t3 t4 t5 : Tile) (order : i ≤ j) (within : j ≤ length t1.routers.items) (one : HaveFinished relation n 0 i t1 t2) (two : HaveFinished relation n j (length t1.routers.items) t2 t3)
    (rest : t4 ≡ record t3 { beats = t4.beats; outs = t4.outs }) (three : HaveFinished relation n i j t4 t5) where
  abbrev pub sent : List (List Beat)
  sent = to_send relation n t1.routers.items

  first2 : t2.first ≡ t1.first
  first2 = ap (λ (t : Tile). t.first) one.rest

  first4 : t4.first ≡ t1.first
  first4 = ap (λ (t : Tile). t.first) rest ∙ ap (λ (t : Tile). t.first) two.rest ∙ first2

  routers4 : t4.routers.items ≡ t3.routers.items
  routers4 = ap (λ (t : Tile). t.routers.items) rest

  pub count5 : length t5.routers.items ≡ length t1.routers.items
  count5 = three.count ∙ ap length routers4 ∙ two.count ∙ one.count

  still2 : (k : ℕ) (d : View) → i ≤ k → get_or t2.routers.items k d ≡ get_or t1.routers.items k d
  still2 k d l = one.others k d (inr l)

  still4 : (k : ℕ) (d : View) → i ≤ k → k < j → get_or t4.routers.items k d ≡ get_or t1.routers.items k d
  still4 k d l m = ap (λ vs. get_or vs k d) routers4 ∙ two.others k d (inl m) ∙ still2 k d l

  below5 : (k : ℕ) (d : View) → k < i → get_or t5.routers.items k d ≡ get_or t2.routers.items k d
  below5 k d l = three.others k d (inl l) ∙ ap (λ vs. get_or vs k d) routers4 ∙ two.others k d (inl (omega arith))

  above5 : (k : ℕ) (d : View) → j ≤ k → get_or t5.routers.items k d ≡ get_or t3.routers.items k d
  above5 k d l = three.others k d (inr l) ∙ ap (λ vs. get_or vs k d) routers4

  abbrev finished : View → View
  finished v = view_after_puts (view_after_finish relation n v)

  pub views5 : (k : ℕ) (d : View) → k < length t1.routers.items → get_or t5.routers.items k d ≡ finished (get_or t1.routers.items k d)
  views5 k d l =
      ⊎_elim (λ (x : k < i). below5 k d x ∙ one.views k d (omega arith) x)
      (λ (x : i ≤ k).
      ⊎_elim (λ (y : k < j). three.views k d x y ∙ ap finished (still4 k d x y))
      (λ (y : j ≤ k). above5 k d y ∙ two.views k d y l ∙ ap finished (still2 k d x))
      (cases_lt k j))
      (cases_lt k i)

  module _ (d : View) (silent : (r q : ℕ) → beat_at t1.beats.items r q ≡ idle_beat) where
    wires3 : (r q : ℕ) → r < nodes relation.grid
        → beat_at t3.beats.items r q ≡ put_from t1.first j (length t1.routers.items) sent (neighbour relation.grid r q) (put_from t1.first 0 i sent (neighbour relation.grid r q) idle_beat)
    wires3 r q l =
        let from = neighbour relation.grid r q in
        let n1 = length t1.routers.items in
        two.wires r q l
        ∙ ap (λ m. put_from m j n1 (to_send relation n t2.routers.items) from (beat_at t2.beats.items r q)) first2
        ∙ from-same t1.first j n1 (to_send relation n t2.routers.items) sent from (beat_at t2.beats.items r q) within
        (λ k u v. sent-same relation n t2.routers.items t1.routers.items k d (omega (arith, one.count, v)) v (still2 k d (omega arith)))
        ∙ ap (put_from t1.first j n1 sent from) (one.wires r q l ∙ ap (put_from t1.first 0 i sent from) (silent r q))

    pub edge3 : (r q : ℕ) → r < nodes relation.grid → is_from (t1.first + i) (j - i) (neighbour relation.grid r q) ≡ false
        → beat_at t3.beats.items r q ≡ beat_among t1.first (length t1.routers.items) sent (neighbour relation.grid r q)
    edge3 r q l h = wires3 r q l ∙ edge-wire t1.first i j (length t1.routers.items) sent (neighbour relation.grid r q) order within h

    wires5 : (r q : ℕ) → r < nodes relation.grid → beat_at t5.beats.items r q ≡ put_from t1.first i j sent (neighbour relation.grid r q) (beat_at t4.beats.items r q)
    wires5 r q l =
        let from = neighbour relation.grid r q in
        three.wires r q l
        ∙ ap (λ m. put_from m i j (to_send relation n t4.routers.items) from (beat_at t4.beats.items r q)) first4
        ∙ from-same t1.first i j (to_send relation n t4.routers.items) sent from (beat_at t4.beats.items r q) order
        (λ k u v. sent-same relation n t4.routers.items t1.routers.items k d (omega (arith, ap length routers4, two.count, one.count, v, within)) (omega (arith, v, within)) (still4 k d u v))

    pub whole5 : (r q : ℕ) → r < nodes relation.grid → beat_at t4.beats.items r q ≡ beat_at t3.beats.items r q → beat_at t5.beats.items r q ≡ beat_among t1.first (length t1.routers.items) sent (neighbour relation.grid r q)
    whole5 r q l same =
        wires5 r q l ∙ ap (put_from t1.first i j sent (neighbour relation.grid r q)) (same ∙ wires3 r q l)
        ∙ whole-wire t1.first i j (length t1.routers.items) sent (neighbour relation.grid r q) order within

    pub kept5 : (r q : ℕ) → r < nodes relation.grid → is_from (t1.first + i) (j - i) (neighbour relation.grid r q) ≡ false → beat_at t5.beats.items r q ≡ beat_at t4.beats.items r q
    kept5 r q l h = wires5 r q l ∙ from-out t1.first i j sent (neighbour relation.grid r q) (beat_at t4.beats.items r q) h
