-- A word turned by a distance has of each router what the one so far from it had.
use Rattle.std.proofs.Common.{◌≡◌, ◌⊎◌, ℕ, ◌+◌, ◌-◌, ◌*◌, ◌/◌, ◌%◌, ◌^◌, ◌<◌, ◌≤◌, Bool, true, false, List, Option, Some, None, arith, ap, ap₂, sym, ◌∙◌, refl, inl, inr, bit_and, bit_or, slice_index, w64}
use Rattle.std.specs.Prelude.{◌&&◌, ◌||◌, not, nat_eq, if◌then◌else◌}
use Rattle.std.specs.Int.{bit_at, rotate_right}
use Rattle.std.proofs.lemmas.Bool.{and_parts, cases_lt, eq-eqb, eqb-true, lt-ltb, not-true, true≢false}
use Rattle.std.proofs.lemmas.Nat.{shr_split}
use Rattle.std.proofs.lemmas.Nat.Bits.{bit_at_cat_low}
use Rattle.noc_packet.specs.Set.{has_bit}
use Rattle.noc_packet.proofs.SetLemmas.{both_members, either_members, has_bit-above}
use Rattle.noc_sets.specs.Sets.{up_by}
use Rattle.noc_sets.specs.Gather.{goes_round, goes_straight, is_over, round, span, straight, stride}
use Rattle.noc_sets.proofs.DistanceLemmas.{neighbour-by, span-fits, stride-fits}
use Rattle.noc_sets.specs.Unions.{some_below}
use Rattle.noc_sets.proofs.MemberLemmas.{down_members, or-false, up_members, up_none}
use Rattle.noc_topo.specs.Shape.{Grid, IsGrid, is_plus, local_port, neighbour, nodes, opposite}
use Rattle.noc_columns.specs.Near.{ArePlaces, ArePlacesOf, Places, comes_by, comes_from, distance_by, lands_at, leads}
use Rattle.noc_columns.specs.Words.{word}
use Rattle.noc_columns.proofs.PickLemmas.{find-first, some-each}

low-members : (a k n : ℕ) → k < n → has_bit (a % 2 ^ n) k ≡ has_bit a k
low-members a k n l = ap (λ m. nat_eq m 1) (sym (bit_at_cat_low (a / 2 ^ n) n (a % 2 ^ n) k l) ∙ ap (λ x. bit_at x k) (shr_split a n))

module _ (word distance r : ℕ) (fits : word < 2 ^ 64) (near : distance < 64) (few : r < 64) where
  down-is : has_bit (word / 2 ^ distance) r ≡ has_bit word (distance + r)
  down-is = down_members word distance r

  up-is : (back : ℕ) → has_bit (word * 2 ^ back % 2 ^ 64) r ≡ has_bit (up_by word back) r
  up-is back = low-members (word * 2 ^ back) r 64 few

  both-is : (back : ℕ) → back ≡ 64 - distance → (has_bit word (distance + r) || has_bit (up_by word back) r) ≡ has_bit word ((r + distance) % 64)
  both-is back e = at (cases_lt (r + distance) 64)
    where
      at : (r + distance < 64) ⊎ (64 ≤ r + distance) → (has_bit word (distance + r) || has_bit (up_by word back) r) ≡ has_bit word ((r + distance) % 64)
      at (inl l) =
          ap (λ x. has_bit word (distance + r) || x) (up_none word back r (omega (arith, e, near, l)))
          ∙ or-false (has_bit word (distance + r))
          ∙ ap (has_bit word) (let f : distance + r ≡ (r + distance) % 64 = omega (arith, l) in f)
      at (inr l) =
          ap₂ (λ x y. x || y) (has_bit-above word 64 (distance + r) fits (omega (arith, l)))
          (up_members word back r (omega (arith, e, near, l)) ∙ ap (has_bit word) (let f : r - back ≡ (r + distance) % 64 = omega (arith, e, l, near, few) in f))

  -- forth and back, where the one is turned so far on
  turn-is : (back : ℕ) → back ≡ (64 - distance) % 64 → has_bit (bit_or (word / 2 ^ distance) (word * 2 ^ back % 2 ^ 64)) r ≡ has_bit word ((r + distance) % 64)
  turn-is back e =
      either_members (word / 2 ^ distance) (word * 2 ^ back % 2 ^ 64) r
      ∙ ap₂ (λ x y. x || y) down-is (up-is back)
      ∙ at (cases_lt 0 distance)
    where
      or-same : (b : Bool) → (b || b) ≡ b
      or-same true = refl
      or-same false = refl

      at : (0 < distance) ⊎ (distance ≤ 0) → (has_bit word (distance + r) || has_bit (up_by word back) r) ≡ has_bit word ((r + distance) % 64)
      at (inl some) = both-is back (omega (arith, e, near, some))
      at (inr none) =
          ap₂ (λ x y. x || y)
          (ap (has_bit word) (let f : distance + r ≡ (r + distance) % 64 = omega (arith, none, few) in f))
          (up_members word back r (omega (arith, e, none)) ∙ ap (has_bit word) (let f : r - back ≡ (r + distance) % 64 = omega (arith, e, none, few) in f))
          ∙ or-same (has_bit word ((r + distance) % 64))

  masked-is : (mask turned : ℕ) → has_bit turned r ≡ has_bit word ((r + distance) % 64) → has_bit (bit_and turned mask) r ≡ comes_from distance mask word r
  masked-is mask turned e = both_members turned mask r ∙ ap (λ x. x && has_bit mask r) e ∙ turn (has_bit word ((r + distance) % 64)) (has_bit mask r)
    where
      turn : (a b : Bool) → (a && b) ≡ (b && a)
      turn true true = refl
      turn true false = refl
      turn false true = refl
      turn false false = refl

  pub turned-is : (back mask : ℕ) → back ≡ (64 - distance) % 64 → has_bit (bit_and (bit_or (word / 2 ^ distance) (word * 2 ^ back % 2 ^ 64)) mask) r ≡ comes_from distance mask word r
  turned-is back mask e = masked-is mask _ (turn-is back e)

  -- at once
  pub turned_alone-is : (mask by : ℕ) → by ≡ distance → has_bit (bit_and (rotate_right w64 word by) mask) r ≡ comes_from distance mask word r
  turned_alone-is mask by e =
      let low : by % 64 ≡ distance = omega (arith, e, near) in
      ap (λ d. has_bit (bit_and (bit_or (word / 2 ^ d) (word * 2 ^ ((64 - d) % 64) % 2 ^ 64)) mask) r) low
      ∙ turned-is ((64 - distance) % 64) mask refl

-- ---- what comes over a link
pub brought-is : (g : Grid) (s p v vcs : ℕ) (places : Places) (sent words : ℕ → ℕ) → ArePlaces g s p places
    → ((b r : ℕ) → r < 64 → has_bit (words (64 * b + r)) (opposite p * vcs + v) ≡ has_bit (sent b) r)
    → comes_by places sent (s % 64) ≡ is_over vcs words v (neighbour g s p)
brought-is g s p v vcs places sent words are stands = elim (find-first places.count there) [
  | inl none ↦ none ∙ sym (nobody none (neighbour g s p) refl)
  | inr found ↦
      let parts = and_parts (has_bit (places.mask found.0) (s % 64)) _ found.2 in
      some-each places.count there found.0 found.1 found.2
      ∙ sym (ap (is_over vcs words v) (are.right found.0 found.1 parts.0) ∙ stands (places.block found.0) _ (below (s % 64 + places.distance found.0)) ∙ parts.1)
]
  where
    there : ℕ → Bool
    there j = comes_from (places.distance j) (places.mask j) (sent (places.block j)) (s % 64)

    below : (n : ℕ) → n % 64 < 64
    below n = omega arith

    nobody : some_below places.count there ≡ false → (o : Option (ℕ × ℕ)) → neighbour g s p ≡ o → is_over vcs words v (neighbour g s p) ≡ false
    nobody none None e = ap (is_over vcs words v) e
    nobody none (Some (t, q)) e =
        let one = are.some t q e in
        let right = are.right one.0 one.1 one.2 in
        let here = stands (places.block one.0) _ (below (s % 64 + places.distance one.0)) in
        ap (is_over vcs words v) right ∙ here ∙ free one.0 one.1 one.2 (has_bit (sent (places.block one.0)) ((s % 64 + places.distance one.0) % 64)) refl
      where
        free : (j : ℕ) → j < places.count → has_bit (places.mask j) (s % 64) ≡ true → (b : Bool) → has_bit (sent (places.block j)) ((s % 64 + places.distance j) % 64) ≡ b → has_bit (sent (places.block j)) ((s % 64 + places.distance j) % 64) ≡ false
        free j l m false e = e
        free j l m true e = absurd (true≢false (sym (some-each places.count there j l (ap₂ (λ x y. x && y) m e)) ∙ none))

-- ---- in a mesh or a torus
module _ (g : Grid) (sound : IsGrid g) (s p : ℕ) (known : s < nodes g) (link : p < local_port g) where
  -- where a port leads, so far on
  there-is : (way : Bool) → leads g s p way ≡ true → lands_at g s p way % 64 ≡ (s % 64 + distance_by g p way) % 64
  there-is false leads = at (is_plus p) refl
    where
      at : (up : Bool) → is_plus p ≡ up → straight g s p % 64 ≡ (s % 64 + distance_by g p false) % 64
      at true e =
          ap (λ b. (if b then s + stride g (p / 2) else s - stride g (p / 2)) % 64) e
          ∙ forward (stride g (p / 2))
          ∙ ap (λ b. (s % 64 + (if b then stride g (p / 2) % 64 else (64 - stride g (p / 2) % 64) % 64)) % 64) (sym e)
        where
          forward : (n : ℕ) → (s + n) % 64 ≡ (s % 64 + n % 64) % 64
          forward n = omega arith
      at false e =
          let fits = stride-fits g sound s p known link e leads in
          ap (λ b. (if b then s + stride g (p / 2) else s - stride g (p / 2)) % 64) e
          ∙ backward (stride g (p / 2)) fits
          ∙ ap (λ b. (s % 64 + (if b then stride g (p / 2) % 64 else (64 - stride g (p / 2) % 64) % 64)) % 64) (sym e)
        where
          backward : (n : ℕ) → n ≤ s → (s - n) % 64 ≡ (s % 64 + (64 - n % 64) % 64) % 64
          backward n l = omega (arith, l)
  there-is true leads = at (is_plus p) refl
    where
      at : (up : Bool) → is_plus p ≡ up → round g s p % 64 ≡ (s % 64 + distance_by g p true) % 64
      at true e =
          let fits = span-fits g sound s p known link e leads in
          ap (λ b. (if b then s - span g (p / 2) else s + span g (p / 2)) % 64) e
          ∙ backward (span g (p / 2)) fits
          ∙ ap (λ b. (s % 64 + (if b then (64 - span g (p / 2) % 64) % 64 else span g (p / 2) % 64)) % 64) (sym e)
        where
          backward : (n : ℕ) → n ≤ s → (s - n) % 64 ≡ (s % 64 + (64 - n % 64) % 64) % 64
          backward n l = omega (arith, l)
      at false e =
          ap (λ b. (if b then s - span g (p / 2) else s + span g (p / 2)) % 64) e
          ∙ forward (span g (p / 2))
          ∙ ap (λ b. (s % 64 + (if b then (64 - span g (p / 2) % 64) % 64 else span g (p / 2) % 64)) % 64) (sym e)
        where
          forward : (n : ℕ) → (s + n) % 64 ≡ (s % 64 + n % 64) % 64
          forward n = omega arith

  by-way : neighbour g s p ≡ (if goes_straight g s p then Some (straight g s p, opposite p) else if goes_round g s p then Some (round g s p, opposite p) else None)
  by-way = neighbour-by g sound s p known
      ∙ ap (λ b. if b then (if goes_straight g s p then Some (straight g s p, opposite p) else if goes_round g s p then Some (round g s p, opposite p) else None) else None) (lt-ltb p (local_port g) link)

  pub neighbour-is : (way : Bool) → leads g s p way ≡ true → neighbour g s p ≡ Some (lands_at g s p way, opposite p)
  neighbour-is false leads = by-way ∙ ap (λ b. if b then Some (straight g s p, opposite p) else if goes_round g s p then Some (round g s p, opposite p) else None) leads
  neighbour-is true leads =
      by-way
      ∙ ap (λ b. if b then Some (straight g s p, opposite p) else if goes_round g s p then Some (round g s p, opposite p) else None) (not-true (goes_straight g s p) (and_parts g.wraps (not (goes_straight g s p)) leads).1)
      ∙ ap (λ b. if b then Some (round g s p, opposite p) else None) leads

  some-way : (t q : ℕ) → neighbour g s p ≡ Some (t, q) → (way : Bool) × (leads g s p way ≡ true)
  some-way t q e = at (goes_straight g s p) (goes_round g s p) refl refl
    where
      at : (a b : Bool) → goes_straight g s p ≡ a → goes_round g s p ≡ b → (way : Bool) × (leads g s p way ≡ true)
      at true b d f = (false, d)
      at false true d f = (true, f)
      at false false d f = absurd (none≢some (sym (by-way ∙ ap₂ (λ x y. if x then Some (straight g s p, opposite p) else if y then Some (round g s p, opposite p) else None) d f) ∙ e))
        where
          none≢some : {x : ℕ × ℕ} → ◌≡◌ {A = Option (ℕ × ℕ)} None (Some x) → ⊥
          none≢some same = true≢false (ap is_none same)
            where
              is_none : Option (ℕ × ℕ) → Bool
              is_none None = true
              is_none (Some y) = false

pub are-places : (g : Grid) (b p s : ℕ) (far : ℕ → Bool) (places : Places) → IsGrid g → p < local_port g → ArePlacesOf g b p far places → s / 64 ≡ b → s < nodes g → ArePlaces g s p places
are-places g b p s far places sound link are block known = record {
  right = λ j l m.
      let parts = and_parts (leads g s p (far j)) _ (sym (are.mask j s l block known) ∙ m) in
      let there = lands_at g s p (far j) in
      let at : there / 64 ≡ places.block j = eqb-true (there / 64) (places.block j) parts.1 in
      let here : there ≡ 64 * places.block j + (s % 64 + places.distance j) % 64 =
      whole there (places.block j) ((s % 64 + places.distance j) % 64) at (there-is g sound s p known link (far j) parts.0 ∙ ap (λ d. (s % 64 + d) % 64) (sym (are.distance j l))) in
      neighbour-is g sound s p known link (far j) parts.0 ∙ ap (λ t. Some (t, opposite p)) here;
  some = λ t q e.
      let way = some-way g sound s p known link t q e in
      let one = are.all s way.0 block known way.1 in (
        one.0,
        one.1,
        are.mask one.0 s one.1 block known
            ∙ ap₂ (λ w n. leads g s p w && nat_eq n (places.block one.0)) one.2 (ap (λ w. lands_at g s p w / 64) one.2)
            ∙ ap₂ (λ x y. x && y) way.1 (eq-eqb _ _ (sym one.3)),
      );
}
  where
    whole : (t block low : ℕ) → t / 64 ≡ block → t % 64 ≡ low → t ≡ 64 * block + low
    whole t block low e f = omega (arith, e, f)

-- ---- four words more
pub four-next : (now new four : List ℕ) (came : ℕ → ℕ → Bool) (g : ℕ)
    → ((k r : ℕ) → k < 4 * g → r < 64 → has_bit (word k now) r ≡ came k r)
    → ((j r : ℕ) → j < 4 → r < 64 → has_bit (slice_index four j) r ≡ came (4 * g + j) r)
    → ((j : ℕ) → j < 4 → word (4 * g + j) new ≡ slice_index four j)
    → ((k : ℕ) → (k < 4 * g) ⊎ (4 * g + 4 ≤ k) → word k new ≡ word k now)
    → (k r : ℕ) → k < 4 * (g + 1) → r < 64 → has_bit (word k new) r ≡ came k r
four-next now new four came g done comes here others k r l few = elim (cases_lt k (4 * g)) [
  | inl below ↦ ap (λ w. has_bit w r) (others k (inl below)) ∙ done k r below few
  | inr above ↦
      let j = k - 4 * g in
      let whole : 4 * g + j ≡ k = omega (arith, above) in
      let in_four : j < 4 = omega (arith, above, l) in
      ap (λ i. has_bit (word i new) r) (sym whole) ∙ ap (λ w. has_bit w r) (here j in_four) ∙ comes j r in_four few ∙ ap (λ i. came i r) whole
]
