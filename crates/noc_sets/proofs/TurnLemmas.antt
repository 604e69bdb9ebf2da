-- Round-robin choices by masks.
use Rattle.std.proofs.Common.{◌≡◌, ◌≢◌, ℕ, ◌+◌, ◌-◌, ◌*◌, ◌%◌, ◌^◌, ◌<◌, ◌≤◌, Bool, true, false, Some, refl, ap, sym, ◌∙◌, arith, inl, inr, bit_and, mod-eq_of_lt}
use Rattle.std.specs.Prelude.{nat_eq, nat_le, nat_lt, if◌then◌else◌, ◌⊎◌, ◌&&◌, not}
use Rattle.std.proofs.lemmas.Bool.{eq-eqb, ne_eqb, cases_eq, cases_lt, false≢true, le-leb, lt-leb, leb-true, lt-ltb, le-ltb, and_parts}
use Rattle.std.proofs.Math.Nat.{mod_self}
use Rattle.noc_topo.specs.Lists.{is_some_of}
use Rattle.noc_packet.specs.Set.{has_bit, IsLeast}
use Rattle.noc_packet.proofs.SetLemmas.{both_members, has_bit-zero}
use Rattle.noc_alloc.specs.Arbiter.{first_in_turn}
use Rattle.noc_alloc.proofs.ArbiterLemmas.{first_in_turn-at, first_in_turn-before, first_in_turn-none}
use Rattle.noc_alloc.specs.Members.{MembersAreBelow}
use Rattle.noc_sets.specs.Sets.{least, lowest}
use Rattle.noc_sets.specs.Turns.{in_turn, ShowsPointer, first_bit}
use Rattle.noc_sets.proofs.MemberLemmas.{lowest-is, less_members, and_fits, least_is, lowest_members, zero_members}

alone : (b : Bool) → (b && true) ≡ b
alone true = refl
alone false = refl

module _ (n p requests mask : ℕ) (fits : requests < 2 ^ 64) (below : MembersAreBelow n requests) (pointer : p < n) (shows : ShowsPointer n mask 0 p) where
  high-bit : (k : ℕ) → has_bit (bit_and requests mask) k ≡ (has_bit requests k && has_bit mask k)
  high-bit k = both_members requests mask k

  place : (k : ℕ) → 0 * n + k ≡ k
  place k = omega arith

  free-of : (y : ℕ) → p ≤ y → y < n → ((c : ℕ) → c < n → has_bit mask (0 * n + c) ≡ nat_le p c) → has_bit (bit_and requests mask) y ≡ false → has_bit requests y ≡ false
  free-of y ly lu from none =
      sym (alone (has_bit requests y)) ∙ ap (λ b. has_bit requests y && b) (sym (ap (has_bit mask) (sym (place y)) ∙ from y lu ∙ le-leb p y ly)) ∙ sym (high-bit y) ∙ none

  ahead : (t : ℕ) → IsLeast (has_bit (bit_and requests mask)) (Some t) → first_in_turn n p (has_bit requests) ≡ Some t
  ahead t least = side shows
    where
      both : (has_bit requests t ≡ true) × (has_bit mask t ≡ true)
      both = and_parts (has_bit requests t) (has_bit mask t) (sym (high-bit t) ∙ least.0)

      within : t < n
      within = below t both.0

      side : ShowsPointer n mask 0 p → first_in_turn n p (has_bit requests) ≡ Some t
      side (inl from) =
          first_in_turn-at n p t (has_bit requests) (leb-true p t (sym (ap (has_bit mask) (sym (place t)) ∙ from t within) ∙ both.1)) within both.0
          (λ y ly lu. free-of y ly (omega (arith, within)) from (least.1 y lu))
      side (inr none) = absurd (false≢true (sym (ap (has_bit mask) (sym (place t)) ∙ none.1 t within) ∙ both.1))

  behind : (t : ℕ) → bit_and requests mask ≡ 0 → IsLeast (has_bit requests) (Some t) → first_in_turn n p (has_bit requests) ≡ Some t
  behind t nobody least = side shows
    where
      within : t < n
      within = below t least.0

      side : ShowsPointer n mask 0 p → first_in_turn n p (has_bit requests) ≡ Some t
      side (inl from) = first_in_turn-before n p t (has_bit requests) (before (cases_lt t p)) (omega arith) least.0 free (λ y l. least.1 y l)
        where
          free : (y : ℕ) → p ≤ y → y < n → has_bit requests y ≡ false
          free y ly lu = free-of y ly lu from (ap (λ m. has_bit m y) nobody ∙ has_bit-zero y)

          before : (t < p) ⊎ (p ≤ t) → t < p
          before (inl l) = l
          before (inr u) = absurd (false≢true (sym (free t u within) ∙ least.0))
      side (inr none) = first_in_turn-at n p t (has_bit requests) (omega (arith, none.0)) within least.0 (λ y _ lu. least.1 y lu)

  -- the bit of the one that comes first
  pub first-members : (k : ℕ) → has_bit (first_bit requests mask) k ≡ is_some_of (first_in_turn n p (has_bit requests)) k
  first-members k = at (cases_lt 0 (bit_and requests mask)) (cases_lt 0 requests)
    where
      at : (0 < bit_and requests mask) ⊎ (bit_and requests mask ≤ 0) → (0 < requests) ⊎ (requests ≤ 0) → has_bit (first_bit requests mask) k ≡ is_some_of (first_in_turn n p (has_bit requests)) k
      at (inl some) _ =
          let t : ℕ = least (bit_and requests mask) in
          let small : bit_and requests mask < 2 ^ 64 = and_fits requests mask fits in
          let is_least : IsLeast (has_bit (bit_and requests mask)) (Some (least (bit_and requests mask))) = least_is (bit_and requests mask) some small in
          rw (ne_eqb (bit_and requests mask) 0 (λ e. absurd (omega arith)))
          (lowest_members (bit_and requests mask) (least (bit_and requests mask)) k is_least
          ∙ same k (least (bit_and requests mask))
          ∙ ap (λ o. is_some_of o k) (sym (ahead (least (bit_and requests mask)) is_least)))
        where
          same : (a b : ℕ) → nat_eq a b ≡ nat_eq b a
          same a b = by (cases_eq a b)
            where
              by : (a ≡ b) ⊎ (a ≡ b → ⊥) → nat_eq a b ≡ nat_eq b a
              by (inl e) = eq-eqb a b e ∙ sym (eq-eqb b a (sym e))
              by (inr o) = ne_eqb a b o ∙ sym (ne_eqb b a (λ e. o (sym e)))
      at (inr none) (inl some) =
          let z : bit_and requests mask ≡ 0 = omega arith in
          let is_least : IsLeast (has_bit requests) (Some (least requests)) = least_is requests some fits in
          rw (eq-eqb (bit_and requests mask) 0 z)
          (lowest_members requests (least requests) k is_least
          ∙ same k (least requests)
          ∙ ap (λ o. is_some_of o k) (sym (behind (least requests) z is_least)))
        where
          same : (a b : ℕ) → nat_eq a b ≡ nat_eq b a
          same a b = by (cases_eq a b)
            where
              by : (a ≡ b) ⊎ (a ≡ b → ⊥) → nat_eq a b ≡ nat_eq b a
              by (inl e) = eq-eqb a b e ∙ sym (eq-eqb b a (sym e))
              by (inr o) = ne_eqb a b o ∙ sym (ne_eqb b a (λ e. o (sym e)))
      at (inr none) (inr nobody) =
          let z : bit_and requests mask ≡ 0 = omega arith in
          let zz : requests ≡ 0 = omega arith in
          rw (eq-eqb (bit_and requests mask) 0 z)
          (ap (λ m. has_bit (lowest m) k) zz ∙ zero_members k
          ∙ ap (λ o. is_some_of o k) (sym (first_in_turn-none n p (has_bit requests) (λ y _. ap (λ m. has_bit m y) zz ∙ has_bit-zero y))))

-- the mask past winner x
pub mask-past : (n x mask : ℕ) → x < n → ((c : ℕ) → c < n → has_bit mask c ≡ nat_lt x c) → ShowsPointer n mask 0 ((x + 1) % n)
mask-past n x mask l past = at (cases_lt (x + 1) n)
  where
    next : (c : ℕ) → nat_lt x c ≡ nat_le (x + 1) c
    next c = elim (cases_lt x c) [ inl l ↦ lt-ltb x c l ∙ sym (le-leb (x + 1) c (omega arith)) | inr l ↦ le-ltb x c l ∙ sym (lt-leb (x + 1) c (omega arith)) ]

    bit : (c : ℕ) → c < n → has_bit mask (0 * n + c) ≡ nat_le (x + 1) c
    bit c lc = let e : 0 * n + c ≡ c = omega arith in ap (has_bit mask) e ∙ past c lc ∙ next c

    at : (x + 1 < n) ⊎ (n ≤ x + 1) → ShowsPointer n mask 0 ((x + 1) % n)
    at (inl less_than) = inl (λ c lc. bit c lc ∙ ap (λ m. nat_le m c) (sym (mod-eq_of_lt less_than)))
    at (inr last) =
        let same : x + 1 ≡ n = omega arith in
        inr (
          ap (λ m. m % n) same ∙ mod_self n,
          λ c lc. bit c lc ∙ lt-leb (x + 1) c (omega arith),
        )

-- ---- the one that comes first
pub first-among : (requests mask k : ℕ) → has_bit (first_bit requests mask) k ≡ true → has_bit requests k ≡ true
first-among requests mask k e = among (in_turn-among (nat_eq (bit_and requests mask) 0) (low e))
  where
    low : has_bit (lowest (in_turn requests mask)) k ≡ true → has_bit (in_turn requests mask) k ≡ true
    low h = (and_parts (has_bit (in_turn requests mask) k) (not (has_bit (in_turn requests mask - 1) k)) (sym (less_members (in_turn requests mask) (in_turn requests mask - 1) k) ∙ h)).0

    in_turn-among : (b : Bool) → has_bit (if b then requests else bit_and requests mask) k ≡ true → (has_bit requests k ≡ true) ⊎ (has_bit (bit_and requests mask) k ≡ true)
    in_turn-among true h = inl h
    in_turn-among false h = inr h

    among : (has_bit requests k ≡ true) ⊎ (has_bit (bit_and requests mask) k ≡ true) → has_bit requests k ≡ true
    among (inl h) = h
    among (inr h) = (and_parts (has_bit requests k) (has_bit mask k) (sym (both_members requests mask k) ∙ h)).0

-- the first in turn is one alone, where there are requests
pub first-is : (requests mask : ℕ) → 0 < requests → requests < 2 ^ 64 → (0 < in_turn requests mask) × (in_turn requests mask < 2 ^ 64) × (first_bit requests mask ≡ 2 ^ least (in_turn requests mask))
first-is requests mask some fits = let p = parts (cases_eq (bit_and requests mask) 0) in (p.0, p.1, lowest-is (in_turn requests mask) p.0 p.1)
  where
    parts : (bit_and requests mask ≡ 0) ⊎ (bit_and requests mask ≢ 0) → (0 < in_turn requests mask) × (in_turn requests mask < 2 ^ 64)
    parts (inl z) = rw (eq-eqb (bit_and requests mask) 0 z) (some, fits)
    parts (inr o) = rw (ne_eqb (bit_and requests mask) 0 o) (omega arith, and_fits requests mask fits)
