-- A router injects a flit of the packet that has begun, or begins the next one that is due.
use Rattle.std.proofs.Common.{◌≡◌, ◌≢◌, ℕ, ◌+◌, ◌-◌, ◌^◌, ◌<◌, ◌≤◌, Bool, true, false, List, arith, ap, sym, ◌∙◌, subst, refl, inl, inr, bit_and}
use Rattle.std.specs.Prelude.{◌⊎◌, ◌&&◌, ◌||◌, not, nat_eq, nat_le, if◌then◌else◌}
use Rattle.std.proofs.lemmas.Bool.{false≢true, leb-true}
use Rattle.std.proofs.lemmas.Nat.{pow_pos}
use Rattle.noc_sets.specs.Sets.{least}
use Rattle.noc_sets.proofs.MemberLemmas.{and_fits, least_is, lowest-is, or-false, zero_members}
use Rattle.noc_cycles.proofs.Common.{and_parts, cases_eq, eq-eqb, eqb-true, ne_eqb, true≢false, has_bit, both_members, has_bit-zero, zero_from_none, lowest, Source, Start, start_in, begun_if, sent_if}

-- a set has a least member exactly where it has one
pub lowest-none : (a : ℕ) → a < 2 ^ 64 → nat_eq (lowest a) 0 ≡ nat_eq a 0
lowest-none a fits = elim (cases_eq a 0) [
  | inl none ↦ eq-eqb (lowest a) 0 (ap lowest none ∙ zero_from_none (lowest 0) zero_members) ∙ sym (eq-eqb a 0 none)
  | inr some ↦
      let e = lowest-is a (omega (arith, some)) fits in
      let more = pow_pos (least a) in
      ne_eqb (lowest a) 0 (λ z. absurd (omega (arith, z, e, more))) ∙ sym (ne_eqb a 0 some)
]

-- one that is no member of any
pub is-some : (a k : ℕ) → has_bit a k ≡ true → a ≢ 0
is-some a k e none = true≢false (sym e ∙ ap (λ w. has_bit w k) none ∙ has_bit-zero k)

pub test-some : (a : ℕ) → not (nat_eq a 0) ≡ true → a ≢ 0
test-some a e none = false≢true (ap not (sym (eq-eqb a 0 none)) ∙ e)

module _ (injecting full free cycle due went begun : ℕ) (went_is : went ≡ bit_and injecting full) (begun_is : begun ≡ lowest (if nat_le due cycle && nat_eq injecting 0 then free else 0)) where
  began : begun ≢ 0 → (nat_le due cycle && nat_eq injecting 0) ≡ true
  began some = at (nat_le due cycle && nat_eq injecting 0) refl
    where
      at : (b : Bool) → (nat_le due cycle && nat_eq injecting 0) ≡ b → (nat_le due cycle && nat_eq injecting 0) ≡ true
      at true e = e
      at false e = absurd (some (begun_is ∙ ap (λ b. lowest (if b then free else 0)) e ∙ zero_from_none (lowest 0) zero_members))

  -- a packet begins where none is being injected, and it is due
  pub begun-free : begun ≢ 0 → injecting ≡ 0
  begun-free some = eqb-true injecting 0 (and_parts (nat_le due cycle) (nat_eq injecting 0) (began some)).1

  pub begun-due : begun ≢ 0 → due ≤ cycle
  begun-due some = leb-true due cycle (and_parts (nat_le due cycle) (nat_eq injecting 0) (began some)).0

  pub went-some : went ≢ 0 → injecting ≢ 0
  went-some some none = some (went_is ∙ zero_from_none (bit_and injecting full) (λ k. both_members injecting full k ∙ ap (λ w. has_bit w k && has_bit full k) none ∙ ap (λ b. b && has_bit full k) (has_bit-zero k)))

  pub is-apart : (went ≡ 0) ⊎ (begun ≡ 0)
  is-apart = elim (cases_eq begun 0) [
    | inl none ↦ inr none
    | inr some ↦ elim (cases_eq went 0) [ inl none ↦ inl none | inr also ↦ absurd (went-some also (begun-free some)) ]
  ]

  -- all that is being injected is the channel into which the flit goes
  pub went-all : injecting < 2 ^ 64 → ((v w : ℕ) → has_bit injecting v ≡ true → has_bit injecting w ≡ true → v ≡ w) → went ≢ 0 → (k : ℕ) → has_bit injecting k ≡ true → has_bit went k ≡ true
  went-all fits one some k e =
      let more : 0 < went = omega (arith, some) in
      let small : went < 2 ^ 64 = subst (λ x. x < 2 ^ 64) (sym went_is) (and_fits injecting full fits) in
      let there = (least_is went more small).0 in
      let inside = (and_parts (has_bit injecting (least went)) (has_bit full (least went)) (sym (both_members injecting full (least went)) ∙ sym (ap (λ w. has_bit w (least went)) went_is) ∙ there)).0 in
      ap (has_bit went) (one k (least went) e inside) ∙ there

-- where the last flit is not injected, the next packet is due when it was
pub due-kept : (starts : List Start) (begins went : Bool) (s : Source) → (begins ≡ true → went ≡ false)
    → ((went && nat_eq s.left 1) || (begins && nat_eq (start_in starts s.queue).length 1)) ≡ false → (begun_if starts begins (sent_if starts went s)).due ≡ s.due
due-kept starts true true s apart e = absurd (true≢false (apart refl))
due-kept starts false false s apart e = refl
due-kept starts false true s apart e = at (nat_eq s.left 1) (sym (or-false (nat_eq s.left 1)) ∙ e)
  where
    at : (b : Bool) → b ≡ false → (if b then record { due = (start_in starts (s.queue + 1)).due; left = 0; queue = s.queue + 1 } else record s { left = s.left - 1 }).due ≡ s.due
    at true f = absurd (true≢false f)
    at false f = refl
due-kept starts true false s apart e = at (nat_eq (start_in starts s.queue).length 1) e
  where
    at : (b : Bool) → b ≡ false → (if b then record { due = (start_in starts (s.queue + 1)).due; left = 0; queue = s.queue + 1 } else record s { left = (start_in starts s.queue).length - 1 }).due ≡ s.due
    at true f = absurd (true≢false f)
    at false f = refl
