-- One router in one word.
use Rattle.std.proofs.Common.{◌≡◌, ◌≢◌, ◌⊎◌, ℕ, ◌*◌, ◌%◌, ◌^◌, ◌<◌, ◌≤◌, Bool, true, false, List, length, arith, ap, ap₂, sym, ◌∙◌, refl, inl, inr, set, bit_or}
use Rattle.std.specs.Prelude.{◌&&◌, ◌||◌, not, nat_eq, nat_lt, if◌then◌else◌}
use Rattle.std.proofs.lemmas.Bool.{cases_eq, cases_lt, eq-eqb, le-ltb, lt-ltb, ne_eqb}
use Rattle.std.proofs.lemmas.Nat.{shl_whole}
use Rattle.noc_packet.specs.Set.{has_bit}
use Rattle.noc_packet.proofs.SetLemmas.{either_members}
use Rattle.noc_sets.specs.Sets.{less}
use Rattle.noc_sets.proofs.MemberLemmas.{less_members, power-members, same-word}
use Rattle.noc_columns.specs.Words.{AreApart, Numbering, set_of, word}
use Rattle.noc_columns.proofs.PassLemmas.{word-here, word-other}
use Rattle.noc_columns.proofs.SetLemmas.{below-members, below-same}

one-router : (router r : ℕ) → router < 64 → has_bit (1 * 2 ^ router % 2 ^ 64) r ≡ nat_eq r router
one-router router r few = ap (λ w. has_bit w r) (shl_whole 1 1 router 64 (omega arith) (omega (arith, few)) ∙ (let e : 1 * 2 ^ router ≡ 2 ^ router = omega arith in e)) ∙ power-members router r

-- a router in one word, and out of it
pub with-is : (routers router r : ℕ) → router < 64 → has_bit (bit_or routers (1 * 2 ^ router % 2 ^ 64)) r ≡ (if nat_eq r router then true else has_bit routers r)
with-is routers router r within =
    either_members routers (1 * 2 ^ router % 2 ^ 64) r
    ∙ ap (λ b. has_bit routers r || b) (one-router router r within)
    ∙ at (nat_eq r router) (has_bit routers r)
  where
    at : (a b : Bool) → (b || a) ≡ (if a then true else b)
    at true true = refl
    at true false = refl
    at false true = refl
    at false false = refl

pub without-is : (x routers router r : ℕ) → router < 64 → x ≡ less routers (1 * 2 ^ router % 2 ^ 64) → has_bit x r ≡ (if nat_eq r router then false else has_bit routers r)
without-is x routers router r within is =
    ap (λ w. has_bit w r) is
    ∙ less_members routers (1 * 2 ^ router % 2 ^ 64) r
    ∙ ap (λ b. has_bit routers r && not b) (one-router router r within)
    ∙ at (nat_eq r router) (has_bit routers r)
  where
    at : (a b : Bool) → (b && not a) ≡ (if a then false else b)
    at true true = refl
    at true false = refl
    at false true = refl
    at false false = refl

module _ (words : List ℕ) (index router : ℕ) (long : length words ≡ 72) (few : index < 72) (within : router < 64) where
  pub put-is : (k r : ℕ) → has_bit (word k (set words index (bit_or (word index words) (1 * 2 ^ router % 2 ^ 64)))) r ≡ ((nat_eq k index && nat_eq r router) || has_bit (word k words) r)
  put-is k r = at (cases_eq k index)
    where
      turn : (a b : Bool) → (a || b) ≡ (b || a)
      turn true true = refl
      turn true false = refl
      turn false true = refl
      turn false false = refl

      at : (k ≡ index) ⊎ (k ≢ index) → has_bit (word k (set words index (bit_or (word index words) (1 * 2 ^ router % 2 ^ 64)))) r ≡ ((nat_eq k index && nat_eq r router) || has_bit (word k words) r)
      at (inl same) =
          ap (λ j. has_bit (word j (set words index (bit_or (word index words) (1 * 2 ^ router % 2 ^ 64)))) r) same
          ∙ ap (λ w. has_bit w r) (word-here words index (bit_or (word index words) (1 * 2 ^ router % 2 ^ 64)) long few)
          ∙ either_members (word index words) (1 * 2 ^ router % 2 ^ 64) r
          ∙ ap (λ b. has_bit (word index words) r || b) (one-router router r within)
          ∙ turn (has_bit (word index words) r) (nat_eq r router)
          ∙ sym (ap₂ (λ a j. (a && nat_eq r router) || has_bit (word j words) r) (eq-eqb k index same) same)
      at (inr other) =
          ap (λ w. has_bit w r) (word-other words index (bit_or (word index words) (1 * 2 ^ router % 2 ^ 64)) k other)
          ∙ sym (ap (λ a. (a && nat_eq r router) || has_bit (word k words) r) (ne_eqb k index other))

  -- of one router it is taken from another word
  pub copied-is : (x from k r : ℕ) → ((s : ℕ) → has_bit x s ≡ (if has_bit (1 * 2 ^ router % 2 ^ 64) s then has_bit from s else has_bit (word index words) s))
      → has_bit (word k (set words index x)) r ≡ (if nat_eq k index && nat_eq r router then has_bit from r else has_bit (word k words) r)
  copied-is x from k r is = at (cases_eq k index)
    where
      at : (k ≡ index) ⊎ (k ≢ index) → has_bit (word k (set words index x)) r ≡ (if nat_eq k index && nat_eq r router then has_bit from r else has_bit (word k words) r)
      at (inl same) =
          ap (λ j. has_bit (word j (set words index x)) r) same
          ∙ ap (λ w. has_bit w r) (word-here words index x long few)
          ∙ is r
          ∙ ap (λ b. if b then has_bit from r else has_bit (word index words) r) (one-router router r within)
          ∙ sym (ap₂ (λ a j. if a && nat_eq r router then has_bit from r else has_bit (word j words) r) (eq-eqb k index same) same)
      at (inr other) =
          ap (λ w. has_bit w r) (word-other words index x k other)
          ∙ sym (ap (λ a. if a && nat_eq r router then has_bit from r else has_bit (word k words) r) (ne_eqb k index other))

-- ---- the sets of the routers
module _ (n : Numbering) (words new : List ℕ) (c router : ℕ) (apart : AreApart n) (few : c < n.size) where
  -- whether channel k has the word
  index-is : (k : ℕ) → k < n.size → nat_eq (n.index k) (n.index c) ≡ nat_eq k c
  index-is k l = elim (cases_eq k c) [
    | inl same ↦ eq-eqb (n.index k) (n.index c) (ap n.index same) ∙ sym (eq-eqb k c same)
    | inr other ↦ ne_eqb (n.index k) (n.index c) (λ e. other (apart k c l few e)) ∙ sym (ne_eqb k c other)
  ]

  member : (w : List ℕ) (r k : ℕ) → has_bit (set_of n r w) k ≡ (nat_lt k n.size && has_bit (word (n.index k) w) r)
  member w r k = below-members n.size (λ j. has_bit (word (n.index j) w) r) k

  pub put-set : (r : ℕ) → ((k s : ℕ) → has_bit (word k new) s ≡ ((nat_eq k (n.index c) && nat_eq s router) || has_bit (word k words) s))
      → set_of n r new ≡ (if nat_eq r router then bit_or (set_of n r words) (2 ^ c) else set_of n r words)
  put-set r is = elim (cases_eq r router) [
    | inl same ↦ same-word _ _ (λ k. member new r k ∙ here k (eq-eqb r router same) (cases_lt k n.size) ∙ sym (either_members (set_of n r words) (2 ^ c) k ∙ ap₂ (λ a b. a || b) (member words r k) (power-members c k)))
        ∙ sym (ap (λ b. if b then bit_or (set_of n r words) (2 ^ c) else set_of n r words) (eq-eqb r router same))
    | inr other ↦ below-same n.size _ _ (λ k l. is (n.index k) r ∙ ap (λ b. (nat_eq (n.index k) (n.index c) && b) || has_bit (word (n.index k) words) r) (ne_eqb r router other)
        ∙ none (nat_eq (n.index k) (n.index c)) (has_bit (word (n.index k) words) r))
        ∙ sym (ap (λ b. if b then bit_or (set_of n r words) (2 ^ c) else set_of n r words) (ne_eqb r router other))
  ]
    where
      none : (a b : Bool) → ((a && false) || b) ≡ b
      none true b = refl
      none false b = refl

      turn : (a b : Bool) → ((a && true) || b) ≡ (b || a)
      turn true true = refl
      turn true false = refl
      turn false true = refl
      turn false false = refl

      here : (k : ℕ) → nat_eq r router ≡ true → (k < n.size) ⊎ (n.size ≤ k) → (nat_lt k n.size && has_bit (word (n.index k) new) r) ≡ ((nat_lt k n.size && has_bit (word (n.index k) words) r) || nat_eq k c)
      here k same (inl l) =
          ap₂ (λ a b. a && b) (lt-ltb k n.size l) (is (n.index k) r ∙ ap₂ (λ a b. (a && b) || has_bit (word (n.index k) words) r) (index-is k l) same)
          ∙ turn (nat_eq k c) (has_bit (word (n.index k) words) r)
          ∙ sym (ap (λ a. (a && has_bit (word (n.index k) words) r) || nat_eq k c) (lt-ltb k n.size l))
      here k same (inr l) =
          ap (λ a. a && has_bit (word (n.index k) new) r) (le-ltb k n.size l)
          ∙ sym (ap₂ (λ a b. (a && has_bit (word (n.index k) words) r) || b) (le-ltb k n.size l) (ne_eqb k c (omega (arith, l, few))))
