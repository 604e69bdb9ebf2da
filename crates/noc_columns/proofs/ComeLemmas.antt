-- A walk over the routers of words, in one loop, comes to each channel of each router once.
use Rattle.std.proofs.Common.{◌≡◌, ◌≢◌, ◌⊎◌, ℕ, ◌-◌, ◌<◌, ◌≤◌, Bool, true, false, List, length, Some, arith, ap, ap₂, sym, ◌∙◌, refl, inl, inr, bit_and, bit_or, set}
use Rattle.std.specs.Prelude.{◌&&◌, ◌||◌, not, nat_eq, nat_lt, if◌then◌else◌}
use Rattle.std.proofs.lemmas.Bool.{and_parts, cases_Bool, cases_eq, cases_lt, eq-eqb, le-ltb, lt-ltb, ltb-true, ne_eqb, false≢true, true≢false}
use Rattle.noc_packet.specs.Set.{has_bit, IsLeast}
use Rattle.noc_packet.proofs.SetLemmas.{both_members, either_members, has_bit-zero, same_set}
use Rattle.noc_sets.specs.Sets.{less, lowest}
use Rattle.noc_sets.proofs.MemberLemmas.{and-true, or-false}
use Rattle.noc_columns.specs.Words.{AreApart, Numbering, set_of, word}
use Rattle.noc_columns.proofs.AskLemmas.{asked-none}
use Rattle.noc_columns.proofs.LoopLemmas.{but_lowest-is, left-members, none-left}
use Rattle.noc_columns.proofs.MarkLemmas.{entry-put}
use Rattle.noc_columns.proofs.SetLemmas.{below-members}
use Rattle.noc_columns.proofs.SupplyLemmas.{member-is}

-- ---- one step of it
module _ (words : List ℕ) (i others : ℕ) (within : i < length words) where
  -- the first router of a word is left no more
  pub left-next : (t : ℕ) → IsLeast (has_bit (word i words)) (Some t) → others ≡ less (word i words) (lowest (word i words))
      → (k r : ℕ) → has_bit (word k (set words i others)) r ≡ (has_bit (word k words) r && not (nat_eq k i && nat_eq r t))
  left-next t least is k r = ap (λ w. has_bit w r) (entry-put words i others k within) ∙ at (cases_eq k i)
    where
      at : (k ≡ i) ⊎ (k ≢ i) → has_bit (if nat_eq k i then others else word k words) r ≡ (has_bit (word k words) r && not (nat_eq k i && nat_eq r t))
      at (inl same) =
          ap (λ b. has_bit (if b then others else word k words) r) (eq-eqb k i same)
          ∙ ap (λ w. has_bit w r) is
          ∙ left-members (word i words) t r least
          ∙ ap (λ j. has_bit (word j words) r && not (nat_eq r t)) (sym same)
          ∙ sym (ap (λ b. has_bit (word k words) r && not (b && nat_eq r t)) (eq-eqb k i same))
      at (inr other) =
          ap (λ b. has_bit (if b then others else word k words) r) (ne_eqb k i other)
          ∙ sym (ap (λ b. has_bit (word k words) r && not (b && nat_eq r t)) (ne_eqb k i other) ∙ and-true (has_bit (word k words) r))

  -- a word of which nothing is left has none
  pub rest-next : (rest one : ℕ) → IsLeast (has_bit rest) (Some i) → ((k : ℕ) → has_bit rest k ≡ true → 0 < word k words) → one ≡ (if nat_eq others 0 then 1 else 0)
      → (k : ℕ) → has_bit (bit_and rest (rest - one)) k ≡ (has_bit rest k && not (nat_eq (word k (set words i others)) 0))
  rest-next rest one least some is k = ap (λ n. has_bit (bit_and rest (rest - n)) k) is ∙ at (cases_eq others 0) ∙ sym (ap (λ w. has_bit rest k && not (nat_eq w 0)) (entry-put words i others k within))
    where
      there : k ≢ i → (b : Bool) → has_bit rest k ≡ b → has_bit rest k ≡ (has_bit rest k && not (nat_eq (if nat_eq k i then others else word k words) 0))
      there other true e =
          let more = some k e in
          e ∙ sym (ap₂ (λ a b. a && not (nat_eq (if b then others else word k words) 0)) e (ne_eqb k i other)
          ∙ ap not (ne_eqb (word k words) 0 (omega (arith, more))))
      there other false e = e ∙ sym (ap (λ a. a && not (nat_eq (if nat_eq k i then others else word k words) 0)) e)

      here : k ≡ i → (has_bit rest k && not (nat_eq others 0)) ≡ (has_bit rest k && not (nat_eq (if nat_eq k i then others else word k words) 0))
      here same = sym (ap (λ b. has_bit rest k && not (nat_eq (if b then others else word k words) 0)) (eq-eqb k i same))

      at : (others ≡ 0) ⊎ (others ≢ 0)
          → has_bit (bit_and rest (rest - (if nat_eq others 0 then 1 else 0))) k ≡ (has_bit rest k && not (nat_eq (if nat_eq k i then others else word k words) 0))
      at (inl none) =
          ap (λ b. has_bit (bit_and rest (rest - (if b then 1 else 0))) k) (eq-eqb others 0 none)
          ∙ ap (λ w. has_bit w k) (but_lowest-is rest)
          ∙ left-members rest i k least
          ∙ elim (cases_eq k i) [
            | inl same ↦ ap (λ b. has_bit rest k && not b) (eq-eqb k i same ∙ sym (eq-eqb others 0 none)) ∙ here same
            | inr other ↦ ap (λ b. has_bit rest k && not b) (ne_eqb k i other) ∙ and-true (has_bit rest k) ∙ there other (has_bit rest k) refl
          ]
      at (inr more) =
          ap (λ b. has_bit (bit_and rest (rest - (if b then 1 else 0))) k) (ne_eqb others 0 more)
          ∙ (let whole : rest - 0 ≡ rest = omega arith in ap (λ n. has_bit (bit_and rest n) k) whole)
          ∙ both_members rest rest k
          ∙ twice (has_bit rest k)
          ∙ elim (cases_eq k i) [
            | inl same ↦ sym (ap (λ b. has_bit rest k && not b) (ne_eqb others 0 more) ∙ and-true (has_bit rest k)) ∙ here same
            | inr other ↦ there other (has_bit rest k) refl
          ]
        where
          twice : (b : Bool) → (b && b) ≡ b
          twice true = refl
          twice false = refl

-- ---- what is left of the first so many words
pub record AreLeft (count : ℕ) (words left : List ℕ) (rest : ℕ) : Type 0 where
  pub few : (i : ℕ) → has_bit rest i ≡ true → i < count
  pub some : (i : ℕ) → i < count → has_bit rest i ≡ not (nat_eq (word i left) 0)
  pub part : (i r : ℕ) → has_bit (word i left) r ≡ true → has_bit (word i words) r ≡ true

pub left-start : (count : ℕ) (words : List ℕ) (rest : ℕ) → ((i : ℕ) → has_bit rest i ≡ (nat_lt i count && not (nat_eq (word i words) 0))) → AreLeft count words words rest
left-start count words rest is = record {
  few = λ i e. ltb-true i count (and_parts (nat_lt i count) (not (nat_eq (word i words) 0)) (sym (is i) ∙ e)).0;
  some = λ i l. is i ∙ ap (λ b. b && not (nat_eq (word i words) 0)) (lt-ltb i count l);
  part = λ i r e. e;
}

pub left-some : (count : ℕ) (words left : List ℕ) (rest : ℕ) → AreLeft count words left rest → (i : ℕ) → has_bit rest i ≡ true → 0 < word i left
left-some count words left rest are i e = at (cases_eq (word i left) 0)
  where
    at : (word i left ≡ 0) ⊎ (word i left ≢ 0) → 0 < word i left
    at (inl none) = absurd (true≢false (sym e ∙ are.some i (are.few i e) ∙ ap not (eq-eqb (word i left) 0 none)))
    at (inr more) = omega (arith, more)

pub left-step : (count : ℕ) (words left : List ℕ) (rest : ℕ) (left' : List ℕ) (rest' i s : ℕ) → AreLeft count words left rest
    → ((k r : ℕ) → has_bit (word k left') r ≡ (has_bit (word k left) r && not (nat_eq k i && nat_eq r s)))
    → ((k : ℕ) → has_bit rest' k ≡ (has_bit rest k && not (nat_eq (word k left') 0)))
    → AreLeft count words left' rest'
left-step count words left rest left' rest' i s are next is = record {
  few = λ k e. are.few k (and_parts (has_bit rest k) (not (nat_eq (word k left') 0)) (sym (is k) ∙ e)).0;
  some = λ k l. is k ∙ at k l (cases_Bool (has_bit rest k));
  part = λ k r e. are.part k r (and_parts (has_bit (word k left) r) (not (nat_eq k i && nat_eq r s)) (sym (next k r) ∙ e)).0;
}
  where
    at : (k : ℕ) → k < count → (has_bit rest k ≡ true) ⊎ (has_bit rest k ≡ false) → (has_bit rest k && not (nat_eq (word k left') 0)) ≡ not (nat_eq (word k left') 0)
    at k l (inl e) = ap (λ b. b && not (nat_eq (word k left') 0)) e
    at k l (inr e) =
        let none = asked-none (word k left) (sym (are.some k l) ∙ e) in
        let gone : word k left' ≡ 0 = same_set _ _ (λ r. next k r ∙ ap (λ w. has_bit w r && not (nat_eq k i && nat_eq r s)) none ∙ ap (λ b. b && not (nat_eq k i && nat_eq r s)) (has_bit-zero r) ∙ sym (has_bit-zero r)) in
        ap (λ b. b && not (nat_eq (word k left') 0)) e ∙ sym (ap not (eq-eqb (word k left') 0 gone))

pub left-none : (count : ℕ) (words left : List ℕ) (rest : ℕ) → AreLeft count words left rest → rest ≡ 0 → (i : ℕ) → i < count → word i left ≡ 0
left-none count words left rest are none i l = asked-none (word i left) (sym (are.some i l) ∙ ap (λ w. has_bit w i) none ∙ has_bit-zero i)

-- ---- which channels of a router it has come to
abbrev pub come : Numbering → ℕ → List ℕ → List ℕ → ℕ → Bool
come n r words left k = has_bit (set_of n r words) k && not (has_bit (set_of n r left) k)

pub come-none : (n : Numbering) (r : ℕ) (words : List ℕ) (k : ℕ) → come n r words words k ≡ false
come-none n r words k = none-left (set_of n r words) k

past-all : (n : Numbering) (r : ℕ) (words : List ℕ) (k : ℕ) → n.size ≤ k → has_bit (set_of n r words) k ≡ false
past-all n r words k m = below-members n.size (λ j. has_bit (word (n.index j) words) r) k ∙ ap (λ b. b && has_bit (word (n.index k) words) r) (le-ltb k n.size m)

module _ (n : Numbering) (apart : AreApart n) (r : ℕ) (words left : List ℕ) where
  -- it comes to router s in the word of channel c
  pub come-next : (left' : List ℕ) (t s c : ℕ) → c < n.size → n.index c ≡ t → has_bit (word t left) s ≡ true
      → ((i q : ℕ) → has_bit (word i left) q ≡ true → has_bit (word i words) q ≡ true)
      → ((i q : ℕ) → has_bit (word i left') q ≡ (has_bit (word i left) q && not (nat_eq i t && nat_eq q s)))
      → (k : ℕ) → come n r words left' k ≡ (come n r words left k || (nat_eq k c && nat_eq r s))
  come-next left' t s c few is member part next k = elim (cases_lt k n.size) [
    | inl l ↦
        let w = has_bit (word (n.index k) words) r in
        let b = has_bit (word (n.index k) left) r in
        ap₂ (λ x y. x && not y) (member-is n r k words l) (member-is n r k left' l ∙ next (n.index k) r ∙ ap (λ e. b && not (e && nat_eq r s)) (same-index l))
        ∙ turned w b (nat_eq k c && nat_eq r s) (here l)
        ∙ sym (ap₂ (λ x y. (x && not y) || (nat_eq k c && nat_eq r s)) (member-is n r k words l) (member-is n r k left l))
    | inr m ↦
        ap₂ (λ x y. x && not y) (past-all n r words k m) (past-all n r left' k m)
        ∙ sym (ap₂ (λ x y. (x && not y) || (nat_eq k c && nat_eq r s)) (past-all n r words k m) (past-all n r left k m)
        ∙ ap (λ e. e && nat_eq r s) (ne_eqb k c (omega (arith, m, few))))
  ]
    where
      turned : (w b one : Bool) → (one ≡ true → w ≡ true) → (w && not (b && not one)) ≡ ((w && not b) || one)
      turned true true true f = refl
      turned true false true f = refl
      turned false b true f = absurd (false≢true (f refl))
      turned true true false f = refl
      turned true false false f = refl
      turned false b false f = refl

      same-index : k < n.size → nat_eq (n.index k) t ≡ nat_eq k c
      same-index l = elim (cases_eq k c) [
        | inl same ↦ eq-eqb (n.index k) t (ap n.index same ∙ is) ∙ sym (eq-eqb k c same)
        | inr other ↦ ne_eqb (n.index k) t (λ e. other (apart k c l few (e ∙ sym is))) ∙ sym (ne_eqb k c other)
      ]

      here : k < n.size → (nat_eq k c && nat_eq r s) ≡ true → has_bit (word (n.index k) words) r ≡ true
      here l e = part (n.index k) r (elim (cases_eq k c) [
        | inl same ↦ elim (cases_eq r s) [
          | inl router ↦ ap₂ (λ i q. has_bit (word i left) q) (ap n.index same ∙ is) router ∙ member
          | inr other ↦ absurd (true≢false (sym (and_parts (nat_eq k c) (nat_eq r s) e).1 ∙ ne_eqb r s other))
        ]
        | inr other ↦ absurd (true≢false (sym (and_parts (nat_eq k c) (nat_eq r s) e).0 ∙ ne_eqb k c other))
      ])

  -- it has come to all
  pub come-all : (count rest : ℕ) → AreLeft count words left rest → rest ≡ 0 → ((k : ℕ) → k < n.size → n.index k < count) → (k : ℕ) → come n r words left k ≡ has_bit (set_of n r words) k
  come-all count rest are none within k = ap (λ b. has_bit (set_of n r words) k && not b) gone ∙ and-true (has_bit (set_of n r words) k)
    where
      gone : has_bit (set_of n r left) k ≡ false
      gone = elim (cases_lt k n.size) [
        | inl l ↦ member-is n r k left l ∙ ap (λ w. has_bit w r) (left-none count words left rest are none (n.index k) (within k l)) ∙ has_bit-zero r
        | inr m ↦ past-all n r left k m
      ]

-- a bit that is added, or not
pub or-if : (x y : ℕ) (b : Bool) → (if b then bit_or x y else x) ≡ bit_or x (if b then y else 0)
or-if x y true = refl
or-if x y false = same_set _ _ (λ k. sym (either_members x 0 k ∙ ap (λ b. has_bit x k || b) (has_bit-zero k) ∙ or-false (has_bit x k)))
