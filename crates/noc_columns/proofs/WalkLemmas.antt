-- A walk over the routers of a word adds a bit to the set of each.
use Rattle.std.proofs.Common.{◌≡◌, ◌≢◌, ℕ, zero, suc, ◌^◌, ◌<◌, ◌≤◌, Bool, true, false, List, Some, arith, ap, ap₂, sym, ◌∙◌, subst, refl, inl, inr, bit_and, bit_or, slice_index}
use Rattle.std.specs.Prelude.{◌⊎◌, ◌&&◌, ◌||◌, not, nat_eq, if◌then◌else◌}
use Rattle.std.proofs.lemmas.Bool.{cases_eq, cases_lt, eq-eqb, le-ltb, ne_eqb}
use Rattle.noc_packet.specs.Set.{has_bit, IsLeast}
use Rattle.noc_packet.proofs.SetLemmas.{both_members, either_members, has_bit-zero}
use Rattle.noc_sets.specs.Sets.{less, lowest}
use Rattle.noc_sets.specs.Unions.{union_from}
use Rattle.noc_sets.proofs.MemberLemmas.{or-false, or-right, or-zero, same-word}
use Rattle.noc_columns.specs.Arrivals.{leaves_from}
use Rattle.noc_columns.specs.Words.{Numbering, set_below, set_of, word}
use Rattle.noc_columns.proofs.LoopLemmas.{all-done, left-part, none-left, not-done, not-left}
use Rattle.noc_columns.proofs.SetLemmas.{below-members, one-members}
use Rattle.noc_columns.proofs.TableLemmas.{or-joined}

-- the routers of a word have got their bits, but for those that are left
pub record AreAdded (routers rest : ℕ) (bit : ℕ → ℕ) (old now : List ℕ) : Type 0 where
  pub part : (k : ℕ) → has_bit rest k ≡ true → has_bit routers k ≡ true
  pub done : (r : ℕ) → r < 64 → slice_index now r ≡ bit_or (slice_index old r) (if has_bit routers r && not (has_bit rest r) then bit r else 0)

pub added-start : (routers : ℕ) (bit : ℕ → ℕ) (old : List ℕ) → AreAdded routers routers bit old old
added-start routers bit old = record {
  part = λ k e. e;
  done = λ r l. sym (ap (λ b. bit_or (slice_index old r) (if b then bit r else 0)) (none-left routers r) ∙ or-zero (slice_index old r));
}

module _ (routers rest after t : ℕ) (bit : ℕ → ℕ) (old now new : List ℕ) (are : AreAdded routers rest bit old now) (least : IsLeast (has_bit rest) (Some t)) (few : t < 64)
    (after_is : after ≡ less rest (lowest rest)) (new_is : (r : ℕ) → slice_index new r ≡ (if nat_eq r t then bit_or (slice_index now r) (bit t) else slice_index now r)) where
  abbrev gone : ℕ → Bool
  gone r = has_bit routers r && not (has_bit rest r)

  abbrev with_bit : ℕ → Bool → ℕ
  with_bit r b = bit_or (slice_index old r) (if b then bit r else 0)

  more : (r : ℕ) → (has_bit routers r && not (has_bit after r)) ≡ (gone r || nat_eq r t)
  more r = ap (λ w. has_bit routers r && not (has_bit w r)) after_is ∙ not-left routers rest t r least are.part

  abbrev written : ℕ → Bool → ℕ
  written r b = if b then bit_or (slice_index now r) (bit t) else slice_index now r

  here : slice_index new t ≡ with_bit t (has_bit routers t && not (has_bit after t))
  here =
      new_is t
      ∙ ap (written t) (eq-eqb t t refl)
      ∙ ap (λ w. bit_or w (bit t)) (are.done t few ∙ ap (with_bit t) (not-done routers rest t least.0) ∙ or-zero (slice_index old t))
      ∙ sym (ap (with_bit t) (more t ∙ ap (λ b. gone t || b) (eq-eqb t t refl) ∙ or-right (gone t) true refl))

  pub added-next : AreAdded routers after bit old new
  added-next = record {
    part = λ k e. left-part routers rest t least are.part k (ap (λ w. has_bit w k) (sym after_is) ∙ e);
    done = λ r l. elim (cases_eq r t) [
      | inl same ↦ subst (λ k. slice_index new k ≡ with_bit k (has_bit routers k && not (has_bit after k))) (sym same) here
      | inr other ↦ new_is r ∙ ap (written r) (ne_eqb r t other) ∙ are.done r l ∙ ap (with_bit r) (sym (more r ∙ ap (λ b. gone r || b) (ne_eqb r t other) ∙ or-false (gone r)))
    ];
  }

pub added-all : (routers rest : ℕ) (bit : ℕ → ℕ) (old now : List ℕ) → AreAdded routers rest bit old now → rest ≡ 0
    → (r : ℕ) → r < 64 → slice_index now r ≡ bit_or (slice_index old r) (if has_bit routers r then bit r else 0)
added-all routers rest bit old now are none r l = are.done r l ∙ ap (λ b. bit_or (slice_index old r) (if b then bit r else 0)) (all-done routers rest r none)

-- ---- a walk that writes a value for each member of a set
module _ (set rest after t : ℕ) (part : (k : ℕ) → has_bit rest k ≡ true → has_bit set k ≡ true) (least : IsLeast (has_bit rest) (Some t)) (after_is : after ≡ less rest (lowest rest)) where
  abbrev done_of : ℕ → Bool
  done_of r = has_bit set r && not (has_bit rest r)

  done-more : (r : ℕ) → (has_bit set r && not (has_bit after r)) ≡ (done_of r || nat_eq r t)
  done-more r = ap (λ w. has_bit set r && not (has_bit w r)) after_is ∙ not-left set rest t r least part

  pub part-next : (k : ℕ) → has_bit after k ≡ true → has_bit set k ≡ true
  part-next k e = left-part set rest t least part k (ap (λ w. has_bit w k) (sym after_is) ∙ e)

  pub walk-step : {A : Type 0} (f old now new : ℕ → A) → ((r : ℕ) → r < 64 → now r ≡ (if has_bit set r && not (has_bit rest r) then f r else old r)) → new t ≡ f t → ((r : ℕ) → r ≢ t → new r ≡ now r)
      → (r : ℕ) → r < 64 → new r ≡ (if has_bit set r && not (has_bit after r) then f r else old r)
  walk-step f old now new is here others r few = elim (cases_eq r t) [
    | inl same ↦ subst (λ k. new k ≡ (if has_bit set k && not (has_bit after k) then f k else old k)) (sym same)
        (here ∙ sym (ap (λ b. if b then f t else old t) (done-more t ∙ ap (λ b. done_of t || b) (eq-eqb t t refl) ∙ or-right (done_of t) true refl)))
    | inr other ↦ others r other ∙ is r few ∙ ap (λ b. if b then f r else old r) (sym (done-more r ∙ ap (λ b. done_of r || b) (ne_eqb r t other) ∙ or-false (done_of r)))
  ]

-- the next one is as it was
pub walk-fresh : {A : Type 0} (set rest t : ℕ) → IsLeast (has_bit rest) (Some t) → (f old now : ℕ → A) → now t ≡ (if has_bit set t && not (has_bit rest t) then f t else old t) → now t ≡ old t
walk-fresh set rest t least f old now is = is ∙ ap (λ b. if b then f t else old t) (not-done set rest t least.0)

pub walk-start : {A : Type 0} (set r : ℕ) (f old : ℕ → A) → old r ≡ (if has_bit set r && not (has_bit set r) then f r else old r)
walk-start set r f old = sym (ap (λ b. if b then f r else old r) (none-left set r))

pub walk-all : {A : Type 0} (set rest r : ℕ) (f old now : ℕ → A) → rest ≡ 0 → now r ≡ (if has_bit set r && not (has_bit rest r) then f r else old r) → now r ≡ (if has_bit set r then f r else old r)
walk-all set rest r f old now none is = is ∙ ap (λ b. if b then f r else old r) (all-done set rest r none)

-- a walk that gathers the members that pass a test
pub last-start : (set r : ℕ) (test : ℕ → Bool) → has_bit 0 r ≡ ((has_bit set r && not (has_bit set r)) && test r)
last-start set r test = has_bit-zero r ∙ sym (ap (λ b. b && test r) (none-left set r))

pub last-all : (set rest r : ℕ) (test : ℕ → Bool) (last : ℕ) → rest ≡ 0 → has_bit last r ≡ ((has_bit set r && not (has_bit rest r)) && test r) → has_bit last r ≡ (has_bit set r && test r)
last-all set rest r test last none is = is ∙ ap (λ b. b && test r) (all-done set rest r none)

pub last-step : (set rest after t : ℕ) (part : (k : ℕ) → has_bit rest k ≡ true → has_bit set k ≡ true) (least : IsLeast (has_bit rest) (Some t)) (after_is : after ≡ less rest (lowest rest)) (test : ℕ → Bool) (last bit : ℕ)
    → ((r : ℕ) → r < 64 → has_bit last r ≡ ((has_bit set r && not (has_bit rest r)) && test r)) → bit ≡ (if test t then 2 ^ t else 0)
    → (r : ℕ) → r < 64 → has_bit (bit_or last bit) r ≡ ((has_bit set r && not (has_bit after r)) && test r)
last-step set rest after t part least after_is test last bit is bit_is r few =
    either_members last bit r
    ∙ ap₂ (λ a b. a || b) (is r few) (ap (λ w. has_bit w r) bit_is ∙ one-members (test t) t r)
    ∙ at (cases_eq r t)
    ∙ sym (ap (λ b. b && test r) (done-more set rest after t part least after_is r))
  where
    split : (a b c : Bool) → ((a && c) || (b && c)) ≡ ((a || b) && c)
    split true true true = refl
    split true true false = refl
    split true false true = refl
    split true false false = refl
    split false true c = refl
    split false false c = refl

    at : (r ≡ t) ⊎ (r ≢ t) → (((has_bit set r && not (has_bit rest r)) && test r) || (nat_eq r t && test t)) ≡ (((has_bit set r && not (has_bit rest r)) || nat_eq r t) && test r)
    at (inl same) = ap (λ k. ((has_bit set r && not (has_bit rest r)) && test r) || (nat_eq r t && test k)) (sym same) ∙ split (has_bit set r && not (has_bit rest r)) (nat_eq r t) (test r)
    at (inr other) =
        ap (λ b. ((has_bit set r && not (has_bit rest r)) && test r) || (b && test t)) (ne_eqb r t other)
        ∙ or-false ((has_bit set r && not (has_bit rest r)) && test r)
        ∙ sym (ap (λ b. ((has_bit set r && not (has_bit rest r)) || b) && test r) (ne_eqb r t other) ∙ ap (λ b. b && test r) (or-false (has_bit set r && not (has_bit rest r))))

-- ---- unions, and sets
pub union-alike : (base n : ℕ) (f g : ℕ → ℕ) → ((k : ℕ) → k < n → f k ≡ g k) → union_from base n f ≡ union_from base n g
union-alike base zero f g same = refl
union-alike base (suc n) f g same = ap₂ bit_or (union-alike base n f g (λ k l. same k (omega (arith, l)))) (same n (omega arith))

pub union-set : (base n : ℕ) (test : ℕ → Bool) → union_from base n (λ c. if test c then 2 ^ c else 0) ≡ bit_or base (set_below n test)
union-set base zero test = sym (or-zero base)
union-set base (suc n) test =
    ap (λ u. bit_or u (if test n then 2 ^ n else 0)) (union-set base n test)
    ∙ or-joined base (set_below n test) (if test n then 2 ^ n else 0)

-- ---- what leaves the network
pub arrived-is : (n : Numbering) (r local : ℕ) (arrived moved last : List ℕ) (port : ℕ → ℕ) (to_local : ℕ)
    → ((c : ℕ) → c < n.size → has_bit (set_of n r arrived) c ≡ leaves_from local (set_of n r moved) (set_of n r last) port c)
    → ((c : ℕ) → c < n.size → has_bit (bit_and (set_of n r moved) (set_of n r last)) c ≡ true → has_bit to_local c ≡ nat_eq (port c) local)
    → set_of n r arrived ≡ bit_and (bit_and (set_of n r moved) (set_of n r last)) to_local
arrived-is n r local arrived moved last port to_local is shows = same-word _ _ (λ c. at c (cases_lt c n.size) ∙ sym (both_members tails to_local c))
  where
    tails : ℕ
    tails = bit_and (set_of n r moved) (set_of n r last)

    past : (words : List ℕ) (c : ℕ) → n.size ≤ c → has_bit (set_of n r words) c ≡ false
    past words c m = below-members n.size (λ k. has_bit (word (n.index k) words) r) c ∙ ap (λ b. b && has_bit (word (n.index c) words) r) (le-ltb c n.size m)

    by : (c : ℕ) → c < n.size → (b : Bool) → has_bit tails c ≡ b → (has_bit tails c && nat_eq (port c) local) ≡ (has_bit tails c && has_bit to_local c)
    by c l true e = ap (λ b. has_bit tails c && b) (sym (shows c l e))
    by c l false e = ap (λ b. b && nat_eq (port c) local) e ∙ sym (ap (λ b. b && has_bit to_local c) e)

    at : (c : ℕ) → (c < n.size) ⊎ (n.size ≤ c) → has_bit (set_of n r arrived) c ≡ (has_bit tails c && has_bit to_local c)
    at c (inl l) = is c l ∙ ap (λ b. b && nat_eq (port c) local) (sym (both_members (set_of n r moved) (set_of n r last) c)) ∙ by c l (has_bit tails c) refl
    at c (inr m) =
        past arrived c m
        ∙ sym (ap (λ b. b && has_bit to_local c) (both_members (set_of n r moved) (set_of n r last) c ∙ ap (λ b. b && has_bit (set_of n r last) c) (past moved c m)))
