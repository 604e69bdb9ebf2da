-- What a router keeps of its channels is written.
use Rattle.std.proofs.Common.{◌≡◌, ◌≢◌, ℕ, subst, arith, ap₂, ◌*◌, ◌%◌, ◌^◌, ◌<◌, Bool, true, false, List, length, refl, ap, sym, ◌∙◌, inl, inr, bit_and, bit_or, set, slice_index, get_or-set_same, get_or-set_other}
use Rattle.std.specs.Prelude.{◌⊎◌, ◌&&◌, ◌||◌, not, nat_eq, if◌then◌else◌}
use Rattle.std.proofs.lemmas.Bool.{and_parts, cases_eq, eq-eqb, ne_eqb, false≢true}
use Rattle.noc_packet.specs.Set.{has_bit}
use Rattle.noc_packet.proofs.SetLemmas.{both_members, either_members, has_bit-zero, same_set}
use Rattle.noc_topo.specs.Lists.{one_if}
use Rattle.noc_sets.proofs.MemberLemmas.{and-false, and-true, or-false, power-members}
use Rattle.noc_columns.specs.Marks.{ChangesIdle}
use Rattle.noc_columns.specs.Wants.{asks_of}
use Rattle.noc_columns.specs.declared.marks.Marks.{Marks}
use Rattle.noc_columns.proofs.PlaceLemmas.{one-router}

-- an entry that is written
pub entry-put : (table : List ℕ) (i x k : ℕ) → i < length table → slice_index (set table i x) k ≡ (if nat_eq k i then x else slice_index table k)
entry-put table i x k within = elim (cases_eq k i) [
  | inl same ↦
      ap (slice_index (set table i x)) same
      ∙ get_or-set_same table i x 0 within
      ∙ sym (ap (λ b. if b then x else slice_index table k) (eq-eqb k i same))
  | inr other ↦
      get_or-set_other table i k x 0 other
      ∙ sym (ap (λ b. if b then x else slice_index table k) (ne_eqb k i other))
]

-- where an idle output channel is wanted, when one router is written
pub asked-still : (asking now router w s i : ℕ) (waiting wanted idle waits wants idles : ℕ → ℕ)
    → ((r : ℕ) → r < 64 → has_bit asking r ≡ not (nat_eq (asks_of (waiting r) (wanted r) (idle r)) 0))
    → ((r : ℕ) → has_bit now r ≡ (if nat_eq r router then not (nat_eq (asks_of w s i) 0) else has_bit asking r))
    → ((r : ℕ) → waits r ≡ (if nat_eq r router then w else waiting r))
    → ((r : ℕ) → wants r ≡ (if nat_eq r router then s else wanted r))
    → ((r : ℕ) → idles r ≡ (if nat_eq r router then i else idle r))
    → (r : ℕ) → r < 64 → has_bit now r ≡ not (nat_eq (asks_of (waits r) (wants r) (idles r)) 0)
asked-still asking now router w s i waiting wanted idle waits wants idles was is ew es ei r few = is r ∙ at (nat_eq r router) ∙ sym written
  where
    written : not (nat_eq (asks_of (waits r) (wants r) (idles r)) 0)
        ≡ not (nat_eq (asks_of (if nat_eq r router then w else waiting r) (if nat_eq r router then s else wanted r) (if nat_eq r router then i else idle r)) 0)
    written = λ x. not (nat_eq (asks_of (ew r x) (es r x) (ei r x)) 0)

    at : (b : Bool)
        → (if b then not (nat_eq (asks_of w s i) 0) else has_bit asking r)
        ≡ not (nat_eq (asks_of (if b then w else waiting r) (if b then s else wanted r) (if b then i else idle r)) 0)
    at true = refl
    at false = was r few

-- an entry that has these bits besides
pub entry-put-more : (table : List ℕ) (i x k : ℕ) → i < length table
    → slice_index (set table i (bit_or (slice_index table i) x)) k ≡ (if nat_eq k i then bit_or (slice_index table k) x else slice_index table k)
entry-put-more table i x k within = elim (cases_eq k i) [
  | inl same ↦
      entry-put table i (bit_or (slice_index table i) x) k within
      ∙ ap (λ j. if nat_eq k i then bit_or (slice_index table j) x else slice_index table k) (sym same)
  | inr other ↦
      get_or-set_other table i k (bit_or (slice_index table i) x) 0 other
      ∙ sym (ap (λ b. if b then bit_or (slice_index table k) x else slice_index table k) (ne_eqb k i other))
]

-- one entry of a list is as it was, where it is written again
pub same-entry : (table : List ℕ) (i k : ℕ) → slice_index table k ≡ (if nat_eq k i then slice_index table i else slice_index table k)
same-entry table i k = elim (cases_eq k i) [
  | inl same ↦ ap (slice_index table) same ∙ sym (ap (λ b. if b then slice_index table i else slice_index table k) (eq-eqb k i same))
  | inr other ↦ sym (ap (λ b. if b then slice_index table i else slice_index table k) (ne_eqb k i other))
]

-- a router is put where an idle output channel is wanted, if it was not there
pub asked-more : (asking router : ℕ) (a : Bool) → (has_bit asking router ≡ true → a ≡ true) → router < 64
    → (r : ℕ) → has_bit (bit_or asking (one_if a * 2 ^ router % 2 ^ 64)) r ≡ (if nat_eq r router then a else has_bit asking r)
asked-more asking router a keeps few r = either_members asking (one_if a * 2 ^ router % 2 ^ 64) r ∙ ap (λ b. has_bit asking r || b) (alone a) ∙ at (cases_eq r router)
  where
    alone : (b : Bool) → has_bit (one_if b * 2 ^ router % 2 ^ 64) r ≡ (nat_eq r router && b)
    alone true = ap (λ w. has_bit w r) (one-router router few) ∙ power-members router r ∙ sym (and-true (nat_eq r router))
    alone false = (let none : 0 * 2 ^ router % 2 ^ 64 ≡ 0 = omega arith in ap (λ w. has_bit w r) none) ∙ has_bit-zero r ∙ sym (and-false (nat_eq r router))

    joined : (b : Bool) → (b ≡ true → a ≡ true) → (b || a) ≡ a
    joined true f = sym (f refl)
    joined false f = refl

    at : (r ≡ router) ⊎ (r ≢ router) → (has_bit asking r || (nat_eq r router && a)) ≡ (if nat_eq r router then a else has_bit asking r)
    at (inl same) =
        ap (λ b. has_bit asking r || (b && a)) (eq-eqb r router same)
        ∙ joined (has_bit asking r) (λ e. keeps (ap (has_bit asking) (sym same) ∙ e))
        ∙ sym (ap (λ b. if b then a else has_bit asking r) (eq-eqb r router same))
    at (inr other) =
        ap (λ b. has_bit asking r || (b && a)) (ne_eqb r router other)
        ∙ or-false (has_bit asking r)
        ∙ sym (ap (λ b. if b then a else has_bit asking r) (ne_eqb r router other))

-- what joins none has none
pub or-none : (a b : ℕ) → bit_or a b ≡ 0 → a ≡ 0
or-none a b none = same_set _ _ (λ k. by k (has_bit a k) refl ∙ sym (has_bit-zero k))
  where
    by : (k : ℕ) (x : Bool) → has_bit a k ≡ x → has_bit a k ≡ false
    by k true e = absurd (false≢true (sym (has_bit-zero k) ∙ ap (λ w. has_bit w k) (sym none) ∙ either_members a b k ∙ ap (λ x. x || has_bit b k) e))
    by k false e = e

-- who waits for an idle output channel still does where more wait, and more are wanted and idle
pub still-asks : (w s i w' s' i' : ℕ) → (w ≢ 0 → w' ≢ 0) → ((k : ℕ) → has_bit s k ≡ true → has_bit s' k ≡ true) → ((k : ℕ) → has_bit i k ≡ true → has_bit i' k ≡ true)
    → not (nat_eq (asks_of w s i) 0) ≡ true → not (nat_eq (asks_of w' s' i') 0) ≡ true
still-asks w s i w' s' i' waits wants idles e = at (cases_eq w 0) (cases_eq (bit_and s' i') 0)
  where
    none : bit_and s' i' ≡ 0 → bit_and s i ≡ 0
    none z = same_set _ _ (λ k. by k (has_bit (bit_and s i) k) refl ∙ sym (has_bit-zero k))
      where
        by : (k : ℕ) (b : Bool) → has_bit (bit_and s i) k ≡ b → has_bit (bit_and s i) k ≡ false
        by k true f =
            let both = and_parts (has_bit s k) (has_bit i k) (sym (both_members s i k) ∙ f) in
            absurd (false≢true (sym (has_bit-zero k) ∙ ap (λ x. has_bit x k) (sym z) ∙ both_members s' i' k ∙ ap₂ (λ x y. x && y) (wants k both.0) (idles k both.1)))
        by k false f = f

    at : (w ≡ 0) ⊎ (w ≢ 0) → (bit_and s' i' ≡ 0) ⊎ (bit_and s' i' ≢ 0) → not (nat_eq (asks_of w' s' i') 0) ≡ true
    at (inl z) b = absurd (false≢true (sym (ap (λ t. not (nat_eq (if t then 0 else bit_and s i) 0)) (eq-eqb w 0 z)) ∙ e))
    at (inr more) (inl z) = absurd (false≢true (sym (ap (λ t. not (nat_eq (if t then 0 else bit_and s i) 0)) (ne_eqb w 0 more) ∙ ap not (eq-eqb (bit_and s i) 0 (none z))) ∙ e))
    at (inr more) (inr some) = ap (λ t. not (nat_eq (if t then 0 else bit_and s' i') 0)) (ne_eqb w' 0 (waits more)) ∙ ap not (ne_eqb (bit_and s' i') 0 some)

-- ---- a walk that only changes which output channels are idle
pub idle-start : (m : Marks) → ChangesIdle m m
idle-start m = record { waiting = refl; wanted = refl; sets = refl; turns = refl }

pub idle-next : {a b c : Marks} → ChangesIdle a b → ChangesIdle b c → ChangesIdle a c
idle-next p q = record { waiting = q.waiting ∙ p.waiting; wanted = q.wanted ∙ p.wanted; sets = q.sets ∙ p.sets; turns = q.turns ∙ p.turns }

-- words of which one is written are words
pub fits-put : (now : ℕ → ℕ) (i x : ℕ) (old : ℕ → ℕ) → x < 2 ^ 64 → ((r : ℕ) → now r ≡ (if nat_eq r i then x else old r)) → ((r : ℕ) → r < 64 → old r < 2 ^ 64) → (r : ℕ) → r < 64 → now r < 2 ^ 64
fits-put now i x old fits is each r few = subst (λ w. w < 2 ^ 64) (sym (is r)) (at (nat_eq r i))
  where
    at : (b : Bool) → (if b then x else old r) < 2 ^ 64
    at true = fits
    at false = each r few
