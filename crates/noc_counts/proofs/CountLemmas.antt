-- The cycles that are not added yet, and those that are.
use Rattle.std.proofs.Common.{◌≡◌, ◌≢◌, ℕ, zero, suc, ◌+◌, ◌*◌, ◌/◌, ◌%◌, ◌^◌, ◌<◌, ◌≤◌, Bool, true, false, List, [], length, set, refl, ap, ap₂, sym, ◌∙◌, arith, add-one, add-zero, add_assoc, get_or-set_same, get_or-set_other}
use Rattle.std.specs.Prelude.{slice_index_or}
use Rattle.noc_packet.specs.Set.{has_bit}
use Rattle.noc_packet.proofs.SetLemmas.{has_bit-zero}
use Rattle.noc_topo.specs.Lists.{one_if}
use Rattle.noc_topo.proofs.ListLemmas.{one-small}
use Rattle.noc_columns.specs.Words.{word}
use Rattle.noc_counts.specs.Counted.{HasAdded, HasCounted, HasNoted, added_in, noted_in, set_in}
use Rattle.noc_counts.specs.Low.{low_at, set_sum}
use Rattle.noc_counts.specs.Tallies.{counted_at}
use Rattle.noc_counts.specs.declared.count.Count.{Count}
use Rattle.noc_counts.specs.declared.low.Low.{Low}
use Rattle.noc_counts.specs.declared.tally.Tally.{Tally}

pub set-none : (sets : List (List ℕ)) (j r : ℕ) → set_sum sets 0 j r ≡ 0
unfolding set_sum
set-none sets j r = refl

pub set-next : (sets : List (List ℕ)) (n j r : ℕ) → set_sum sets (n + 1) j r ≡ set_sum sets n j r + one_if (has_bit (word j (slice_index_or sets n [])) r)
unfolding set_sum
set-next sets n j r = ap (λ m. set_sum sets m j r) (add-one n)

pub set-same : (a b : List (List ℕ)) (n j r : ℕ) → ((k : ℕ) → k < n → slice_index_or a k [] ≡ slice_index_or b k []) → set_sum a n j r ≡ set_sum b n j r
unfolding set_sum
set-same a b zero j r same = refl
set-same a b (suc n) j r same =
    ap₂ (λ x y. x + y) (set-same a b n j r (λ k l. same k (omega arith)))
    (ap (λ (s : List ℕ). one_if (has_bit (word j s) r)) (same n (omega arith)))

-- with the set of the next cycle
pub set-with : (sets : List (List ℕ)) (x : List ℕ) (n j r : ℕ) → n < length sets → set_sum (set sets n x) (n + 1) j r ≡ set_sum sets n j r + one_if (has_bit (word j x) r)
set-with sets x n j r few =
    set-next (set sets n x) n j r
    ∙ ap₂ (λ a b. a + b) (set-same (set sets n x) sets n j r (λ k l. get_or-set_other sets n k x [] (omega arith)))
    (ap (λ (s : List ℕ). one_if (has_bit (word j s) r)) (get_or-set_same sets n x [] few))

-- with four more
pub set-more : (sets : List (List ℕ)) (n j r : ℕ) → set_sum sets (n + 4) j r
    ≡ set_sum sets n j r + one_if (has_bit (word j (slice_index_or sets n [])) r) + one_if (has_bit (word j (slice_index_or sets (n + 1) [])) r)
    + one_if (has_bit (word j (slice_index_or sets (n + 2) [])) r) + one_if (has_bit (word j (slice_index_or sets (n + 3) [])) r)
set-more sets n j r =
    let e2 : n + 1 + 1 ≡ n + 2 = omega arith in
    let e3 : n + 2 + 1 ≡ n + 3 = omega arith in
    let e4 : n + 3 + 1 ≡ n + 4 = omega arith in
    let at = λ (m : ℕ). set_sum sets m j r in
    omega (arith, set-next sets n j r, set-next sets (n + 1) j r, set-next sets (n + 2) j r, set-next sets (n + 3) j r, ap at e2, ap at e3, ap at e4)

-- all four
pub set-four : (sets : List (List ℕ)) (a b c d : List ℕ) (j r : ℕ) → slice_index_or sets 0 [] ≡ a → slice_index_or sets 1 [] ≡ b → slice_index_or sets 2 [] ≡ c → slice_index_or sets 3 [] ≡ d
    → set_sum sets 4 j r ≡ one_if (has_bit (word j a) r) + one_if (has_bit (word j b) r) + one_if (has_bit (word j c) r) + one_if (has_bit (word j d) r)
set-four sets a b c d j r ea eb ec ed =
    let one = λ (s : List ℕ). one_if (has_bit (word j s) r) in
    omega (arith, set-none sets j r, set-next sets 0 j r, set-next sets 1 j r, set-next sets 2 j r, set-next sets 3 j r, ap one ea, ap one eb, ap one ec, ap one ed)

pub one-none : (w r : ℕ) → w ≡ 0 → one_if (has_bit w r) ≡ 0
one-none w r is = ap (λ v. one_if (has_bit v r)) is ∙ ap one_if (has_bit-zero r)

pub noted-zero : (c : Count) (j r : ℕ) → noted_in c 0 j r ≡ 0
noted-zero c j r = set-none c.recent j r

-- ---- a row is noted
pub noted-row : (slot : ℕ) (row words : List ℕ) (old : Count) → slot < length old.recent → words ≡ row → HasNoted slot row old (record old { recent = set old.recent slot words })
noted-row slot row words old few is = record {
  counts = λ j r l. set-with old.recent words slot j r few ∙ ap (λ (w : List ℕ). set_sum old.recent slot j r + one_if (has_bit (word j w) r)) is;
  last = get_or-set_same old.recent slot words [] few ∙ is;
  rest = refl;
}

-- ---- and so a cycle is counted
module _ (cycles : ℕ) (row : List ℕ) (old now : Count) (noted : HasNoted (cycles % 16) row old now) where
  same-added : (times j r : ℕ) → added_in now times j r ≡ added_in old times j r
  same-added times j r = ap (λ (c : Count). added_in c times j r) noted.rest

  last-slot : (cycles + 1 + 15) % 16 ≡ cycles % 16
  last-slot = omega arith

  -- where the sixteen cycles are not full
  pub counted-next : cycles % 16 + 1 ≢ 16 → HasCounted cycles row old now
  counted-next part = record {
    counts = λ j r l fits.
        let same : (cycles + 1) / 16 ≡ cycles / 16 = omega arith in
        let next : (cycles + 1) % 16 ≡ cycles % 16 + 1 = omega arith in
        ap₂ (λ a b. a + b) (ap (λ n. added_in now n j r) same ∙ same-added (cycles / 16) j r) (ap (λ n. noted_in now n j r) next ∙ noted.counts j r l)
        ∙ sym (add_assoc (added_in old (cycles / 16) j r) (noted_in old (cycles % 16) j r) (one_if (has_bit (word j row) r)));
    last = ap (λ n. set_in now n) last-slot ∙ noted.last;
  }

  -- and where they are, and are added
  pub counted-full : (new : Count) → cycles % 16 + 1 ≡ 16 → HasAdded (cycles / 16) now new → HasCounted cycles row old new
  counted-full new full added = record {
    counts = λ j r l fits.
        let more : (cycles + 1) / 16 ≡ cycles / 16 + 1 = omega arith in
        let none : (cycles + 1) % 16 ≡ 0 = omega arith in
        ap₂ (λ a b. a + b)
        (ap (λ n. added_in new n j r) more ∙ added.counts j r l (omega arith)
        ∙ ap₂ (λ a b. a + b) (same-added (cycles / 16) j r) (ap (λ n. noted_in now n j r) (sym full) ∙ noted.counts j r l))
        (ap (λ n. noted_in new n j r) none ∙ noted-zero new j r)
        ∙ add-zero _
        ∙ sym (add_assoc (added_in old (cycles / 16) j r) (noted_in old (cycles % 16) j r) (one_if (has_bit (word j row) r)));
    last = (λ x. slice_index_or (added.recent x) (last-slot x) []) ∙ noted.last;
  }

-- ---- sixteen cycles are added
module _ (times : ℕ) (c : Count) (low : Low (List ℕ)) (carry : List ℕ) (length-is : length c.carried ≡ 4)
    (carries : (j r : ℕ) → j < 32 → low_at low j r + 16 * one_if (has_bit (word j carry) r) ≡ low_at c.low j r + noted_in c 16 j r) where
  carried-sum : (j r : ℕ) → set_sum (set c.carried (times % 4) carry) (times % 4 + 1) j r ≡ set_sum c.carried (times % 4) j r + one_if (has_bit (word j carry) r)
  carried-sum j r = set-with c.carried carry (times % 4) j r (omega (arith, length-is))

  -- where what they carry is kept
  pub added-part : times % 4 ≢ 3 → HasAdded times c (record c { low = low; carried = set c.carried (times % 4) carry })
  added-part part = record {
    counts = λ j r few fits.
        let same : (times + 1) / 4 ≡ times / 4 = omega arith in
        let next : (times + 1) % 4 ≡ times % 4 + 1 = omega arith in
        joined (low_at low j r) (one_if (has_bit (word j carry) r)) (low_at c.low j r) (noted_in c 16 j r) (counted_at c.tally (times / 4) j r) (set_sum c.carried (times % 4) j r) _ _
        (carries j r few) (ap (λ n. counted_at c.tally n j r) same) (ap (λ n. set_sum (set c.carried (times % 4) carry) n j r) next ∙ carried-sum j r);
    recent = refl;
  }
    where
      joined : (l x l0 s t u t2 u2 : ℕ) → l + 16 * x ≡ l0 + s → t2 ≡ t → u2 ≡ u + x → l + 16 * (t2 + u2) ≡ l0 + 16 * (t + u) + s
      joined l x l0 s t u t2 u2 e f g = omega arith

  -- and where it is added too
  pub added-whole : (tally : Tally) → times % 4 ≡ 3
      → (times / 4 + 1 < 2 ^ 30 → (j r : ℕ) → j < 32 → counted_at tally (times / 4 + 1) j r
      ≡ counted_at c.tally (times / 4) j r + set_sum (set c.carried (times % 4) carry) 4 j r)
      → HasAdded times c (record c { low = low; carried = set c.carried (times % 4) carry; tally = tally })
  added-whole tally full adds = record {
    counts = λ j r few fits.
        let more : (times + 1) / 4 ≡ times / 4 + 1 = omega arith in
        let none : (times + 1) % 4 ≡ 0 = omega arith in
        let four : times % 4 + 1 ≡ 4 = omega arith in
        joined (low_at low j r) (one_if (has_bit (word j carry) r)) (low_at c.low j r) (noted_in c 16 j r) (counted_at c.tally (times / 4) j r) (set_sum c.carried (times % 4) j r) _ _ _
        (carries j r few) (ap (λ n. counted_at tally n j r) more ∙ adds (omega arith) j r few)
        (ap (λ n. set_sum (set c.carried (times % 4) carry) n j r) (sym four) ∙ carried-sum j r)
        (ap (λ n. set_sum (set c.carried (times % 4) carry) n j r) none ∙ set-none (set c.carried (times % 4) carry) j r);
    recent = refl;
  }
    where
      joined : (l x l0 s t u t2 f u2 : ℕ) → l + 16 * x ≡ l0 + s → t2 ≡ t + f → f ≡ u + x → u2 ≡ 0 → l + 16 * (t2 + u2) ≡ l0 + 16 * (t + u) + s
      joined l x l0 s t u t2 f u2 e g h i = omega arith

-- ---- cycles that are alike are counted at once
pub repeated : (times l l0 t t1 t2 : ℕ) (carry set : Bool) → l + 16 * one_if carry ≡ l0 + times % 16 * one_if set
    → (t + 1 < 2 ^ 32 → t1 ≡ t + 1 * one_if carry)
    → (t1 + times / 16 < 2 ^ 32 → t2 ≡ t1 + times / 16 * one_if set)
    → l0 + 16 * t + times < 2 ^ 32 → l + 16 * t2 ≡ l0 + 16 * t + times * one_if set
repeated times l l0 t t1 t2 carry set e f g small =
    at set (one_if carry) (one-small carry) e f g
  where
    at : (b : Bool) (c : ℕ) → c ≤ 1 → l + 16 * c ≡ l0 + times % 16 * one_if b → (t + 1 < 2 ^ 32 → t1 ≡ t + 1 * c) → (t1 + times / 16 < 2 ^ 32 → t2 ≡ t1 + times / 16 * one_if b)
        → l + 16 * t2 ≡ l0 + 16 * t + times * one_if b
    at true c few e f g =
        let f1 = f (omega (arith, small)) in
        let g1 = g (omega (arith, few, f1, small)) in
        omega (arith, e, f1, g1)
    at false c few e f g =
        let f1 = f (omega (arith, small)) in
        let g1 = g (omega (arith, few, f1, small)) in
        omega (arith, e, f1, g1)

pub none-more : (t times : ℕ) (b : Bool) → times < 16 → t ≡ t + times / 16 * one_if b
none-more t times true few = omega arith
none-more t times false few = omega arith
