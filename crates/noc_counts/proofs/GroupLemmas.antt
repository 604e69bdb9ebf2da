-- Group after group, and the counts of a channel out of those of its group.
use Rattle.std.proofs.Common.{◌≡◌, ◌≢◌, ◌⊎◌, ℕ, ◌+◌, ◌*◌, ◌<◌, ◌≤◌, List, length, set, refl, ap, ap₂, sym, ◌∙◌, subst, arith, inl, inr, get_or-set_same, get_or-set_other}
use Rattle.std.proofs.lemmas.Bool.{cases_eq}
use Rattle.std.proofs.lemmas.List.{length-set}
use Rattle.noc_packet.specs.Set.{has_bit}
use Rattle.noc_topo.specs.Lists.{one_if}
use Rattle.noc_columns.specs.Words.{Numbering, set_by}
use Rattle.noc_counts.specs.Counts.{last_at, last_words, no_count, of_group}
use Rattle.noc_counts.specs.declared.count.Count.{Count}
use Rattle.noc_counts.specs.declared.counts.Counts.{Counts}
use Rattle.noc_counts.proofs.CountLemmas.{one-none}
use Rattle.noc_counts.proofs.FindingLemmas.{member-by}

-- the groups below i are done, and the others are as they were
pub record AreDone (P : ℕ → Count → Count → Type 0) (old now : List Count) (i : ℕ) : Type 0 where
  pub size : length now ≡ 18
  pub done : (g : ℕ) → g < i → P g (of_group old g) (of_group now g)
  pub left : (g : ℕ) → i ≤ g → of_group now g ≡ of_group old g

module _ (P : ℕ → Count → Count → Type 0) (old : List Count) where
  pub done-none : length old ≡ 18 → AreDone P old old 0
  done-none size = record { size = size; done = λ g l. absurd (omega arith); left = λ g l. refl }

  pub done-next : (now : List Count) (new : Count) (i : ℕ) → AreDone P old now i → i < 18 → P i (of_group now i) new → AreDone P old (set now i new) (i + 1)
  done-next now new i are few here = record {
    size = length-set now i new ∙ are.size;
    done = λ g l. at g l (cases_eq g i);
    left = λ g l. let other : g ≢ i = omega arith in get_or-set_other now i g new no_count other ∙ are.left g (omega arith);
  }
    where
      at : (g : ℕ) → g < i + 1 → (g ≡ i) ⊎ (g ≢ i) → P g (of_group old g) (of_group (set now i new) g)
      at g l (inl same) =
          subst (λ k. P k (of_group old k) (of_group (set now i new) k)) (sym same)
          (subst (λ (c : Count). P i (of_group old i) c) (sym (get_or-set_same now i new no_count (let s = are.size in omega (arith, few, s))))
          (subst (λ (c : Count). P i c new) (are.left i (omega arith)) here))
      at g l (inr other) =
          subst (λ (c : Count). P g (of_group old g) c) (sym (get_or-set_other now i g new no_count other)) (are.done g (omega (arith, l, other)))

-- a count rises on where the last cycle is repeated
pub rises-on : (n : Numbering) (r i times x y z w : ℕ) (words : ℕ → ℕ) → i < n.size → x ≡ y → z ≡ y + times * one_if (has_bit w r) → w ≡ words (n.index i)
    → x + times * one_if (has_bit (set_by n r words) i) ≡ z
rises-on n r i times x y z w words few is again one =
    ap₂ (λ a b. a + times * one_if b) is (member-by n r i words few ∙ sym (ap (λ v. has_bit v r) one)) ∙ sym again

-- and another one stays
pub stays : (r times x y z w : ℕ) → x ≡ y → z ≡ y + times * one_if (has_bit w r) → w ≡ 0 → x ≡ z
stays r times x y z w is again none =
    let e : times * one_if (has_bit w r) ≡ times * 0 = ap (λ m. times * m) (one-none w r none) in
    omega (arith, is, again, e)

-- the sets of a router in the last cycle, where the words of that cycle are the same
pub last-same : (n : Numbering) (r : ℕ) (a b : Counts) → ((j : ℕ) → last_words a j ≡ last_words b j) → last_at n a r ≡ last_at n b r
last-same n r a b same = λ x. record {
  no_flit = set_by n r (λ j. (same j x).no_flit);
  no_idle_channel = set_by n r (λ j. (same j x).no_idle_channel);
  no_credit = set_by n r (λ j. (same j x).no_credit);
}
