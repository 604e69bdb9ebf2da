-- The counts of one block more are cleared.
use Rattle.std.proofs.Common.{◌≡◌, ◌≢◌, ◌⊎◌, ℕ, ◌+◌, ◌<◌, List, [], ◌∷◌, ◌++◌, length, ap, sym, ◌∙◌, subst, arith, inl, inr, length-append, get_or-set_same, get_or-set_other}
use Rattle.std.specs.Prelude.{slice_index_or, slice_set}
use Rattle.std.proofs.lemmas.Bool.{cases_eq}
use Rattle.std.proofs.lemmas.List.{get_or_append_left, length-set}
use Rattle.noc_counts.specs.Counts.{AreClear, IsClear}
use Rattle.noc_counts.specs.declared.counts.Counts.{Counts}

pub clear-next : (n : ℕ) (all items : List Counts) (nothing one : Counts) → items ≡ all ++ nothing ∷ [] → AreClear n all → IsClear one → AreClear (n + 1) (slice_set items n one)
clear-next n all items nothing one e are is = record {
  many = length-set items n one ∙ size;
  each = λ b d l. at b d l (cases_eq b n);
}
  where
    size : length items ≡ n + 1
    size = ap length e ∙ length-append all (nothing ∷ []) ∙ (let m = are.many in omega (arith, m))

    at : (b : ℕ) (d : Counts) → b < n + 1 → (b ≡ n) ⊎ (b ≢ n) → IsClear (slice_index_or (slice_set items n one) b d)
    at b d l (inl same) =
        subst (λ k. IsClear (slice_index_or (slice_set items n one) k d)) (sym same)
        (subst IsClear (sym (get_or-set_same items n one d (omega (arith, size)))) is)
    at b d l (inr other) =
        let before : b < n = omega (arith, l, other) in
        subst IsClear
        (sym (get_or-set_other items n b one d other ∙ ap (λ xs. slice_index_or xs b d) e ∙ get_or_append_left all (nothing ∷ []) d b (let m = are.many in omega (arith, before, m))))
        (are.each b d before)
