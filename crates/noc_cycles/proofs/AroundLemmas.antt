-- The tables of all blocks.
use Rattle.std.proofs.Common.{◌≡◌, ◌≢◌, ℕ, zero, suc, ◌+◌, ◌-◌, ◌*◌, ◌<◌, ◌≤◌, List, [], ◌∷◌, ◌++◌, ◌∙◌, arith, ap, refl, sym, subst, inl, inr, length, map, length-append, append-nil}
use Rattle.std.specs.Prelude.{◌⊎◌, nat_eq, slice_index, slice_index_or, slice_set, if◌then◌else◌}
use Rattle.std.proofs.Math.Seq.{get_or-append_seam}
use Rattle.std.proofs.lemmas.List.{get_or-set_other, get_or-set_same, get_or_append_left}
use Rattle.noc_columns.specs.Places.{AreFar, IsNear, far_places}
use Rattle.noc_cycles.proofs.Common.{cases_eq, cases_lt, eq-eqb, ne_eqb, length-set, Grid, local_port, nodes, Far, far_by}
use Rattle.noc_cycles.specs.Around.{AreAround, AreEnds, AreFarBy, IsAround}
use Rattle.noc_cycles.specs.declared.around.Around.{Around}

-- ---- those that stand in other blocks, of one port more
module _ (f : Far → ℕ) where
  at-left : (all more : List Far) (j : ℕ) → j < length all → slice_index (map f (all ++ more)) j ≡ slice_index (map f all) j
  at-left [] more j l = absurd (omega (arith, l))
  at-left (x ∷ all) more zero l = refl
  at-left (x ∷ all) more (suc j) l = at-left all more j (omega (arith, l))

  at-right : (all more : List Far) (j : ℕ) → length all ≤ j → slice_index (map f (all ++ more)) j ≡ slice_index (map f more) (j - length all)
  at-right [] more j l = ap (slice_index (map f more)) (let e : j ≡ j - 0 = omega arith in e)
  at-right (x ∷ all) more zero l = absurd (omega (arith, l))
  at-right (x ∷ all) more (suc j) l = at-right all more j (omega (arith, l)) ∙ ap (slice_index (map f more)) (let e : j - length all ≡ suc j - suc (length all) = omega arith in e)

  -- what holds of those of both lists
  both-lists : (Q : ℕ → Type 0) (all more : List Far) → ((j : ℕ) → j < length all → Q (slice_index (map f all) j)) → ((j : ℕ) → j < length more → Q (slice_index (map f more) j))
      → (j : ℕ) → j < length (all ++ more) → Q (slice_index (map f (all ++ more)) j)
  both-lists Q all more before after j l = elim (cases_lt j (length all)) [
    | inl below ↦ subst Q (sym (at-left all more j below)) (before j below)
    | inr above ↦ let long = length-append all more in subst Q (sym (at-right all more j above)) (after (j - length all) (omega (arith, l, long, above)))
  ]

-- all of one port, and none of it
by-all : (far : List Far) (p : ℕ) → ((j : ℕ) → j < length far → slice_index (map (λ (f : Far). f.port) far) j ≡ p) → far_by far p ≡ far
by-all [] p are = refl
by-all (x ∷ far) p are =
    ap (λ b. if b then x ∷ far_by far p else far_by far p) (eq-eqb x.port p (are zero (omega arith)))
    ∙ ap (λ xs. x ∷ xs) (by-all far p (λ j l. are (suc j) (omega (arith, l))))

by-none : (far more : List Far) (p : ℕ) → ((j : ℕ) → j < length far → slice_index (map (λ (f : Far). f.port) far) j ≢ p) → far_by (far ++ more) p ≡ far_by more p
by-none [] more p others = refl
by-none (x ∷ far) more p others =
    ap (λ b. if b then x ∷ far_by (far ++ more) p else far_by (far ++ more) p) (ne_eqb x.port p (others zero (omega arith)))
    ∙ by-none far more p (λ j l. others (suc j) (omega (arith, l)))

by-left : (all more : List Far) (p : ℕ) → far_by more p ≡ [] → far_by (all ++ more) p ≡ far_by all p
by-left [] more p none = none
by-left (x ∷ all) more p none = ap (λ xs. if nat_eq x.port p then x ∷ xs else xs) (by-left all more p none)

-- .. those of the ports below n
pub record AreFarTo (g : Grid) (b n : ℕ) (far : List Far) : Type 0 where
  pub ports : (j : ℕ) → j < length far → slice_index (map (λ (f : Far). f.port) far) j < n
  pub blocks : (j : ℕ) → j < length far → 64 * (far_places far).block j < nodes g
  pub each : (p : ℕ) → p < n → AreFar g b p (far_by far p)

pub far-none : (g : Grid) (b : ℕ) → AreFarTo g b 0 []
far-none g b = record {
  ports = λ j l. absurd (omega (arith, l));
  blocks = λ j l. absurd (omega (arith, l));
  each = λ p l. absurd (omega (arith, l));
}

pub far-all : (g : Grid) (b n : ℕ) (far : List Far) → n ≡ local_port g → AreFarTo g b n far → AreFarBy g b far
far-all g b n far all are = record {
  ports = λ j l. let m = are.ports j l in omega (arith, m, all);
  blocks = are.blocks;
  each = λ p l. are.each p (omega (arith, l, all));
}

pub far-next : (g : Grid) (b n : ℕ) (all more : List Far) → AreFarTo g b n all → AreFar g b n more → AreFarTo g b (n + 1) (all ++ more)
far-next g b n all more are is = record {
  ports = both-lists (λ f. f.port) (λ q. q < n + 1) all more (λ j l. let m = are.ports j l in omega (arith, m)) (λ j l. let m = is.port j l in omega (arith, m));
  blocks = both-lists (λ f. f.block) (λ c. 64 * c < nodes g) all more are.blocks (λ j l. (is.block j l).1);
  each = λ p l. at p l (cases_eq p n);
}
  where
    at : (p : ℕ) → p < n + 1 → (p ≡ n) ⊎ (p ≢ n) → AreFar g b p (far_by (all ++ more) p)
    at p l (inl same) =
        subst (AreFar g b p)
        (sym (by-none all more p (λ j m e. let k = are.ports j m in absurd (omega (arith, k, e, same))) ∙ by-all more p (λ j m. is.port j m ∙ sym same)))
        (subst (λ q. AreFar g b q more) (sym same) is)
    at p l (inr other) =
        let none : far_by more p ≡ [] = sym (ap (λ xs. far_by xs p) (append-nil more)) ∙ by-none more [] p (λ j m e. other (sym e ∙ is.port j m)) in
        subst (AreFar g b p) (sym (by-left all more p none)) (are.each p (omega (arith, l, other)))

pub one-more : {X : Type 0} (all items : List X) (one : X) (n : ℕ) → items ≡ all ++ one ∷ [] → length all ≡ n → length items ≡ n + 1
one-more all items one n e many = ap length e ∙ length-append all (one ∷ []) ∙ omega (arith, many)

-- ---- all of a block
-- those that were pushed last
pub pushed : (all items : List Around) (one at : Around) (n : ℕ) → length all ≡ n → items ≡ all ++ one ∷ [] → at ≡ slice_index_or items n at → at ≡ one
pushed all items one at n many e read = read ∙ ap (λ xs. slice_index_or xs n at) e ∙ ap (λ k. slice_index_or (all ++ one ∷ []) k at) (sym many) ∙ get_or-append_seam all one [] at

-- .. and then written
pub written : (g : Grid) (vcs n : ℕ) (one at new : Around) → at ≡ one → new ≡ record at { near = new.near; ends = new.ends } → one.block ≡ n → AreFarBy g n one.far.items → IsNear g vcs n new.near → AreEnds g n new.ends
    → IsAround g vcs n new
written g vcs n one at new same rest number far near ends = record {
  block = ap (λ (a : Around). a.block) rest ∙ ap (λ (a : Around). a.block) same ∙ number;
  near = near;
  far = subst (AreFarBy g n) (sym (ap (λ (a : Around). a.far.items) rest ∙ ap (λ (a : Around). a.far.items) same)) far;
  ends = ends;
}

-- those of one block more
pub around-next : (g : Grid) (vcs n : ℕ) (all items : List Around) (one new : Around) → items ≡ all ++ one ∷ [] → AreAround g vcs n all → IsAround g vcs n new
    → AreAround g vcs (n + 1) (slice_set items n new)
around-next g vcs n all items one new e are is = record {
  many = length-set items n new ∙ size;
  each = λ b d l. at b d l (cases_eq b n);
}
  where
    size : length items ≡ n + 1
    size = one-more all items one n e are.many

    at : (b : ℕ) (d : Around) → b < n + 1 → (b ≡ n) ⊎ (b ≢ n) → IsAround g vcs b (slice_index_or (slice_set items n new) b d)
    at b d l (inl same) =
        subst (λ k. IsAround g vcs k (slice_index_or (slice_set items n new) k d)) (sym same)
        (subst (IsAround g vcs n) (sym (get_or-set_same items n new d (omega (arith, size)))) is)
    at b d l (inr other) =
        let before : b < n = omega (arith, l, other) in
        subst (IsAround g vcs b)
        (sym (get_or-set_other items n b new d other ∙ ap (λ xs. slice_index_or xs b d) e ∙ get_or_append_left all (one ∷ []) d b (let m = are.many in omega (arith, before, m))))
        (are.each b d before)
