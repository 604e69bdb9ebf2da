use Rattle.std.proofs.Common.{◌≡◌, ℕ, zero, suc, ◌+◌, ◌-◌, ◌%◌, ◌<◌, List, [], ◌∷◌, ap, sym, ◌∙◌, arith, slice_index}
use Rattle.std.specs.Prelude.{if◌then◌else◌}
use Rattle.std.proofs.lemmas.Bool.{eq-eqb, ne_eqb}
use Rattle.noc_topo.specs.Shape.{opposite}
use Rattle.noc_columns.specs.Words.{word}
use Rattle.noc_columns.proofs.over_links.opposite_four.Goals as goal

up : (i : ℕ) → i % 2 ≡ 0 → opposite i ≡ i + 1
up i e = ap (λ b. if b then i + 1 else i - 1) (eq-eqb (i % 2) 0 e)

down : (i j : ℕ) → i % 2 ≡ 1 → i ≡ j + 1 → opposite i ≡ j
down i j e f = ap (λ b. if b then i + 1 else i - 1) (ne_eqb (i % 2) 0 (λ z. absurd (omega (arith, e, z)))) ∙ omega (arith, f)

four : (from : List ℕ) (at j : ℕ) → at % 2 ≡ 0 → j < 4 → slice_index (word (at + 1) from ∷ word at from ∷ word (at + 3) from ∷ word (at + 2) from ∷ []) j ≡ word (opposite (at + j)) from
four from at zero e l = ap (λ i. word i from) (sym (up (at + 0) (omega (arith, e)) ∙ omega arith))
four from at (suc zero) e l = ap (λ i. word i from) (sym (down (at + 1) at (omega (arith, e)) (omega arith)))
four from at (suc (suc zero)) e l = ap (λ i. word i from) (sym (up (at + 2) (omega (arith, e)) ∙ omega arith))
four from at (suc (suc (suc zero))) e l = ap (λ i. word i from) (sym (down (at + 3) (at + 2) (omega (arith, e)) (omega arith)))
four from at (suc (suc (suc (suc j)))) e l = absurd (omega (arith, l))

pub returns : goal.returns
returns c = λ j l. four c.args.from.now c.args.at j c.requires.even l
