use Rattle.std.proofs.Common.{◌≡◌, ◌∙◌, ◌<◌, ◌++◌, ◌∷◌, [], ℕ, List, Some, ap, arith, inl, inr, length, option_map, refl}
use Rattle.std.specs.Prelude.{slice_get, slice_set}
use Rattle.std.proofs.lemmas.Bool.{cases_eq}
use Rattle.std.proofs.lemmas.List.{length-set}
use Rattle.noc_view.specs.Names.{verdict_name}
use Rattle.noc_view.specs.Verdict.{column}
use Rattle.noc_view.specs.declared.verdict.Verdict.{Verdict}
use Rattle.noc_view.specs.declared.verdict.Verdict.TheVariants.{Empty}
use Rattle.noc_view.proofs.ColumnLemmas.{column-small}
use Rattle.noc_files.specs.Labels.{label_text}
use Rattle.noc_files.specs.Writing.{comma}
use Rattle.noc_files.proofs.ListLemmas.{slice_get-set_other, slice_get-set_same}
use Rattle.noc_view.proofs.VerdictOrderLemmas.{verdict-at}
use Rattle.noc_files.proofs.labels.verdict_labels.Goals as goal

pub loop-index-init : goal.loop-index-init
loop-index-init c = record { long = refl; said = λ v l. absurd (omega (arith, l)) }

pub loop-index-preserved : goal.loop-index-preserved
loop-index-preserved c =
    let xs = c.loop-index.labels in
    let index = c.loop-index.index in
    let label = c.of.result in
    let name = c.name.result.now in
    let inside : index < length xs = omega (arith, c.loop-index.invariant.long, c.loop-index-test.true) in
    let page = c.add_byte.ensures.added ∙ ap (λ (t : List ℕ). t ++ 44 ∷ []) c.clear.ensures in
    let named = c.add.ensures.added ∙ ap (λ (t : List ℕ). t ++ name) page in
    let text = c.of.ensures ∙ c.text.ensures.value ∙ c.add_byte-in-loop-index.ensures.added ∙ ap (λ (t : List ℕ). t ++ 44 ∷ []) named in
    let is : (v : Verdict) → column v ≡ index → label_text label ≡ comma ++ verdict_name v ++ comma =
    λ v same. text ∙ ap (λ (t : List ℕ). 44 ∷ (t ++ 44 ∷ [])) (c.name.ensures ∙ ap verdict_name (verdict-at v index Empty same)) in
    record {
      long = length-set xs index label ∙ c.loop-index.invariant.long;
      said = λ v l.
          elim (cases_eq (column v) index) [
            | inl same ↦ ap (λ j. option_map label_text (slice_get (slice_set xs index label) j)) same
                ∙ ap (option_map label_text) (slice_get-set_same xs index label inside) ∙ ap Some (is v same)
            | inr other ↦ ap (option_map label_text) (slice_get-set_other xs index (column v) label other)
                ∙ c.loop-index.invariant.said v (omega (arith, l, other))
          ];
    }

pub returns : goal.returns
returns c = λ v. c.loop-index.invariant.said v (omega (arith, column-small v, c.loop-index-test.false))
