use Rattle.std.proofs.Common.{◌≡◌, ◌∙◌, ◌<◌, ◌++◌, ◌∷◌, [], ℕ, List, Some, ap, arith, inl, inr, length, option_map, sym}
use Rattle.std.specs.Prelude.{slice_get, slice_set}
use Rattle.std.proofs.lemmas.Bool.{cases_eq}
use Rattle.std.proofs.lemmas.List.{length-set}
use Rattle.noc_files.specs.Labels.{channel_text, label_text}
use Rattle.noc_files.proofs.ListLemmas.{slice_get-set_other, slice_get-set_same}
use Rattle.noc_files.proofs.labels.table_of.Goals as goal

pub loop-index-preserved : goal.loop-index-preserved
loop-index-preserved c =
    let text = channel_text c.args.shape.now c.args.width (c.args.between ∷ []) in
    let xs = c.loop-index.table in
    let index = c.loop-index.index in
    let label = c.of.result in
    let is : label_text label ≡ text index = c.of.ensures ∙ c.text.ensures.value ∙ c.add_channel.ensures.added ∙ ap (λ (t : List ℕ). t ++ text index) c.clear.ensures in
    let inside : index < length xs = omega (arith, c.loop-index.invariant.long, c.loop-index-test.true) in
    record {
      long = length-set xs index label ∙ c.loop-index.invariant.long;
      said = λ k l.
          elim (cases_eq k index) [
            | inl same ↦ ap (λ j. option_map label_text (slice_get (slice_set xs index label) j)) same ∙ ap (option_map label_text) (slice_get-set_same xs index label inside) ∙ ap Some is
                ∙ ap (λ j. Some (text j)) (sym same)
            | inr other ↦ ap (option_map label_text) (slice_get-set_other xs index k label other) ∙ c.loop-index.invariant.said k (omega (arith, l, other))
          ];
    }
