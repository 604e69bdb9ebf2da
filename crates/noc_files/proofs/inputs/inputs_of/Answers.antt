use Rattle.std.proofs.Common.{◌∙◌, ◌<◌, ◌/◌, ◌%◌, Some, ap, arith, inl, inr, length, subst, sym}
use Rattle.std.specs.Prelude.{slice_get, slice_set}
use Rattle.std.proofs.lemmas.Bool.{cases_eq}
use Rattle.std.proofs.lemmas.List.{length-set}
use Rattle.noc_topo.specs.Shape.{ports}
use Rattle.noc_files.specs.Channels.{is_input}
use Rattle.noc_files.proofs.ListLemmas.{slice_get-set_other, slice_get-set_same}
use Rattle.noc_files.proofs.inputs.inputs_of.Goals as goal

pub loop-index-preserved : goal.loop-index-preserved
loop-index-preserved c =
    let shape = c.args.shape.now in
    let xs = c.loop-index.inputs in
    let index = c.loop-index.index in
    let found = c.has_input_at.result in
    let inside : index < length xs = omega (arith, c.loop-index.invariant.long, c.loop-index-test.true, c.nodes-index-end.ensures.few) in
    record {
      long = length-set xs index found ∙ c.loop-index.invariant.long;
      known = λ k l p.
          elim (cases_eq k index) [
            | inl same ↦ (
                ap (slice_get (slice_set xs index found)) same ∙ slice_get-set_same xs index found inside ∙ ap Some (c.has_input_at.ensures (subst (λ m. m % 7 < ports shape) same p))
                ∙ ap (λ m. Some (is_input shape (m / 7) (m % 7))) (sym same)
                )
            | inr other ↦ slice_get-set_other xs index k found other ∙ c.loop-index.invariant.known k (omega (arith, l, other)) p
          ];
    }
