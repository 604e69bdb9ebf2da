use Rattle.std.proofs.Common.{◌≡◌, ◌∙◌, None, Some, ap, sym}
use Rattle.toml.specs.View.{items_view, view}
use Rattle.toml.specs.declared.value.Value.{Value}
use Rattle.noc_files.specs.Configuration.{lengths_of}
use Rattle.noc_files.proofs.KeyLemmas.{length_of, next_length, not_a_length}
use Rattle.noc_files.proofs.configuration.lengths.Goals as goal

pub loop-value-preserved : goal.loop-value-preserved
loop-value-preserved c =
    let read : length_of (view c.value-item.result) ≡ Some c.in-Some.length = sym c.in-Some.ensures in
    let here = ap (λ (v : Value). length_of (view v)) (sym c.value-item.is) ∙ read in
    rw c.in_ok-push.ensures.items
    (next_length c.args.values.now c.loop-value.value-index c.value-item.result c.loop-value.lengths.items c.in-Some.length c.loop-value-test.true here ∙ c.loop-value.invariant)

pub returns-in_default : goal.returns-in_default
returns-in_default c _ =
    let read : length_of (view c.value-item.result) ≡ None = sym c.in_default.ensures in
    let here = ap (λ (v : Value). length_of (view v)) (sym c.value-item.is) ∙ read in
    let none : lengths_of (items_view c.args.values.now) ≡ None =
    sym c.loop-value.invariant ∙ not_a_length c.args.values.now c.loop-value.value-index c.value-item.result c.loop-value.lengths.items c.loop-value-test.true here in
    rw none
