use Rattle.std.proofs.Common.{◌≡◌, ◌<◌, ◌+◌, None, get_or, length, refl, sym, ap, ◌∙◌, subst, arith}
use Rattle.std.specs.Prelude.{if◌then◌else◌}
use Rattle.std.proofs.lemmas.Bool.{le-ltb}
use Rattle.std.proofs.lemmas.List.{get_or_default, take_all}
use Rattle.noc_alloc.specs.Arbiter.{RoundRobin, arbiter_after, arbiter_at}
use Rattle.noc_alloc.specs.Allocation.{winning_pick}
use Rattle.noc_topo.proofs.ListLemmas.{map_indexed-from_each}
use Rattle.noc_alloc.proofs.SwitchLemmas.{AllAdvanced, moved-by_requests, advanced-more, advanced_below-all, advanced_below-more, advanced_by-sizes}
use Rattle.noc_alloc.proofs.switch.advance_switch.Goals as goal

pub loop-output-preserved : goal.loop-output-preserved
loop-output-preserved c =
    let k = c.loop-output.output in
    let l : k < length c.args.wins.now = omega arith in
    record {
      inputs = subst (AllAdvanced c.args.inputs.now c.args.picks.now c.args.wins.now (k + 1)) (sym c.advance_winner.ensures)
          (advanced-more c.args.inputs.now c.loop-output.inputs c.args.picks.now c.args.wins.now k (get_or c.args.wins.now k None) refl l c.loop-output.auto.inputs (c.requires.choices.winners k None l) c.loop-output.invariant.inputs);
      outputs = advanced_below-more c.args.outputs.now c.loop-output.outputs c.args.wins.now k c.advance.new.self (omega (arith, l, c.requires.wins, c.loop-output.auto.outputs))
          (c.advance.ensures
          ∙ ap (λ (t : RoundRobin). arbiter_after t (get_or c.args.wins.now k None))
          (get_or_default c.loop-output.outputs k c.index-outputs-output.result (record { size = 0; pointer = 0 }) (omega (arith, l, c.requires.wins, c.loop-output.auto.outputs))
          ∙ c.loop-output.invariant.outputs k ∙ ap (λ b. if b then arbiter_after (arbiter_at c.args.outputs.now k) (get_or c.args.wins.now k None) else arbiter_at c.args.outputs.now k) (le-ltb k k (omega arith))))
          c.loop-output.invariant.outputs;
    }

pub returns-clause-inputs : goal.returns-clause-inputs
returns-clause-inputs c =
    let n : c.loop-output.output ≡ length c.args.wins.now = omega arith in
    map_indexed-from_each (λ i (t : RoundRobin). arbiter_after t (winning_pick c.args.picks.now c.args.wins.now i)) c.args.inputs.now c.loop-output.inputs (record { size = 0; pointer = 0 }) (record { size = 0; pointer = 0 })
    c.loop-output.auto.inputs
    (λ k l. subst (λ ws. arbiter_at c.loop-output.inputs k ≡ arbiter_after (arbiter_at c.args.inputs.now k) (winning_pick c.args.picks.now ws k)) (take_all c.loop-output.output c.args.wins.now (omega arith))
    (c.loop-output.invariant.inputs k l))

pub returns-clause-by_requests : goal.returns-clause-by_requests
returns-clause-by_requests c = λ ready vcs ports ps is. returns-clause-inputs c ∙ moved-by_requests ready vcs ports ps c.args.picks.now c.args.wins.now c.args.inputs.now is

pub returns-clause-outputs : goal.returns-clause-outputs
returns-clause-outputs c = advanced_below-all c.args.outputs.now c.loop-output.outputs c.args.wins.now c.loop-output.output (omega (arith, c.requires.wins)) c.loop-output.auto.outputs c.loop-output.invariant.outputs

pub returns-clause-input_sizes : goal.returns-clause-input_sizes
returns-clause-input_sizes c = λ n. advanced_by-sizes (winning_pick c.args.picks.now c.args.wins.now) c.args.inputs.now c.loop-output.inputs n (returns-clause-inputs c)

pub returns-clause-output_sizes : goal.returns-clause-output_sizes
returns-clause-output_sizes c = λ n. advanced_by-sizes (λ p. get_or c.args.wins.now p None) c.args.outputs.now c.loop-output.outputs n (returns-clause-outputs c)
