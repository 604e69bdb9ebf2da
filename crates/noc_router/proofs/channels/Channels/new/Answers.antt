use Rattle.std.proofs.Common.{◌-◌, ◌<◌, List, ap, arith, length-append, replicate, ◌∙◌, length, subst, sym}
use Rattle.std.proofs.lemmas.List.{length-replicate}
use Rattle.noc_ring.specs.Buffers.{Buffers}
use Rattle.noc_vc.specs.Input.{Input, idle_input}
use Rattle.noc_vc.specs.Output.{Output, ejection_output, link_output}
use Rattle.noc_router.specs.Parts.{opening_states}
use Rattle.noc_router.proofs.ChannelLemmas.{AreSound-opening}
use Rattle.noc_router.proofs.channels.Channels.new.Goals as goal

pub invariant_of-result-clause-sound : goal.invariant_of-result-clause-sound
invariant_of-result-clause-sound c =
    AreSound-opening c.args.size c.args.links c.args.depth c.in_ok-bank.bank c.in_ok-inputs.inputs.items c.in_ok-outputs.outputs.items
    c.requires.few_links c.in_ok-bank.ensures c.in_ok-inputs.ensures c.in_ok-outputs.ensures

pub invariant_of-result-clause-an_output_each : goal.invariant_of-result-clause-an_output_each
invariant_of-result-clause-an_output_each c =
    let links : List Output = replicate c.args.links (link_output c.args.depth) in
    let others : List Output = replicate (c.args.size - c.args.links) ejection_output in
    omega (arith, c.requires.few_links, ap length c.in_ok-outputs.ensures, length-append links others, length-replicate c.args.links (link_output c.args.depth), length-replicate (c.args.size - c.args.links) ejection_output, c.in_ok-outputs.outputs.ok.0)

pub invariant_of-result-clause-an_input_each : goal.invariant_of-result-clause-an_input_each
invariant_of-result-clause-an_input_each c = c.in_ok-inputs.inputs.ok.0 ∙ ap (λ (xs : List Input). length xs) c.in_ok-inputs.ensures ∙ length-replicate c.args.size idle_input

pub invariant_of-result-clause-some_depth : goal.invariant_of-result-clause-some_depth
invariant_of-result-clause-some_depth c = subst (λ n. 0 < n) (sym (ap (λ (b : Buffers). b.capacity) c.in_ok-bank.ensures)) c.requires.some_depth

pub returns : goal.returns
returns c =
    let opened = opening_states c.args.size c.args.links c.args.depth in
    ap (λ (b : Buffers). record opened { bank = b; inputs = c.in_ok-inputs.inputs.items; outputs = c.in_ok-outputs.outputs.items }) c.in_ok-bank.ensures
    ∙ ap (λ (xs : List Input). record opened { inputs = xs; outputs = c.in_ok-outputs.outputs.items }) c.in_ok-inputs.ensures
    ∙ ap (λ (xs : List Output). record opened { outputs = xs }) c.in_ok-outputs.ensures
