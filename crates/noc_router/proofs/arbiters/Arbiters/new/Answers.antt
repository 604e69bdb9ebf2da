use Rattle.std.proofs.Common.{◌*◌, List, length, replicate, ap, ◌∙◌}
use Rattle.std.proofs.lemmas.List.{length-replicate}
use Rattle.noc_alloc.specs.Arbiter.{RoundRobin}
use Rattle.noc_router.specs.Arbiters.{SizedArbiters}
use Rattle.noc_router.proofs.WinnerLemmas.{opened-sizes}
use Rattle.noc_router.proofs.arbiters.Arbiters.new.Goals as goal

pub invariant_of-result-clause-one_each_channel : goal.invariant_of-result-clause-one_each_channel
invariant_of-result-clause-one_each_channel c =
    let one : RoundRobin = record { size = c.args.ports * c.args.vcs; pointer = 0 } in
    c.in_ok-channels.channels.ok.0 ∙ ap (λ (ts : List RoundRobin). length ts) c.in_ok-channels.ensures ∙ length-replicate (c.args.ports * c.args.vcs) one

pub invariant_of-result-clause-one_each_input : goal.invariant_of-result-clause-one_each_input
invariant_of-result-clause-one_each_input c =
    let one : RoundRobin = record { size = c.args.vcs; pointer = 0 } in
    c.in_ok-inputs.inputs.ok.0 ∙ ap (λ (ts : List RoundRobin). length ts) c.in_ok-inputs.ensures ∙ length-replicate c.args.ports one

pub invariant_of-result-clause-one_each_output : goal.invariant_of-result-clause-one_each_output
invariant_of-result-clause-one_each_output c =
    let one : RoundRobin = record { size = c.args.ports; pointer = 0 } in
    c.in_ok-outputs.outputs.ok.0 ∙ ap (λ (ts : List RoundRobin). length ts) c.in_ok-outputs.ensures ∙ length-replicate c.args.ports one

pub invariant_of-result-clause-over_channels : goal.invariant_of-result-clause-over_channels
invariant_of-result-clause-over_channels c = opened-sizes (c.args.ports * c.args.vcs) (c.args.ports * c.args.vcs) c.in_ok-channels.channels.items c.in_ok-channels.ensures

pub invariant_of-result-clause-over_vcs : goal.invariant_of-result-clause-over_vcs
invariant_of-result-clause-over_vcs c = opened-sizes c.args.ports c.args.vcs c.in_ok-inputs.inputs.items c.in_ok-inputs.ensures

pub invariant_of-result-clause-over_ports : goal.invariant_of-result-clause-over_ports
invariant_of-result-clause-over_ports c = opened-sizes c.args.ports c.args.ports c.in_ok-outputs.outputs.items c.in_ok-outputs.ensures

pub returns : goal.returns
returns c =
    let ports = c.args.ports in
    let vcs = c.args.vcs in
    let all : List RoundRobin = replicate (ports * vcs) (record { size = ports * vcs; pointer = 0 }) in
    let each : List RoundRobin = replicate ports (record { size = vcs; pointer = 0 }) in
    let made : List RoundRobin → List RoundRobin → List RoundRobin → SizedArbiters = λ xs ys zs. record { ports = ports; vcs = vcs; states = record { channels = xs; inputs = ys; outputs = zs } } in
    ap (λ xs. made xs c.in_ok-inputs.inputs.items c.in_ok-outputs.outputs.items) c.in_ok-channels.ensures
    ∙ ap (λ ys. made all ys c.in_ok-outputs.outputs.items) c.in_ok-inputs.ensures
    ∙ ap (λ zs. made all each zs) c.in_ok-outputs.ensures
