-- A new router.
use Rattle.std.proofs.Common.{◌≡◌, ℕ, ◌+◌, ◌-◌, ◌*◌, false, List, ◌++◌, Option, length, map, take, None, ap, ◌∙◌, arith}
use Rattle.std.specs.Prelude.{replicate}
use Rattle.std.specs.List.{zip}
use Rattle.std.proofs.lemmas.List.{take-replicate}
use Rattle.std.proofs.Math.Nat.{add-mul}
use Rattle.noc_topo.specs.Shape.{Grid, IsGrid, ports, local_port}
use Rattle.noc_packet.specs.declared.packet.Beat.{Beat}
use Rattle.noc_packet.specs.declared.packet.Packet.{Packet}
use Rattle.noc_ring.specs.Buffers.{empty_buffers}
use Rattle.noc_vc.specs.Input.{idle_input}
use Rattle.noc_vc.specs.Output.{link_output, ejection_output}
use Rattle.noc_router.specs.declared.arbiters.Arbiters.{Arbiters}
use Rattle.noc_router.specs.declared.arrivals.Arrivals.{Arrivals}
use Rattle.noc_router.specs.declared.channels.Channels.{Channels}
use Rattle.noc_router.specs.declared.source.Source.{Source}
use Rattle.noc_router.specs.declared.tally.VerdictTally.{VerdictTally}
use Rattle.noc_router.specs.Arbiters.{SizedArbiters, arbiter_states_in, sized_arbiters_in}
use Rattle.noc_router.specs.Inside.{view_of, queue_of}
use Rattle.noc_router.specs.Parts.{ChannelStates, opening_states, states_in}
use Rattle.noc_router.specs.Tally.{empty_tally}
use Rattle.noc_view.specs.Verdict.{opening_arbiters}
use Rattle.noc_view.specs.View.{idle_beat, opening_view}

last_port : (d vcs : ℕ) → (2 * d + 1) * vcs - 2 * d * vcs ≡ vcs
last_port d vcs = let e : (2 * d + 1) * vcs ≡ 2 * d * vcs + 1 * vcs = add-mul (2 * d) 1 vcs in omega arith

-- the view of a router none of whose parts has done anything
pub opening-is : (node p vcs depth : ℕ) (shape : Grid) (source : Source) (channels : Channels) (to_put : List Beat) (tally : VerdictTally) (arbiters : Arbiters) (arrivals : Arrivals) (neighbours : List (Option (ℕ × ℕ))) (starts : List (ℕ × Packet)) (ends : List ℕ)
    → IsGrid shape → p ≡ ports shape → queue_of source ≡ starts → source.vc ≡ None
    → states_in channels ≡ opening_states (p * vcs) ((p - 1) * vcs) depth
    → to_put ≡ replicate 6 idle_beat
    → tally ≡ empty_tally (p * vcs)
    → sized_arbiters_in arbiters ≡ record { ports = p; vcs = vcs; states = opening_arbiters p vcs }
    → zip arrivals.ends.items arrivals.cycles.items ≡ map (λ q. (q, None)) ends
    → view_of (record {
      node = node;
      ports = p;
      vcs = vcs;
      depth = depth;
      cycle = 0;
      had_event = false;
      last_event = None;
      misfits = 0;
      source = source;
      channels = channels;
      to_put = to_put;
      tally = tally;
      arbiters = arbiters;
      arrivals = arrivals;
      shape = shape;
      neighbours = neighbours;
    }) ≡ opening_view (record { grid = shape; node = node; vcs = vcs; depth = depth }) starts ends
opening-is node p vcs depth shape source channels to_put tally arbiters arrivals neighbours starts ends grid ps queue vc opened beats tally_empty sized ended =
    let d : ℕ = length shape.radix in
    let before : p - 1 ≡ 2 * d = omega arith in
    let bank_is : channels.bank ≡ empty_buffers (ports shape * vcs) depth = ap (λ (s : ChannelStates). s.bank) opened ∙ ap (λ n. empty_buffers (n * vcs) depth) ps in
    let inputs_are : channels.inputs.items ≡ replicate (ports shape * vcs) idle_input = ap (λ (s : ChannelStates). s.inputs) opened ∙ ap (λ n. replicate (n * vcs) idle_input) ps in
    let outputs_are : channels.outputs.items ≡ replicate (local_port shape * vcs) (link_output depth) ++ replicate vcs ejection_output =
    ap (λ (s : ChannelStates). s.outputs) opened ∙ ap (λ n. replicate ((n - 1) * vcs) (link_output depth) ++ replicate (n * vcs - (n - 1) * vcs) ejection_output) ps
    ∙ (let e : 2 * d + 1 - 1 ≡ 2 * d = omega arith in ap (λ n. replicate (n * vcs) (link_output depth) ++ replicate ((2 * d + 1) * vcs - n * vcs) ejection_output) e)
    ∙ ap (λ n. replicate (2 * d * vcs) (link_output depth) ++ replicate n ejection_output) (last_port d vcs) in
    let tally_is : tally ≡ empty_tally (ports shape * vcs) = tally_empty ∙ ap (λ n. empty_tally (n * vcs)) ps in
    let states : arbiter_states_in arbiters ≡ opening_arbiters (ports shape) vcs = ap (λ (t : SizedArbiters). t.states) sized ∙ ap (λ n. opening_arbiters n vcs) ps in
    let beats_are : take (local_port shape) to_put ≡ replicate (local_port shape) idle_beat = ap (take (local_port shape)) beats ∙ take-replicate (local_port shape) 6 idle_beat (omega (arith, grid.few_dimensions)) in
    rw (bank_is, inputs_are, outputs_are, tally_is, states, beats_are, ended, queue, vc)
