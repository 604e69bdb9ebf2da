-- The channels of a router as one record, and what each call does to it.
use Rattle.std.specs.Prelude.{ℕ, List, ◌++◌, ◌-◌, replicate, slice_set, unwrap_or}
use Rattle.noc_packet.specs.declared.packet.Flit.{Flit}
use Rattle.noc_ring.specs.Buffers.{Buffers, buffers_after_pop, buffers_after_push, empty_buffers}
use Rattle.noc_vc.specs.Input.{Input, idle_input, input_after_grant, input_after_land, input_after_route, input_after_send}
use Rattle.noc_vc.specs.Output.{Output, ejection_output, link_output, output_after_credit, output_after_hold, output_after_spend}
use Rattle.noc_router.specs.Sound.{nth_input, nth_output}
use Rattle.noc_router.specs.declared.channels.Channels.{Channels}

-- the channels by index
pub record ChannelStates : Type 0 where
  pub size : ℕ
  pub bank : Buffers
  pub inputs : List Input
  pub outputs : List Output

abbrev pub states_in : Channels → ChannelStates
states_in c = record {
  size = c.size;
  bank = c.bank;
  inputs = c.inputs.items;
  outputs = c.outputs.items;
}

-- empty channels: the first `links` output channels go on links, the others are ejection channels
abbrev pub opening_states : ℕ → ℕ → ℕ → ChannelStates
opening_states size links depth = record {
  size = size;
  bank = empty_buffers size depth;
  inputs = replicate size idle_input;
  outputs = replicate links (link_output depth) ++ replicate (size - links) ejection_output;
}

-- input channel i with another state
abbrev pub with_input : ℕ → Input → ChannelStates → ChannelStates
with_input i input s = record s { inputs = slice_set s.inputs i input }

-- output channel o with another state
abbrev pub with_output : ℕ → Output → ChannelStates → ChannelStates
with_output o output s = record s { outputs = slice_set s.outputs o output }

-- a flit has come to input channel i
abbrev pub states_after_land : ℕ → Flit → ChannelStates → ChannelStates
states_after_land i flit s =
    record (with_input i (input_after_land (nth_input s.inputs i) flit) s) {
      bank = buffers_after_push s.bank i flit;
    }

-- a credit has come to output channel o
abbrev pub states_after_credit : ℕ → ChannelStates → ChannelStates
states_after_credit o s = with_output o (output_after_credit (nth_output s.outputs o)) s

-- the head of input channel i has got its set of output channels
abbrev pub states_after_route : ℕ → ℕ → ChannelStates → ChannelStates
states_after_route i set s = with_input i (input_after_route (nth_input s.inputs i) set) s

-- input channel i has got output channel o
abbrev pub states_after_grant : ℕ → ℕ → ChannelStates → ChannelStates
states_after_grant i o s =
    let input = nth_input s.inputs i in
    with_input i (input_after_grant input o)
    (with_output o (output_after_hold (nth_output s.outputs o) i (unwrap_or input.packet 0)) s)

-- this flit has left input channel i by output channel o
abbrev pub states_after_send : ℕ → ℕ → Flit → ChannelStates → ChannelStates
states_after_send i o flit s =
    let sent = with_input i (input_after_send (nth_input s.inputs i) flit)
    (with_output o (output_after_spend flit.last (nth_output s.outputs o)) s) in
    record sent { bank = buffers_after_pop s.bank i }
