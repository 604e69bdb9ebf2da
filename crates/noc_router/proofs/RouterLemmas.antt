-- What is true of a router stays true.
use Rattle.std.proofs.Common.{◌≡◌, ℕ, ◌+◌, ◌-◌, ◌*◌, ◌<◌, Bool, true, List, Option, refl, ap, sym, ◌∙◌, subst, arith, length}
use Rattle.std.specs.Prelude.{is_some}
use Rattle.std.proofs.lemmas.List.{get_or-set_other}
use Rattle.std.specs.Option.{ForSome}
use Rattle.noc_topo.specs.Shape.{Grid, IsGrid, ports}
use Rattle.noc_packet.specs.declared.packet.Beat.{Beat}
use Rattle.noc_packet.specs.declared.packet.Flit.{Flit}
use Rattle.noc_vc.specs.Input.{Input, idle_input, input_after_land}
use Rattle.noc_router.specs.declared.channels.Channels.{Channels}
use Rattle.noc_router.specs.declared.router.Router.TheInside.{Inside}
use Rattle.noc_router.specs.Inside.{IsRouter, view_of}
use Rattle.noc_router.specs.Tally.{TallyContents}
use Rattle.noc_view.specs.View.{local_channel}
use Rattle.noc_router.specs.Parts.{ChannelStates, states_after_land, states_in}
use Rattle.noc_router.specs.Sound.{is_awaiting, nth_input, KeepsAwaiting}

for_some : (P Q : ℕ → Type 0) (o : Option ℕ) → ((x : ℕ) → P x → Q x) → ForSome o P → ForSome o Q
for_some P Q o f h = λ x e. f x (h x e)

-- where the parts keep their sizes, and the input channels that await a flit still do
pub IsRouter-kept : (r s : Inside) → IsRouter r → s.shape ≡ r.shape → s.node ≡ r.node → s.ports ≡ r.ports → s.vcs ≡ r.vcs → s.depth ≡ r.depth
    → s.source.vc ≡ r.source.vc → s.channels.size ≡ r.channels.size → s.channels.bank.capacity ≡ r.channels.bank.capacity
    → KeepsAwaiting r.channels.inputs.items s.channels.inputs.items → s.neighbours ≡ r.neighbours → length s.to_put ≡ length r.to_put
    → length s.tally.counts ≡ length r.tally.counts → s.arbiters.ports ≡ r.arbiters.ports → s.arbiters.vcs ≡ r.arbiters.vcs → IsRouter s
IsRouter-kept r s is shape node ports_same vcs depth vc size capacity keeps neighbours beats counts arbiter_ports arbiter_vcs =
    let all : r.ports * r.vcs ≡ s.ports * s.vcs = ap (λ n. n * r.vcs) (sym ports_same) ∙ ap (λ n. s.ports * n) (sym vcs) in
    let first : (r.ports - 1) * r.vcs ≡ (s.ports - 1) * s.vcs = ap (λ n. (n - 1) * r.vcs) (sym ports_same) ∙ ap (λ n. (s.ports - 1) * n) (sym vcs) in
    record {
      grid = subst (λ (g : Grid). IsGrid g) (sym shape) is.grid;
      node = rw (node, shape) is.node;
      ports = ports_same ∙ is.ports ∙ ap ports (sym shape);
      neighbours = rw (shape, node, neighbours) is.neighbours;
      some_vc = rw vcs is.some_vc;
      few_vcs = rw vcs is.few_vcs;
      channels = size ∙ is.channels ∙ all;
      depth = capacity ∙ is.depth ∙ sym depth;
      beats = beats ∙ is.beats;
      sending = rw vc (for_some (λ v. v < r.vcs) (λ v. v < s.vcs) r.source.vc (λ v l. rw vcs l) is.sending);
      awaiting = rw vc (for_some (λ v. is_awaiting r.channels.inputs.items ((r.ports - 1) * r.vcs + v) ≡ true) (λ v. is_awaiting s.channels.inputs.items ((s.ports - 1) * s.vcs + v) ≡ true) r.source.vc
          (λ v h. ap (λ n. is_awaiting s.channels.inputs.items (n + v)) (sym first) ∙ keeps ((r.ports - 1) * r.vcs + v) h) is.awaiting);
      counts = counts ∙ is.counts ∙ all;
      arbiter_ports = arbiter_ports ∙ is.arbiter_ports ∙ sym ports_same;
      arbiter_vcs = arbiter_vcs ∙ is.arbiter_vcs ∙ sym vcs;
    }

-- the index of a local input channel
pub local-index : (r : Inside) (vc : ℕ) → IsRouter r → (r.ports - 1) * r.vcs + vc ≡ local_channel (view_of r).site vc
local-index r vc is =
    let e : r.ports - 1 ≡ 2 * length r.shape.radix = omega (arith, is.ports) in
    ap (λ n. n * r.vcs + vc) e

-- a router in another cycle
pub at-cycle : (r : Inside) (cycle : ℕ) → IsRouter r → IsRouter (record r { cycle = cycle })
at-cycle r cycle is = IsRouter-kept r (record r { cycle = cycle }) is refl refl refl refl refl refl refl refl (λ i e. e) refl refl refl refl refl

-- a router of which only channels and misfits change, and no input channel, is one still
pub IsRouter-misfit : (r : Inside) (channels : Channels) (n : ℕ) → IsRouter r → states_in channels ≡ states_in r.channels → IsRouter (record r { channels = channels; misfits = n })
IsRouter-misfit r channels n is states =
    IsRouter-kept r (record r { channels = channels; misfits = n }) is refl refl refl refl refl refl (ap (λ (s : ChannelStates). s.size) states) (ap (λ (s : ChannelStates). s.bank.capacity) states)
    (λ i h. ap (λ (s : ChannelStates). is_awaiting s.inputs i) states ∙ h) refl refl refl refl refl

-- a router of which only channels change, and whether it had an event, is one still
pub IsRouter-channels : (r : Inside) (channels : Channels) (happened : Bool) → IsRouter r → channels.size ≡ r.channels.size → channels.bank.capacity ≡ r.channels.bank.capacity
    → KeepsAwaiting r.channels.inputs.items channels.inputs.items → IsRouter (record r { channels = channels; had_event = happened })
IsRouter-channels r channels happened is size capacity keeps =
    IsRouter-kept r (record r { channels = channels; had_event = happened }) is refl refl refl refl refl refl size capacity keeps refl refl refl refl refl

-- a router where a flit has come to an input channel of a link port is one still
pub IsRouter-landed : (r : Inside) (channels : Channels) (i : ℕ) (flit : Flit) → IsRouter r → states_in channels ≡ states_after_land i flit (states_in r.channels) → i < (r.ports - 1) * r.vcs → IsRouter (record r { channels = channels; had_event = true })
IsRouter-landed r channels i flit is states link = record {
  grid = is.grid;
  node = is.node;
  ports = is.ports;
  neighbours = is.neighbours;
  some_vc = is.some_vc;
  few_vcs = is.few_vcs;
  channels = ap (λ (s : ChannelStates). s.size) states ∙ is.channels;
  depth = ap (λ (s : ChannelStates). s.bank.capacity) states ∙ is.depth;
  beats = is.beats;
  sending = is.sending;
  awaiting = for_some (λ v. is_awaiting r.channels.inputs.items ((r.ports - 1) * r.vcs + v) ≡ true) (λ v. is_awaiting channels.inputs.items ((r.ports - 1) * r.vcs + v) ≡ true) r.source.vc
      (λ v h. ap (λ (s : ChannelStates). is_awaiting s.inputs ((r.ports - 1) * r.vcs + v)) states
      ∙ ap (λ (input : Input). is_some input.awaited) (get_or-set_other r.channels.inputs.items i ((r.ports - 1) * r.vcs + v) (input_after_land (nth_input r.channels.inputs.items i) flit) idle_input (λ same. omega arith)) ∙ h) is.awaiting;
  counts = is.counts;
  arbiter_ports = is.arbiter_ports;
  arbiter_vcs = is.arbiter_vcs;
}

-- a router of which as many channels are counted as before is one still
pub IsRouter-counted : (r : Inside) (tally : TallyContents) (beats : List Beat) → IsRouter r → length tally.counts ≡ length r.tally.counts → length beats ≡ length r.to_put
    → IsRouter (record r { tally = tally; to_put = beats })
IsRouter-counted r tally beats is counts same = IsRouter-kept r (record r { tally = tally; to_put = beats }) is refl refl refl refl refl refl refl refl (λ i h. h) refl same counts refl refl
