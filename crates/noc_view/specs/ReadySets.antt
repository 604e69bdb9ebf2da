-- The input channels of a router, as sets by what they can do: heads that are not routed, those
-- that wait, those without a flit or without a credit, and those that can send.
use Rattle.std.specs.Prelude.{◌≡◌, ℕ, ◌<◌, ◌&&◌, not, List, [], slice_index_or}
use Rattle.noc_packet.specs.Set.{has_bit}
use Rattle.noc_packet.specs.declared.packet.Flit.{Flit}
use Rattle.noc_vc.specs.Input.{Input, idle_input, is_active, is_idle_phase, is_empty, is_waiting}
use Rattle.noc_vc.specs.Output.{Output}
use Rattle.noc_alloc.specs.Members.{MembersAreBelow}
use Rattle.noc_view.specs.States.{is_supplied}
use Rattle.noc_view.specs.View.{View, size_of}

-- those that hold something, by the state of their packet: a head that is not routed; a packet that
-- waits for an output channel; one that owns an output channel and whose next flit is not there;
-- one whose next flit is there, but whose output channel has no credit; and one whose output
-- channel has a credit, or leads out
pub record ReadySets : Type 0 where
  pub heads : ℕ
  pub waiting : ℕ
  pub no_flit : ℕ
  pub no_credit : ℕ
  pub ready : ℕ

-- what the input channels can go on with: each that holds something is in one of the sets
pub record AreReadySets (size : ℕ) (buffers : List (List Flit)) (inputs : List Input)
    (outputs : List Output) (s : ReadySets) : Type 0 where
  pub heads_below : MembersAreBelow size s.heads
  pub waiting_below : MembersAreBelow size s.waiting
  pub no_flit_below : MembersAreBelow size s.no_flit
  pub no_credit_below : MembersAreBelow size s.no_credit
  pub ready_below : MembersAreBelow size s.ready
  pub heads : (i : ℕ) → i < size
      → has_bit s.heads i
      ≡ (is_idle_phase (slice_index_or inputs i idle_input).phase
      && not (is_empty (slice_index_or buffers i [])))
  pub waiting : (i : ℕ) → i < size
      → has_bit s.waiting i ≡ is_waiting (slice_index_or inputs i idle_input).phase
  pub no_flit : (i : ℕ) → i < size
      → has_bit s.no_flit i
      ≡ (is_active (slice_index_or inputs i idle_input).phase
      && is_empty (slice_index_or buffers i []))
  pub no_credit : (i : ℕ) → i < size
      → has_bit s.no_credit i
      ≡ (is_active (slice_index_or inputs i idle_input).phase
      && (not (is_empty (slice_index_or buffers i []))
      && not (is_supplied outputs (slice_index_or inputs i idle_input).phase)))
  pub ready : (i : ℕ) → i < size
      → has_bit s.ready i
      ≡ (is_active (slice_index_or inputs i idle_input).phase
      && (not (is_empty (slice_index_or buffers i []))
      && is_supplied outputs (slice_index_or inputs i idle_input).phase))

-- the sets of all channels of a view
abbrev pub AreReadySetsOf : View → ReadySets → Type 0
AreReadySetsOf v s = AreReadySets (size_of v.site) v.buffers v.inputs v.outputs s
