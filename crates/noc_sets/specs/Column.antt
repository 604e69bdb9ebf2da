-- The words of one router, and what it means that they show its view.
use Rattle.std.specs.Prelude.{◌≡◌, ◌⊎◌, ℕ, ◌*◌, ◌/◌, ◌^◌, ◌<◌, ◌≤◌, Bool, true, false, List, [], ◌∷◌, length, Option, Some, None, IfSome, is_some, nat_lt, nat_le, nat_eq}
use Rattle.noc_topo.specs.Shape.{ports, local_port}
use Rattle.noc_packet.specs.Set.{has_bit}
use Rattle.noc_packet.specs.declared.packet.Flit.{Flit}
use Rattle.noc_alloc.specs.Arbiter.{arbiter_at}
use Rattle.noc_alloc.specs.Members.{MembersAreBelow}
use Rattle.noc_vc.specs.Input.{Input, is_active, is_idle_phase, is_waiting, is_empty}
use Rattle.noc_vc.specs.Output.{Output, is_free}
use Rattle.noc_vc.specs.declared.input.InputState.{InputState}
use Rattle.noc_vc.specs.declared.input.InputState.TheVariants.{Idle, Waiting, Active}
use Rattle.noc_vc.specs.declared.output.OutputState.{OutputState}
use Rattle.noc_vc.specs.declared.output.OutputState.TheVariants.{Idle as Free, Owned, Draining}
use Rattle.noc_view.specs.States.{is_supplied, owns, is_owned_from}
use Rattle.noc_view.specs.View.{Site, View, size_of, local_channel, view_buffer, view_input, view_output}
use Rattle.noc_sets.specs.Planes.{plane_number, ArePlanes}
use Rattle.noc_sets.specs.Turns.{ShowsPointer}

-- the words of one router
pub record Column : Type 0 where
  pub waiting : ℕ  -- input channels
  pub active : ℕ
  pub len : List ℕ  -- how many flits each has, bit by bit
  pub supplied : ℕ
  pub ahead : ℕ  -- by input port, the channels at or after its pointer
  pub wanted : ℕ  -- output channels: holds the sets of all that wait
  pub idle : ℕ
  pub draining : ℕ
  pub credit : List ℕ  -- how many credits each has, bit by bit
  pub injecting : ℕ  -- the local channel of the packet that is being injected

-- what it has by channel and by port
pub record RouterMarks : Type 0 where
  pub set : ℕ → ℕ  -- by waiting input channel, where it may go
  pub taken : ℕ → ℕ  -- by active input channel, its output channel, as a set
  pub packet : ℕ → ℕ  -- by waiting or active input channel, the number of its packet
  pub owner : ℕ → ℕ  -- by owned output channel, its input channel
  pub turn : ℕ → ℕ  -- by output channel, the input channels at or after the pointer of its arbiter
  pub to_port : ℕ → ℕ  -- by output port, the active input channels that own a channel of it
  -- by output port, the input channels of the ports at or after the pointer of its arbiter
  pub port_turn : ℕ → ℕ

-- each is a word, and numbers have so many bits
pub record AreWords (count : ℕ) (c : Column) : Type 0 where
  pub len_bits : length c.len ≡ count
  pub credit_bits : length c.credit ≡ count
  pub waiting : c.waiting < 2 ^ 64
  pub active : c.active < 2 ^ 64
  pub len : ArePlanes c.len
  pub supplied : c.supplied < 2 ^ 64
  pub ahead : c.ahead < 2 ^ 64
  pub wanted : c.wanted < 2 ^ 64
  pub idle : c.idle < 2 ^ 64
  pub draining : c.draining < 2 ^ 64
  pub credit : ArePlanes c.credit
  pub injecting : c.injecting < 2 ^ 64

abbrev pub is_draining : OutputState → Bool
is_draining Free = false
is_draining (Owned i p) = false
is_draining Draining = true

-- output channel o
pub record ShowsOutput (c : Column) (o : ℕ) (output : Output) : Type 0 where
  pub idle : has_bit c.idle o ≡ is_free output.holder
  pub draining : has_bit c.draining o ≡ is_draining output.holder
  pub credit : IfSome output.credit (λ n. plane_number c.credit o ≡ n)

-- input channel i with these flits in its buffer
pub record ShowsInput (c : Column) (i : ℕ) (flits : List Flit) (input : Input) : Type 0 where
  pub waiting : has_bit c.waiting i ≡ is_waiting input.phase
  pub active : has_bit c.active i ≡ is_active input.phase
  pub len : plane_number c.len i ≡ length flits

-- all channels
pub record ShowsChannels (c : Column) (v : View) : Type 0 where
  pub inputs : (i : ℕ) → i < size_of v.site → ShowsInput c i (view_buffer v i) (view_input v i)
  pub outputs : (o : ℕ) → o < size_of v.site → ShowsOutput c o (view_output v o)
  pub supplied : (i : ℕ) → i < size_of v.site
      → has_bit c.supplied i ≡ is_supplied v.outputs (view_input v i).phase
  pub waiting_below : MembersAreBelow (size_of v.site) c.waiting
  pub active_below : MembersAreBelow (size_of v.site) c.active
  pub idle_below : MembersAreBelow (size_of v.site) c.idle
  pub draining_below : MembersAreBelow (size_of v.site) c.draining
  pub len_below : (i : ℕ) → size_of v.site ≤ i → plane_number c.len i ≡ 0

-- the pointers of the arbiters
pub record ShowsTurns (c : Column) (m : RouterMarks) (v : View) : Type 0 where
  pub inputs : (p : ℕ) → p < ports v.site.grid
      → ShowsPointer v.site.vcs c.ahead p (arbiter_at v.arbiters.inputs p).pointer
  pub channels : (o : ℕ) → o < size_of v.site
      → ShowsPointer (size_of v.site) (m.turn o) 0 (arbiter_at v.arbiters.channels o).pointer
  pub outputs : (q i : ℕ) → q < ports v.site.grid → i < size_of v.site
      → (has_bit (m.port_turn q) i
      ≡ nat_le (arbiter_at v.arbiters.outputs q).pointer (i / v.site.vcs))
      ⊎ (((arbiter_at v.arbiters.outputs q).pointer ≡ 0)
      × ((k : ℕ) → k < size_of v.site → has_bit (m.port_turn q) k ≡ false))

-- input channel i, by channel: the set of one that waits, and the output channel of one that is
-- active
abbrev pub ShowsPhase : Column → RouterMarks → Site → ℕ → InputState → Type 0
ShowsPhase c m site i Idle = Unit {0}
ShowsPhase c m site i (Waiting set) =
    (m.set i ≡ set) × (set < 2 ^ 64) × ((o : ℕ) → has_bit set o ≡ true → has_bit c.wanted o ≡ true)
ShowsPhase c m site i (Active o) = m.taken i ≡ 2 ^ o

abbrev pub ShowsHolder : RouterMarks → ℕ → OutputState → Type 0
ShowsHolder m o Free = Unit {0}
ShowsHolder m o (Owned i p) = m.owner o ≡ i
ShowsHolder m o Draining = Unit {0}

-- whether an input channel in this state sends by this port
abbrev pub sends_by : ℕ → ℕ → InputState → Bool
sends_by vcs port Idle = false
sends_by vcs port (Waiting set) = false
sends_by vcs port (Active o) = nat_eq (o / vcs) port

pub record ShowsMarks (c : Column) (m : RouterMarks) (v : View) : Type 0 where
  pub phases : (i : ℕ) → i < size_of v.site → ShowsPhase c m v.site i (view_input v i).phase
  pub holders : (o : ℕ) → o < size_of v.site → ShowsHolder m o (view_output v o).holder
  pub packets : (i : ℕ) → i < size_of v.site → is_idle_phase (view_input v i).phase ≡ false
      → (view_input v i).packet ≡ Some (m.packet i)
  pub to_port : (q i : ℕ) → q < ports v.site.grid → i < size_of v.site
      → has_bit (m.to_port q) i ≡ sends_by v.site.vcs q (view_input v i).phase

-- what is being injected
abbrev pub ShowsSending : Column → View → Option (ℕ × ℕ) → Type 0
ShowsSending c v None = c.injecting ≡ 0
ShowsSending c v (Some (vc, index)) =
    (vc < v.site.vcs) × (c.injecting ≡ 2 ^ local_channel v.site vc)

-- what the columns say of the view of a router, but for its counts and its source
pub record IsColumn (count : ℕ) (c : Column) (m : RouterMarks) (v : View) : Type 0 where
  pub words : AreWords count c
  pub channels : ShowsChannels c v
  pub turns : ShowsTurns c m v
  pub marks : ShowsMarks c m v
  pub sending : ShowsSending c v v.sending

-- ---- what the words rest on: facts of every view of a network
pub record IsTidy (v : View) : Type 0 where
  -- no more flits than places, and no credit too many
  pub lens : (i : ℕ) → i < size_of v.site → length (view_buffer v i) ≤ v.site.depth
  pub credits : (o : ℕ) → o < size_of v.site
      → IfSome (view_output v o).credit (λ n. n ≤ v.site.depth)
  pub places : (o : ℕ) → o < size_of v.site
      → IfSome (view_output v o).credit (λ n. (view_output v o).depth ≡ v.site.depth)
  -- one that drains is a link channel, and misses a credit
  pub drains : (o : ℕ) → o < size_of v.site → is_draining (view_output v o).holder ≡ true
      → IfSome (view_output v o).credit (λ n. n < v.site.depth)
      × (is_some (view_output v o).credit ≡ true)
  -- a link channel counts credits, an ejection channel does not
  pub links : (o : ℕ) → o < size_of v.site
      → is_some (view_output v o).credit ≡ nat_lt o (local_port v.site.grid * v.site.vcs)
  -- whose packet owns what
  pub owners : (i o : ℕ) → i < size_of v.site → o < size_of v.site
      → owns (view_input v i).phase o ≡ is_owned_from (view_output v o).holder i
  pub owned_below : (i o : ℕ) → i < size_of v.site → (view_input v i).phase ≡ Active o
      → o < size_of v.site
  pub owner_below : (i o : ℕ) → o < size_of v.site → is_owned_from (view_output v o).holder i ≡ true
      → i < size_of v.site
  -- one that waits has a flit
  pub waits : (i : ℕ) → i < size_of v.site → is_waiting (view_input v i).phase ≡ true
      → is_empty (view_buffer v i) ≡ false
  -- the packet of a channel: that of its first flit, none where it is idle and has no flit, and
  -- that which its output channel names
  pub firsts : (i : ℕ) (f : Flit) (rest : List Flit) → i < size_of v.site
      → view_buffer v i ≡ f ∷ rest → (view_input v i).packet ≡ Some f.packet
  pub vacant : (i : ℕ) → i < size_of v.site → is_idle_phase (view_input v i).phase ≡ true
      → view_buffer v i ≡ [] → (view_input v i).packet ≡ None
  pub named : (i o p : ℕ) → i < size_of v.site → o < size_of v.site
      → (view_output v o).holder ≡ Owned i p → (view_input v i).packet ≡ Some p
