-- Input virtual channels (Dally and Towles, chapter 16).
use Rattle.std.specs.Prelude.{◌≡◌, ℕ, ◌+◌, Bool, true, false, ◌&&◌, ◌||◌, not, List, [], ◌∷◌, length, Option, Some, None, IfSome, is_some, nat_eq, nat_lt, if◌then◌else◌}
use Rattle.noc_topo.specs.Shape.{nodes}
use Rattle.noc_packet.specs.declared.packet.Flit.{Flit}
use Rattle.noc_packet.specs.declared.limits.TheConstants.{MAX_LENGTH}
use Rattle.noc_route.specs.Routes.{Routes, set_at}
use Rattle.noc_vc.specs.declared.input.Awaited.{Awaited}
use Rattle.noc_vc.specs.declared.input.InputState.{InputState as Phase}
use Rattle.noc_vc.specs.declared.input.InputState.TheVariants.{Idle, Waiting, Active}

-- an input channel; its flits are in a buffer beside it
pub record Input : Type 0 where
  pub phase : Phase
  pub packet : Option ℕ  -- that of the head that landed, until its tail has left
  pub awaited : Option Awaited  -- None before a head and once the tail has landed

abbrev pub idle_input : Input
idle_input = record { phase = Idle; packet = None; awaited = None }

abbrev pub is_idle_phase : Phase → Bool
is_idle_phase Idle = true
is_idle_phase (Waiting set) = false
is_idle_phase (Active o) = false

abbrev pub is_waiting : Phase → Bool
is_waiting Idle = false
is_waiting (Waiting set) = true
is_waiting (Active o) = false

abbrev pub is_active : Phase → Bool
is_active Idle = false
is_active (Waiting set) = false
is_active (Active o) = true

-- what is true of each input channel: it has a packet or is idle, and what it
-- awaits is of that packet
pub record IsInput (input : Input) : Type 0 where
  pub taken : is_idle_phase input.phase || is_some input.packet ≡ true
  pub follows : IfSome input.awaited (λ awaited. input.packet ≡ Some awaited.packet)

abbrev pub is_empty : {X : Type 0} → List X → Bool
is_empty [] = true
is_empty (x ∷ xs) = false

-- the flit behind f in its packet
abbrev pub next_of : Flit → Option Awaited
next_of f =
    if f.last then None
    else Some (record { packet = f.packet; index = f.index + 1; dst = f.dst; class = f.class })

abbrev pub is_awaited : Flit → Option Awaited → Bool
is_awaited f None = false
is_awaited f (Some a) =
    nat_eq f.packet a.packet && nat_eq f.index a.index && nat_eq f.dst a.dst
    && nat_eq f.class a.class && nat_lt f.index MAX_LENGTH

-- whether a flit is a head that may begin at this router, port and vc
abbrev pub may_begin : Routes → ℕ → ℕ → ℕ → Flit → Bool
may_begin g router port vc f =
    nat_eq f.index 0 && nat_lt f.dst (nodes g.grid) && nat_lt f.class g.classes
    && not (nat_eq (set_at g f.class router port vc f.dst) 0)

-- whether a flit is the one that an input channel expects: a head where it is idle and has no flit,
-- then the next of its packet
abbrev pub is_expected : Routes → ℕ → ℕ → ℕ → List Flit → Input → Flit → Phase → Bool
is_expected g router port vc flits input f Idle = is_empty flits && may_begin g router port vc f
is_expected g router port vc flits input f (Waiting set) = is_awaited f input.awaited
is_expected g router port vc flits input f (Active o) = is_awaited f input.awaited

-- whether a flit fits an input channel with these flits in a buffer of this depth
abbrev pub fits : Routes → ℕ → ℕ → ℕ → ℕ → List Flit → Input → Flit → Bool
fits g router port vc depth flits input f =
    nat_lt (length flits) depth && is_expected g router port vc flits input f input.phase

-- an input channel after a flit has landed
abbrev pub input_after_land : Input → Flit → Input
input_after_land input f = record input { packet = Some f.packet; awaited = next_of f }

-- an input channel after its head was given the set of output channels
abbrev pub input_after_route : Input → ℕ → Input
input_after_route input set = record input { phase = Waiting set }

-- an input channel after its packet was granted an output channel
abbrev pub input_after_grant : Input → ℕ → Input
input_after_grant input o = record input { phase = Active o }

-- an input channel after it has sent a flit
abbrev pub input_after_send : Input → Flit → Input
input_after_send input f = if f.last then idle_input else input
