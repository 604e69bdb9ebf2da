-- Channels, each named by the router that sends on it.
use Rattle.std.specs.Prelude.{ℕ, ◌+◌, ◌*◌, ◌/◌, ◌%◌, Bool, true, false, ◌&&◌, Option, Some, None, option_map, nat_eq, if◌then◌else◌, List, filter_map}
use Rattle.std.specs.List.{flat_map}
use Rattle.noc_topo.specs.Lists.{below}
use Rattle.noc_topo.specs.Shape.{Grid, neighbour, local_port, ports, nodes}

-- a virtual channel of a link (by the sending router and its port), of an injection
-- port, or of an ejection port
pub data Channel : Type 0 where
  Link : (router port vc : ℕ) → Channel
  Inject : (node vc : ℕ) → Channel
  Eject : (node vc : ℕ) → Channel

abbrev pub same_channel : Channel → Channel → Bool
same_channel (Link r p v) (Link a q w) = nat_eq r a && (nat_eq p q && nat_eq v w)
same_channel (Inject n v) (Inject m w) = nat_eq n m && nat_eq v w
same_channel (Eject n v) (Eject m w) = nat_eq n m && nat_eq v w
same_channel _ _ = false

abbrev pub is_link : Channel → Bool
is_link (Link r p v) = true
is_link (Inject n v) = false
is_link (Eject n v) = false

-- the router that sends on it
abbrev pub sending_router : Channel → Option ℕ
sending_router (Link r p v) = Some r
sending_router (Inject n v) = None
sending_router (Eject n v) = Some n

-- the router that holds its buffer, and the input port there
abbrev pub arrival_of : Grid → Channel → Option (ℕ × ℕ)
arrival_of g (Link r p v) = neighbour g r p
arrival_of g (Inject n v) = Some (n, local_port g)
arrival_of g (Eject n v) = None

abbrev pub channel_vc : Channel → ℕ
channel_vc (Link r p v) = v
channel_vc (Inject n v) = v
channel_vc (Eject n v) = v

-- the output channel of a router with this index, port*vcs + vc
abbrev pub output_at : Grid → ℕ → ℕ → ℕ → Channel
output_at g vcs r i =
    if nat_eq (i / vcs) (local_port g) then Eject r (i % vcs) else Link r (i / vcs) (i % vcs)

abbrev pub output_index : Grid → ℕ → Channel → ℕ
output_index g vcs (Link r p v) = p * vcs + v
output_index g vcs (Inject n v) = 0
output_index g vcs (Eject n v) = local_port g * vcs + v

-- the input channel of a router with this index: the link channel that arrives there,
-- or the injection channel
abbrev pub input_at : Grid → ℕ → ℕ → ℕ → Option Channel
input_at g vcs r i =
    if nat_eq (i / vcs) (local_port g)
    then Some (Inject r (i % vcs))
    else option_map (λ (from : ℕ × ℕ). Link from.0 from.1 (i % vcs)) (neighbour g r (i / vcs))

-- every link and injection channel, by the router where it arrives
unfoldable pub inputs : Grid → ℕ → List Channel
inputs g vcs =
    flat_map (λ r. filter_map (input_at g vcs r) (below (ports g * vcs))) (below (nodes g))
