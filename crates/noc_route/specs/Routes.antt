-- A routing relation as a table of sets.
use Rattle.std.specs.Prelude.{◌≡◌, ◌≢◌, ◌⊎◌, ℕ, ◌+◌, ◌*◌, ◌/◌, ◌%◌, ◌<◌, ◌≤◌, Bool, true, false, ◌&&◌, List, Option, Some, None, length, nat_eq, nat_lt, slice_index, if◌then◌else◌}
use Rattle.noc_topo.specs.Shape.{Grid, IsGrid, nodes, ports, local_port, neighbour, distance}
use Rattle.noc_packet.specs.Set.{has_bit}
use Rattle.noc_packet.specs.declared.limits.TheConstants.{MAX_CHANNELS, MAX_CLASSES}
use Rattle.noc_route.specs.Channel.{Channel, Link, Inject, Eject, arrival_of, channel_vc}

-- the output channels of each entry, as bits: router by router, then by class,
-- destination, and input channel
pub record Routes : Type 0 where
  pub grid : Grid
  pub vcs : ℕ
  pub classes : ℕ
  pub sets : List ℕ

-- how many channels a router has as outputs, and as inputs
abbrev pub width : Grid → ℕ → ℕ
width g vcs = ports g * vcs

-- the number of a router, a class and a destination
abbrev pub page_of : Grid → ℕ → ℕ → ℕ → ℕ → ℕ
page_of g classes m r t = (r * classes + m) * nodes g + t

-- the class, router and destination of a page
abbrev pub page_class : Grid → ℕ → ℕ → ℕ
page_class g classes page = page / nodes g % classes

abbrev pub page_router : Grid → ℕ → ℕ → ℕ
page_router g classes page = page / nodes g / classes

abbrev pub page_dst : Grid → ℕ → ℕ
page_dst g page = page % nodes g

-- how many of these there are
abbrev pub pages : Grid → ℕ → ℕ
pages g classes = nodes g * classes * nodes g

-- the index of an entry in the table
abbrev pub entry_index : Grid → ℕ → ℕ → ℕ → ℕ → ℕ → ℕ → ℕ → ℕ
entry_index g vcs classes m r p v t = page_of g classes m r t * width g vcs + (p * vcs + v)

-- whether the class, router, input port, channel and destination exist
abbrev pub is_entry : Grid → ℕ → ℕ → ℕ → ℕ → ℕ → ℕ → ℕ → Bool
is_entry g vcs classes m r p v t =
    nat_lt m classes && nat_lt r (nodes g) && nat_lt p (ports g) && nat_lt v vcs
    && nat_lt t (nodes g)

-- the set of an entry, none where it does not exist
abbrev pub set_at : Routes → ℕ → ℕ → ℕ → ℕ → ℕ → ℕ
set_at routes m r p v t =
    if is_entry routes.grid routes.vcs routes.classes m r p v t
    then slice_index routes.sets (entry_index routes.grid routes.vcs routes.classes m r p v t)
    else 0

-- the limits within which a relation is made, and the size of its table
pub record HasTableSize (routes : Routes) : Type 0 where
  pub grid : IsGrid routes.grid
  pub some_vcs : 1 ≤ routes.vcs
  pub few_vcs : routes.vcs ≤ MAX_CHANNELS
  pub some_classes : 1 ≤ routes.classes
  pub few_classes : routes.classes ≤ MAX_CLASSES
  pub long : length routes.sets ≡ pages routes.grid routes.classes * width routes.grid routes.vcs

-- whether the table leads a packet that came to this input (a router and its port) on
-- channel in_vc on to a channel
abbrev pub permits_at : Routes → ℕ → Option (ℕ × ℕ) → ℕ → ℕ → Channel → Bool
permits_at routes m None in_vc t o = false
permits_at routes m (Some input) in_vc t (Inject n v) = false
permits_at routes m (Some input) in_vc t (Link r p v) =
    nat_eq r input.0 && nat_lt p (local_port routes.grid) && nat_lt v routes.vcs
    && has_bit (set_at routes m input.0 input.1 in_vc t) (p * routes.vcs + v)
permits_at routes m (Some input) in_vc t (Eject n v) =
    nat_eq n input.0 && nat_lt v routes.vcs
    && has_bit (set_at routes m input.0 input.1 in_vc t) (local_port routes.grid * routes.vcs + v)

-- whether a channel on which a packet can be is sent by a router that exists
abbrev pub is_sent : Routes → Channel → Bool
is_sent routes (Link r p v) = nat_lt r (nodes routes.grid)
is_sent routes (Inject n v) = true
is_sent routes (Eject n v) = false

-- whether the table permits a packet of class m, that is on channel c and bound for
-- t, to take channel o next
abbrev pub permits : Routes → ℕ → Channel → ℕ → Channel → Bool
permits routes m c t o =
    is_sent routes c && permits_at routes m (arrival_of routes.grid c) (channel_vc c) t o

-- ---- what is known of a relation that was built

-- a permitted output port that is a link leads to a router that is nearer by one
pub record HasHop (routes : Routes) (r t port : ℕ) : Type 0 where
  pub to : ℕ × ℕ
  pub link : neighbour routes.grid r port ≡ Some to
  pub nearer : distance routes.grid to.0 t + 1 ≡ distance routes.grid r t

-- a packet can come to a link's input by a permitted channel of the router before
pub record HasLead (routes : Routes) (m r p v t : ℕ) : Type 0 where
  pub router : ℕ
  pub in_port : ℕ
  pub in_vc : ℕ
  pub channel : ℕ
  pub link : neighbour routes.grid router (channel / routes.vcs) ≡ Some (r, p)
  pub vc : channel % routes.vcs ≡ v
  pub permitted : has_bit (set_at routes m router in_port in_vc t) channel ≡ true

pub record IsRelation (routes : Routes) : Type 0 where
  pub table : HasTableSize routes
  -- what is permitted is an output channel of the router
  pub real : (m r p v t k : ℕ) → has_bit (set_at routes m r p v t) k ≡ true
      → k < width routes.grid routes.vcs
  -- over a link it comes nearer by one
  pub nearer : (m r p v t k : ℕ) → has_bit (set_at routes m r p v t) k ≡ true
      → k / routes.vcs < local_port routes.grid → HasHop routes r t (k / routes.vcs)
  -- by the local port at the destination alone
  pub home : (m r p v t k : ℕ) → has_bit (set_at routes m r p v t) k ≡ true
      → k / routes.vcs ≡ local_port routes.grid → r ≡ t
  -- each injection entry away from the destination permits something
  pub injected : (m r v t : ℕ) → m < routes.classes → r < nodes routes.grid → v < routes.vcs
      → t < nodes routes.grid → t ≢ r
      → (k : ℕ) × (has_bit (set_at routes m r (local_port routes.grid) v t) k ≡ true)
  -- so does each entry to which a permitted link leads
  pub led_on : (m r p v t k b q : ℕ) → has_bit (set_at routes m r p v t) k ≡ true
      → neighbour routes.grid r (k / routes.vcs) ≡ Some (b, q)
      → (j : ℕ) × (has_bit (set_at routes m b q (k % routes.vcs) t) j ≡ true)
  -- and no other entry
  pub reached : (m r p v t k : ℕ) → has_bit (set_at routes m r p v t) k ≡ true
      → ((p ≡ local_port routes.grid) × (r ≢ t)) ⊎ HasLead routes m r p v t
