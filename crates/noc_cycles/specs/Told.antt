-- Which packets are told over the links that they hold input channels from now on.
use Rattle.std.specs.Prelude.{◌≡◌, ◌≢◌, ◌⊎◌, ℕ, ◌+◌, ◌*◌, ◌/◌, ◌%◌, ◌<◌, ◌≤◌, true, ◌&&◌, List, [], ◌∷◌, Option, Some, None, is_some, length, nat_eq, slice_get, slice_index_or, unwrap_or, vec_capacity, if◌then◌else◌, Vec}
use Rattle.std.specs.declared.alloc.Global.{Global}
use Rattle.noc_packet.specs.Set.{has_bit}
use Rattle.noc_topo.specs.Shape.{Grid, neighbour, nodes, ports}
use Rattle.noc_sets.specs.Unions.{some_below}
use Rattle.noc_columns.specs.Given.{is_of}
use Rattle.noc_columns.specs.Heads.{packet_in}
use Rattle.noc_columns.specs.Picks.{channels_of}
use Rattle.noc_columns.specs.Supply.{digits_by, number_in}
use Rattle.noc_columns.specs.Words.{set_of}
use Rattle.noc_columns.specs.declared.ports.RouterPorts.{RouterPorts}
use Rattle.noc_columns.specs.declared.sets.TheConstants.{CHANNELS}
use Rattle.noc_columns.specs.declared.words.TheConstants.{ROUTERS}
use Rattle.noc_cycles.specs.Gathered.{IsWired}
use Rattle.noc_cycles.specs.declared.around.Around.{Around}
use Rattle.noc_cycles.specs.declared.block.Block.{Block}
use Rattle.noc_cycles.specs.declared.notes.Note.{Note}
use Rattle.noc_cycles.specs.declared.pattern.Pattern.{Pattern}

-- ---- what all routers tell, by output channel
-- what a channel hears over its link, if it has one
abbrev pub heard_over : ℕ → (ℕ → ℕ → Option ℕ) → ℕ → Option (ℕ × ℕ) → Option ℕ
heard_over vcs tells vc None = None
heard_over vcs tells vc (Some (to, port)) = tells to (port * vcs + vc)

-- .. input channel i of router r
abbrev pub heard : Grid → ℕ → (ℕ → ℕ → Option ℕ) → ℕ → ℕ → Option ℕ
heard g vcs tells r i = heard_over vcs tells (i % vcs) (neighbour g r (i / vcs))

-- of that what the routers of block b tell
abbrev pub told_by : ℕ → (ℕ → ℕ → Option ℕ) → ℕ → ℕ → Option ℕ
told_by b tells s o = if nat_eq (s / ROUTERS) b then tells s o else None

-- ---- what a block tells
-- by which output channel input channel k of router r of a block sends: its port, and its virtual
-- channel
abbrev pub port_in : RouterPorts → Block → ℕ → ℕ → ℕ
port_in ports block r k =
    number_in (digits_by (set_of (channels_of ports) r) block.grants.sends.port) k

abbrev pub vc_in : RouterPorts → Block → ℕ → ℕ → ℕ
vc_in ports block r k =
    number_in (digits_by (set_of (channels_of ports) r) block.grants.sends.vc) k

-- router s tells these numbers: for each input channel that is granted an output channel that of
-- the packet which holds it
pub record Tells (g : Grid) (vcs s granted : ℕ) (port vc packet : ℕ → ℕ) (tells : ℕ → Option ℕ)
    : Type 0 where
  pub router : (k : ℕ) → has_bit granted k ≡ true → s < nodes g
  pub port_is : (k : ℕ) → has_bit granted k ≡ true → port k < ports g
  pub vc_is : (k : ℕ) → has_bit granted k ≡ true → vc k < vcs
  pub each : (k : ℕ) → has_bit granted k ≡ true → tells (port k * vcs + vc k) ≡ Some (packet k)
  pub all : (o p : ℕ) → o < ports g * vcs → tells o ≡ Some p
      → (k : ℕ) × (has_bit granted k ≡ true) × (port k * vcs + vc k ≡ o)

-- .. all routers of a block
pub record AreTold (g : Grid) (pattern : Pattern) (around : Around) (block : Block)
    (tells : ℕ → ℕ → Option ℕ) : Type 0 where
  pub wired : IsWired g pattern around
  pub each : (r : ℕ) → r < ROUTERS
      → Tells g pattern.table.ports.links.vcs (ROUTERS * around.block + r)
      (set_of (channels_of pattern.table.ports) r block.grants.granted)
      (port_in pattern.table.ports block r) (vc_in pattern.table.ports block r)
      (packet_in block.packets r) (tells (ROUTERS * around.block + r))

-- ---- what is noted of it
-- the packet of the last note for input channel i of router r, where before them this was noted
abbrev pub with_note : Note → ℕ → ℕ → Option ℕ → Option ℕ
with_note x r i before =
    if nat_eq x.router r && nat_eq x.channel i then Some x.packet else before

abbrev pub noted_after : List Note → ℕ → ℕ → Option ℕ → Option ℕ
noted_after [] r i before = before
noted_after (x ∷ notes) r i before = noted_after notes r i (with_note x r i before)

abbrev pub noted : List Note → ℕ → ℕ → Option ℕ
noted notes r i = noted_after notes r i None

-- packet p is noted where a link leads, by virtual channel vc
abbrev pub IsNotedOver : ℕ → ℕ → ℕ → List Note → List Note → Option (ℕ × ℕ) → Type 0
IsNotedOver vcs vc p old new None = (r i : ℕ) → noted new r i ≡ noted old r i
IsNotedOver vcs vc p old new (Some (to, port)) =
    (noted new to (port * vcs + vc) ≡ Some p)
    × ((r i : ℕ) → (r ≢ to) ⊎ (i ≢ port * vcs + vc) → noted new r i ≡ noted old r i)

-- these are the notes of all that is told
abbrev pub AreNotes : Grid → ℕ → (ℕ → ℕ → Option ℕ) → List Note → Type 0
AreNotes g vcs tells notes =
    (r i : ℕ) → r < nodes g → i < ports g * vcs → noted notes r i ≡ heard g vcs tells r i

-- of the grants of a block, to input channels of routers, all like these are noted, and no others
-- than there are
pub record NotesSome (g : Grid) (pattern : Pattern) (around : Around) (block : Block)
    (tells : ℕ → ℕ → Option ℕ) (Done : ℕ → ℕ → Type 0) (notes : List Note) : Type 0 where
  pub right : (t i p : ℕ) → noted notes t i ≡ Some p
      → heard g pattern.table.ports.links.vcs (told_by around.block tells) t i ≡ Some p
  pub are : (r k to port : ℕ) → r < ROUTERS → Done r k
      → has_bit (set_of (channels_of pattern.table.ports) r block.grants.granted) k ≡ true
      → neighbour g (ROUTERS * around.block + r) (port_in pattern.table.ports block r k)
      ≡ Some (to, port)
      → is_some (noted notes to
      (port * pattern.table.ports.links.vcs + vc_in pattern.table.ports block r k)) ≡ true

-- .. all of the first so many
abbrev pub NotesFirst : Grid → Pattern → Around → Block → (ℕ → ℕ → Option ℕ) → ℕ → List Note
    → Type 0
NotesFirst g pattern around block tells count =
    let index = (channels_of pattern.table.ports).index in
    NotesSome g pattern around block tells
    (λ r k. some_below count (is_of block.grants.given r (index k)) ≡ true)

-- the notes of block b
abbrev pub notes_or_none : Option (Vec Note Global) → List Note
notes_or_none None = []
notes_or_none (Some notes) = notes.items

abbrev pub notes_by : List (Vec Note Global) → ℕ → List Note
notes_by told b = notes_or_none (slice_get told b)

-- there is room for the notes of so many blocks
pub record HaveRoom (count : ℕ) (told : List (Vec Note Global)) : Type 0 where
  pub many : length told ≡ count
  pub each : (b : ℕ) (d : Vec Note Global) → b < count
      → ROUTERS * CHANNELS ≤ vec_capacity (slice_index_or told b d)

-- ---- what is heard
-- block b holds afterwards the packets that are noted for its input channels, and all else that it
-- held
pub record HasHeard (notes : List Note) (b : ℕ) (old new : Block) : Type 0 where
  pub packets : (r i : ℕ) → r < ROUTERS
      → packet_in new.packets r i
      ≡ unwrap_or (noted notes (ROUTERS * b + r) i) (packet_in old.packets r i)
  pub rest : new ≡ record old { packets = new.packets }
