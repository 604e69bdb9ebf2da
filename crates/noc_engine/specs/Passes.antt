-- What the passes of a cycle make of blocks of a network that stand side by side, from the one with
-- number `first` on.
use Rattle.std.specs.Prelude.{◌≡◌, ℕ, ◌+◌, ◌*◌, ◌/◌, ◌%◌, ◌^◌, ◌<◌, ◌≤◌, Bool, List, Option, Some, None, Vec, length, nat_lt, if◌then◌else◌}
use Rattle.std.specs.List.{slice_get}
use Rattle.std.specs.declared.alloc.Global.{Global}
use Rattle.noc_topo.specs.Shape.{nodes}
use Rattle.noc_route.specs.Routes.{Routes}
use Rattle.noc_sets.specs.Counts.{ByVerdict, with_verdicts}
use Rattle.noc_sets.specs.Cycle.{Router, Turn}
use Rattle.noc_sets.specs.Unions.{some_below}
use Rattle.noc_theory.specs.Network.{Setup}
use Rattle.noc_columns.specs.Heads.{packet_in}
use Rattle.noc_columns.specs.Picks.{channels_of}
use Rattle.noc_columns.specs.Words.{set_of}
use Rattle.noc_columns.specs.declared.channels.Links.{Links}
use Rattle.noc_columns.specs.declared.ports.RouterPorts.{RouterPorts}
use Rattle.noc_columns.specs.declared.words.TheConstants.{ROUTERS}
use Rattle.noc_counts.specs.Counts.{HasHad, WaitsOn, counted_in, delays_of, last_at}
use Rattle.noc_counts.specs.Told.{told_at}
use Rattle.noc_counts.specs.declared.counts.Counts.{Counts}
use Rattle.noc_cycles.specs.Gathered.{brought, left_by}
use Rattle.noc_cycles.specs.Held.{links_at}
use Rattle.noc_cycles.specs.Told.{Tells, notes_by, port_in, vc_in}
use Rattle.noc_cycles.specs.declared.block.Block.{Block}
use Rattle.noc_cycles.specs.declared.block.Work.{Work}
use Rattle.noc_cycles.specs.declared.notes.Note.{Note}
use Rattle.noc_engine.specs.Tiles.{AreNotesBy, left_of}
use Rattle.noc_engine.specs.Turns.{HasTurnedBlock, MayTurn}
use Rattle.noc_engine.specs.declared.plan.Plan.{Plan}

-- ---- turns
-- they may have their turn in cycle n
pub record MayTurnAll (net : Setup) (relation : Routes) (plan : Plan) (n first : ℕ)
    (words : ℕ → Router) (blocks : List Block) (works : List Work) : Type 0 where
  pub within : first + length blocks ≤ length plan.around.items
  pub works_are : length works ≡ length blocks
  pub each : (b : ℕ) (block : Block) (work : Work) → slice_get blocks b ≡ Some block
      → slice_get works b ≡ Some work → MayTurn net relation plan n (first + b) words block work

-- they have had it: this leaves the blocks of the network, as far as it is theirs, and this tells
-- whether something has happened
pub record HaveTurned (net : Setup) (plan : Plan) (n first : ℕ) (words : ℕ → Router)
    (turns : ℕ → Turn) (blocks : List Block) (works : List Work) (left : List (Links (List ℕ)))
    (happened : Bool) : Type 0 where
  pub each : (b : ℕ) (block : Block) (work : Work) → slice_get blocks b ≡ Some block
      → slice_get works b ≡ Some work
      → HasTurnedBlock net plan n (first + b) words turns block work (left_by left (first + b))
      (some_below ROUTERS (λ r. (turns (ROUTERS * (first + b) + r)).happened))
  pub happened_is : happened
      ≡ some_below (ROUTERS * length blocks) (λ s. (turns (ROUTERS * first + s)).happened)

-- ---- packets arrive
-- the input channels of router s from which packets leave the network, where the first router is
-- the first of them
abbrev pub arrived_or : RouterPorts → Option Work → ℕ → ℕ
arrived_or ports None r = 0
arrived_or ports (Some work) r = set_of (channels_of ports) r work.arrived

abbrev pub arrived_of : RouterPorts → List Work → ℕ → ℕ
arrived_of ports works s = arrived_or ports (slice_get works (s / ROUTERS)) (s % ROUTERS)

-- the packets that hold its input channels
abbrev pub packets_or : Option Block → ℕ → ℕ → ℕ
packets_or None r k = 0
packets_or (Some block) r k = packet_in block.packets r k

abbrev pub packets_of : List Block → ℕ → ℕ → ℕ
packets_of blocks s = packets_or (slice_get blocks (s / ROUTERS)) (s % ROUTERS)

-- where no router of a block is leaving, no packet leaves the network
abbrev pub TellLeaving : RouterPorts → List Work → Type 0
TellLeaving ports works =
    (b : ℕ) (work : Work) → slice_get works b ≡ Some work → work.leaving ≡ 0
    → (r : ℕ) → set_of (channels_of ports) r work.arrived ≡ 0

-- ---- what is told
-- the routers tell these numbers of packets by output channel
abbrev pub TellAll : Setup → RouterPorts → ℕ → List Block → (ℕ → ℕ → Option ℕ) → Type 0
TellAll net ports first blocks tells =
    (b r : ℕ) (block : Block) → slice_get blocks b ≡ Some block → r < ROUTERS
    → Tells net.relation.grid net.relation.vcs (ROUTERS * (first + b) + r)
    (set_of (channels_of ports) r block.grants.granted) (port_in ports block r)
    (vc_in ports block r) (packet_in block.packets r) (tells (ROUTERS * (first + b) + r))

-- these are the notes of so many blocks
abbrev pub AreAllNotes : Setup → (ℕ → ℕ → Option ℕ) → ℕ → ℕ → List (Vec Note Global) → Type 0
AreAllNotes net tells first count notes =
    (b : ℕ) → b < count → AreNotesBy net tells (first + b) (notes_by notes b)

-- ---- counts
-- the cycle of a block is counted
pub record HasCounted (ports : RouterPorts) (block : Block) (work : Work) (old new : Counts)
    : Type 0 where
  pub counts : (r i before after : ℕ) (c : ByVerdict)
      → i < (ports.links.width + 1) * ports.links.vcs → counted_in old + 1 < 2 ^ 32
      → WaitsOn (told_at (channels_of ports) block work r) i before after
      → HasHad (channels_of ports) old r i before c
      → HasHad (channels_of ports) new r i after
      (with_verdicts (told_at (channels_of ports) block work r) i c)
  pub last : (r : ℕ) → counted_in old + 1 < 2 ^ 32
      → last_at (channels_of ports) new r
      ≡ delays_of (told_at (channels_of ports) block work r)
  pub cycles : counted_in new ≡ (counted_in old + 1) % 2 ^ 32

-- ---- what comes
-- to router r over its links, if it is a router of the network
abbrev pub coming : Setup → RouterPorts → List (Links (List ℕ)) → ℕ → Links ℕ
coming net ports left r = if nat_lt r (nodes net.relation.grid)
    then brought net.relation.grid net.relation.vcs (left_of ports left) r
    else record { flits = 0; tails = 0; credits = 0 }

-- the links bring it
abbrev pub HaveGathered : Setup → RouterPorts → ℕ → List (Links (List ℕ)) → List Work → Type 0
HaveGathered net ports first left works =
    (b r : ℕ) (work : Work) → slice_get works b ≡ Some work → r < ROUTERS
    → links_at ports work.came r ≡ coming net ports left (ROUTERS * (first + b) + r)
