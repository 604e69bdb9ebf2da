-- What each part of a cycle asks for of one router of a block. All of it is so in a router that
-- shows a network.
use Rattle.std.specs.Prelude.{◌≡◌, ◌≢◌, ℕ, ◌+◌, ◌*◌, ◌<◌, ◌≤◌, ◌-◌, ◌^◌, true, false, ◌&&◌, List, length}
use Rattle.noc_packet.specs.Set.{has_bit}
use Rattle.noc_alloc.specs.Members.{MembersAreBelow}
use Rattle.noc_sets.specs.Cycle.{Router}
use Rattle.noc_sets.specs.Planes.{any_from}
use Rattle.noc_sets.specs.Source.{Start}
use Rattle.noc_columns.specs.Planes.{list_of}
use Rattle.noc_columns.specs.Supply.{is_fed}
use Rattle.noc_columns.specs.Words.{set_below}
use Rattle.noc_columns.specs.declared.channels.Standing.{Standing}
use Rattle.noc_cycles.specs.Held.{Held}
use Rattle.noc_cycles.specs.declared.pattern.Pattern.{Pattern}

-- the number of the output channel that input channel i owns
abbrev pub owned_by : ℕ → Held → ℕ → ℕ
owned_by vcs h i = h.out_port i * vcs + h.out_vc i

-- the link channels of port q that have a credit, by virtual channel
abbrev pub with_credit : ℕ → List ℕ → ℕ → ℕ
with_credit vcs credit q = set_below vcs (λ v. has_bit (any_from 0 credit) (q * vcs + v))

-- to take what comes, where b are the words of the router
pub record MayTake (pattern : Pattern) (starts : List Start) (h : Held) (b : Router) : Type 0 where
  -- who is supplied owns an output channel that leads out of the network or has a credit
  pub supplied : (i : ℕ) → i < (pattern.table.ports.links.width + 1) * pattern.table.ports.links.vcs
      → has_bit b.column.supplied i
      ≡ (has_bit h.inputs.active i
      && is_fed pattern.table.ports.links.width
      (with_credit pattern.table.ports.links.vcs (list_of pattern.frame.deep h.outputs.credit))
      (h.out_port i) (h.out_vc i))
  -- who is active owns a channel that is not idle and does not drain
  pub busy : (i : ℕ) → has_bit h.inputs.active i ≡ true
      → (has_bit h.idle (owned_by pattern.table.ports.links.vcs h i) ≡ false)
      × (has_bit h.outputs.draining (owned_by pattern.table.ports.links.vcs h i) ≡ false)
  -- and each link channel to which a credit comes is owned, where it is not idle and does not drain
  pub owned : (o : ℕ) → o < pattern.table.ports.links.width * pattern.table.ports.links.vcs
      → has_bit b.links.credits o ≡ true
      → has_bit h.idle o ≡ false → has_bit h.outputs.draining o ≡ false
      → (i : ℕ) × (has_bit h.inputs.active i ≡ true)
      × (owned_by pattern.table.ports.links.vcs h i ≡ o)
  -- one packet is injected at most, and there is a flit of it
  pub one : (v w : ℕ) → has_bit h.injecting v ≡ true → has_bit h.injecting w ≡ true → v ≡ w
  pub left : h.injecting ≢ 0 → 0 < h.source.left
  -- there is a packet behind the one that is injected or comes to be due
  pub queue : (cycle : ℕ) → h.source.due ≤ cycle → cycle < 2 ^ 32 - 1
      → h.source.queue + 1 < length starts
  pub due : h.injecting ≢ 0 → (cycle : ℕ) × (h.source.due ≤ cycle) × (cycle < 2 ^ 32 - 1)

-- to inject in a cycle: so may all 64 routers of a block, also where the network has fewer.
-- (Packets of the others are never due.)
pub record MayInject (starts : List Start) (cycle : ℕ) (h : Held) : Type 0 where
  pub one : (v w : ℕ) → has_bit h.injecting v ≡ true → has_bit h.injecting w ≡ true → v ≡ w
  pub left : h.injecting ≢ 0 → 0 < h.source.left
  -- there is a start behind that of a packet that is due
  pub queue : h.source.due ≤ cycle → h.source.queue + 1 < length starts

-- to decide, where so many packets have headers, and it is a router of the network if it has a head
pub record MayDecide (pattern : Pattern) (headers nodes node : ℕ) (h : Held) (standing : Standing ℕ)
    : Type 0 where
  pub waiting : MembersAreBelow
      ((pattern.table.ports.links.width + 1) * pattern.table.ports.links.vcs) h.waiting
  pub idle : MembersAreBelow
      ((pattern.table.ports.links.width + 1) * pattern.table.ports.links.vcs) h.idle
  pub apart : (i : ℕ) → has_bit h.inputs.active i ≡ true → has_bit h.waiting i ≡ false
  pub busy : (i : ℕ) → has_bit h.inputs.active i ≡ true
      → has_bit h.idle (owned_by pattern.table.ports.links.vcs h i) ≡ false
  -- who is ready sends by a virtual channel that its port has
  pub sends : (i : ℕ) → has_bit standing.ready i ≡ true → h.out_vc i < pattern.table.ports.links.vcs
  pub node_is : standing.heads ≢ 0 → node < nodes
  pub heads : (k : ℕ) → has_bit standing.heads k ≡ true → h.packet k < headers

-- to conclude, where so many packets are kept and these channels are left by tails
pub record MayConclude (packets : ℕ) (h : Held) (released : ℕ) : Type 0 where
  pub packet : (i : ℕ) → has_bit released i ≡ true → h.packet i < packets
