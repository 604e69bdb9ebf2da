-- The routers of the last block that a network does not have.
use Rattle.std.specs.Prelude.{◌≡◌, ℕ, ◌+◌, ◌*◌, ◌<◌, false, None}
use Rattle.noc_packet.specs.Set.{has_bit}
use Rattle.noc_alloc.specs.Members.{MembersAreBelow}
use Rattle.noc_sets.specs.Cycle.{Router, Turn}
use Rattle.noc_sets.specs.Planes.{any_from}
use Rattle.noc_sets.specs.Source.{NEVER}
use Rattle.noc_columns.specs.Planes.{list_of}
use Rattle.noc_cycles.specs.Held.{Held}
use Rattle.noc_cycles.specs.declared.pattern.Pattern.{Pattern}

-- by the words of a router, of so many channels, none waits, is active, has a flit or drains, no
-- packet is ever due there, and nothing comes to it
pub record IsBlank (size : ℕ) (b : Router) : Type 0 where
  pub waiting : b.column.waiting ≡ 0
  pub active : b.column.active ≡ 0
  pub flits : any_from 0 b.column.len ≡ 0
  pub supplied : b.column.supplied ≡ 0
  pub idle : MembersAreBelow size b.column.idle
  pub draining : b.column.draining ≡ 0
  pub injecting : b.column.injecting ≡ 0
  pub due : b.source.due ≡ NEVER
  pub flits_come : b.links.flits ≡ 0
  pub credits_come : b.links.credits ≡ 0

-- nothing leaves it in this turn, and nothing happens in it
pub record DoesNothing (size : ℕ) (t : Turn) : Type 0 where
  pub flits : t.left.flits ≡ 0
  pub tails : (o : ℕ) → o < size → has_bit t.left.tails o ≡ false
  pub credits : t.left.credits ≡ 0
  pub grants : (o : ℕ) → o < size → t.grants o ≡ None
  pub arrived : t.arrived ≡ 0
  pub happened : t.happened ≡ false

-- ---- in a block
-- how many channels a router has
abbrev pub channels_count : Pattern → ℕ
channels_count pattern = (pattern.table.ports.links.width + 1) * pattern.table.ports.links.vcs

-- a router of a block is blank by what it holds between cycles
pub record HoldsBlank (pattern : Pattern) (h : Held) : Type 0 where
  pub waiting : h.waiting ≡ 0
  pub inputs : h.inputs.waiting ≡ 0
  pub active : h.inputs.active ≡ 0
  pub flits : any_from 0 (list_of pattern.frame.deep h.inputs.len) ≡ 0
  pub idle : MembersAreBelow (channels_count pattern) h.idle
  pub draining : h.outputs.draining ≡ 0
  pub injecting : h.injecting ≡ 0
  pub due : h.source.due ≡ NEVER
