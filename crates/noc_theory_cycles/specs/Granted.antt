-- Which output channel an input channel of a router of a block is granted.
use Rattle.std.specs.Prelude.{◌≡◌, ℕ, ◌<◌, true, Some}
use Rattle.noc_packet.specs.Set.{has_bit}
use Rattle.noc_sets.specs.Cycle.{Still, granted_in}
use Rattle.noc_sets.specs.Grants.{Allocation}
use Rattle.noc_cycles.specs.Deciding.{undecided}
use Rattle.noc_cycles.specs.Held.{Held}
use Rattle.noc_cycles.specs.May.{owned_by}
use Rattle.noc_cycles.specs.declared.pattern.Pattern.{Pattern}
use Rattle.noc_theory_cycles.specs.Blank.{channels_count}

-- input channel k of a router that was still s, and holds h once it has chosen this, is granted the
-- output channel that it owns
pub record IsGranted (pattern : Pattern) (s : Still) (h : Held) (chosen : Allocation) (k : ℕ)
    : Type 0 where
  pub input : k < channels_count pattern
  pub below : owned_by pattern.table.ports.links.vcs h k < channels_count pattern
  pub is_granted : granted_in (undecided s) chosen (owned_by pattern.table.ports.links.vcs h k)
      ≡ Some k

-- the input channels of a set are those that are granted an output channel
pub record AreGranted (pattern : Pattern) (s : Still) (h : Held) (chosen : Allocation) (granted : ℕ)
    : Type 0 where
  pub each : (k : ℕ) → has_bit granted k ≡ true → IsGranted pattern s h chosen k
  pub all : (o k : ℕ) → granted_in (undecided s) chosen o ≡ Some k
      → (has_bit granted k ≡ true) × (owned_by pattern.table.ports.links.vcs h k ≡ o)
