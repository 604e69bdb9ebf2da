-- Output channels are granted, and then heads are routed: what both change of a router.
use Rattle.std.specs.Prelude.{◌≡◌, ◌≢◌, ℕ, ◌^◌, ◌<◌, true, false}
use Rattle.noc_packet.specs.Set.{has_bit}
use Rattle.noc_sets.specs.Column.{RouterMarks}
use Rattle.noc_sets.specs.Grants.{Allocation, HasAllocated}
use Rattle.noc_sets.specs.Passes.{lane_asks}

-- the heads in these channels wait, each for the set that its packet may take there, which is
-- wanted besides what was; nothing else has changed
pub record HasRouted (heads : ℕ) (sets : ℕ → ℕ → ℕ) (m w : RouterMarks) (wanted all : ℕ)
    : Type 0 where
  pub each : (k : ℕ) → has_bit heads k ≡ true → w.set k ≡ sets k (m.packet k)
  pub wants : (k o : ℕ) → has_bit heads k ≡ true → has_bit (w.set k) o ≡ true → has_bit all o ≡ true
  pub still : (o : ℕ) → has_bit wanted o ≡ true → has_bit all o ≡ true
  pub kept : (k : ℕ) → has_bit heads k ≡ false → w.set k ≡ m.set k
  pub rest : w ≡ record m { set = w.set }

-- from a to b: where an idle channel is wanted the waiting channels ask and are granted, and then
-- the heads are routed
pub record HasChosen (size : ℕ) (port : ℕ → ℕ) (heads : ℕ) (sets : ℕ → ℕ → ℕ) (a b : Allocation)
    : Type 0 where
  pub granted : Allocation  -- before the heads are routed
  pub asked : lane_asks a.column ≢ 0 → HasAllocated size port a granted
  pub unasked : lane_asks a.column ≡ 0 → granted ≡ a
  pub routed : HasRouted heads sets granted.marks b.marks granted.column.wanted b.column.wanted
  pub rest : b ≡ record granted {
    column = record granted.column { wanted = b.column.wanted };
    marks = b.marks;
  }
  pub wanted_fits : b.column.wanted < 2 ^ 64
