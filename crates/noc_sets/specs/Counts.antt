-- How often each channel had each verdict.
use Rattle.std.specs.Prelude.{◌≡◌, ℕ, ◌+◌, ◌-◌, ◌*◌, ◌<◌, ◌≤◌, List, [], ◌∷◌, Option, Some, None, slice_index_or, sum}
use Rattle.noc_topo.specs.Lists.{one_if}
use Rattle.noc_packet.specs.Set.{has_bit}
use Rattle.noc_view.specs.View.{View, size_of}
use Rattle.noc_view.specs.VerdictSets.{VerdictSets}
use Rattle.noc_sets.specs.Column.{Column}
use Rattle.noc_sets.specs.Passes.{lane_no_credit, lane_no_flit, lane_no_idle_channel, lane_ready}
use Rattle.noc_sets.specs.Sets.{less}

-- by each verdict but Empty: of a router in a cycle the sets of the channels with it, of a channel
-- how often it had it
pub record ByVerdict : Type 0 where
  pub routed : ℕ
  pub granted : ℕ
  pub moved : ℕ
  pub no_flit : ℕ
  pub no_idle_channel : ℕ
  pub lost_channel : ℕ
  pub no_credit : ℕ
  pub lost_input : ℕ
  pub lost_switch : ℕ

-- the sets of a cycle, by which each channel has its verdict
abbrev pub verdict_sets : ByVerdict → VerdictSets
verdict_sets sets = record {
  routed = sets.routed;
  granted = sets.granted;
  moved = sets.moved;
  no_flit = sets.no_flit;
  no_idle_channel = sets.no_idle_channel;
  lost_channel = sets.lost_channel;
  no_credit = sets.no_credit;
  lost_input = sets.lost_input;
  lost_switch = sets.lost_switch;
}

-- the verdicts of a cycle, by the words of a router before they take effect: where these are
-- filled, picked, granted and so on
abbrev pub lane_verdicts : ℕ → ℕ → ℕ → ℕ → ℕ → ℕ → Column → ByVerdict
lane_verdicts filled picked heads granted lost moved c = record {
  routed = heads;
  granted = granted;
  moved = moved;
  no_flit = lane_no_flit filled c;
  no_idle_channel = lane_no_idle_channel granted lost c;
  lost_channel = lost;
  no_credit = lane_no_credit filled c;
  lost_input = less (lane_ready filled c) picked;
  lost_switch = less picked moved;
}

abbrev pub no_counts : ByVerdict
no_counts = record {
  routed = 0;
  granted = 0;
  moved = 0;
  no_flit = 0;
  no_idle_channel = 0;
  lost_channel = 0;
  no_credit = 0;
  lost_input = 0;
  lost_switch = 0;
}

-- one more for each verdict whose set has channel k
abbrev pub with_verdicts : ByVerdict → ℕ → ByVerdict → ByVerdict
with_verdicts sets k counts = record {
  routed = counts.routed + one_if (has_bit sets.routed k);
  granted = counts.granted + one_if (has_bit sets.granted k);
  moved = counts.moved + one_if (has_bit sets.moved k);
  no_flit = counts.no_flit + one_if (has_bit sets.no_flit k);
  no_idle_channel = counts.no_idle_channel + one_if (has_bit sets.no_idle_channel k);
  lost_channel = counts.lost_channel + one_if (has_bit sets.lost_channel k);
  no_credit = counts.no_credit + one_if (has_bit sets.no_credit k);
  lost_input = counts.lost_input + one_if (has_bit sets.lost_input k);
  lost_switch = counts.lost_switch + one_if (has_bit sets.lost_switch k);
}

-- the counts of the nine, in the order of the stall report
abbrev pub nine_counts : ByVerdict → List ℕ
nine_counts c =
    c.routed ∷ c.granted ∷ c.moved ∷ c.no_flit ∷ c.no_idle_channel ∷ c.lost_channel ∷ c.no_credit
    ∷ c.lost_input ∷ c.lost_switch ∷ []

-- of all ten after so many cycles: Empty in those that no other verdict has
abbrev pub ten_counts : ℕ → ByVerdict → List ℕ
ten_counts cycles c = (cycles - sum (nine_counts c)) ∷ nine_counts c

-- the counts of the input channels of a router after so many cycles, where these were counted of
-- each
abbrev pub ShowsCounts : ℕ → (ℕ → ByVerdict) → View → Type 0
ShowsCounts cycles counts v = (i : ℕ) → i < size_of v.site
    → (slice_index_or v.counts i [] ≡ ten_counts cycles (counts i))
    × (sum (nine_counts (counts i)) ≤ cycles)

-- the word of the last event of a router has the cycle after it, and 0 before the first
abbrev pub ShowsLastEvent : ℕ → Option ℕ → Type 0
ShowsLastEvent word None = word ≡ 0
ShowsLastEvent word (Some n) = word ≡ n + 1

-- ---- cycles in which nothing happens
-- a count that has risen from x to y in one cycle rises as much in each of so many more
pub record RisesOn (times x y z : ℕ) : Type 0 where
  pub by : ℕ
  pub once : y ≡ x + by
  pub again : z ≡ y + times * by

-- of a channel in such cycles only waiting is counted
pub record RunOn (times : ℕ) (x y z : ByVerdict) : Type 0 where
  pub no_flit : RisesOn times x.no_flit y.no_flit z.no_flit
  pub no_idle_channel : RisesOn times x.no_idle_channel y.no_idle_channel z.no_idle_channel
  pub no_credit : RisesOn times x.no_credit y.no_credit z.no_credit
  pub routed : z.routed ≡ y.routed
  pub granted : z.granted ≡ y.granted
  pub moved : z.moved ≡ y.moved
  pub lost_channel : z.lost_channel ≡ y.lost_channel
  pub lost_input : z.lost_input ≡ y.lost_input
  pub lost_switch : z.lost_switch ≡ y.lost_switch
