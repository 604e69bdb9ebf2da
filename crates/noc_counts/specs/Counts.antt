-- The counts of the channels of a block by verdict.
use Rattle.std.specs.Prelude.{◌≡◌, ℕ, ◌+◌, ◌*◌, ◌/◌, ◌%◌, ◌<◌, ◌^◌, List, [], length, slice_index_or}
use Rattle.noc_packet.specs.Set.{has_bit}
use Rattle.noc_topo.specs.Lists.{one_if}
use Rattle.noc_sets.specs.Counts.{ByVerdict, no_counts}
use Rattle.noc_columns.specs.Words.{IsWithin, Numbering, set_by, word}
use Rattle.noc_columns.specs.declared.words.TheConstants.{GROUP, WORDS}
use Rattle.noc_counts.specs.Counted.{count_in, last_of}
use Rattle.noc_counts.specs.Rows.{by_lane, waiting_in}
use Rattle.noc_counts.specs.declared.count.Count.{Count}
use Rattle.noc_counts.specs.declared.counts.Counts.{Counts}
use Rattle.noc_counts.specs.declared.nine.Nine.{Nine}
use Rattle.noc_counts.specs.declared.row.TheConstants.{ROW}

-- nine numbers or words
abbrev pub numbers_of : Nine → ByVerdict
numbers_of nine = record {
  routed = nine.routed;
  granted = nine.granted;
  moved = nine.moved;
  no_flit = nine.no_flit;
  no_idle_channel = nine.no_idle_channel;
  lost_channel = nine.lost_channel;
  no_credit = nine.no_credit;
  lost_input = nine.lost_input;
  lost_switch = nine.lost_switch;
}

-- each is small enough that they can be added
pub record AreSmall (n : ByVerdict) : Type 0 where
  pub routed : n.routed < 2 ^ 38
  pub granted : n.granted < 2 ^ 38
  pub moved : n.moved < 2 ^ 38
  pub no_flit : n.no_flit < 2 ^ 38
  pub no_idle_channel : n.no_idle_channel < 2 ^ 38
  pub lost_channel : n.lost_channel < 2 ^ 38
  pub no_credit : n.no_credit < 2 ^ 38
  pub lost_input : n.lost_input < 2 ^ 38
  pub lost_switch : n.lost_switch < 2 ^ 38

-- how many cycles were counted one by one
abbrev pub counted_in : Counts → ℕ
counted_in counts = counts.cycles

-- no counts
abbrev pub no_count : Count
no_count = record {
  recent = [];
  low = record { ones = []; twos = []; fours = []; eights = [] };
  carried = [];
  tally = record { ones = []; twos = []; bits = []; pending = []; carry = [] };
}

-- the counts of a group
abbrev pub of_group : List Count → ℕ → Count
of_group of group = slice_index_or of group no_count

-- how often router r had each verdict in word j, but Granted, which is not counted
abbrev pub word_counts : Counts → ℕ → ℕ → ByVerdict
word_counts counts j r =
    by_lane (λ p. count_in (of_group counts.of (j / GROUP)) counts.cycles p r) (j % GROUP)

-- it had each of the nine so often in word j, where `waits` is 1 if it waits there now, and else 0.
-- Who is routed waits until it is granted an output channel
pub record HasHadIn (counts : Counts) (j r waits : ℕ) (c : ByVerdict) : Type 0 where
  pub counted : c ≡ record (word_counts counts j r) { granted = c.granted }
  pub granted : c.routed ≡ c.granted + waits

-- input channel i of router r had each so often
abbrev pub HasHad : Numbering → Counts → ℕ → ℕ → ℕ → ByVerdict → Type 0
HasHad n counts r i waits c = HasHadIn counts (n.index i) r waits c

-- in a cycle with these verdicts channel i, where it waited before or is routed, is granted an
-- output channel or waits after it
abbrev pub WaitsOn : ByVerdict → ℕ → ℕ → ℕ → Type 0
WaitsOn told i before after =
    before + one_if (has_bit told.routed i) ≡ one_if (has_bit told.granted i) + after

-- nothing was counted
pub record IsClear (counts : Counts) : Type 0 where
  pub each : (n : Numbering) (r i : ℕ) → IsWithin WORDS n → i < n.size
      → HasHad n counts r i 0 no_counts
  pub cycles : counted_in counts ≡ 0

-- nor in each of so many blocks
pub record AreClear (blocks : ℕ) (all : List Counts) : Type 0 where
  pub many : length all ≡ blocks
  pub each : (b : ℕ) (d : Counts) → b < blocks → IsClear (slice_index_or all b d)

-- ---- the last cycle
-- the channels of a router that wait in a cycle, by what they wait for
pub record Delays : Type 0 where
  pub no_flit : ℕ
  pub no_idle_channel : ℕ
  pub no_credit : ℕ

-- those that have these verdicts
abbrev pub delays_of : ByVerdict → Delays
delays_of told = record {
  no_flit = told.no_flit;
  no_idle_channel = told.no_idle_channel;
  no_credit = told.no_credit;
}

-- the verdicts of word j in the cycle that was counted last
abbrev pub last_words : Counts → ℕ → ByVerdict
last_words counts j =
    by_lane (λ p. word p (last_of (of_group counts.of (j / GROUP)) counts.cycles)) (j % GROUP)

-- the channels of router r that waited in that cycle
abbrev pub last_at : Numbering → Counts → ℕ → Delays
last_at n counts r = record {
  no_flit = set_by n r (λ j. (last_words counts j).no_flit);
  no_idle_channel = set_by n r (λ j. (last_words counts j).no_idle_channel);
  no_credit = set_by n r (λ j. (last_words counts j).no_credit);
}

-- by these the counts of channel i have risen from x to y
pub record HasDelayed (delays : Delays) (i : ℕ) (x y : ByVerdict) : Type 0 where
  pub no_flit : y.no_flit ≡ x.no_flit + one_if (has_bit delays.no_flit i)
  pub no_idle_channel : y.no_idle_channel
      ≡ x.no_idle_channel + one_if (has_bit delays.no_idle_channel i)
  pub no_credit : y.no_credit ≡ x.no_credit + one_if (has_bit delays.no_credit i)

-- the counts of channel i after so many cycles more with these
abbrev pub with_delays : ℕ → Delays → ℕ → ByVerdict → ByVerdict
with_delays times delays i c = record c {
  no_flit = c.no_flit + times * one_if (has_bit delays.no_flit i);
  no_idle_channel = c.no_idle_channel + times * one_if (has_bit delays.no_idle_channel i);
  no_credit = c.no_credit + times * one_if (has_bit delays.no_credit i);
}

-- ---- cycles in which nothing happens
-- so many cycles more were counted that are like the last of these
pub record HasRepeated (cycles times : ℕ) (old new : Count) : Type 0 where
  pub counts : (j r : ℕ) → j < ROW → count_in old cycles j r + times < 2 ^ 32
      → count_in new cycles j r
      ≡ count_in old cycles j r
      + times * one_if (has_bit (word j (waiting_in (last_of old cycles))) r)
  pub last : last_of new cycles ≡ last_of old cycles
