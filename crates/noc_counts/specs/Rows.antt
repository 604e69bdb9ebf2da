-- The words of a group of four channels, verdict by verdict: those of NoFlit, then those of
-- NoIdleChannel, and then the others in the order of the stall report, but Granted.
use Rattle.std.specs.Prelude.{ℕ, ◌+◌, ◌*◌, List, [], ◌∷◌}
use Rattle.noc_sets.specs.Counts.{ByVerdict, nine_counts}
use Rattle.noc_columns.specs.Words.{word}
use Rattle.noc_columns.specs.declared.words.TheConstants.{GROUP}
use Rattle.noc_counts.specs.declared.row.TheConstants.{LOST_CHANNEL, LOST_INPUT, LOST_SWITCH, MOVED, NO_CREDIT, NO_FLIT, NO_IDLE_CHANNEL, ROUTED}

-- the words of four channels, of each of which these nine are given
abbrev pub row_with : List ℕ → List ℕ → List ℕ → List ℕ → List ℕ
row_with a b c d =
    word 3 a ∷ word 3 b ∷ word 3 c ∷ word 3 d
    ∷ word 4 a ∷ word 4 b ∷ word 4 c ∷ word 4 d
    ∷ word 0 a ∷ word 0 b ∷ word 0 c ∷ word 0 d
    ∷ word 2 a ∷ word 2 b ∷ word 2 c ∷ word 2 d
    ∷ word 5 a ∷ word 5 b ∷ word 5 c ∷ word 5 d
    ∷ word 6 a ∷ word 6 b ∷ word 6 c ∷ word 6 d
    ∷ word 7 a ∷ word 7 b ∷ word 7 c ∷ word 7 d
    ∷ word 8 a ∷ word 8 b ∷ word 8 c ∷ word 8 d ∷ []

-- the words of a group, where these are told of each channel
abbrev pub row_of : (ℕ → ByVerdict) → ℕ → List ℕ
row_of told group =
    row_with (nine_counts (told (GROUP * group))) (nine_counts (told (GROUP * group + 1)))
    (nine_counts (told (GROUP * group + 2))) (nine_counts (told (GROUP * group + 3)))

-- what is told of one channel of a group, where f is told of each place of a row: nothing of
-- Granted
abbrev pub by_lane : (ℕ → ℕ) → ℕ → ByVerdict
by_lane f lane = record {
  routed = f (ROUTED + lane);
  granted = 0;
  moved = f (MOVED + lane);
  no_flit = f (NO_FLIT + lane);
  no_idle_channel = f (NO_IDLE_CHANNEL + lane);
  lost_channel = f (LOST_CHANNEL + lane);
  no_credit = f (NO_CREDIT + lane);
  lost_input = f (LOST_INPUT + lane);
  lost_switch = f (LOST_SWITCH + lane);
}

-- the words of the three verdicts that channels have in a cycle in which nothing happens
abbrev pub waiting_in : List ℕ → List ℕ
waiting_in row =
    word 0 row ∷ word 1 row ∷ word 2 row ∷ word 3 row
    ∷ word 4 row ∷ word 5 row ∷ word 6 row ∷ word 7 row
    ∷ 0 ∷ 0 ∷ 0 ∷ 0 ∷ 0 ∷ 0 ∷ 0 ∷ 0 ∷ 0 ∷ 0 ∷ 0 ∷ 0
    ∷ word 20 row ∷ word 21 row ∷ word 22 row ∷ word 23 row
    ∷ 0 ∷ 0 ∷ 0 ∷ 0 ∷ 0 ∷ 0 ∷ 0 ∷ 0 ∷ []
