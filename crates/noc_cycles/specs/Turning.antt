-- A router of a block has taken part in a cycle: it has taken what comes, what it does is decided,
-- and that has taken effect.
use Rattle.std.specs.Prelude.{◌≡◌, ℕ, ◌+◌, Bool, List, bit_or}
use Rattle.noc_sets.specs.Counts.{ByVerdict, with_verdicts}
use Rattle.noc_sets.specs.Cycle.{HasWorked, Router, Still, Turn, granted_in}
use Rattle.noc_sets.specs.Found.{found_in}
use Rattle.noc_sets.specs.Grants.{Allocation}
use Rattle.noc_sets.specs.Layout.{Layout}
use Rattle.noc_sets.specs.Sets.{less}
use Rattle.noc_sets.specs.Source.{Start}
use Rattle.noc_columns.specs.declared.channels.Decided.{Decided}
use Rattle.noc_columns.specs.declared.channels.Links.{Links}
use Rattle.noc_columns.specs.declared.channels.Standing.{Standing}
use Rattle.noc_columns.specs.declared.channels.Verdicts.{Verdicts}
use Rattle.noc_cycles.specs.Deciding.{undecided}
use Rattle.noc_cycles.specs.Gathered.{ShowsLeft}
use Rattle.noc_cycles.specs.Held.{Held, ShowsMarks, column_by}
use Rattle.noc_cycles.specs.Taking.{links_count}
use Rattle.noc_cycles.specs.declared.pattern.Pattern.{Pattern}

-- the verdicts of a router on its input channels, where these wait after the cycle, and those are
-- granted an output channel or ask for one and are not
abbrev pub verdict_sets_by : Standing ℕ → Decided ℕ → Verdicts ℕ → ℕ → ℕ → ℕ → ByVerdict
verdict_sets_by standing decided w waiting granted lost = record {
  routed = standing.heads;
  granted = granted;
  moved = w.moved;
  no_flit = less w.active (bit_or w.no_credit standing.ready);
  no_idle_channel = less waiting (bit_or standing.heads lost);
  lost_channel = lost;
  no_credit = w.no_credit;
  lost_input = less standing.ready decided.picked;
  lost_switch = less decided.picked w.moved;
}

-- what a router holds after a cycle shows its turn
pub record ShowsTurn (pattern : Pattern) (n : Held) (t : Turn) : Type 0 where
  pub column : t.column ≡ column_by (links_count pattern) pattern.frame.deep n t.column.supplied
  pub marks : ShowsMarks (pattern.table.ports.links.width + 1) pattern.table.ports.links.vcs n
      t.marks
  pub waiting : n.waiting ≡ n.inputs.waiting
  pub ended : t.ended ≡ n.inputs.ended
  pub source : t.source ≡ n.source

-- a router with these words, which are `s` once it is still, takes part in the cycle and then holds
-- n: output channels are granted and heads are routed as `chosen` tells, these are its verdicts, and
-- these leave it. `happens` tells whether something happens in it
pub record HasWorkedHeld (pattern : Pattern) (layout : Layout) (starts : List Start)
    (sets : ℕ → ℕ → ℕ) (cycle : ℕ) (b : Router) (s : Still) (chosen : Allocation) (n : Held)
    (told : ByVerdict) (left : Links ℕ) (arrived : ℕ) (happens : Bool) : Type 0 where
  pub turn : Turn
  pub works : HasWorked (pattern.table.ports.links.width + 1) pattern.table.ports.links.vcs layout
      starts sets cycle b turn
  pub shows : ShowsTurn pattern n turn
  pub leaves : ShowsLeft (links_count pattern) left turn.left
  pub arrived_is : arrived ≡ turn.arrived
  pub grants : turn.grants ≡ granted_in (undecided s) chosen
  pub counted : (i : ℕ) → turn.counts i ≡ with_verdicts told i (b.counts i)
  pub found : (i : ℕ)
      → turn.found i
      ≡ found_in pattern.table.ports.links.vcs told s.filled s.column s.marks i
  pub happened : turn.happened ≡ happens
