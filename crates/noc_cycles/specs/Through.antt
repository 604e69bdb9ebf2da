-- A router of a block goes through a cycle: it takes what comes, it is decided what it does, and
-- that takes effect.
use Rattle.std.specs.Prelude.{◌≡◌, ℕ, Bool, ◌||◌, List, not, bit_or, nat_eq}
use Rattle.noc_sets.specs.Cycle.{Router, Still, still_of}
use Rattle.noc_sets.specs.Layout.{Layout}
use Rattle.noc_sets.specs.Source.{Start}
use Rattle.noc_columns.specs.Picks.{channels_of}
use Rattle.noc_columns.specs.Words.{set_of}
use Rattle.noc_columns.specs.declared.channels.Decided.{Decided}
use Rattle.noc_columns.specs.declared.channels.Links.{Links}
use Rattle.noc_columns.specs.declared.channels.Standing.{Standing}
use Rattle.noc_columns.specs.declared.channels.Verdicts.{Verdicts}
use Rattle.noc_columns.specs.declared.ports.RouterPorts.{RouterPorts}
use Rattle.noc_cycles.specs.Concluding.{HasConcludedHeld, decided_at, standing_at, verdicts_at}
use Rattle.noc_cycles.specs.Deciding.{HasDecidedHeld}
use Rattle.noc_cycles.specs.Held.{Held, held_at, links_at}
use Rattle.noc_cycles.specs.Taking.{HasTaken}
use Rattle.noc_cycles.specs.declared.block.Block.{Block}
use Rattle.noc_cycles.specs.declared.block.Work.{Work}
use Rattle.noc_cycles.specs.declared.pattern.Pattern.{Pattern}

-- what it has worked out in the cycle, by sets of its channels
pub record Worked : Type 0 where
  pub standing : Standing ℕ
  pub decided : Decided ℕ
  pub granted : ℕ
  pub lost : ℕ
  pub left : Links ℕ
  pub arrived : ℕ
  pub verdicts : Verdicts ℕ

-- .. router r of a block
abbrev pub worked_at : RouterPorts → Block → Work → Links (List ℕ) → ℕ → Worked
worked_at ports b w left r = record {
  standing = standing_at ports w.standing r;
  decided = decided_at ports w.decided r;
  granted = set_of (channels_of ports) r b.grants.granted;
  lost = set_of (channels_of ports) r w.lost;
  left = links_at ports left r;
  arrived = set_of (channels_of ports) r w.arrived;
  verdicts = verdicts_at ports w.verdicts r;
}

-- it has taken what comes, and then held a; it is decided what it does, and now it holds h and has
-- worked this out
pub record HasTakenAndDecided (pattern : Pattern) (layout : Layout) (starts : List Start)
    (sets : ℕ → ℕ → ℕ) (cycle : ℕ) (b : Router) (a h : Held) (x : Worked) : Type 0 where
  pub no_credit : ℕ
  pub comes : Bool
  pub takes : HasTaken pattern layout starts cycle b a x.standing no_credit comes
  pub decides : HasDecidedHeld pattern layout sets (still_of layout starts cycle takes.up b) a h
      x.standing x.decided x.granted x.lost x.left

-- .. router r of a block: it is decided what it does, where these are its words once it is still,
-- from what the block held and had worked out to what it holds and has worked out then
abbrev pub HasDecidedAt : Pattern → Layout → (ℕ → ℕ → ℕ) → Still → ℕ → Block → Block → Work → Work
    → Links (List ℕ) → Type 0
HasDecidedAt pattern layout sets s r a h w x left =
    let ports = pattern.table.ports in
    let all = set_of (channels_of ports) r in
    HasDecidedHeld pattern layout sets s (held_at ports a r) (held_at ports h r)
    (standing_at ports w.standing r) (decided_at ports x.decided r) (all h.grants.granted)
    (all x.lost) (links_at ports left r)

-- it has gone through the cycle, has worked this out, and then holds n; `happens` tells whether
-- something happens in it
pub record HasGoneThrough (pattern : Pattern) (layout : Layout) (starts : List Start)
    (sets : ℕ → ℕ → ℕ) (cycle : ℕ) (b : Router) (n : Held) (x : Worked) (happens : Bool)
    : Type 0 where
  pub still : Held  -- once it has taken what comes
  pub chosen : Held  -- once it is decided what it does
  pub sent : Links ℕ  -- what leaves it then
  pub before : Verdicts ℕ  -- as they were before that takes effect
  pub comes : Bool
  pub takes : HasTaken pattern layout starts cycle b still x.standing before.no_credit comes
  pub decides : HasDecidedHeld pattern layout sets (still_of layout starts cycle takes.up b) still
      chosen x.standing x.decided x.granted x.lost sent
  pub concludes : HasConcludedHeld pattern x.standing x.decided x.granted x.left x.arrived chosen n
      before x.verdicts
  pub sent_is : x.left ≡ record sent { credits = x.left.credits }
  pub happened : happens
      ≡ (comes
      || not (nat_eq (bit_or (bit_or x.standing.heads x.granted) x.verdicts.moved) 0))
