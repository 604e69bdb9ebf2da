-- A router of a block of which more is counted.
use Rattle.std.proofs.Common.{◌≡◌, ℕ, subst, sym}
use Rattle.noc_sets.specs.Cycle.{Router}
use Rattle.noc_columns.specs.declared.channels.Links.{Links}
use Rattle.noc_cycles.specs.Held.{Held, ShowsHeld}
use Rattle.noc_cycles.specs.declared.pattern.Pattern.{Pattern}
use Rattle.noc_theory_cycles.specs.Blank.{IsBlank}

-- what is held, and what that shows, is the same whatever is counted
pub counted-held : (pattern : Pattern) (h : Held) (links : Links ℕ) (b later : Router) → later ≡ record b { counts = later.counts } → ShowsHeld pattern h links b → ShowsHeld pattern h links later
counted-held pattern h links b later same held = subst (λ (r : Router). ShowsHeld pattern h links r) (sym same) (record {
  column = held.column;
  marks = held.marks;
  waiting = held.waiting;
  ended = held.ended;
  links_are = held.links_are;
  source = held.source;
})

pub counted-blank : (size : ℕ) (b later : Router) → later ≡ record b { counts = later.counts } → IsBlank size b → IsBlank size later
counted-blank size b later same blank = subst (λ (r : Router). IsBlank size r) (sym same) (record {
  waiting = blank.waiting;
  active = blank.active;
  flits = blank.flits;
  supplied = blank.supplied;
  idle = blank.idle;
  draining = blank.draining;
  injecting = blank.injecting;
  due = blank.due;
  flits_come = blank.flits_come;
  credits_come = blank.credits_come;
})
