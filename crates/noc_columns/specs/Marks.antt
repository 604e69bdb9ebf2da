-- What a pass leaves of the marks of a block.
use Rattle.std.specs.Prelude.{◌≡◌, ℕ, slice_index}
use Rattle.noc_columns.specs.declared.marks.Marks.{Marks}

-- all but which output channels are idle is as it was
pub record ChangesIdle (old new : Marks) : Type 0 where
  pub waiting : new.waiting ≡ old.waiting
  pub wanted : new.wanted ≡ old.wanted
  pub sets : new.sets ≡ old.sets
  pub turns : new.turns ≡ old.turns

-- all but which input channels wait, and for which output channels, is as it was
pub record ChangesWaiting (old new : Marks) : Type 0 where
  pub idle : (r : ℕ) → slice_index new.idle r ≡ slice_index old.idle r
  pub turns : new.turns ≡ old.turns
