-- What a cycle works out of one router besides its words: tails, the channels with a flit, the
-- picks of the input ports, and their pointers after the cycle.
use Rattle.std.specs.Prelude.{ℕ, Bool}

pub record Surroundings : Type 0 where
  pub tail : ℕ → Bool  -- by input channel with a flit, whether the first is a tail
  pub filled : ℕ  -- the input channels with a flit
  pub picked : ℕ  -- of those that are ready the ones that the input ports pick
  pub ahead : ℕ  -- the pointers of the input ports after the cycle
