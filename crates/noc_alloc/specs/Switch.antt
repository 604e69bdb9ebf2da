-- What the arbiters of a switch are over, and what may win.
use Rattle.std.specs.Prelude.{◌≡◌, ℕ, ◌<◌, All, IfSome, List, Option, None, length, slice_index_or}
use Rattle.noc_alloc.specs.Arbiter.{RoundRobin, arbiter_at}

-- each arbiter of an input port is over so many virtual channels, and each one of an output port
-- over the input ports
pub record AreOfSwitch (vcs : ℕ) (inputs outputs : List RoundRobin) : Type 0 where
  pub over_vcs : All (λ (t : RoundRobin). t.size ≡ vcs) inputs
  pub over_inputs : All (λ (t : RoundRobin). t.size ≡ length inputs) outputs

-- each pick is one of those that the arbiter of its input port is over, and each win is one of
-- those that the arbiter of its output port is over, and an input port
pub record AreChoices (picks wins : List (Option ℕ)) (inputs outputs : List RoundRobin)
    : Type 0 where
  pub vcs : (k : ℕ) → k < length inputs
      → IfSome (slice_index_or picks k None) (λ v. v < (arbiter_at inputs k).size)
  pub ports : (k : ℕ) → k < length outputs
      → IfSome (slice_index_or wins k None) (λ q. q < (arbiter_at outputs k).size)
  pub winners : All (λ win. IfSome win (λ q. q < length inputs)) wins
