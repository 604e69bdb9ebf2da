-- Whether the output channel that an input channel owns is one of its router's.
use Rattle.std.specs.Prelude.{ℕ, Bool, true, nat_lt}
use Rattle.noc_vc.specs.declared.input.InputState.{InputState}
use Rattle.noc_vc.specs.declared.input.InputState.TheVariants.{Idle, Waiting, Active}

-- the output channel that a packet owns, if it owns one, is below n
abbrev pub is_within : ℕ → InputState → Bool
is_within n Idle = true
is_within n (Waiting set) = true
is_within n (Active output) = nat_lt output n
