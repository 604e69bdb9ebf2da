-- What the waiting channels of a router want.
use Rattle.std.specs.Prelude.{ℕ, nat_eq, bit_and, if◌then◌else◌}

-- the idle output channels that are wanted, where input channels wait
abbrev pub asks_of : ℕ → ℕ → ℕ → ℕ
asks_of waiting wanted idle = if nat_eq waiting 0 then 0 else bit_and wanted idle
