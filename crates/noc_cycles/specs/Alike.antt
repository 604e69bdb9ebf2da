-- What all routers of a word have alike.
use Rattle.std.specs.Prelude.{ℕ, ◌-◌, ◌/◌, ◌%◌, ◌^◌, Bool, nat_eq, if◌then◌else◌}
use Rattle.noc_columns.specs.declared.planes.Planes.{Planes}

-- all routers of a word, or none
abbrev pub all_if : Bool → ℕ
all_if b = if b then 2 ^ 64 - 1 else 0

-- the same count in all routers, bit by bit
abbrev pub same_count : ℕ → Planes ℕ
same_count n = record {
  ones = all_if (nat_eq (n % 2) 1);
  twos = all_if (nat_eq (n / 2 % 2) 1);
  fours = all_if (nat_eq (n / 4 % 2) 1);
  eights = all_if (nat_eq (n / 8 % 2) 1);
  sixteens = all_if (nat_eq (n / 16 % 2) 1);
}
