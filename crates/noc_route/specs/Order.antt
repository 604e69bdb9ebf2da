-- The order of rows and of entries.
use Rattle.std.specs.Prelude.{ℕ, Bool, true, false, ◌&&◌, ◌||◌, List, [], ◌∷◌, Option, Some, None, nat_eq, nat_lt, if◌then◌else◌}
use Rattle.noc_route.specs.declared.rule.RouteRow.{RouteRow}
use Rattle.noc_route.specs.declared.rule.Entry.{Entry}

-- the first pair of numbers that differs decides
abbrev pub numbers_before : List ℕ → List ℕ → Bool
numbers_before [] ys = false
numbers_before (x ∷ xs) [] = false
numbers_before (x ∷ xs) (y ∷ ys) = nat_lt x y || (nat_eq x y && numbers_before xs ys)

abbrev pub row_numbers : RouteRow → List ℕ
row_numbers row =
    row.class ∷ row.router ∷ row.in_port ∷ row.in_vc ∷ row.dst ∷ row.out_port ∷ row.out_vc ∷ []

abbrev pub entry_numbers : Entry → List ℕ
entry_numbers e = e.class ∷ e.router ∷ e.in_port ∷ e.in_vc ∷ e.dst ∷ []

-- whether a row comes before another, if there is one
abbrev pub row_before : RouteRow → Option RouteRow → Bool
row_before row None = true
row_before row (Some other) = numbers_before (row_numbers row) (row_numbers other)

-- the one of two entries that comes first
abbrev pub earlier_entry : Entry → Option Entry → Entry
earlier_entry entry None = entry
earlier_entry entry (Some other) =
    if numbers_before (entry_numbers entry) (entry_numbers other) then entry else other
