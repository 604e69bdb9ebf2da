-- Lists and options: what the definitions of all crates share.
use Rattle.std.specs.Prelude.{ℕ, ◌≡◌, ◌⊎◌, Bool, false, List, [], ◌∷◌, map, Option, Some, None, nat_eq, nat_le, if◌then◌else◌}
use Rattle.std.specs.List.{range_with_len, enumerate_from}

-- the numbers 0 to n-1
unfoldable pub below : ℕ → List ℕ
below n = range_with_len 0 n

-- f at each number below n
unfoldable pub tabulate : {X : Type 0} → ℕ → (ℕ → X) → List X
unfolding below
tabulate n f = map f (below n)

-- f of each index and element
unfoldable pub map_indexed : {X Y : Type 0} → (ℕ → X → Y) → List X → List Y
map_indexed {X = X} f xs = map (λ (entry : ℕ × X). f entry.0 entry.1) (enumerate_from 0 xs)

-- whether it is there, and is x
abbrev pub is_some_of : Option ℕ → ℕ → Bool
is_some_of None x = false
is_some_of (Some y) x = nat_eq y x

-- x, or y if there is one and its key is less
abbrev pub lesser_by : {X : Type 0} → (X → ℕ) → X → Option X → X
lesser_by key x None = x
lesser_by key x (Some y) = if nat_le (key x) (key y) then x else y

-- the first of the elements with the least key
unfoldable pub least_by : {X : Type 0} → (X → ℕ) → List X → Option X
least_by key [] = None
least_by key (x ∷ xs) = Some (lesser_by key x (least_by key xs))

-- x is an element of the list
abbrev pub Has : {X : Type 0} → X → List X → Type 0
Has x [] = ⊥
Has x (y ∷ ys) = (x ≡ y) ⊎ Has x ys

-- P holds of each element
abbrev pub Each : {X : Type 0} → (X → Type 0) → List X → Type 0
Each P [] = Unit {0}
Each P (x ∷ xs) = P x × Each P xs

-- R holds of each element and each later one
abbrev pub Pairs : {X : Type 0} → (X → X → Type 0) → List X → Type 0
Pairs R [] = Unit {0}
Pairs R (x ∷ xs) = Each (R x) xs × Pairs R xs

-- 1 where it is true
abbrev pub one_if : Bool → ℕ
one_if b = if b then 1 else 0
