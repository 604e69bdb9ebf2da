-- The sizes of all three dimensions: where a shape has fewer, the missing ones are 1.
use Rattle.std.specs.Prelude.{List, [], ◌∷◌, ◌++◌, ℕ, take}

-- the sizes of all three dimensions, 1 where one is missing
abbrev pub three_sizes : List ℕ → List ℕ
three_sizes ks = take 3 (ks ++ 1 ∷ 1 ∷ 1 ∷ [])
