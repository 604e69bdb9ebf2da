-- Who asks for what, and who gets it.
use Rattle.std.specs.Prelude.{ℕ, ◌<◌, Bool, false, List, Option, Some, None, slice_index_or}
use Rattle.std.specs.List.{All}
use Rattle.std.specs.Option.{ForSome}
use Rattle.noc_topo.specs.Lists.{is_some_of}

-- whoever is named in the list is below n
abbrev pub AllBelow : ℕ → List (Option ℕ) → Type 0
AllBelow n xs = All (λ one. ForSome one (λ k. k < n)) xs

-- whether requester i gets the resource that it asks for
abbrev pub is_given : List (Option ℕ) → Option ℕ → ℕ → Bool
is_given grants None i = false
is_given grants (Some o) i = is_some_of (slice_index_or grants o None) i
