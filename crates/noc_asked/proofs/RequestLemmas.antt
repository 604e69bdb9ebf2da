-- A request has a file where its words name one.
use Rattle.std.proofs.Common.{◌≡◌, ℕ, List, Option, Some, None, refl}
use Rattle.std.specs.Prelude.{is_some}
use Rattle.std.specs.Borrow.{Bor}
use Rattle.noc_asked.specs.Asked.{ReadsIfNamed}

pub named_alike : {T : Type 0} (Reads : List ℕ → T → Type 0) (name : Option (Bor (List ℕ))) (text : Option T) → ReadsIfNamed Reads name text → is_some text ≡ is_some name
named_alike Reads None None reads = refl
named_alike Reads None (Some text) reads = absurd reads
named_alike Reads (Some name) None reads = absurd reads
named_alike Reads (Some name) (Some text) reads = refl
