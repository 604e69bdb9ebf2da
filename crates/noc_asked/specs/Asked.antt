-- What arguments ask for that have a command, and the texts of a request, read from the files that
-- they name.
use Rattle.std.specs.Prelude.{◌≡◌, List, ℕ, Option, Some, None, Result, Err, ⊤, is_some}
use Rattle.std.specs.Borrow.{Bor}
use Rattle.noc_cli.specs.declared.args.Args.{Args}
use Rattle.noc_bytes.specs.declared.input_fault.InputFault.{InputFault}
use Rattle.noc_bytes.specs.declared.input_fault.InputFault.TheVariants.{ReadFailed}
use Rattle.noc_asked.specs.declared.asked.Asked.{Asked}
use Rattle.noc_asked.specs.declared.asked.Asked.TheVariants.{Answer, Version}

-- an answer to their command is asked for, with a table and ranks where they name one
abbrev pub AsksAs : Args → Asked → Type 0
AsksAs args (Answer request) =
    (request.command ≡ args.command) × (is_some request.table ≡ is_some args.table)
    × (is_some request.ranks ≡ is_some args.ranks)
AsksAs args Version = ⊥

-- what is read for a name, where there is one
abbrev pub ReadsIfNamed : {T : Type 0} → (List ℕ → T → Type 0) → Option (Bor (List ℕ)) → Option T
    → Type 0
ReadsIfNamed Reads None None = ⊤
ReadsIfNamed Reads (Some name) (Some text) = Reads name.now text
ReadsIfNamed Reads _ _ = ⊥

-- what is read for a name, or that nothing was read where there is none
abbrev pub ReadsOrFails : {T : Type 0} → (List ℕ → Result T InputFault → Type 0)
    → Option (Bor (List ℕ)) → Result T InputFault → Type 0
ReadsOrFails Reads None text = text ≡ Err ReadFailed
ReadsOrFails Reads (Some name) text = Reads name.now text
