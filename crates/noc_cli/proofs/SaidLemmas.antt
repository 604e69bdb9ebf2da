-- The number that an argument of the command line says, as it is read.
use Rattle.std.proofs.Common.{◌≡◌, ℕ, List, Option, Some, None, Result, refl}
use Rattle.std.specs.Str.Parse.{ParsesUnsigned}
use Rattle.clap.specs.Words.{ReadsOne}
use Rattle.noc_cli.specs.Args.{IsSaidIfAny}

-- an argument, if there is one, that is read as a number of 64 bits says what is read
pub said_if_any : {E : Type 0} (X Y : List ℕ → Result ℕ E → Type 0) (arg : Option (List ℕ)) (read : Option ℕ)
    → (arg ≡ None → read ≡ None)
    → ((t : List ℕ) → arg ≡ Some t → ReadsOne (λ bs r. ParsesUnsigned 64 10 bs r × X bs r × Y bs r) t read)
    → IsSaidIfAny arg read
said_if_any X Y None read none value = none refl
said_if_any X Y (Some t) (Some n) none value = (value t refl).0
said_if_any X Y (Some t) None none value = (value t refl).1.0
