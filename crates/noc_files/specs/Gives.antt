-- What a reader of a text answers.
use Rattle.std.specs.Prelude.{◌≡◌, ◌≢◌, ◌↔◌, ℕ, List, Result, Ok, Err}
use Rattle.noc_bytes.specs.declared.input_fault.InputFault.{InputFault}
use Rattle.noc_bytes.specs.declared.input_fault.InputFault.TheVariants.{Memory}

-- one step, and then the next, up to the first fault
infixl 10 ◌>>=◌
abbrev pub ◌>>=◌ : {A B : Type 0} → Result A InputFault → (A → Result B InputFault)
    → Result B InputFault
(Ok x) >>= f = f x
(Err e) >>= f = Err e

-- what was answered, seen by view, is what the text says, unless memory ran out
abbrev pub Gives : {X Y : Type 0} → (X → Y) → Result X InputFault → Result Y InputFault → Type 0
Gives view (Ok x) said = said ≡ Ok (view x)
Gives view (Err e) said = e ≢ Memory → said ≡ Err e

-- an answer, seen by view
abbrev pub result_map : {X Y E : Type 0} → (X → Y) → Result X E → Result Y E
result_map view (Ok x) = Ok (view x)
result_map view (Err e) = Err e

-- texts are read as just what this says of them, and refused with just that fault
pub record IsReadAs {X : Type 0} (Is : List ℕ → X → Type 0)
    (IsFault : List ℕ → InputFault → Type 0) (said : List ℕ → Result X InputFault) : Type 0 where
  pub reads : (text : List ℕ) (x : X) → (said text ≡ Ok x) ↔ Is text x
  pub refuses : (text : List ℕ) (fault : InputFault) → (said text ≡ Err fault) ↔ IsFault text fault
