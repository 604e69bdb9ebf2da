-- What reading all of an input answers.
use Rattle.std.specs.Prelude.{◌≡◌, ◌≢◌, ℕ, List, Result, Ok, Err, Vec}
use Rattle.std.specs.declared.alloc.Global.{Global}
use Rattle.noc_bytes.specs.declared.input_fault.InputFault.{InputFault}
use Rattle.noc_bytes.specs.declared.input_fault.InputFault.TheVariants.{Memory, ReadFailed}

-- this was answered, unless memory ran out or the reader failed
abbrev pub Reads : Result (Vec ℕ Global) InputFault → Result (List ℕ) InputFault → Type 0
Reads (Ok v) said = said ≡ Ok v.items
Reads (Err e) said = e ≢ Memory → e ≢ ReadFailed → said ≡ Err e
