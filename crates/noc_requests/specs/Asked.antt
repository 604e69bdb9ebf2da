-- What is asked of the program: a command, and the texts of its files.
use Rattle.std.specs.Prelude.{◌≡◌, ◌≢◌, ℕ, Bool, true, false, List, Option, None, Result, Ok, Err, Vec, option_map}
use Rattle.std.specs.Borrow.{Bor}
use Rattle.std.specs.declared.alloc.Global.{Global}
use Rattle.noc_files.specs.Gives.{◌>>=◌, result_map}
use Rattle.noc_bytes.specs.Joined.{SplitsAt}
use Rattle.noc_bytes.specs.declared.input_fault.InputFault.{InputFault}
use Rattle.noc_bytes.specs.declared.input_fault.InputFault.TheVariants.{Memory}
use Rattle.noc_commands.specs.declared.command.Command.{Command}
use Rattle.noc_commands.specs.declared.command.Command.TheVariants.{Joined}
use Rattle.noc_requests.specs.declared.request.Files.{Files}
use Rattle.noc_requests.specs.declared.request.Request.{Request}

-- the bytes of a file, or the fault of reading it
abbrev pub TextValue : Type 0
TextValue = Result (List ℕ) InputFault

-- what a text says, if it was read
abbrev pub read_by : {X : Type 0} → (List ℕ → Result X InputFault) → TextValue → Result X InputFault
read_by said text = text >>= said

-- why a text is not read: memory was refused, or this is its first fault
abbrev pub IsUnread : {X : Type 0} → (List ℕ → Result X InputFault) → TextValue → InputFault
    → Type 0
IsUnread said text f = f ≢ Memory → read_by said text ≡ Err f

-- a command, and the texts at which it looks
pub record Asked : Type 0 where
  pub config : TextValue
  pub table : Option TextValue
  pub ranks : Option TextValue
  pub traffic : TextValue
  pub command : Command

-- a text that is owned, and one that is lent
abbrev pub owned_text : Result (Vec ℕ Global) InputFault → TextValue
owned_text text = result_map (λ v. v.items) text

abbrev pub lent_text : Result (Bor (List ℕ)) InputFault → TextValue
lent_text text = result_map (λ b. b.now) text

-- files as the code hands them on
abbrev pub lent_files : Files → Asked
lent_files files = record {
  config = lent_text files.config;
  table = option_map lent_text files.table;
  ranks = option_map lent_text files.ranks;
  traffic = lent_text files.traffic;
  command = files.command;
}

-- the files of a request as they stand
abbrev pub files_of : Request → Asked
files_of r = record {
  config = owned_text r.config;
  table = option_map owned_text r.table;
  ranks = option_map owned_text r.ranks;
  traffic = owned_text r.traffic;
  command = r.command;
}

-- the two texts of a joined text
abbrev pub parts : List ℕ → List ℕ → Asked
parts config traffic = record {
  config = Ok config;
  table = None;
  ranks = None;
  traffic = Ok traffic;
  command = Joined;
}

abbrev pub is_joined : Command → Bool
is_joined Joined = true
is_joined _ = false

-- a request is read as these texts: those of its files, or the two of a joined text
pub data ReadsAs (r : Request) : Asked → Type 0 where
  as_files : is_joined r.command ≡ false → ReadsAs r (files_of r)
  as_joined : {text config traffic : List ℕ} {i : ℕ} → is_joined r.command ≡ true
      → owned_text r.config ≡ Ok text → SplitsAt text i config traffic
      → ReadsAs r (parts config traffic)
