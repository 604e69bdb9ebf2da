-- What follows from a request's command, and from how its texts are lent.
use Rattle.std.proofs.Common.{◌≡◌, ℕ, false, List, Option, Some, None, Result, refl, is_some, option_map, unwrap_or}
use Rattle.std.specs.Borrow.{Bor}
use Rattle.noc_bytes.specs.declared.input_fault.InputFault.{InputFault}
use Rattle.noc_requests.specs.Asked.{is_joined, lent_text}
use Rattle.noc_commands.specs.declared.command.Command.{Command}
use Rattle.noc_commands.specs.declared.command.Command.TheVariants as command

pub not_joined : (x : Command) → (x ≡ command.Joined → ⊥) → is_joined x ≡ false
not_joined command.Joined other = absurd (other refl)
not_joined (command.Run workers report drain) other = refl
not_joined (command.Explain cycle router) other = refl
not_joined (command.Trace from to router packet verdicts changes) other = refl
not_joined command.Check other = refl
not_joined command.Ranks other = refl

-- a text is there whether it is lent or not
pub is_some-lent : (text : Option (Result (Bor (List ℕ)) InputFault)) → is_some (option_map lent_text text) ≡ is_some text
is_some-lent None = refl
is_some-lent (Some text) = refl

pub lent-unwrap_or : (text : Option (Result (Bor (List ℕ)) InputFault)) (other : Result (Bor (List ℕ)) InputFault) → lent_text (unwrap_or text other) ≡ unwrap_or (option_map lent_text text) (lent_text other)
lent-unwrap_or None other = refl
lent-unwrap_or (Some text) other = refl
