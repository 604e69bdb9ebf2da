use Rattle.std.proofs.Common.{inl, inr, sym, ◌∙◌}
use Rattle.std.proofs.lemmas.Bool.{cases_Bool}
use Rattle.std.proofs.lemmas.Str.{IsUtf8-from_is_utf8, is_utf8-from_IsUtf8}
use Rattle.std.specs.Str.{is_utf8}
use Rattle.noc_files.proofs.configuration.document.Goals as goal

pub returns-in-Ok : goal.returns-in-Ok
returns-in-Ok c =
    let (text, said) = c.in-Ok.ensures.ok in
    rw (is_utf8-from_IsUtf8 c.args.text.now text, said)

pub returns-else-is_memory : goal.returns-else-is_memory
returns-else-is_memory c _ =
    elim (cases_Bool (is_utf8 c.args.text.now)) [
      | inl text ↦ rw (text, c.in-Err.ensures.refused (λ m. absurd (cc (sym (c.is_memory.ensures.1 m) ∙ c.if-is_memory.false))) (IsUtf8-from_is_utf8 c.args.text.now text))
      | inr other ↦ rw other
    ]
