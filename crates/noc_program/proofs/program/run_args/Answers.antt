use Rattle.std.proofs.Common.{map, rules, string_bytes, subst}
use Rattle.noc_program.specs.Requests.{IsAskedAs}
use Rattle.noc_program.specs.Telling.{answered}
use Rattle.noc_program.proofs.program.run_args.Goals as goal

pub returns-in-Ok-Answer-clause-done : goal.returns-in-Ok-Answer-clause-done
returns-in-Ok-Answer-clause-done g c =
    let made = subst (IsAskedAs (map string_bytes c.args.args.now)) c.in-Ok-Answer.field-0-is c.in-Ok-Answer.ensures.asked in
    answered made.0 (search rules)
