use Rattle.std.proofs.Common.{◌∙◌, arith, string_bytes, sym}
use Rattle.std.proofs.lemmas.List.{length-map}
use Rattle.noc_program.proofs.RequestLemmas.{asked-as}
use Rattle.noc_program.proofs.arguments.parse_args.Goals as goal

pub returns-in-Ok-clause-asked : goal.returns-in-Ok-clause-asked
returns-in-Ok-clause-asked g c =
    let said = c.in-Ok.ensures in
    asked-as _ c.in-Ok.args c.asked_of.result (omega (arith, length-map c.args.args.now string_bytes, c.if-args-le1.false)) said.said said.workers c.asked_of.ensures

pub returns-in-DisplayVersion-clause-asked : goal.returns-in-DisplayVersion-clause-asked
returns-in-DisplayVersion-clause-asked g c = (c.in-Err.error, c.in-Err.ensures.refused, sym c.in-DisplayVersion.ensures)

pub returns-in_default : goal.returns-in_default
returns-in_default g c = record {
  asked = tt;
  refused = (c.in-Err.ensures.refused, λ same. c.in_default.not-DisplayVersion (c.kind.ensures ∙ same));
}
