use Rattle.std.proofs.Common.{◌∙◌, Some, ap, option_map, sym}
use Rattle.noc_commands.specs.declared.command.Command.{Command}
use Rattle.noc_requests.specs.Asked.{lent_text}
use Rattle.noc_requests.specs.Check.{checked_by}
use Rattle.noc_requests.proofs.AskedLemmas.{lent-unwrap_or}
use Rattle.noc_requests.proofs.checking.checked_ranks.Goals as goal

pub returns-in-Check : goal.returns-in-Check
returns-in-Check c =
    let ranks = option_map lent_text c.args.files.now.ranks in
    ap (λ text. Some (lent_text text)) c.unwrap_or.ensures ∙ ap Some (lent-unwrap_or c.args.files.now.ranks _) ∙ sym (ap (λ (x : Command). checked_by x ranks) c.in-Check.is)
