use Rattle.std.proofs.Common.{◌∙◌, sym}
use Rattle.noc_rank.proofs.CheckLemmas.{rises-iff}
use Rattle.noc_rank.proofs.rising.fn.first_fall.find_first.Goals as goal

pub returns : goal.returns
returns c =
    let iff = rises-iff c.captures.ranked.now.relation.now c.captures.ranked.now.ranks.now c.args.number.now c.first_at.result c.first_at.ensures in
    (λ none. iff.0 (sym c.is_some.ensures ∙ none), λ none. c.is_some.ensures ∙ iff.1 none)
