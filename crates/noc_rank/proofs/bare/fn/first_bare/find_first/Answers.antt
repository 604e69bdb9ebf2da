use Rattle.std.proofs.Common.{sym, ◌∙◌}
use Rattle.noc_rank.proofs.BareLemmas.{told-bare}
use Rattle.noc_rank.proofs.bare.fn.first_bare.find_first.Goals as goal

pub returns : goal.returns
returns c =
    let iff = told-bare c.captures.ranked.now.relation.now c.captures.ranked.now.ranks.now c.args.number.now c.bare_at.result c.bare_at.ensures.none c.bare_at.ensures.some in
    (λ none. iff.0 (sym c.is_some.ensures ∙ none), λ none. c.is_some.ensures ∙ iff.1 none)
