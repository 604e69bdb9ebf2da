use Rattle.std.proofs.Common.{◌++◌, ◌≤◌, ◌∙◌, ap, arith, length, take}
use Rattle.noc_route.specs.Listed.{listed}
use Rattle.noc_route.proofs.ListedLemmas.{listed-all}
use Rattle.noc_route.proofs.set_list.list_of.Goals as goal

pub returns : goal.returns
returns c =
    let kinds = c.args.kinds.now in
    let count = c.args.count in
    let numbers = c.args.numbers.items in
    let room : count ≤ length kinds = omega (arith, c.requires.few, c.told-kinds) in
    let are = c.shrink_to_fit.ensures.items ∙ c.in_ok-extend_from_slice.ensures.items ∙ ap (λ xs. xs ++ take count kinds) c.clear.ensures.items in
    ap (λ xs. listed xs numbers) are ∙ listed-all c.args.sets.items kinds numbers count c.requires.long room c.requires.numbered
