use Rattle.std.proofs.Common.{◌≡◌, List, Option, get_or, replicate, None, rules, arith, ap, ◌∙◌, ℕ}
use Rattle.std.proofs.lemmas.List.{get_or-replicate}
use Rattle.noc_router.proofs.ArrivalLemmas.{zip-none}
use Rattle.noc_router.proofs.arrivals.Arrivals.new.Goals as goal

pub returns : goal.returns
returns c =
    let none : c.in_ok-cycles.cycles.items ≡ replicate c.len.result None = c.in_ok-cycles.ensures.items_if_clones_equal (λ y e. search rules) in
    zip-none c.args.ends.items c.in_ok-cycles.cycles.items (omega (arith, c.in_ok-cycles.ensures.len, c.in_ok-cycles.cycles.ok.0, c.args.ends.ok.0))
    (λ k l. ap (λ (xs : List (Option ℕ)). get_or xs k None) none ∙ get_or-replicate c.len.result k None None (omega (arith, c.args.ends.ok.0)))
