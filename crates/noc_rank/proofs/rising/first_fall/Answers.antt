use Rattle.std.proofs.Common.{◌≡◌, ◌*◌, ◌<◌, ℕ, subst, ◌∙◌, arith}
use Rattle.rayon.proofs.ToStd.{nat_range-All}
use Rattle.noc_rank.specs.NotRising.{input_count, HasNoFall}
use Rattle.noc_rank.proofs.CheckLemmas.{count-inputs, all-rise, IsFirstBut, searched, one-first}
use Rattle.noc_rank.proofs.rising.first_fall.Goals as goal

pub find_first-requires-clause-items : goal.find_first-requires-clause-items
find_first-requires-clause-items g c κs within =
    let ends = c.into_par_iter.ensures in
    let relation = c.args.ranked.now.relation.now in
    let k = c.args.ranked.now.ranks.now in
    let n = c.inputs-count.result in
    let count : n ≡ relation.classes * input_count k
    = c.inputs-count.ensures.value
    ∙ count-inputs k c.classes.result c.vcs.result relation.classes c.shape.result.now c.classes.ensures.value (c.shape.ensures.value ∙ c.args.ranked.now.grid) (c.vcs.ensures.value ∙ c.args.ranked.now.vcs) in
    let inside = nat_range-All (λ i. i < relation.classes * input_count k) 0 n (λ i low high. subst (λ m. i < m) count high) in
    rw (ends.0, ends.1) (λ j d lt p e. rw e (inside j d lt))

pub returns-in_err-number : goal.returns-in_err-number
returns-in_err-number g c =
    let ends = c.into_par_iter.ensures in
    let relation = c.args.ranked.now.relation.now in
    let k = c.args.ranked.now.ranks.now in
    let n = c.inputs-count.result in
    let count : n ≡ relation.classes * input_count k
    = c.inputs-count.ensures.value
    ∙ count-inputs k c.classes.result c.vcs.result relation.classes c.shape.result.now c.classes.ensures.value (c.shape.ensures.value ∙ c.args.ranked.now.grid) (c.vcs.ensures.value ∙ c.args.ranked.now.vcs) in
    let told = searched (HasNoFall relation k) n _ _ c.find_first.result ends.0 ends.1 c.find_first.ensures in
    let none : (e : ℕ) → e < n → HasNoFall relation k e = rw c.in_err-number.was at told in
    rw c.from_residual.ensures (all-rise relation k n c.args.ranked.now.grid c.args.ranked.now.vcs c.vcs.ensures.built.table.grid count none)

pub first_at-requires : goal.first_at-requires
first_at-requires g c =
    let ends = c.into_par_iter.ensures in
    let relation = c.args.ranked.now.relation.now in
    let k = c.args.ranked.now.ranks.now in
    let n = c.inputs-count.result in
    let count : n ≡ relation.classes * input_count k
    = c.inputs-count.ensures.value
    ∙ count-inputs k c.classes.result c.vcs.result relation.classes c.shape.result.now c.classes.ensures.value (c.shape.ensures.value ∙ c.args.ranked.now.grid) (c.vcs.ensures.value ∙ c.args.ranked.now.vcs) in
    let told = searched (HasNoFall relation k) n _ _ c.find_first.result ends.0 ends.1 c.find_first.ensures in
    let found : IsFirstBut (HasNoFall relation k) 0 n c.in_ok-number.number = rw c.in_ok-number.was at told in
    omega (arith, count, found.below)

pub returns : goal.returns
returns g c =
    let ends = c.into_par_iter.ensures in
    let relation = c.args.ranked.now.relation.now in
    let k = c.args.ranked.now.ranks.now in
    let n = c.inputs-count.result in
    let told = searched (HasNoFall relation k) n _ _ c.find_first.result ends.0 ends.1 c.find_first.ensures in
    let found : IsFirstBut (HasNoFall relation k) 0 n c.in_ok-number.number = rw c.in_ok-number.was at told in
    one-first relation k n c.in_ok-number.number c.first_at.result c.args.ranked.now.grid c.args.ranked.now.vcs c.vcs.ensures.built.table.grid found c.first_at.ensures
