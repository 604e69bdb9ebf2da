use Rattle.std.proofs.Common.{◌≡◌, ◌*◌, ◌<◌, ℕ, ap, subst, ◌∙◌, arith}
use Rattle.std.proofs.lemmas.Nat.{mul-le}
use Rattle.rayon.proofs.ToStd.{nat_range-All}
use Rattle.noc_topo.specs.Shape.{nodes, ports}
use Rattle.noc_rank.specs.NoEscape.{entries}
use Rattle.noc_rank.proofs.BareLemmas.{IsNotBare, count-entries, has-escapes, first-is_bare}
use Rattle.noc_rank.proofs.CheckLemmas.{IsFirstBut, searched}
use Rattle.noc_rank.proofs.bare.first_bare.Goals as goal

pub overflow_mul-count : goal.overflow_mul-count
overflow_mul-count g c = let few = mul-le c.inputs.result c.nodes.result 57344 256 (omega (arith, c.inputs.ensures.few)) (omega (arith, c.nodes.ensures.few)) in omega (arith, few)

pub find_first-requires-clause-items : goal.find_first-requires-clause-items
find_first-requires-clause-items g c κs within =
    let ends = c.into_par_iter.ensures in
    let relation = c.args.ranked.now.relation.now in
    let k = c.args.ranked.now.ranks.now in
    let n = c.inputs.result * c.nodes.result in
    let count : n ≡ entries relation
    = ap (λ x. x * c.nodes.result) c.inputs.ensures.value ∙ ap (λ x. c.classes.result * (nodes c.shape-shape.result.now * ports c.shape-shape.result.now * c.vcs.result) * x) c.nodes.ensures.value
    ∙ count-entries relation c.classes.result c.vcs.result c.shape-shape.result.now c.classes.ensures.value c.shape-shape.ensures.value c.vcs.ensures.value in
    let inside = nat_range-All (λ i. i < entries relation) 0 n (λ i low high. subst (λ m. i < m) count high) in
    rw (ends.0, ends.1) (λ j d lt p e. rw e (inside j d lt))

pub returns-in_err-number : goal.returns-in_err-number
returns-in_err-number g c =
    let ends = c.into_par_iter.ensures in
    let relation = c.args.ranked.now.relation.now in
    let k = c.args.ranked.now.ranks.now in
    let n = c.inputs.result * c.nodes.result in
    let count : n ≡ entries relation
    = ap (λ x. x * c.nodes.result) c.inputs.ensures.value ∙ ap (λ x. c.classes.result * (nodes c.shape-shape.result.now * ports c.shape-shape.result.now * c.vcs.result) * x) c.nodes.ensures.value
    ∙ count-entries relation c.classes.result c.vcs.result c.shape-shape.result.now c.classes.ensures.value c.shape-shape.ensures.value c.vcs.ensures.value in
    let told = searched (IsNotBare relation k) n _ _ c.find_first.result ends.0 ends.1 c.find_first.ensures in
    let none : (e : ℕ) → e < n → IsNotBare relation k e = rw c.in_err-number.was at told in
    rw c.from_residual.ensures (has-escapes relation k c.vcs.ensures.built c.args.ranked.now.grid c.args.ranked.now.vcs n count none)

pub bare_at-requires : goal.bare_at-requires
bare_at-requires g c =
    let ends = c.into_par_iter.ensures in
    let relation = c.args.ranked.now.relation.now in
    let n = c.inputs.result * c.nodes.result in
    let count : n ≡ entries relation
    = ap (λ x. x * c.nodes.result) c.inputs.ensures.value ∙ ap (λ x. c.classes.result * (nodes c.shape-shape.result.now * ports c.shape-shape.result.now * c.vcs.result) * x) c.nodes.ensures.value
    ∙ count-entries relation c.classes.result c.vcs.result c.shape-shape.result.now c.classes.ensures.value c.shape-shape.ensures.value c.vcs.ensures.value in
    let told = searched (IsNotBare relation c.args.ranked.now.ranks.now) n _ _ c.find_first.result ends.0 ends.1 c.find_first.ensures in
    let found : IsFirstBut (IsNotBare relation c.args.ranked.now.ranks.now) 0 n c.in_ok-number.number = rw c.in_ok-number.was at told in
    omega (arith, count, found.below)

pub returns : goal.returns
returns g c =
    let ends = c.into_par_iter.ensures in
    let relation = c.args.ranked.now.relation.now in
    let k = c.args.ranked.now.ranks.now in
    let n = c.inputs.result * c.nodes.result in
    let told = searched (IsNotBare relation k) n _ _ c.find_first.result ends.0 ends.1 c.find_first.ensures in
    let found : IsFirstBut (IsNotBare relation k) 0 n c.in_ok-number.number = rw c.in_ok-number.was at told in
    first-is_bare relation k c.vcs.ensures.built c.args.ranked.now.grid c.args.ranked.now.vcs n c.in_ok-number.number c.bare_at.result found c.bare_at.ensures.none c.bare_at.ensures.some
