use Rattle.std.proofs.Common.{◌≡◌, ◌+◌, ◌*◌, ◌<◌, ◌≤◌, ◌∙◌, ℕ, get_or, subst, arith, inl, below_more}
use Rattle.noc_topo.specs.Shape.{nodes}
use Rattle.noc_route.specs.Entered.{sets_in}
use Rattle.noc_route.specs.Routes.{width}
use Rattle.noc_route.specs.Trimming.{reached_at}
use Rattle.noc_route.proofs.EntryLemmas.{flat-below}
use Rattle.noc_route.proofs.trim.trim_pair.Goals as goal

pub trim_column-requires-clause-input : goal.trim_column-requires-clause-input
trim_column-requires-clause-input c = let P : ℕ → Type 0 = λ n. c.loop-input.input < n in subst P c.width-input-end.ensures.value c.loop-input-test.true

pub loop-input-preserved : goal.loop-input-preserved
loop-input-preserved c = λ i t l m.
    let f = c.args.sizes.now in
    let n = nodes f.shape in
    below_more (λ i. get_or c.trim_column.new.block (i * n + t) 0 ≡ reached_at f (sets_in f c.args.entered.now) c.args.coming.now c.args.pair i t) c.loop-input.input
    (λ i l. c.trim_column.ensures.others (i * n + t) (inl (flat-below i c.loop-input.input t n l m)) ∙ c.loop-input.invariant i t l m)
    (c.trim_column.ensures.column t m) i l

pub returns : goal.returns
returns c = λ t i l m.
    let last : width c.args.sizes.now.shape c.args.sizes.now.vcs ≤ c.loop-input.input = omega (arith, c.width-input-end.ensures.value, c.loop-input-test.false) in
    c.loop-input.invariant i t (omega (arith, m, last)) l
