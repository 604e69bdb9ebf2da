use Rattle.std.proofs.Common.{◌≡◌, ◌+◌, ◌*◌, ◌/◌, ◌%◌, ◌<◌, ◌≤◌, ℕ, true, refl, ap, sym, ◌∙◌, arith, inl, inr}
use Rattle.std.specs.Prelude.{◌⊎◌, is_some}
use Rattle.std.proofs.Math.Nat.{mul-le-mul_right}
use Rattle.std.proofs.lemmas.Bool.{cases_lt, false≢true}
use Rattle.noc_topo.specs.Shape.{nodes, local_port}
use Rattle.noc_route.specs.Ranks.{is_channel, rank_count, rank_at}
use Rattle.noc_rank.proofs.AcceptLemmas.{full-decoded}
use Rattle.noc_rank.proofs.accept.is_full.Goals as goal

pub overflow_mul-index-end : goal.overflow_mul-index-end
overflow_mul-index-end c =
    let few : c.all_ports.result * c.vcs-vcs.result ≤ 1536 * c.vcs-vcs.result = mul-le-mul_right c.vcs-vcs.result c.all_ports.ensures.few in
    omega (arith, few, c.vcs-vcs.ensures.value, c.vcs-vcs.ensures.built.table.few_vcs)

pub loop-index-preserved : goal.loop-index-preserved
loop-index-preserved c = λ n l. at n l (cases_lt n c.loop-index.index)
  where
    at : (n : ℕ) → n < c.loop-index.index + 1 → (n < c.loop-index.index) ⊎ (c.loop-index.index ≤ n)
        → is_channel c.args.ranked.now.ranks.now.grid c.args.ranked.now.ranks.now.vcs (n / c.vcs-vcs.result / c.link_ports-ports.result) (n / c.vcs-vcs.result % c.link_ports-ports.result) (n % c.vcs-vcs.result) ≡ true
        → is_some (rank_at c.args.ranked.now.ranks.now (n / c.vcs-vcs.result / c.link_ports-ports.result) (n / c.vcs-vcs.result % c.link_ports-ports.result) (n % c.vcs-vcs.result)) ≡ true
    at n l (inl less) = c.loop-index.invariant n less
    at n l (inr more) =
        let same : n ≡ c.loop-index.index = omega (arith, l, more) in
        rw same (c.is_adaptive.ensures.0 c.if-is_adaptive.false)

pub returns-clause-full : goal.returns-clause-full
returns-clause-full c = (
  λ _.
      let ranked = c.args.ranked.now in
      let k = ranked.ranks.now in
      let shape = c.shape-shape.ensures.value ∙ ranked.grid in
      let vcs : c.vcs-vcs.result ≡ k.vcs = c.vcs-vcs.ensures.value ∙ ranked.vcs in
      let ports : c.link_ports-ports.result ≡ local_port k.grid = c.link_ports-ports.ensures.value ∙ ap local_port shape in
      let pairs : c.all_ports.result ≡ nodes k.grid * local_port k.grid = c.all_ports.ensures.value ∙ ap (λ g. nodes g * local_port g) shape in
      let count : c.all_ports.result * c.vcs-vcs.result ≡ rank_count k.grid k.vcs = ap (λ x. x * c.vcs-vcs.result) pairs ∙ ap (λ x. nodes k.grid * local_port k.grid * x) vcs in
      full-decoded k c.vcs-vcs.result c.link_ports-ports.result c.loop-index.index vcs ports (omega (arith, count, c.loop-index-test.false)) c.loop-index.invariant,
  λ _. refl,
)

pub returns-then-is_adaptive-clause-full : goal.returns-then-is_adaptive-clause-full
returns-then-is_adaptive-clause-full c =
    let n = c.loop-index.index in
    let v = c.vcs-vcs.result in
    let ports = c.link_ports-ports.result in (
      λ e. absurd (false≢true e),
      λ full. sym (c.is_adaptive.ensures.1 (full (n / v / ports) (n / v % ports) (n % v))) ∙ c.if-is_adaptive.true,
    )

pub loop-index-init : goal.loop-index-init
loop-index-init c = λ n l. absurd (omega arith)
