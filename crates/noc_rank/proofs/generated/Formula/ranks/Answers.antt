use Rattle.std.proofs.Common.{◌≡◌, ℕ, ◌*◌, ◌/◌, ◌%◌, ◌<◌, ◌≤◌, length, ap, subst, arith}
use Rattle.std.proofs.Math.Nat.{mod-lt, mul-le-mul_right}
use Rattle.noc_route.specs.Ranks.{rank_count}
use Rattle.noc_rank.specs.Formulated.{AreByFormula}
use Rattle.noc_rank.proofs.FormulaLemmas.{vcs-few, by_formula-push, rank_index-known}
use Rattle.noc_rank.proofs.generated.Formula.ranks.Goals as goal

pub overflow_mul-count : goal.overflow_mul-count
overflow_mul-count c =
    let f = c.args.self.now in
    let few : c.all_ports.result * f.vcs ≤ 1536 * f.vcs = mul-le-mul_right f.vcs c.all_ports.ensures.few in
    omega (arith, few, (vcs-few f.shape.now f.vcs f.classes f.rule.now f.ruled).1)

pub nonzero_div-channel : goal.nonzero_div-channel
nonzero_div-channel c = let f = c.args.self.now in omega (arith, (vcs-few f.shape.now f.vcs f.classes f.rule.now f.ruled).0)

pub rank_at-requires-clause-router : goal.rank_at-requires-clause-router
rank_at-requires-clause-router c =
    let f = c.args.self.now in
    let count : c.all_ports.result * f.vcs ≡ rank_count f.shape.now f.vcs = ap (λ n. n * f.vcs) c.all_ports.ensures.value in
    rank_index-known f.shape.now f.vcs c.link_ports-ports.result c.loop-index.index (vcs-few f.shape.now f.vcs f.classes f.rule.now f.ruled).0 c.link_ports-ports.ensures.some c.link_ports-ports.ensures.value (omega (arith, count, c.loop-index-test.true))

pub rank_at-requires-clause-port : goal.rank_at-requires-clause-port
rank_at-requires-clause-port c =
    let ports : 0 < c.link_ports-ports.result = omega (arith, c.link_ports-ports.ensures.some) in
    let P : ℕ → Type 0 = λ n. c.loop-index.index / c.args.self.now.vcs % c.link_ports-ports.result < n in
    subst P c.link_ports-ports.ensures.value (mod-lt (c.loop-index.index / c.args.self.now.vcs) ports)

pub loop-index-init : goal.loop-index-init
loop-index-init c =
    let f = c.args.self.now in
    let count : c.all_ports.result * f.vcs ≡ rank_count f.shape.now f.vcs = ap (λ n. n * f.vcs) c.all_ports.ensures.value in
    record {
      room = omega (arith, count, c.in_ok-ranks.ensures.capacity);
      made = record { long = ap length c.in_ok-ranks.ensures.items; items = λ k l. absurd (omega arith); within = λ k l. absurd (omega arith) };
    }

pub push_reserved-requires : goal.push_reserved-requires
push_reserved-requires c =
    let f = c.args.self.now in
    let is = c.loop-index.invariant in
    let count : c.all_ports.result * f.vcs ≡ rank_count f.shape.now f.vcs = ap (λ n. n * f.vcs) c.all_ports.ensures.value in
    omega (arith, count, is.room, is.made.long, c.loop-index.ranks.ok.0, c.loop-index-test.true)

pub loop-index-preserved : goal.loop-index-preserved
loop-index-preserved c =
    let is = c.loop-index.invariant in
    record {
      room = omega (arith, is.room, c.push_reserved.ensures.capacity);
      made = by_formula-push c.args.self.now c.link_ports-ports.result c.loop-index.index c.loop-index.ranks.items c.push_reserved.new.self.items c.rank_at.result c.link_ports-ports.ensures.value is.made c.push_reserved.ensures.items c.rank_at.ensures.value c.rank_at.ensures.within;
    }

pub returns-clause-ranks : goal.returns-clause-ranks
returns-clause-ranks c =
    let f = c.args.self.now in
    let count : c.all_ports.result * f.vcs ≡ rank_count f.shape.now f.vcs = ap (λ n. n * f.vcs) c.all_ports.ensures.value in
    let last : c.loop-index.index ≡ rank_count f.shape.now f.vcs = omega (arith, count, c.loop-index.auto.index-end, c.loop-index-test.false) in
    subst (λ n. AreByFormula f n c.loop-index.ranks.items) last c.loop-index.invariant.made
