use Rattle.std.proofs.Common.{◌≡◌, ℕ, ◌+◌, ◌*◌, ◌<◌, ◌≤◌, ◌∙◌, Option, ap, sym, subst, arith, inl, inr}
use Rattle.std.specs.Prelude.{◌⊎◌, is_some}
use Rattle.std.proofs.lemmas.Bool.{cases_lt, false≢true}
use Rattle.noc_rank.specs.NoEscape.{IsRankedIn}
use Rattle.std.proofs.Math.Nat.{mul-le-mul_right}
use Rattle.noc_topo.specs.Shape.{local_port}
use Rattle.noc_rank.proofs.IndexLemmas.{index-known, index-few}
use Rattle.noc_rank.proofs.bare.has_rank.Goals as goal
use Rattle.noc_rank.proofs.bare.has_rank.Goals.{else-contains-via-then-contains+else-is_some, else-contains-via-else-contains}

pub contains-requires : goal.contains-requires
contains-requires c = index-few c.loop-index.index c.link_ports.result c.vcs.result c.link_ports.ensures.few (omega (arith, c.vcs.ensures.value, c.vcs.ensures.built.table.few_vcs)) c.loop-index-test.true

pub output_rank-requires-clause-index : goal.output_rank-requires-clause-index
output_rank-requires-clause-index c =
    index-known c.args.ranked.now.ranks.now c.loop-index.index c.link_ports.result c.vcs.result (c.link_ports.ensures.value ∙ ap local_port (c.shape.ensures.value ∙ c.args.ranked.now.grid)) (c.vcs.ensures.value ∙ c.args.ranked.now.vcs) c.loop-index-test.true

pub returns-clause-no : goal.returns-clause-no
returns-clause-no c = λ no i l.
    let count : c.link_ports.result * c.vcs.result ≡ local_port c.args.ranked.now.ranks.now.grid * c.args.ranked.now.ranks.now.vcs
    = ap (λ x. x * c.vcs.result) (c.link_ports.ensures.value ∙ ap local_port (c.shape.ensures.value ∙ c.args.ranked.now.grid)) ∙ ap (λ x. local_port c.args.ranked.now.ranks.now.grid * x) (c.vcs.ensures.value ∙ c.args.ranked.now.vcs) in
    c.loop-index.invariant i (omega (arith, l, count, c.loop-index-test.false))

pub overflow_mul-index-end : goal.overflow_mul-index-end
overflow_mul-index-end c =
    let few : c.link_ports.result * c.vcs.result ≤ 6 * c.vcs.result = mul-le-mul_right c.vcs.result c.link_ports.ensures.few in
    omega (arith, few, c.vcs.ensures.value, c.vcs.ensures.built.table.few_vcs)

pub returns-then-is_some-clause-no : goal.returns-then-is_some-clause-no
returns-then-is_some-clause-no c = λ e. absurd (false≢true (sym e))

pub returns-then-is_some-clause-yes : goal.returns-then-is_some-clause-yes
returns-then-is_some-clause-yes c =
    λ _. (
      c.loop-index.index,
      index-known c.args.ranked.now.ranks.now c.loop-index.index c.link_ports.result c.vcs.result (c.link_ports.ensures.value ∙ ap local_port (c.shape.ensures.value ∙ c.args.ranked.now.grid)) (c.vcs.ensures.value ∙ c.args.ranked.now.vcs) c.loop-index-test.true,
      record {
        member = sym c.contains.ensures ∙ c.if-contains.true;
        ranked = ap (λ (o : Option ℕ). is_some o) (sym c.output_rank.ensures.value) ∙ sym c.is_some.ensures ∙ c.if-is_some.true;
      },
    )

pub loop-index-preserved : goal.loop-index-preserved
loop-index-preserved c = λ i l ranked. at i l ranked (cases_lt i c.loop-index.index)
  where
    here : IsRankedIn c.args.ranked.now.ranks.now c.args.router c.args.set c.loop-index.index → ⊥
    here r = elim c.else-contains.branch [
      | else-contains-via-then-contains+else-is_some w ↦
          false≢true (sym (ap (λ (o : Option ℕ). is_some o) (sym w.output_rank.ensures.value) ∙ sym w.is_some.ensures ∙ w.if-is_some.false) ∙ r.ranked)
      | else-contains-via-else-contains w ↦ false≢true (sym (sym c.contains.ensures ∙ w.if-contains.false) ∙ r.member)
    ]

    at : (i : ℕ) → i < c.loop-index.index + 1 → IsRankedIn c.args.ranked.now.ranks.now c.args.router c.args.set i → (i < c.loop-index.index) ⊎ (c.loop-index.index ≤ i) → ⊥
    at i l ranked (inl less) = c.loop-index.invariant i less ranked
    at i l ranked (inr more) =
        let same : i ≡ c.loop-index.index = omega (arith, l, more) in
        let P : ℕ → Type 0 = λ j. IsRankedIn c.args.ranked.now.ranks.now c.args.router c.args.set j in
        here (subst P same ranked)

pub returns-clause-yes : goal.returns-clause-yes
returns-clause-yes c = λ e. absurd (false≢true e)

pub loop-index-init : goal.loop-index-init
loop-index-init c = λ i l. absurd (omega arith)
