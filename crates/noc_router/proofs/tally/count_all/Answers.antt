use Rattle.std.proofs.Common.{◌≡◌, ◌<◌, ◌∙◌, [], get_or, length, refl, ap, arith, subst, sum}
use Rattle.std.proofs.lemmas.List.{get_or-set_other}
use Rattle.noc_view.specs.View.{counts_after}
use Rattle.noc_router.proofs.TallyLemmas.{AreCountedTo, counted-all, counted-more}
use Rattle.noc_router.proofs.tally.count_all.Goals as goal

pub loop-index-init : goal.loop-index-init
loop-index-init c = (λ k u. refl, λ verdict are. record { done = λ k u. absurd (omega (arith, u)); behind = λ k u. refl })

pub raise-requires : goal.raise-requires
raise-requires c =
    let l = c.loop-index in
    let same : get_or l.counts l.index [] ≡ get_or c.args.counts.now l.index [] = l.invariant.0 l.index (omega arith) in
    let room = c.requires.room l.index [] c.loop-index-test.true in
    omega (arith, ap sum same, room)

pub loop-index-preserved : goal.loop-index-preserved
loop-index-preserved c =
    let l = c.loop-index in
    let new = c.raise.new.counts in
    let same : get_or l.counts l.index [] ≡ get_or c.args.counts.now l.index [] = l.invariant.0 l.index (omega arith) in
    let within : l.index < length l.counts = omega (arith, c.loop-index-test.true, l.auto.counts) in (
      λ k u. get_or-set_other l.counts l.index k new [] (λ e. absurd (omega (arith, e, u))) ∙ l.invariant.0 k (omega (arith, u)),
      λ verdict are.
          let found : l.index < length c.args.findings.now = omega (arith, c.loop-index-test.true, c.requires.findings) in
          counted-more verdict c.args.counts.now l.counts l.index new within (l.invariant.1 verdict are)
          (c.raise.ensures ∙ ap (λ v. counts_after v (get_or l.counts l.index [])) (are l.index found) ∙ ap (counts_after (verdict l.index)) same),
    )

pub returns : goal.returns
returns c = λ verdict are.
    let l = c.loop-index in
    let end : l.index ≡ length c.args.counts.now = omega (arith, l.auto.index-end, c.loop-index-test.false) in
    counted-all verdict c.args.counts.now l.counts l.auto.counts (subst (AreCountedTo verdict c.args.counts.now l.counts) end (l.invariant.1 verdict are))
