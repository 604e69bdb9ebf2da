use Rattle.std.proofs.Common.{◌≡◌, ◌+◌, ◌<◌, ◌≤◌, ◌∙◌, ◌++◌, ◌∷◌, [], ℕ, Global, Vec, ap, arith, length, subst, sym, true}
use Rattle.std.specs.Prelude.{All}
use Rattle.std.proofs.lemmas.Bool.{true≢false}
use Rattle.std.proofs.lemmas.List.Elements.{All-push}
use Rattle.noc_engine.specs.Shows.{has_block}
use Rattle.noc_engine.proofs.ListLemmas.{read}
use Rattle.noc_workers.proofs.NearLemmas.{HasAllBelow, below-more, below-same, near-done, own-block}
use Rattle.noc_workers.proofs.borders.near_blocks.Goals as goal
use Rattle.noc_workers.proofs.borders.near_blocks.Goals.{then-leads+in_ok-push, else-leads}

pub loop-block-preserved : goal.loop-block-preserved
loop-block-preserved c =
    let plan = c.args.plan.now in
    let here = c.args.here.now in
    let there = c.args.there.now in
    let block = c.loop-block.block in
    let near = c.loop-block.near.items in
    let is = c.loop-block.invariant in
    let low : here.first ≤ c.loop-block.block = is.low in
    let high : c.loop-block.block < here.first + length here.blocks.items = omega (arith, c.loop-block-test.true, c.len.ensures, here.blocks.ok.0) in
    let at = read plan.around.items block c.index.result.now (omega (arith, high, c.requires)) c.index.ensures in
    elim c.if-leads.branch [
      | then-leads+in_ok-push w ↦
          let more : c.if-leads.near.items ≡ c.loop-block.near.items ++ c.loop-block.block ∷ [] = ap (λ (v : Vec ℕ Global). v.items) w.near-is ∙ w.in_ok-push.ensures.items in
          record {
            low = omega (arith, low);
            own = subst (All (λ b. has_block c.args.here.now b ≡ true)) (sym more) (All-push (λ b. has_block c.args.here.now b ≡ true) near block is.own (own-block here block low high));
            all = subst (λ bs. HasAllBelow c.args.plan.now c.args.there.now c.args.here.now.first (c.loop-block.block + 1) bs) (sym more) (below-more plan there here.first block near is.all);
          }
      | else-leads w ↦
          let same : c.if-leads.near.items ≡ c.loop-block.near.items = ap (λ (v : Vec ℕ Global). v.items) w.near-is in
          record {
            low = omega (arith, low);
            own = subst (All (λ b. has_block c.args.here.now b ≡ true)) (sym same) is.own;
            all = subst (λ bs. HasAllBelow c.args.plan.now c.args.there.now c.args.here.now.first (c.loop-block.block + 1) bs) (sym same)
                (below-same plan there here.first block near is.all c.index.result.now at (λ r p few port has. true≢false (sym (c.leads.ensures r p few port has) ∙ w.if-leads.false)));
          }
    ]

pub returns-clause-all : goal.returns-clause-all
returns-clause-all c =
    let here = c.args.here.now in
    let end = c.loop-block.auto.block-end in
    let low = c.loop-block.invariant.low in
    near-done c.args.plan.now here c.args.there.now c.loop-block.near.items
    (subst (λ to. HasAllBelow c.args.plan.now c.args.there.now here.first to c.loop-block.near.items) (omega (arith, c.loop-block-test.false, c.len.ensures, here.blocks.ok.0, end)) c.loop-block.invariant.all)
