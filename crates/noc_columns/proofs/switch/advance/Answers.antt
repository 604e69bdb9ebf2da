use Rattle.std.proofs.Common.{◌≡◌, ◌≢◌, ap₂, ◌∙◌, arith, bit_and, bit_or, slice_index}
use Rattle.noc_sets.specs.Sets.{less}
use Rattle.noc_columns.proofs.PortLemmas.{written-next}
use Rattle.noc_columns.proofs.switch.advance.Invariants.{next_at}
use Rattle.noc_columns.proofs.switch.advance.Goals as goal

pub loop-p-preserved : goal.loop-p-preserved
loop-p-preserved c =
    let outputs = c.args.outputs.now in
    let any = c.args.any.now in
    let p = c.loop-p.p in
    let inv = c.loop-p.invariant in
    record {
      done = written-next outputs c.loop-p.ahead c.put.new.words c.advanced-next.result (λ q k w. w ≡ next_at outputs any c.args.past.now c.args.ahead.now q k) p (omega arith) inv.done c.put.ensures.here c.put.ensures.others
          (λ q l. c.advanced-next.ensures q l ∙ ap₂ (λ x y. bit_or (bit_and x (slice_index any q)) (less y (slice_index any q))) (c.at-behind.ensures q l) (c.at-was.ensures q l ∙ inv.left q p l (omega arith) (omega arith)));
      left = λ q k l m few. let other : k ≢ p = omega (arith, m) in c.put.ensures.others q k l few other ∙ inv.left q k l (omega (arith, m)) few;
    }

pub returns : goal.returns
returns c = λ q p l m. c.loop-p.invariant.done q p l (omega arith)
