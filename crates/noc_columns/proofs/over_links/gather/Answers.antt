use Rattle.std.proofs.Common.{Bool, ap, arith}
use Rattle.noc_columns.specs.Near.{comes_near}
use Rattle.noc_columns.specs.declared.channels.Links.{Links}
use Rattle.noc_columns.proofs.NearLemmas.{four-next}
use Rattle.noc_columns.proofs.over_links.gather.Goals as goal

pub loop-g-preserved : goal.loop-g-preserved
loop-g-preserved c =
    let g = c.loop-g.g in
    let inv = c.loop-g.invariant in
    let near = c.args.near.now in
    let left = c.args.left.now in
    let four = c.near_four-four.result in
    let comes = c.near_four-four.ensures in
    record {
      flits = four-next c.loop-g.came.flits c.put_four.new.words four.flits (λ k r. comes_near near left.flits k r) g inv.flits (λ j r l few. ap (λ (b : Links Bool). b.flits) (comes j r l few)) c.put_four.ensures.here c.put_four.ensures.others;
      tails = four-next c.loop-g.came.tails c.put_four-in-loop-g.new.words four.tails (λ k r. comes_near near left.tails k r) g inv.tails (λ j r l few. ap (λ (b : Links Bool). b.tails) (comes j r l few)) c.put_four-in-loop-g.ensures.here c.put_four-in-loop-g.ensures.others;
      credits = four-next c.loop-g.came.credits c.put_four-in-loop-g-2.new.words four.credits (λ k r. comes_near near left.credits k r) g inv.credits (λ j r l few. ap (λ (b : Links Bool). b.credits) (comes j r l few)) c.put_four-in-loop-g-2.ensures.here c.put_four-in-loop-g-2.ensures.others;
    }

pub returns-clause-flits : goal.returns-clause-flits
returns-clause-flits c = λ k r l few. c.loop-g.invariant.flits k r (omega arith) few

pub returns-clause-tails : goal.returns-clause-tails
returns-clause-tails c = λ k r l few. c.loop-g.invariant.tails k r (omega arith) few

pub returns-clause-credits : goal.returns-clause-credits
returns-clause-credits c = λ k r l few. c.loop-g.invariant.credits k r (omega arith) few
