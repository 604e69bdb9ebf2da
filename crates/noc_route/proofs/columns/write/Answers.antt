use Rattle.std.proofs.Common.{◌<◌, ◌+◌, ◌∙◌, get_or, length, arith}
use Rattle.std.proofs.lemmas.List.{get_or_default}
use Rattle.noc_steps.proofs.WrittenLemmas.{written-more, others-more}
use Rattle.noc_route.proofs.columns.write.Goals as goal

pub loop-dst-preserved : goal.loop-dst-preserved
loop-dst-preserved c =
    let n = c.loop-dst.dst in
    let there : c.args.start + n < length c.loop-dst.sets = omega (arith, c.loop-dst.auto.sets, c.requires, c.loop-dst-test.true) in
    record {
      written = written-more (λ t. get_or c.args.column.now t 0) c.loop-dst.sets c.args.start n c.index-column-dst.result there
          (c.index-column-dst.is ∙ get_or_default c.args.column.now n c.index-column-dst.result 0 c.loop-dst-test.true) c.loop-dst.invariant.written;
      others = others-more c.args.sets.now c.loop-dst.sets c.args.start n c.index-column-dst.result c.loop-dst.invariant.others;
    }
