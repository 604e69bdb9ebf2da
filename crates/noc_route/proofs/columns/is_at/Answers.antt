use Rattle.std.proofs.Common.{◌≡◌, ◌<◌, ◌+◌, ◌∙◌, get_or, length, arith}
use Rattle.std.proofs.lemmas.Bool.Decides.{nat_tests}
use Rattle.std.proofs.lemmas.List.{get_or_default}
use Rattle.noc_route.proofs.ColumnLemmas.{stands-more}
use Rattle.noc_route.proofs.columns.is_at.Goals as goal

pub loop-dst-preserved : goal.loop-dst-preserved
loop-dst-preserved c =
    let n = c.loop-dst.dst in
    let there : c.args.start + n < length c.args.kept.now = omega (arith, c.requires, c.loop-dst-test.true) in
    let same : c.index-kept-start.result ≡ c.index-column-dst.result = grind (arith, nat_tests, c.if-ne.false, c.ne.ensures) in
    stands-more (λ t. get_or c.args.column.now t 0) c.args.kept.now c.args.start n c.index-kept-start.result there c.index-kept-start.is
    (same ∙ c.index-column-dst.is ∙ get_or_default c.args.column.now n c.index-column-dst.result 0 c.loop-dst-test.true) c.loop-dst.invariant
