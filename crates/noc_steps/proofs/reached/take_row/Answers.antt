use Rattle.std.proofs.Common.{◌≡◌, ℕ, ◌+◌, ◌<◌, ◌∙◌, get_or, length, ap, arith}
use Rattle.std.specs.Prelude.{if◌then◌else◌}
use Rattle.std.proofs.lemmas.List.{get_or_default}
use Rattle.noc_packet.specs.Set.{has_bit}
use Rattle.noc_steps.proofs.WrittenLemmas.{written-more, others-more}
use Rattle.noc_steps.proofs.reached.take_row.Goals as goal

pub loop-dst-preserved : goal.loop-dst-preserved
loop-dst-preserved c =
    let sets = c.args.sets.now in
    let coming = c.args.coming.now in
    let input = c.args.input in
    let dst = c.loop-dst.dst in
    let want = λ (t : ℕ). if has_bit (get_or coming t 0) input then get_or sets (c.args.first + t) 0 else 0 in
    let there : c.args.from + dst < length c.loop-dst.block = omega (arith, c.requires.block, c.loop-dst.auto.block, c.loop-dst-test.true) in
    let set : c.index-sets-first.result ≡ get_or sets (c.args.first + dst) 0
    = c.index-sets-first.is ∙ get_or_default sets (c.args.first + dst) c.index-sets-first.result 0 (omega (arith, c.requires.sets, c.loop-dst-test.true)) in
    let come : c.contains-is_reached.result ≡ has_bit (get_or coming dst 0) input
    = c.contains-is_reached.ensures ∙ ap (λ s. has_bit s input) (c.index-coming-dst.is ∙ get_or_default coming dst c.index-coming-dst.result 0 c.loop-dst-test.true) in
    let is : c.only_if.result ≡ want dst
    = c.only_if.ensures ∙ ap (λ b. if b then c.index-sets-first.result else 0) come ∙ ap (λ s. if has_bit (get_or coming dst 0) input then s else 0) set in
    record {
      column = written-more want c.loop-dst.block c.args.from dst c.only_if.result there is c.loop-dst.invariant.column;
      others = others-more c.args.block.now c.loop-dst.block c.args.from dst c.only_if.result c.loop-dst.invariant.others;
    }
