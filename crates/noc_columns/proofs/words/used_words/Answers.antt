use Rattle.std.proofs.Common.{◌-◌, ◌∙◌, ap, arith, bit_and}
use Rattle.std.specs.Prelude.{nat_eq, not}
use Rattle.noc_packet.specs.Set.{has_bit}
use Rattle.noc_columns.specs.Words.{word}
use Rattle.noc_columns.proofs.PlaceLemmas.{one-router}
use Rattle.noc_columns.proofs.UsedLemmas.{used-all}
use Rattle.noc_columns.proofs.words.used_words.Goals as goal
use Rattle.noc_columns.proofs.words.used_words.Goals.{then-count-le-FEW, else-count-le-FEW+then-count-le-MORE, else-count-le-FEW+else-count-le-MORE}

pub returns : goal.returns
returns c = λ i.
    let used = c.if-count-le-FEW.used in
    let count = c.args.count in
    let some = not (nat_eq (word i c.args.words.now) 0) in
    ap (λ m. has_bit (bit_and used (m - 1)) i) (one-router count c.requires)
    ∙ (elim c.if-count-le-FEW.branch [
      | then-count-le-FEW w ↦ used-all used count 20 i some w.if-count-le-FEW.true (ap (λ u. has_bit u i) w.used-is ∙ w.used_of-used.ensures i)
      | else-count-le-FEW+then-count-le-MORE w ↦ used-all used count 40 i some w.if-count-le-MORE.true (ap (λ u. has_bit u i) w.used-is ∙ w.used_of.ensures i)
      | else-count-le-FEW+else-count-le-MORE w ↦ used-all used count 64 i some (omega (arith, c.requires)) (ap (λ u. has_bit u i) w.used-is ∙ w.used_of-else-count-le-MORE.ensures i)
    ])
