use Rattle.std.proofs.Common.{append_assoc}
use Rattle.std.proofs.lemmas.List.{take_all}
use Rattle.noc_faults.specs.Line.{text_with}
use Rattle.noc_faults.proofs.line.text_with.Goals as goal

pub returns-clause-text : goal.returns-clause-text
unfolding text_with
returns-clause-text c =
    let all = take_all c.loop-detail.detail-index c.args.details.now c.loop-detail-test.false in
    rw (
      c.loop-detail.invariant.text,
      all,
      c.push_str-4.ensures.bytes,
      c.push_str-3.ensures.bytes,
      c.push_str-2.ensures.bytes,
      c.push_str.ensures.bytes,
      c.new-text.ensures,
    )
    (simp append_assoc)
