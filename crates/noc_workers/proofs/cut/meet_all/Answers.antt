use Rattle.std.proofs.Common.{◌≡◌, ◌<◌, ◌∙◌, Some, arith, length, refl}
use Rattle.std.specs.List.{slice_get}
use Rattle.std.proofs.lemmas.List.{length-set}
use Rattle.noc_workers.specs.Rounds.{start_by}
use Rattle.noc_workers.proofs.CutLemmas.{meeting-done, meeting-next, meeting-none, there-new}
use Rattle.noc_engine.proofs.ListLemmas.{read}
use Rattle.noc_workers.proofs.cut.meet_all.Goals as goal

pub loop-number-init : goal.loop-number-init
loop-number-init c = record {
  many = refl;
  meeting = λ from new behind are. meeting-none (start_by c.args.run.now) from c.args.one.now behind c.args.workers.now.items new are;
}

pub meet_one-requires-clause-shows : goal.meet_one-requires-clause-shows
meet_one-requires-clause-shows c =
    let from = c.requires.one.0 in
    let there = c.index_mut.result.now in
    let workers = c.loop-number.workers.items in
    let many = c.loop-number.invariant.many in
    let within : c.loop-number.number < length c.loop-number.workers.items = omega (arith, c.loop-number-test.true, c.len-number-end.ensures, c.args.workers.now.ok.0, many) in
    let here : slice_get c.loop-number.workers.items c.loop-number.number ≡ Some c.index_mut.result.now = read workers c.loop-number.number there within c.index_mut.ensures.value in
    let is = c.loop-number.invariant.meeting from c.requires.one.1 c.requires.one.2 c.requires.one.3 in
    let new = there-new (start_by c.args.run.now) from c.args.one.now c.requires.one.2 c.loop-number.number c.loop-number.one there workers is here in
    (is.new.shows, new.shows)

pub meet_one-requires-clause-some : goal.meet_one-requires-clause-some
meet_one-requires-clause-some c =
    let from = c.requires.one.0 in
    let there = c.index_mut.result.now in
    let workers = c.loop-number.workers.items in
    let many = c.loop-number.invariant.many in
    let within : c.loop-number.number < length c.loop-number.workers.items = omega (arith, c.loop-number-test.true, c.len-number-end.ensures, c.args.workers.now.ok.0, many) in
    let here : slice_get c.loop-number.workers.items c.loop-number.number ≡ Some c.index_mut.result.now = read workers c.loop-number.number there within c.index_mut.ensures.value in
    let is = c.loop-number.invariant.meeting from c.requires.one.1 c.requires.one.2 c.requires.one.3 in
    let new = there-new (start_by c.args.run.now) from c.args.one.now c.requires.one.2 c.loop-number.number c.loop-number.one there workers is here in
    (is.new.some, new.some)

pub loop-number-preserved : goal.loop-number-preserved
loop-number-preserved c =
    let there = c.index_mut.result.now in
    let workers = c.loop-number.workers.items in
    let then = c.meet_one.new.there in
    let many = c.loop-number.invariant.many in
    let within : c.loop-number.number < length c.loop-number.workers.items = omega (arith, c.loop-number-test.true, c.len-number-end.ensures, c.args.workers.now.ok.0, many) in
    let here : slice_get c.loop-number.workers.items c.loop-number.number ≡ Some c.index_mut.result.now = read workers c.loop-number.number there within c.index_mut.ensures.value in
    let met = c.in_ok-meet_one.ensures in
    record {
      many = length-set workers c.loop-number.number then ∙ many;
      meeting = λ from new behind are.
          meeting-next (start_by c.args.run.now) from c.args.one.now behind c.loop-number.number c.loop-number.one there workers (c.loop-number.invariant.meeting from new behind are) here
          c.meet_one.new.here then met.here_stays met.there_stays met.here met.there;
    }

pub returns : goal.returns
returns c = λ from new behind are.
    let many = c.loop-number.invariant.many in
    meeting-done (start_by c.args.run.now) from c.args.one.now behind c.loop-number.number c.loop-number.one c.loop-number.workers.items
    (omega (arith, c.loop-number-test.false, c.len-number-end.ensures, c.args.workers.now.ok.0, many)) (c.loop-number.invariant.meeting from new behind are)
