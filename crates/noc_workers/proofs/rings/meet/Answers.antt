use Rattle.std.proofs.Common.{◌∙◌, refl, sym}
use Rattle.noc_workers.specs.Rounds.{start_by}
use Rattle.noc_workers.proofs.PostLemmas.{post-met}
use Rattle.noc_workers.proofs.rings.meet.Goals as goal

pub returns-clause-one : goal.returns-clause-one
returns-clause-one c = λ own ours.
    let here = c.in_ok-new.ensures in
    let there = c.in_ok-new-2.ensures in
    post-met (start_by c.args.run.now) own c.args.back.items c.in_ok-new.field-0 c.in_ok-new-2.field-0 c.in_ok-answers.answer _ c.requires.as_many (here.blocks ∙ c.as_slice.ensures.value) here.start (there.blocks ∙ c.as_slice-2.ensures.value) there.start refl c.in_ok-answers.ensures.mail c.in_ok-out.ensures.ends.0
    c.in_ok-answers.ensures.ends.1 ours

pub returns-clause-other : goal.returns-clause-other
returns-clause-other c = λ own ours.
    let here = c.in_ok-new-2.ensures in
    let there = c.in_ok-new.ensures in
    post-met (start_by c.args.run.now) own c.args.from.items c.in_ok-new-2.field-0 c.in_ok-new.field-0 c.in_ok-out.mail _ (sym c.requires.as_many) (here.blocks ∙ c.as_slice-2.ensures.value) here.start (there.blocks ∙ c.as_slice.ensures.value) there.start refl c.in_ok-out.ensures.mail c.in_ok-answers.ensures.ends.0
    c.in_ok-out.ensures.ends.1 ours
