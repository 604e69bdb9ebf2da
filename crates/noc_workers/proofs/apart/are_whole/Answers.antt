use Rattle.std.proofs.Common.{◌∙◌, ap, arith, inl, inr}
use Rattle.std.specs.List.{slice_get}
use Rattle.std.proofs.lemmas.Bool.{cases_eq}
use Rattle.std.proofs.lemmas.Option.{slice_get_within}
use Rattle.noc_workers.specs.declared.worker.Worker.{Worker}
use Rattle.noc_engine.proofs.ListLemmas.{read, same-item}
use Rattle.noc_workers.proofs.apart.are_whole.Goals as goal

pub loop-worker-preserved : goal.loop-worker-preserved
loop-worker-preserved c = λ i one l e.
    let here = c.worker-item.result in
    let at = read c.args.workers.now c.loop-worker.worker-index here c.loop-worker-test.true c.worker-item.is in
    elim (cases_eq i c.loop-worker.worker-index) [
      | inl same ↦ ap (λ (x : Worker). x.is_whole) (same-item one here (slice_get c.args.workers.now i) e (ap (slice_get c.args.workers.now) same ∙ at)) ∙ c.if-not-worker.false
      | inr other ↦ c.loop-worker.invariant i one (omega (arith, l, other)) e
    ]

pub returns : goal.returns
returns c = λ whole i one e. c.loop-worker.invariant i one (let l = slice_get_within c.args.workers.now i one e in omega arith) e
