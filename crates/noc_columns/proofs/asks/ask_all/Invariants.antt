use Rattle.std.proofs.Common.{slice_index}
use Rattle.noc_columns.proofs.AskLemmas.{AreAsking}
use Rattle.noc_columns.proofs.asks.ask_all.Given as goal

abbrev pub invariant-loop-rest : goal.invariant-loop-rest
invariant-loop-rest l = record {
  asking : AreAsking l.fn.waiting l.idle (λ k. slice_index l.sets k) (λ o. slice_index l.requests o) l.outs l.wanted l.rest;
}

abbrev pub decreases-loop-rest : goal.decreases-loop-rest
decreases-loop-rest l = l.rest
