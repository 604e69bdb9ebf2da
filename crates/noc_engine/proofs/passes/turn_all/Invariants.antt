use Rattle.std.proofs.Common.{ℕ}
use Rattle.noc_sets.specs.Cycle.{Router, Turn}
use Rattle.noc_theory.specs.Network.{Setup}
use Rattle.noc_engine.specs.Passes.{MayTurnAll}
use Rattle.noc_engine.proofs.ListLemmas.{IsLeftFrom}
use Rattle.noc_engine.proofs.TurnedLemmas.{HaveTurnedBelow}
use Rattle.noc_engine.proofs.passes.turn_all.Given as goal

abbrev pub invariant-loop-number : goal.invariant-loop-number
invariant-loop-number l = record {
  blocks : IsLeftFrom l.fn.blocks l.blocks l.number;
  works : IsLeftFrom l.fn.works l.works l.number;
  turned : (net : Setup) (words : ℕ → Router) → MayTurnAll net l.cycle.relation.now l.cycle.plan.now l.cycle.number l.first words l.fn.blocks l.fn.works
      → (turns : ℕ → Turn) × HaveTurnedBelow net l.cycle.plan.now l.cycle.number l.first l.number words turns l.blocks l.works l.left l.happened;
}
