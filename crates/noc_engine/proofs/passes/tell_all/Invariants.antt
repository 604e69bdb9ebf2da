use Rattle.std.proofs.Common.{◌+◌, ◌<◌, ℕ, length}
use Rattle.std.specs.Prelude.{Option}
use Rattle.noc_theory.specs.Good.{IsGoodSetup}
use Rattle.noc_theory.specs.Network.{Setup}
use Rattle.noc_cycles.specs.Told.{HaveRoom, notes_by}
use Rattle.noc_engine.specs.Passes.{TellAll}
use Rattle.noc_engine.specs.Shows.{IsPlanOf}
use Rattle.noc_engine.specs.Tiles.{AreNotesBy}
use Rattle.noc_engine.proofs.passes.tell_all.Given as goal

abbrev pub invariant-loop-number : goal.invariant-loop-number
invariant-loop-number l = record {
  noted : (net : Setup) (tells : ℕ → ℕ → Option ℕ) → IsGoodSetup net → IsPlanOf net l.plan → TellAll net l.plan.pattern.table.ports l.first l.blocks tells
      → (b : ℕ) → b < l.number → AreNotesBy net tells (l.first + b) (notes_by l.notes b);
  room : HaveRoom (length l.blocks) l.notes;
}
