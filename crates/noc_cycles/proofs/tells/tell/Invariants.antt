use Rattle.std.proofs.Common.{◌≤◌, ℕ, Option, vec_len, vec_capacity}
use Rattle.noc_cycles.proofs.Common.{Grid}
use Rattle.noc_cycles.specs.Told.{AreTold, NotesFirst}
use Rattle.noc_cycles.proofs.tells.tell.Given as goal

abbrev pub invariant-loop-number : goal.invariant-loop-number
invariant-loop-number l = record {
  notes : (g : Grid) (tells : ℕ → ℕ → Option ℕ) → AreTold g l.pattern l.around l.block tells → NotesFirst g l.pattern l.around l.block tells l.number l.notes.items;
  most : vec_len l.notes ≤ l.number;
  room : vec_capacity l.fn.notes ≤ vec_capacity l.notes;
}
