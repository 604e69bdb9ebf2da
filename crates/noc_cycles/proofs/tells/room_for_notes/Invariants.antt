use Rattle.noc_cycles.specs.Told.{HaveRoom}
use Rattle.noc_cycles.proofs.tells.room_for_notes.Given as goal

abbrev pub invariant-loop : goal.invariant-loop
invariant-loop l = HaveRoom l.counter l.told.items
