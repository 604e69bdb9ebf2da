use Rattle.std.proofs.Common.{◌≤◌, vec_capacity}
use Rattle.noc_cycles.specs.Opened.{AreOpened}
use Rattle.noc_cycles.proofs.opening.open_blocks.Given as goal

abbrev pub invariant-loop-number : goal.invariant-loop-number
invariant-loop-number l = record { room : l.count ≤ vec_capacity l.blocks; are : AreOpened l.pattern l.firsts l.number l.blocks.items }
