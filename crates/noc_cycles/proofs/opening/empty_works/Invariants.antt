use Rattle.std.proofs.Common.{◌≤◌, vec_capacity}
use Rattle.noc_cycles.specs.Opened.{AreEmptyWorks}
use Rattle.noc_cycles.proofs.opening.empty_works.Given as goal

abbrev pub invariant-loop : goal.invariant-loop
invariant-loop l = record { room : l.count ≤ vec_capacity l.works; are : AreEmptyWorks l.counter l.works.items }
