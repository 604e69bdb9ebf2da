use Rattle.std.proofs.Common.{◌≡◌, ℕ, ◌*◌, ◌≤◌, true}
use Rattle.noc_packet.specs.Set.{has_bit}
use Rattle.noc_columns.specs.Allotted.{Allotment, HasAllotted, allotment_at}
use Rattle.noc_columns.specs.Picks.{channels_of}
use Rattle.noc_columns.proofs.LoopLemmas.{IsEach}
use Rattle.noc_columns.proofs.allocation.allocate.Given as goal

abbrev pub invariant-loop-rest : goal.invariant-loop-rest
invariant-loop-rest l = record {
  low : (r : ℕ) → has_bit l.rest r ≡ true → l.grants.count ≤ 64 * r;
  are : IsEach Allotment (λ r x. HasAllotted l.table.ports.links.vcs (allotment_at (channels_of l.table.ports) l.fn.marks l.fn.grants l.fn.lost r) x)
      (allotment_at (channels_of l.table.ports) l.fn.marks l.fn.grants l.fn.lost) (allotment_at (channels_of l.table.ports) l.marks l.grants l.lost) l.fn.marks.asking l.rest;
}

abbrev pub decreases-loop-rest : goal.decreases-loop-rest
decreases-loop-rest l = l.rest
