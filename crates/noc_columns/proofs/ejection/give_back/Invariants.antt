use Rattle.std.proofs.Common.{◌≡◌, ℕ, ◌+◌, ◌*◌, ◌<◌, true, slice_index}
use Rattle.noc_packet.specs.Set.{has_bit}
use Rattle.noc_sets.specs.Unions.{union_from}
use Rattle.noc_columns.specs.Marks.{ChangesIdle}
use Rattle.noc_columns.specs.Picks.{channels_of}
use Rattle.noc_columns.proofs.ByRouterLemmas.{back_of}
use Rattle.noc_columns.proofs.UsedLemmas.{sum_of, walked}
use Rattle.noc_columns.proofs.ejection.give_back.Given as goal

abbrev pub invariant-loop-rest : goal.invariant-loop-rest
invariant-loop-rest l = record {
  few : (i : ℕ) → has_bit l.rest i ≡ true → i < (l.ports.links.width + 1) * l.ports.links.vcs;
  idle : (r : ℕ) → r < 64
      → slice_index l.marks.idle r
      ≡ union_from (slice_index l.fn.marks.idle r) ((l.ports.links.width + 1) * l.ports.links.vcs) (sum_of (walked (channels_of l.ports) r l.arrived l.rest) (back_of l.ports l.vc r));
  kept : ChangesIdle l.fn.marks l.marks;
}

abbrev pub decreases-loop-rest : goal.decreases-loop-rest
decreases-loop-rest l = l.rest
