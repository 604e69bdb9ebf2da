use Rattle.std.proofs.Common.{◌≡◌, ℕ, ◌*◌, ◌^◌, ◌<◌, slice_index}
use Rattle.std.specs.Prelude.{sum}
use Rattle.noc_sets.specs.Unions.{union_from}
use Rattle.noc_columns.specs.Marks.{ChangesIdle}
use Rattle.noc_columns.specs.Picks.{links_of}
use Rattle.noc_columns.proofs.ComeLemmas.{AreLeft, come}
use Rattle.noc_columns.proofs.UsedLemmas.{sum_of}
use Rattle.noc_columns.proofs.by_router.add_links.Given as goal

abbrev pub invariant-loop-rest : goal.invariant-loop-rest
invariant-loop-rest l = record {
  left : AreLeft (l.table.ports.links.width * l.table.ports.links.vcs) l.fn.words l.words l.rest;
  idle : (r : ℕ) → r < 64
      → slice_index l.marks.idle r
      ≡ union_from (slice_index l.fn.marks.idle r) (l.table.ports.links.width * l.table.ports.links.vcs) (sum_of (come (links_of l.table.ports.links) r l.fn.words l.words) (λ k. 2 ^ k));
  kept : ChangesIdle l.fn.marks l.marks;
}

abbrev pub decreases-loop-rest : goal.decreases-loop-rest
decreases-loop-rest l = sum l.words
