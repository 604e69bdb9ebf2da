use Rattle.std.proofs.Common.{◌≡◌, ℕ, ◌+◌, ◌*◌, ◌<◌, slice_index}
use Rattle.std.specs.Prelude.{sum}
use Rattle.noc_columns.specs.Heads.{heading_at, packet_in}
use Rattle.noc_columns.specs.Picks.{channels_of}
use Rattle.noc_columns.specs.Routing.{sets_by}
use Rattle.noc_columns.proofs.ComeLemmas.{AreLeft, come}
use Rattle.noc_columns.proofs.HeadLemmas.{IsHeaded}
use Rattle.noc_columns.proofs.routes.route.Given as goal

abbrev pub invariant-loop-rest : goal.invariant-loop-rest
invariant-loop-rest l = record {
  left : AreLeft ((l.guide.table.now.ports.links.width + 1) * l.guide.table.now.ports.links.vcs) l.heads l.left l.rest;
  are : (r : ℕ) → r < 64
      → IsHeaded (come (channels_of l.guide.table.now.ports) r l.heads l.left)
      (λ k. sets_by l.guide.relation.now l.guide.headers.now (l.guide.first + r) k (packet_in l.packets r k)) (heading_at l.fn.marks r) (heading_at l.marks r);
  idle : (r : ℕ) → slice_index l.marks.idle r ≡ slice_index l.fn.marks.idle r;
  turns : l.marks.turns ≡ l.fn.marks.turns;
}

abbrev pub decreases-loop-rest : goal.decreases-loop-rest
decreases-loop-rest l = sum l.left
