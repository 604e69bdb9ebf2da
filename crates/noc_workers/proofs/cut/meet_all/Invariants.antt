use Rattle.std.proofs.Common.{◌≡◌, ◌+◌, ℕ, length}
use Rattle.noc_workers.specs.Cuts.{AreNew, IsNew}
use Rattle.noc_workers.specs.Rounds.{start_by}
use Rattle.noc_workers.proofs.CutLemmas.{IsMeeting}
use Rattle.noc_workers.proofs.cut.meet_all.Given as goal

-- it has met the workers so far
abbrev pub invariant-loop-number : goal.invariant-loop-number
invariant-loop-number l = record {
  many : length l.workers.items ≡ length l.fn.workers.items;
  meeting : (from : ℕ) → IsNew (start_by l.run) from from l.fn.one → from ≡ l.fn.one.tile.first + length l.fn.one.tile.blocks.items → AreNew (start_by l.run) from l.fn.workers.items
      → IsMeeting (start_by l.run) l.fn.one.tile.first from l.fn.one.tile l.number l.one l.workers.items;
}
