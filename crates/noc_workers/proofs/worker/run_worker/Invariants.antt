use Rattle.std.proofs.Common.{ℕ, ◌+◌}
use Rattle.noc_workers.specs.Mails.{HasSameBlocks}
use Rattle.noc_workers.specs.Rounds.{start_by}
use Rattle.noc_workers.specs.Workers.{IsWorkerAt, MayRunFrom}
use Rattle.noc_workers.proofs.worker.run_worker.Given as goal

-- the cycles before this one have run
abbrev pub invariant-loop : goal.invariant-loop
invariant-loop g l = record {
  blocks : HasSameBlocks l.initial.worker.tile l.worker.tile;
  at : (done : ℕ) → MayRunFrom (start_by l.run) done l.cycles l.initial.worker → IsWorkerAt (start_by l.run) (done + l.counter) l.worker;
}
