use Rattle.std.proofs.Common.{◌+◌, refl}
use Rattle.std.proofs.lemmas.Bool.{false≢true}
use Rattle.noc_workers.specs.Rounds.{start_by}
use Rattle.noc_workers.proofs.MailLemmas.{same-after}
use Rattle.noc_workers.proofs.WorkerLemmas.{may-cycle, none-run, one-more, whole-worker}
use Rattle.noc_workers.proofs.worker.run_worker.Goals as goal

pub loop-init : goal.loop-init
loop-init g c = record { blocks = record { first_is = refl; blocks_are = refl }; at = λ done run. none-run (start_by c.args.run.now) c.args.cycles done c.args.worker run }

pub cycle-requires : goal.cycle-requires
cycle-requires g c =
    let r = c.requires in
    (r.0 + c.loop.counter, may-cycle (start_by c.args.run.now) c.args.cycles c.loop.counter r.0 c.args.worker c.loop.worker r.1 c.loop-test.true (c.loop.invariant.at r.0 r.1))

pub loop-preserved : goal.loop-preserved
loop-preserved g c = record {
  blocks = same-after c.args.worker.tile c.loop.worker.tile c.cycle.new.self.tile c.loop.invariant.blocks c.cycle.ensures.blocks;
  at = λ done run.
      one-more (start_by c.args.run.now) done c.loop.counter _
      (c.if-not-cycle.ensures.ran refl (done + c.loop.counter)
      (may-cycle (start_by c.args.run.now) c.args.cycles c.loop.counter done c.args.worker c.loop.worker run c.loop-test.true (c.loop.invariant.at done run)));
}

pub returns-then-not-cycle : goal.returns-then-not-cycle
returns-then-not-cycle g c = record { blocks = same-after c.args.worker.tile c.loop.worker.tile c.cycle.new.self.tile c.loop.invariant.blocks c.cycle.ensures.blocks; whole = λ whole. absurd (false≢true whole) }

pub returns : goal.returns
returns g c = record {
  blocks = c.loop.invariant.blocks;
  whole = λ whole done run. whole-worker (start_by c.args.run.now) done c.loop.counter c.args.cycles c.loop.worker _ c.loop.auto.counter-end c.loop-test.false (c.loop.invariant.at done run);
}
