use Rattle.std.proofs.Common.{◌≤◌, arith, length}
use Rattle.noc_workers.specs.Rounds.{start_by}
use Rattle.noc_workers.proofs.ThreadLemmas.{last-may, last-run, room-left, run-none}
use Rattle.noc_workers.proofs.fork.run_last.Goals as goal

pub run_worker-ended-requires : goal.run_worker-ended-requires
run_worker-ended-requires g c =
    let s = c.args.stretch in
    let workers = c.args.workers in
    let few : length workers.items ≤ 1 = omega (arith, c.requires.one, workers.ok.0) in
    (s.done, last-may (start_by c.args.run.now) s.done s.more s.from s.to workers.items c.pop.new.self.items c.in-Some.worker c.in-Some.ensures.items few c.requires.may)

pub push_reserved-requires : goal.push_reserved-requires
push_reserved-requires g c = room-left _ _ _ _ c.in-Some.ensures.cases c.pop.ensures.capacity c.args.workers.ok.1

pub returns-in_default : goal.returns-in_default
returns-in_default g c =
    let s = c.args.stretch in
    let none = c.in_default.ensures.cases in
    run-none (start_by c.args.run.now) s.done s.more s.from s.to c.args.workers.items c.pop.new.self.items _ _ c.args.workers.ok.0 none.0 c.pop.new.self.ok.0 none.1 c.requires.may

pub returns : goal.returns
returns g c =
    let s = c.args.stretch in
    let workers = c.args.workers in
    let few : length workers.items ≤ 1 = omega (arith, c.requires.one, workers.ok.0) in
    last-run (start_by c.args.run.now) s.done s.more s.from s.to workers.items c.pop.new.self.items c.push_reserved.new.self.items c.in-Some.worker c.run_worker-ended.result c.in-Some.ensures.items few c.push_reserved.ensures.items
    c.run_worker-ended.ensures c.requires.may
