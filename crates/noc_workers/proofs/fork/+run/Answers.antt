use Rattle.std.proofs.Common.{refl, rules, arith, ◌+◌, ◌<◌, ◌/◌, length, vec_len, subst, sym, IfOk}
use denote.Param.Send.{sendable}
use Rattle.std.proofs.Crossing.{crosses}
use Rattle.noc_engine.proofs.plan.Plan.TheSendSync as plan_sends
use Rattle.noc_route.proofs.relation.Relation.TheSendSync as relation_sends
use Rattle.noc_workers.specs.Cuts.{AllHaveRun, AreHalves, HaveRunStretch, MayRunStretch}
use Rattle.noc_workers.specs.Rounds.{Start, start_by}
use Rattle.noc_workers.specs.declared.fork.RunsOf.{RunsOf}
use Rattle.noc_workers.proofs.SendLemmas.{worker-send}
use Rattle.noc_workers.proofs.ThreadLemmas.{both-run, first-may, first-some, second-may, second-some}
use Rattle.noc_workers.proofs.fork.+run.Goals as goal

pub run_both-scope-spawn_with-child-requires-send-F : goal.run_both-scope-spawn_with-child-requires-send-F
run_both-scope-spawn_with-child-requires-send-F g t c κs within =
    let worker = worker-send in
    let sync = c.requires.0 in
    search (sendable, crosses, plan_sends.the_sync, relation_sends.the_sync) depth 20

pub run_both-scope-spawn_with-child-requires-send-T : goal.run_both-scope-spawn_with-child-requires-send-T
run_both-scope-spawn_with-child-requires-send-T g t c κs within =
    let worker = worker-send in
    search (sendable, crosses) depth 20

pub run_both-scope-spawn_with-run_all-requires : goal.run_both-scope-spawn_with-run_all-requires
run_both-scope-spawn_with-run_all-requires g t c =
    let may : MayRunStretch (start_by c.of-run.result) c.captures.there c.captures.second.items = subst (λ (start : Start). MayRunStretch start c.captures.there c.captures.second.items) (sym c.of-run.ensures) c.requires.1 in
    search rules

pub run_both-scope-spawn_with-returns : goal.run_both-scope-spawn_with-returns
run_both-scope-spawn_with-returns g t c = subst (λ (start : Start). IfOk c.run_all.result (λ v. HaveRunStretch start c.captures.there v.items)) c.of-run.ensures c.run_all.ensures

pub run_both-scope-run_all-first-requires : goal.run_both-scope-run_all-first-requires
run_both-scope-run_all-first-requires g t c =
    let may : MayRunStretch (start_by c.of-run.result) c.captures.here c.captures.first.items = subst (λ (start : Start). MayRunStretch start c.captures.here c.captures.first.items) (sym c.of-run.ensures) c.requires.4 in
    search rules

pub run_both-scope-returns : goal.run_both-scope-returns
run_both-scope-returns g t c =
    let s = c.captures in
    let run = c.of-run.result in
    let there = subst (λ (p : RunsOf). IfOk c.join-second.result (λ v. HaveRunStretch (start_by p.0) p.1 v.items)) c.in-Ok.ensures.ok c.join-second.ensures in
    subst (λ (start : Start). IfOk c.joined.result (λ v. AllHaveRun start (s.here.done + s.here.more) s.here.from s.there.to v.items)) c.of-run.ensures
    (both-run (start_by run) s.here s.there c.run_all-first.result c.join-second.result c.joined.result c.requires.3 c.run_all-first.ensures there c.joined.ensures.both)

pub run_all-run_both-requires : goal.run_all-run_both-requires
run_all-run_both-requires g t c =
    let start = start_by c.args.run.now in
    let first = c.split_off.new.self in
    let second = c.in-Ok.second in
    let half = c.len-count.result / 2 in
    let one = c.index.result.now in
    let l : 0 < vec_len first = first-some c.len-count.result _ c.if-count-le1.false c.in-Ok.ensures.len in
    let m : 0 < vec_len second = second-some c.len-count.result _ _ c.if-count-le1.false c.len-count.ensures c.in-Ok.ensures.tail_len in
    let some : 0 < length second.items = omega (arith, m, second.ok.0) in
    let halves : AreHalves (record c.args.stretch { to = one.tile.first }) (record c.args.stretch { from = one.tile.first }) = record { meet = refl; done_alike = refl; more_alike = refl } in
    let a : MayRunStretch start (record c.args.stretch { to = one.tile.first }) first.items = first-may start c.args.stretch half c.args.workers.items first.items second.items one c.in-Ok.ensures.items c.in-Ok.ensures.tail some c.index.ensures c.requires in
    let b : MayRunStretch start (record c.args.stretch { from = one.tile.first }) second.items = second-may start c.args.stretch half c.args.workers.items first.items second.items one c.in-Ok.ensures.items c.in-Ok.ensures.tail some c.index.ensures c.requires in
    search rules
