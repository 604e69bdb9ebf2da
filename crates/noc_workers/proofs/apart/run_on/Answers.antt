use Rattle.std.proofs.Common.{◌≡◌, ◌+◌, ◌-◌, ◌∙◌, ap, arith, length, refl, subst}
use Rattle.std.specs.List.{slice_get}
use Rattle.noc_workers.specs.Cuts.{AllHaveRun, AllMayRun}
use Rattle.noc_workers.specs.Rounds.{start_by}
use Rattle.noc_workers.specs.declared.worker.Worker.{Worker}
use Rattle.std.proofs.Common.{List}
use Rattle.noc_workers.proofs.ApartLemmas.{may-part, may-show, whole-may}
use Rattle.noc_workers.proofs.apart.run_on.Goals as goal
use Rattle.noc_workers.proofs.apart.run_on.Goals.{then-not-pays-via-then-not-pays, then-not-pays-via-else-not-pays+then-not-are_busy}

pub loop-cycles-init : goal.loop-cycles-init
loop-cycles-init g c = record {
  within = omega arith;
  may = may-part (start_by c.args.run.now) 0 (length c.args.run.now.plan.now.around.items) 0 c.args.most c.args.workers.items (c.args.most - 0) (omega arith) c.requires.may;
  pace = refl;
}

pub run_all-requires-after_bounds : goal.run_all-requires-after_bounds
run_all-requires-after_bounds g c κs within =
    let cycles = c.loop-cycles.cycles in
    let around = c.args.run.now.plan.now.around in
    let all : length c.args.run.now.plan.now.around.items ≡ c.len-in-loop-cycles.result = omega (arith, c.len-in-loop-cycles.ensures, around.ok.0) in
    subst (λ to. AllMayRun (start_by c.args.run.now) c.loop-cycles.cycles c.cycles-more.result 0 to c.loop-cycles.workers.items) all
    (may-part (start_by c.args.run.now) 0 (length around.items) cycles (c.args.most - cycles) c.loop-cycles.workers.items c.cycles-more.result c.cycles-more.ensures.within c.loop-cycles.invariant.may)

pub loop-cycles-preserved : goal.loop-cycles-preserved
loop-cycles-preserved g c =
    let start = start_by c.args.run.now in
    let cycles = c.loop-cycles.cycles in
    let more = c.cycles-more.result in
    let workers = c.in_ok-workers.workers.items in
    let around = c.args.run.now.plan.now.around in
    let few = c.loop-cycles.invariant.within in
    let all : c.len-in-loop-cycles.result ≡ length c.args.run.now.plan.now.around.items = omega (arith, c.len-in-loop-cycles.ensures, around.ok.0) in
    record {
      within = omega (arith, few, c.cycles-more.ensures.within);
      may = whole-may start 0 (length around.items) (cycles + more) (c.args.most - (cycles + more)) workers c.requires.good (omega (arith, c.requires.few, few, c.cycles-more.ensures.within))
          (λ i one e. c.if-not-are_whole.ensures refl i one (ap (λ (ws : List Worker). slice_get ws i) c.deref.ensures.value ∙ e))
          (subst (λ to. AllHaveRun start (cycles + more) 0 to workers) all c.in_ok-workers.ensures);
      pace = c.heed-pays.ensures ∙ c.loop-cycles.invariant.pace;
    }

pub returns-clause-show : goal.returns-clause-show
returns-clause-show g c =
    may-show (start_by c.args.run.now) 0 (length c.args.run.now.plan.now.around.items) c.loop-cycles.cycles (c.args.most - c.loop-cycles.cycles) c.loop-cycles.workers.items c.loop-cycles.invariant.may

pub returns-then-not-pays-clause-show : goal.returns-then-not-pays-clause-show
returns-then-not-pays-clause-show g c =
    let start = start_by c.args.run.now in
    let cycles = c.loop-cycles.cycles in
    let more = c.cycles-more.result in
    let workers = c.in_ok-workers.workers.items in
    let around = c.args.run.now.plan.now.around in
    let few = c.loop-cycles.invariant.within in
    let all : c.len-in-loop-cycles.result ≡ length c.args.run.now.plan.now.around.items = omega (arith, c.len-in-loop-cycles.ensures, around.ok.0) in
    may-show start 0 (length around.items) (cycles + more) (c.args.most - (cycles + more)) workers
    (whole-may start 0 (length around.items) (cycles + more) (c.args.most - (cycles + more)) workers c.requires.good (omega (arith, c.requires.few, few, c.cycles-more.ensures.within))
    (λ i one e. c.if-not-are_whole.ensures refl i one (ap (λ (ws : List Worker). slice_get ws i) c.deref.ensures.value ∙ e))
    (subst (λ to. AllHaveRun start (cycles + more) 0 to workers) all c.in_ok-workers.ensures))
