use Rattle.std.proofs.Common.{◌+◌, ◌-◌, ◌∙◌, ap, arith, refl, subst, sym}
use Rattle.noc_theory.specs.Network.{Run, Setup}
use Rattle.noc_engine.specs.Origins.{setup_by}
use Rattle.noc_engine.specs.Runs.{AreFindings, ShowsRun}
use Rattle.noc_engine.proofs.RunLemmas.{own-shown, run-is}
use Rattle.noc_workers.proofs.ByLemmas.{last-found, last-run, may-stretch, none-run, some-run}
use Rattle.noc_workers.proofs.by.run_by.Goals as goal

pub loop-left-init : goal.loop-left-init
loop-left-init g c =
    let net = setup_by c.args.setup.now in
    let first = c.into_columns-columns.result in
    record {
      on = none-run c.args.setup.now.relation.now net c.args.engine.count c.args.cycles refl c.requires.within first
          (subst (λ (m : Setup). ShowsRun m c.args.engine.count first) c.requires.setup c.into_columns-columns.ensures.shows) (subst (λ (m : Setup). AreFindings m first) c.requires.setup c.into_columns-columns.ensures.found);
      pace = c.new-pace.ensures;
    }

pub run_stretch-requires-clause-made : goal.run_stretch-requires-clause-made
run_stretch-requires-clause-made g c κs within = c.loop-left.invariant.on.shows.1.made

pub run_stretch-requires-clause-may : goal.run_stretch-requires-clause-may
run_stretch-requires-clause-may g c κs within =
    may-stretch c.args.setup.now.relation.now (setup_by c.args.setup.now) c.args.engine.count c.args.cycles refl c.requires.within c.loop-left.left c.loop-left.columns c.loop-left.invariant.on (c.loop-left.left - 1) (omega arith)

pub loop-left-preserved : goal.loop-left-preserved
loop-left-preserved g c =
    let ran = c.in_ok-ran.ran in
    let some = c.in_ok-ran.ensures.some in
    record {
      on = some-run c.args.setup.now.relation.now (setup_by c.args.setup.now) c.args.engine.count c.args.cycles refl c.requires.within c.loop-left.left c.loop-left.columns c.loop-left.invariant.on ran.cycles ran.columns
          (omega (arith, c.loop-left-test.true, some.1)) c.in_ok-ran.ensures.shows;
      pace = omega (arith, c.in_ok-ran.ensures.workers, c.loop-left.invariant.pace);
    }

pub run-requires : goal.run-requires
run-requires g c =
    may-stretch c.args.setup.now.relation.now (setup_by c.args.setup.now) c.args.engine.count c.args.cycles refl c.requires.within c.loop-left.left c.loop-left.columns c.loop-left.invariant.on c.loop-left.left (omega arith)

pub of-requires : goal.of-requires
of-requires g c =
    let net = setup_by c.args.setup.now in
    let n = c.args.engine.count in
    let relation = c.args.setup.now.relation.now in
    let left = c.loop-left.left in
    let on = c.loop-left.invariant.on in
    record {
      shows = own-shown net (n + c.args.cycles) c.run.new.self (last-run relation net n c.args.cycles refl c.requires.within left c.loop-left.columns on c.run.new.self c.run.ensures.shows);
      found = last-found relation net n c.args.cycles refl c.requires.within left c.loop-left.columns on c.run.new.self c.run.ensures.shows c.run.ensures.found c.run.ensures.kept;
    }

pub returns-clause-value : goal.returns-clause-value
returns-clause-value g c =
    let net = setup_by c.args.setup.now in
    let n = c.args.engine.count in
    c.of.ensures
    ∙ run-is net (n + c.args.cycles) c.run.new.self (last-run c.args.setup.now.relation.now net n c.args.cycles refl c.requires.within c.loop-left.left c.loop-left.columns c.loop-left.invariant.on c.run.new.self c.run.ensures.shows)
    ∙ ap (λ (m : Setup). (let u : Run = record { net = m; count = n + c.args.cycles } in u)) (sym c.requires.setup)
