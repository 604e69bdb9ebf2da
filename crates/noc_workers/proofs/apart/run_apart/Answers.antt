use Rattle.std.proofs.Common.{◌+◌, arith, length, subst}
use Rattle.noc_theory.specs.Network.{Setup}
use Rattle.noc_engine.specs.Origins.{setup_by}
use Rattle.noc_engine.specs.Runs.{ShowsRun}
use Rattle.noc_workers.specs.Cuts.{AreNew}
use Rattle.noc_workers.specs.Rounds.{Start}
use Rattle.noc_workers.proofs.ApartLemmas.{joined-shows, new-may, some-workers}
use Rattle.noc_workers.proofs.apart.run_apart.Goals as goal

pub cut-requires-clause-shows : goal.cut-requires-clause-shows
cut-requires-clause-shows g c =
    let all = c.args.columns in
    let was = subst (λ (m : Setup). ShowsRun m all.tile.cycle all) c.requires.made c.requires.may.shows in
    (was.0, was.1.tile)

pub run_on-requires-clause-may : goal.run_on-requires-clause-may
run_on-requires-clause-may g c κs within =
    let all = c.args.columns in
    let net = setup_by c.args.setup.now in
    let start : Start = record { net = net; plan = all.plan; cycle = all.tile.cycle } in
    let was = subst (λ (m : Setup). ShowsRun m all.tile.cycle all) c.requires.made c.requires.may.shows in
    let few = c.requires.may.within in
    new-may start c.args.ahead.most c.in_ok-workers.workers.items was.1.good (omega (arith, few)) (subst (λ n. AreNew start n c.in_ok-workers.workers.items) was.1.first c.in_ok-workers.ensures)

pub join-requires-clause-some : goal.join-requires-clause-some
join-requires-clause-some g c =
    let all = c.args.columns in
    let start : Start = record { net = setup_by c.args.setup.now; plan = all.plan; cycle = all.tile.cycle } in
    let ran = c.in_ok-workers-2 in
    let blocks = c.requires.may.shows.1.blocks_are in
    some-workers start start.net (all.tile.cycle + ran.field-0.cycles) 0 (length all.plan.around.items) ran.field-0.workers.items (omega (arith, c.requires.workers.0, c.requires.workers.1, blocks)) ran.ensures.show

pub join-requires-clause-show : goal.join-requires-clause-show
join-requires-clause-show g c =
    let all = c.args.columns in
    let ran = c.in_ok-workers-2 in
    (setup_by c.args.setup.now, all.tile.cycle + ran.field-0.cycles, 0, length all.plan.around.items, ran.ensures.show)

pub returns-clause-shows : goal.returns-clause-shows
returns-clause-shows g c =
    let all = c.args.columns in
    let ran = c.in_ok-workers-2 in
    let net = setup_by c.args.setup.now in
    let was = subst (λ (m : Setup). ShowsRun m all.tile.cycle all) c.requires.made c.requires.may.shows in
    joined-shows net all.tile.cycle ran.field-0.cycles all c.in_ok-tile.tile was (c.in_ok-tile.ensures net (all.tile.cycle + ran.field-0.cycles) 0 (length all.plan.around.items) ran.ensures.show)
