use Rattle.std.proofs.Common.{◌+◌, false, length, refl, subst, sym}
use Rattle.noc_workers.specs.Cuts.{AreNew}
use Rattle.noc_workers.specs.Rounds.{start_by}
use Rattle.noc_workers.specs.declared.worker.Worker.{Worker}
use Rattle.noc_workers.proofs.CutLemmas.{new-one}
use Rattle.noc_workers.proofs.cut.add_worker.Goals as goal

pub meet_all-requires-clause-one : goal.meet_all-requires-clause-one
meet_all-requires-clause-one c =
    let tile = c.args.tile in
    let one : Worker = record { tile = tile; posts = c.new.result; is_whole = false } in
    let from = tile.first + length tile.blocks.items in
    (from, new-one (start_by c.args.run.now) from one c.requires.shows c.requires.some c.new.ensures.items, refl, c.requires.workers)

pub returns : goal.returns
returns c =
    let tile = c.args.tile in
    let one : Worker = record { tile = tile; posts = c.new.result; is_whole = false } in
    let from = tile.first + length tile.blocks.items in
    let are = c.in_ok-meet_all.ensures from (new-one (start_by c.args.run.now) from one c.requires.shows c.requires.some c.new.ensures.items) refl c.requires.workers in
    subst (AreNew (start_by c.args.run.now) tile.first) (sym c.in_ok-insert.ensures.items) are
