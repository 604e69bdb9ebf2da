use Rattle.std.proofs.Common.{◌≡◌, ◌+◌, ◌-◌, ◌/◌, arith, length, refl, subst, sym}
use Rattle.noc_workers.specs.Cuts.{AreNew}
use Rattle.noc_workers.specs.Rounds.{start_by}
use Rattle.noc_workers.specs.declared.worker.Worker.{Worker}
use Rattle.std.proofs.Common.{List}
use Rattle.noc_workers.proofs.CutLemmas.{cut-next, cut-off}
use Rattle.noc_workers.proofs.cut.cut.Goals as goal

pub loop-left-init : goal.loop-left-init
loop-left-init c =
    let start = start_by c.args.run.now in
    let tile = c.args.tile in
    record {
      shows = c.requires.shows;
      first_is = refl;
      some = c.requires.count.0;
      most = c.requires.count.1;
      are = subst (λ (ws : List Worker). AreNew start (tile.first + length tile.blocks.items) ws) (sym c.new-workers.ensures.items) c.requires.all;
    }

pub add_worker-requires-clause-shows : goal.add_worker-requires-clause-shows
add_worker-requires-clause-shows c =
    let many : c.len-many.result ≡ length c.loop-left.rest.blocks.items = omega (arith, c.len-many.ensures, c.loop-left.rest.blocks.ok.0) in
    (cut-off (start_by c.args.run.now) c.args.tile.first c.loop-left.left (c.loop-left.rest.first + (c.len-many.result - c.len-many.result / c.loop-left.left)) c.loop-left.rest c.cut.new.self c.in_ok-there.there c.loop-left.workers.items c.loop-left.invariant c.loop-left-test.true
    (subst (λ n. c.loop-left.rest.first + (c.len-many.result - c.len-many.result / c.loop-left.left) ≡ c.loop-left.rest.first + (n - n / c.loop-left.left)) many refl) c.in_ok-there.ensures).0

pub loop-left-preserved : goal.loop-left-preserved
loop-left-preserved c =
    let many : c.len-many.result ≡ length c.loop-left.rest.blocks.items = omega (arith, c.len-many.ensures, c.loop-left.rest.blocks.ok.0) in
    cut-next (start_by c.args.run.now) c.args.tile.first c.loop-left.left (c.loop-left.rest.first + (c.len-many.result - c.len-many.result / c.loop-left.left)) c.loop-left.rest c.cut.new.self c.in_ok-there.there c.loop-left.workers.items c.loop-left.invariant c.loop-left-test.true
    (subst (λ n. c.loop-left.rest.first + (c.len-many.result - c.len-many.result / c.loop-left.left) ≡ c.loop-left.rest.first + (n - n / c.loop-left.left)) many refl) c.in_ok-there.ensures c.add_worker.new.workers.items c.in_ok-add_worker.ensures
