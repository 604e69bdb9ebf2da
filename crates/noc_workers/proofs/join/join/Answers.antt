use Rattle.std.proofs.Common.{◌≡◌, ◌+◌, ◌∙◌, arith, length, subst, sym, vec_len}
use Rattle.std.proofs.lemmas.Bool.{eqb-true}
use Rattle.noc_workers.specs.Cuts.{AllShow}
use Rattle.noc_engine.specs.Tiles.{Shows}
use Rattle.noc_workers.specs.declared.worker.Worker.{Worker}
use Rattle.noc_workers.proofs.SideLemmas.{side-none, side-taken}
use Rattle.noc_workers.proofs.join.join.Goals as goal

pub loop-workers-init : goal.loop-workers-init
loop-workers-init c = λ net n from to show.
    side-taken (λ (one : Worker). Shows net c.args.plan.now n one.tile) from to c.args.workers.items c.remove-tile.new.self.items c.remove-tile.result c.requires.some c.remove-tile.ensures.value c.remove-tile.ensures.items show

pub join-requires-clause-shows : goal.join-requires-clause-shows
join-requires-clause-shows c =
    let h = c.requires.show in
    let is = c.loop-workers.invariant h.0 h.1 h.2 h.3 h.4 in
    let next = side-taken (λ (one : Worker). Shows h.0 c.args.plan.now h.1 one.tile) (h.2 + length c.loop-workers.tile.blocks.items) h.3 c.loop-workers.workers.items c.remove-there.new.self.items c.remove-there.result
    (omega (arith, c.remove-there.ensures.len, c.loop-workers.workers.ok.0)) c.remove-there.ensures.value c.remove-there.ensures.items is.2 in
    (h.0, h.1, is.1, next.1)

pub join-requires-clause-beside : goal.join-requires-clause-beside
join-requires-clause-beside c =
    let h = c.requires.show in
    let is = c.loop-workers.invariant h.0 h.1 h.2 h.3 h.4 in
    let next = side-taken (λ (one : Worker). Shows h.0 c.args.plan.now h.1 one.tile) (h.2 + length c.loop-workers.tile.blocks.items) h.3 c.loop-workers.workers.items c.remove-there.new.self.items c.remove-there.result
    (omega (arith, c.remove-there.ensures.len, c.loop-workers.workers.ok.0)) c.remove-there.ensures.value c.remove-there.ensures.items is.2 in
    omega (arith, is.0, next.0)

pub loop-workers-preserved : goal.loop-workers-preserved
loop-workers-preserved c = λ net n from to show.
    let is = c.loop-workers.invariant net n from to show in
    let next = side-taken (λ (one : Worker). Shows net c.args.plan.now n one.tile) (from + length c.loop-workers.tile.blocks.items) to c.loop-workers.workers.items c.remove-there.new.self.items c.remove-there.result
    (omega (arith, c.remove-there.ensures.len, c.loop-workers.workers.ok.0)) c.remove-there.ensures.value c.remove-there.ensures.items is.2 in
    let joined = c.in_ok-join.ensures in (
      joined.first_is ∙ is.0,
      joined.shows net n is.1 next.1,
      subst (λ m. AllShow net c.args.plan.now n m to c.remove-there.new.self.items) (let many = joined.blocks_are in omega (arith, many)) next.2,
    )

pub returns : goal.returns
returns c = λ net n from to show.
    let is = c.loop-workers.invariant net n from to show in
    let few : vec_len c.loop-workers.workers ≡ 0 = eqb-true _ _ (sym c.is_empty.ensures ∙ c.loop-workers-test.false) in
    let none : length c.loop-workers.workers.items ≡ 0 = omega (arith, few, c.loop-workers.workers.ok.0) in
    let all = side-none (λ (one : Worker). Shows net c.args.plan.now n one.tile) (from + length c.loop-workers.tile.blocks.items) to c.loop-workers.workers.items none is.2 in
    (is.0, omega (arith, is.0, all), is.1)
