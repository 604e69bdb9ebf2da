-- A network runs by workers, stretch by stretch.
use Rattle.std.proofs.Common.{◌≡◌, ℕ, ◌+◌, ◌<◌, ◌≤◌, true, List, [], ◌∷◌, Some, length, subst, arith}
use Rattle.std.specs.List.{slice_get}
use Rattle.noc_topo.proofs.LinkLemmas.{link_back}
use Rattle.noc_theory.specs.Good.{IsGoodSetup}
use Rattle.noc_theory.specs.Network.{Setup}
use Rattle.noc_theory.specs.declared.limits.TheConstants.{CYCLE_LIMIT}
use Rattle.noc_workers.specs.Cuts.{AllHaveRun, AllMayRun, AllShow, AreNew, IsNew}
use Rattle.noc_workers.specs.Rounds.{Start}
use Rattle.noc_engine.specs.Runs.{ShowsRun}
use Rattle.noc_engine.specs.Tiles.{Shows}
use Rattle.noc_workers.specs.Workers.{IsWorkerAt, MayRunFrom}
use Rattle.noc_engine.specs.declared.columns.Columns.{Columns}
use Rattle.noc_engine.specs.declared.tile.Tile.{Tile}
use Rattle.noc_workers.specs.declared.worker.Worker.{Worker}
use Rattle.noc_workers.proofs.SideLemmas.{side-given, side-map}

module _ (start : Start) where
  -- ---- before a run
  new-worker : (most : ℕ) (one : Worker) → IsGoodSetup start.net → start.cycle + most ≤ CYCLE_LIMIT → IsNew start 0 (length start.plan.around.items) one → MayRunFrom start 0 most one
  new-worker most one good few new = record {
    good = good;
    few = omega (arith, few);
    at = record {
      shows = subst (λ n. Shows start.net start.plan n one.tile) (omega arith) new.shows;
      posts = new.posts;
      near = λ s q r port l e f h.
          let plan = new.shows.1.plan_is in
          let most = plan.blocks in
          let back = link_back start.net.relation.grid r q s port good.relation.table.grid l f in
          let within = back.node in
          new.near s q r port l e f h (omega arith) (omega (arith, most, within));
    };
  }

  pub new-may : (most : ℕ) (workers : List Worker) → IsGoodSetup start.net → start.cycle + most ≤ CYCLE_LIMIT → AreNew start 0 workers → AllMayRun start 0 most 0 (length start.plan.around.items) workers
  new-may most workers good few = side-map (IsNew start 0 (length start.plan.around.items)) (MayRunFrom start 0 most) (λ one. new-worker most one good few) 0 (length start.plan.around.items) workers

  -- ---- in a run
  module _ (from to done more : ℕ) (workers : List Worker) where
    -- they may run fewer cycles
    pub may-part : (part : ℕ) → part ≤ more → AllMayRun start done more from to workers → AllMayRun start done part from to workers
    may-part part l = side-map (MayRunFrom start done more) (MayRunFrom start done part)
        (λ one may. record { good = may.good; few = let few = may.few in omega (arith, l, few); at = may.at }) from to workers

    -- those that came back whole may run on
    pub whole-may : IsGoodSetup start.net → start.cycle + done + more ≤ CYCLE_LIMIT → ((i : ℕ) (one : Worker) → slice_get workers i ≡ Some one → one.is_whole ≡ true) → AllHaveRun start done from to workers → AllMayRun start done more from to workers
    whole-may good few whole run =
        side-map (IsWorkerAt start done) (MayRunFrom start done more) (λ one at. record { good = good; few = few; at = at }) from to workers
        (side-given (λ one. one.is_whole ≡ true) (IsWorkerAt start done) from to workers whole run)

    pub may-show : AllMayRun start done more from to workers → AllShow start.net start.plan (start.cycle + done) from to workers
    may-show = side-map (MayRunFrom start done more) (λ one. Shows start.net start.plan (start.cycle + done) one.tile) (λ one may. may.at.shows) from to workers

  -- there are workers where there are blocks
  pub some-workers : (net : Setup) (n from to : ℕ) (workers : List Worker) → from < to → AllShow net start.plan n from to workers → 0 < length workers
  some-workers net n from to [] l h = absurd (omega (arith, l, h))
  some-workers net n from to (one ∷ rest) l h = omega arith

-- ---- the network
-- one tile of all its blocks shows it
pub joined-shows : (net : Setup) (n cycles : ℕ) (all : Columns) (tile : Tile) → ShowsRun net n all
    → (tile.first ≡ 0) × (tile.first + length tile.blocks.items ≡ length all.plan.around.items) × Shows net all.plan (n + cycles) tile → ShowsRun net (n + cycles) (record all { tile = tile })
joined-shows net n cycles all tile shows is = (
  is.2.0,
  record {
    good = shows.1.good;
    made = shows.1.made;
    tile = is.2.1;
    first = is.0;
    blocks_are = omega (arith, is.0, is.1);
    found_are = shows.1.found_are;
  },
)
