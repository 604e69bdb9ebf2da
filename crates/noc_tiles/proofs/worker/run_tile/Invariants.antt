use Rattle.std.proofs.Common.{◌≡◌, ℕ, ◌+◌, ◌<◌, false, vec_len}
use Rattle.noc_tiles.specs.Phases.{AreInner}
use Rattle.noc_tiles.specs.TileStep.{arrival_ports}
use Rattle.noc_tiles.specs.Tiles.{IsReady, IsSameTile, Runs, outlets}
use Rattle.noc_tiles.proofs.worker.run_tile.Given as goal

-- the cycles before this one have run
abbrev pub invariant-loop-c : goal.invariant-loop-c
invariant-loop-c g l = record {
  done : l.tile.done ≡ l.c;
  same : IsSameTile l.initial.tile l.tile;
  ready : IsReady l.relation l.tile;
  inner : AreInner l.relation.grid l.tile.first (vec_len l.tile.routers) (arrival_ports (outlets l.tile)) l.inner;
  ran : Runs l.relation l.c l.initial.tile l.tile;
  asked : (k : ℕ) → k < l.c → g.G.Gate.shuts l.gate l.tile.worker (l.tile.start + k) ≡ false;
}
