use Rattle.std.proofs.Common.{◌≡◌, ℕ, ◌+◌, ◌<◌, false}
use Rattle.noc_tiles.proofs.tiles.run_single.Given as goal

-- the cycles before this one have run, and the gate was not shut in them
abbrev pub invariant-loop-k : goal.invariant-loop-k
invariant-loop-k g l = record {
  run : l.network ≡ record l.initial.network { count = l.initial.network.count + l.k };
  asked : (k : ℕ) → k < l.k → g.G.Gate.shuts l.gate 0 (l.initial.network.count + k) ≡ false;
}
