use Rattle.std.proofs.Common.{◌≡◌, ◌≤◌, true}
use Rattle.std.specs.Prelude.{All}
use Rattle.noc_engine.specs.Shows.{has_block}
use Rattle.noc_workers.proofs.NearLemmas.{HasAllBelow}
use Rattle.noc_workers.proofs.borders.near_blocks.Given as goal

abbrev pub invariant-loop-block : goal.invariant-loop-block
invariant-loop-block l = record {
  low : l.here.first ≤ l.block;
  own : All (λ b. has_block l.here b ≡ true) l.near.items;
  all : HasAllBelow l.plan l.there l.here.first l.block l.near.items;
}
