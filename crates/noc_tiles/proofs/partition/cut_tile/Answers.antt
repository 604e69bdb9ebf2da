use Rattle.std.proofs.Common.{◌≡◌, ℕ, ◌+◌, ◌-◌, List, length, Option, Vec, Global, ap, sym, ◌∙◌, refl, arith, subst}
use Rattle.noc_topo.specs.Shape.{Grid, IsGrid, nodes}
use Rattle.noc_packet.specs.declared.packet.Beat.{Beat}
use Rattle.noc_view.specs.View.{View}
use Rattle.noc_theory.specs.Halves.{beat_at}
use Rattle.noc_tiles.specs.Ends.{End}
use Rattle.noc_tiles.specs.Partition.{IsUncut, own_beat}
use Rattle.noc_tiles.specs.Rings.{tile_start}
use Rattle.noc_tiles.proofs.BoundaryLemmas.{vec-length}
use Rattle.noc_tiles.proofs.PartitionLoopLemmas.{IsCutAt, enough, forward, next-in, next-out, tile-of, uncut-more, wide, wide-here}
use Rattle.noc_tiles.proofs.partition.cut_tile.Goals as goal
use Rattle.noc_tiles.proofs.partition.cut_tile.Goals.{After-start-end}

-- where the tile is cut
cut-at : (I O : List (Option End)) (c : After-start-end) → IsUncut c.args.kept.now I O c.args.worker c.args.rest.now
    → IsCutAt c.args.kept.now I O c.args.worker c.args.rest.now c.shape-shape.result.now c.start-end.result
cut-at I O c uncut = record {
  can = c.requires.kept;
  worker = c.requires.worker;
  uncut = uncut;
  same = c.shape-shape.ensures.value;
  end_is = c.start-end.ensures.start ∙ ap (λ (g : Grid). tile_start (nodes g) c.args.kept.now.workers (c.args.worker + 1)) c.shape-shape.ensures.value;
}

pub overflow_sub-count : goal.overflow_sub-count
overflow_sub-count c =
    let U = c.requires.rest in
    forward (cut-at U.0 U.1 (goal.at.overflow_sub-count c).After-start-end U.2)

pub invariant_of-span : goal.invariant_of-span
invariant_of-span c =
    let U = c.requires.rest in
    record {
      grid = subst IsGrid (sym c.shape-shape.ensures.value) c.requires.kept.good.relation.table.grid;
      within = wide-here (cut-at U.0 U.1 (goal.at.invariant_of-span c).After-start-end U.2);
    }

pub own_beats-requires : goal.own_beats-requires
own_beats-requires c =
    let U = c.requires.rest in
    omega (arith, wide (cut-at U.0 U.1 (goal.at.own_beats-requires c).After-start-end U.2), c.requires.kept.size, ap length c.deref.ensures.value)

pub split_off-requires : goal.split_off-requires
split_off-requires c =
    let U = c.requires.rest in
    omega (arith, enough (cut-at U.0 U.1 (goal.at.split_off-requires c).After-start-end U.2), vec-length c.args.rest.now.routers)

pub take_ins-requires : goal.take_ins-requires
take_ins-requires c =
    let U = c.requires.rest in
    next-in (cut-at U.0 U.1 (goal.at.take_ins-requires c).After-start-end U.2)

pub take_outs-requires : goal.take_outs-requires
take_outs-requires c =
    let U = c.requires.rest in
    next-out (cut-at U.0 U.1 (goal.at.take_outs-requires c).After-start-end U.2)

pub returns : goal.returns
returns c = λ I O U.
    let A = cut-at I O (goal.at.returns c).After-start-end U in
    let routers = ap (λ (v : Vec View Global). v.items) c.replace-routers.ensures.value ∙ c.in_ok-tail.ensures.items in
    let left = ap (λ (v : Vec View Global). v.items) c.replace-routers.ensures.after ∙ c.in_ok-tail.ensures.tail in
    let first = c.args.rest.now.first in
    let size = c.in_ok-own.ensures.size ∙ ap length c.deref.ensures.value in
    let beats : (r q : ℕ) → beat_at c.in_ok-own.own.items r q ≡ own_beat first (c.start-end.result - first) c.args.kept.now.parts.beats.items r q =
    λ r q. c.in_ok-own.ensures.beats r q ∙ ap (λ (b : List (List Beat)). own_beat first (c.start-end.result - first) b r q) c.deref.ensures.value in (
      tile-of A _ refl refl refl refl refl routers size beats c.in_ok-ins.ensures.taken c.in_ok-outs.ensures.taken,
      uncut-more A _ refl left (c.in_ok-ins.ensures.rest refl) (c.in_ok-outs.ensures.rest refl),
    )
