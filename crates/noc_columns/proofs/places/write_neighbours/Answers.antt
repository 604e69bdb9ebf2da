use Rattle.std.proofs.Common.{◌≡◌, ℕ, ◌+◌, ◌-◌, ◌*◌, ◌%◌, ◌<◌, ◌∙◌, ap, arith, rules, set}
use Rattle.std.proofs.lemmas.List.{length-set}
use Rattle.noc_packet.specs.Set.{has_bit}
use Rattle.noc_topo.specs.Shape.{local_port}
use Rattle.noc_columns.specs.Near.{distance_by}
use Rattle.noc_columns.specs.Places.{stands_in}
use Rattle.noc_columns.specs.Words.{word}
use Rattle.noc_columns.proofs.PassLemmas.{all-next, word-here, word-other}
use Rattle.noc_columns.proofs.PlaceLemmas.{channels-few, link-below, zeros}
use Rattle.noc_columns.proofs.places.write_neighbours.Goals as goal

pub loop-k-preserved : goal.loop-k-preserved
loop-k-preserved c =
    let g = c.args.shape.now in
    let b = c.args.block in
    let round = c.args.round in
    let links = c.ports-links.result - 1 in
    let k = c.loop-k.k in
    let inv = c.loop-k.invariant in
    let all = channels-few c.args.vcs (c.ports-links.result - 1) c.requires.vcs (omega (arith, c.ports-links.ensures.few)) in
    let few : c.loop-k.k < 72 = omega (arith, all) in
    let distance = c.loop-k.neighbours.distance in
    let mask = c.loop-k.neighbours.mask in
    let d = c.distance_by-distance.result in
    let m = c.mask_of.result in
    record {
      distances = length-set distance k d ∙ inv.distances;
      masks = length-set mask k m ∙ inv.masks;
      distance = all-next (λ j. word j (set distance k d) ≡ distance_by g (j % links) round) k
          (λ j l. word-other distance k d j (omega (arith, l)) ∙ inv.distance j l)
          (word-here distance k d inv.distances few ∙ c.distance_by-distance.ensures.is);
      mask = all-next (λ j. (r : ℕ) → r < 64 → has_bit (word j (set mask k m)) r ≡ stands_in g (64 * b + r) (j % links) round b) k
          (λ j l r low. ap (λ w. has_bit w r) (word-other mask k m j (omega (arith, l))) ∙ inv.mask j l r low)
          (λ r low. ap (λ w. has_bit w r) (word-here mask k m inv.masks few) ∙ c.mask_of.ensures r low);
      none = λ j l. word-other mask k m j (omega (arith, l)) ∙ inv.none j (omega (arith, l));
    }

pub loop-k-init : goal.loop-k-init
loop-k-init c = record {
  distances = search rules;
  masks = search rules;
  distance = λ j l. absurd (omega (arith, l));
  mask = λ j l. absurd (omega (arith, l));
  none = λ j l. zeros 72 j;
}

pub mask_of-requires : goal.mask_of-requires
mask_of-requires c =
    let few = c.ports-links.ensures.grid.few_nodes in
    let l = c.requires.block in
    record { block = omega (arith, few, l); port = link-below c.loop-k.k (c.ports-links.result - 1) (local_port c.args.shape.now) (omega (arith, c.ports-links.ensures.some)) (omega (arith, c.ports-links.ensures.local)) }

pub returns : goal.returns
returns c =
    let g = c.args.shape.now in
    let vcs = c.args.vcs in
    let inv = c.loop-k.invariant in
    let links : c.ports-links.result - 1 ≡ local_port c.args.shape.now = omega (arith, c.ports-links.ensures.local) in
    let all : c.args.vcs * (c.ports-links.result - 1) ≡ c.args.vcs * local_port c.args.shape.now = ap (λ n. vcs * n) links in
    record {
      distance = λ k l. inv.distance k (omega (arith, l, all)) ∙ ap (λ n. distance_by g (k % n) c.args.round) links;
      mask = λ k r l few. inv.mask k (omega (arith, l, all)) r few ∙ ap (λ n. stands_in g (64 * c.args.block + r) (k % n) c.args.round c.args.block) links;
      none = λ k l. inv.none k (omega (arith, l, all));
    }

pub overflow_mul-k-end : goal.overflow_mul-k-end
overflow_mul-k-end c = let all = channels-few c.args.vcs (c.ports-links.result - 1) c.requires.vcs (omega (arith, c.ports-links.ensures.few)) in omega (arith, all)

pub offset_bounds-neighbours-k : goal.offset_bounds-neighbours-k
offset_bounds-neighbours-k c = let all = channels-few c.args.vcs (c.ports-links.result - 1) c.requires.vcs (omega (arith, c.ports-links.ensures.few)) in omega (arith, all)

pub bounds-neighbours-k : goal.bounds-neighbours-k
bounds-neighbours-k c = let all = channels-few c.args.vcs (c.ports-links.result - 1) c.requires.vcs (omega (arith, c.ports-links.ensures.few)) in omega (arith, all)

pub offset_bounds-neighbours-k-in-loop-k : goal.offset_bounds-neighbours-k-in-loop-k
offset_bounds-neighbours-k-in-loop-k c = let all = channels-few c.args.vcs (c.ports-links.result - 1) c.requires.vcs (omega (arith, c.ports-links.ensures.few)) in omega (arith, all)

pub bounds-neighbours-k-in-loop-k : goal.bounds-neighbours-k-in-loop-k
bounds-neighbours-k-in-loop-k c = let all = channels-few c.args.vcs (c.ports-links.result - 1) c.requires.vcs (omega (arith, c.ports-links.ensures.few)) in omega (arith, all)

pub nonzero_rem-k : goal.nonzero_rem-k
nonzero_rem-k c = omega (arith, c.ports-links.ensures.some)

pub nonzero_rem-k-in-loop-k : goal.nonzero_rem-k-in-loop-k
nonzero_rem-k-in-loop-k c = omega (arith, c.ports-links.ensures.some)

pub distance_by-distance-requires : goal.distance_by-distance-requires
distance_by-distance-requires c = link-below c.loop-k.k (c.ports-links.result - 1) (local_port c.args.shape.now) (omega (arith, c.ports-links.ensures.some)) (omega (arith, c.ports-links.ensures.local))
