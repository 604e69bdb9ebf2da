use Rattle.std.proofs.Common.{◌+◌, ◌*◌, ◌/◌, ◌%◌, ◌<◌, ◌≤◌, ◌∙◌, ℕ, List, ap, subst, sym, arith}
use Rattle.noc_topo.specs.Shape.{distance}
use Rattle.noc_route.specs.Entered.{sets_in}
use Rattle.noc_route.specs.Trimming.{routes_in}
use Rattle.noc_route.proofs.TrimLemmas.{IsRingDone, IsRingDone-none, IsRingDone-more, IsRingDone-passed, IsRingDone-all}
use Rattle.noc_route.proofs.gather.Table.gather_at.Goals as goal
use Rattle.noc_route.proofs.gather.Table.gather_at.Goals.{then-apart-pair, else-apart-pair}

pub loop-pair-init : goal.loop-pair-init
loop-pair-init c = IsRingDone-none _ c.args.outs.now c.args.distance c.requires

pub bounds-apart-pair : goal.bounds-apart-pair
bounds-apart-pair c = let P : ℕ → Type 0 = λ n. c.loop-pair.pair < n * n in omega (arith, subst P c.args.self.now.map.now.sizes.all_nodes c.loop-pair-test.true, c.distances-apart.ensures.len)

pub gather_number-requires-clause-pair : goal.gather_number-requires-clause-pair
gather_number-requires-clause-pair c = let P : ℕ → Type 0 = λ n. c.loop-pair.pair < n * n in subst P c.args.self.now.map.now.sizes.all_nodes c.loop-pair-test.true

pub gather_number-requires-clause-outs : goal.gather_number-requires-clause-outs
gather_number-requires-clause-outs c = c.loop-pair.invariant.lists

pub gather_number-requires-clause-farther : goal.gather_number-requires-clause-farther
gather_number-requires-clause-farther c =
    let f = c.args.self.now.map.now.sizes in
    let apart = ap (λ n. distance f.shape (c.loop-pair.pair / n) (c.loop-pair.pair % n)) f.all_nodes ∙ sym (c.distances-apart.ensures.items c.loop-pair.pair (let P : ℕ → Type 0 = λ n. c.loop-pair.pair < n * n in subst P f.all_nodes c.loop-pair-test.true)) ∙ c.if-apart-pair.true in
    λ m r place l. c.loop-pair.invariant.farther m r _ place (omega (arith, l, apart))

pub loop-pair-preserved : goal.loop-pair-preserved
loop-pair-preserved c =
    let f = c.args.self.now.map.now.sizes in
    let routes = routes_in f (sets_in f c.args.self.now.entered.now) in
    let P : List ℕ → Type 0 = λ outs. IsRingDone routes outs c.args.distance (c.loop-pair.pair + 1) in
    elim c.if-apart-pair.branch [
      | then-apart-pair w ↦ subst P (sym w.outs-is) (IsRingDone-more routes c.loop-pair.outs w.gather_number.new.outs c.args.distance c.loop-pair.pair f.node_count f.all_nodes c.loop-pair.invariant w.gather_number.ensures)
      | else-apart-pair w ↦ subst P (sym w.outs-is)
          (IsRingDone-passed routes c.loop-pair.outs c.args.distance c.loop-pair.pair (λ e. w.if-apart-pair.false (c.distances-apart.ensures.items c.loop-pair.pair (let P : ℕ → Type 0 = λ n. c.loop-pair.pair < n * n in subst P f.all_nodes c.loop-pair-test.true) ∙ e)) c.loop-pair.invariant)
    ]

pub returns : goal.returns
returns c =
    let f = c.args.self.now.map.now.sizes in
    let P : ℕ → Type 0 = λ n. n * n ≤ c.loop-pair.pair in
    IsRingDone-all (routes_in f (sets_in f c.args.self.now.entered.now)) c.loop-pair.outs c.args.distance c.loop-pair.pair (subst P f.all_nodes c.loop-pair-test.false) c.loop-pair.invariant
