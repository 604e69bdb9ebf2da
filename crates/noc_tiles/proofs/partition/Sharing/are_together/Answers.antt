use Rattle.std.proofs.Common.{◌≡◌, Bool, true, false, below_more, refl, subst, arith}
use Rattle.std.specs.Prelude.{nat_lt, not}
use mathlib.Core.Bool.{beq}
use Rattle.noc_topo.specs.Shape.{nodes}
use Rattle.noc_tiles.specs.Rings.{tile_start}
use Rattle.noc_tiles.proofs.partition.Sharing.are_together.Goals as goal

same : (x y : Bool) → not (beq x y) ≡ false → x ≡ y
same true true e = refl
same true false e = absurd (cc)
same false true e = absurd (cc)
same false false e = refl

pub loop-worker-preserved : goal.loop-worker-preserved
loop-worker-preserved c =
    let s = c.args.self.now in
    let k = c.loop-worker.worker in
    below_more (λ w. nat_lt c.args.a (tile_start (nodes s.shape.now) s.workers w) ≡ nat_lt c.args.b (tile_start (nodes s.shape.now) s.workers w)) k c.loop-worker.invariant
    (subst (λ start. nat_lt c.args.a start ≡ nat_lt c.args.b start) c.start-start.ensures.start (same (nat_lt c.args.a c.start-start.result) (nat_lt c.args.b c.start-start.result) c.if-a-start.false))

pub returns : goal.returns
returns c = (λ _ w l. c.loop-worker.invariant w (omega (arith, l, c.loop-worker-test.false)), λ _. refl)
