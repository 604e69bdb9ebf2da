use Rattle.std.proofs.Common.{◌≡◌, ◌+◌, ◌-◌, ◌*◌, ◌/◌, ◌<◌, Vec, Global, arith, subst, sym}
use Rattle.noc_topo.specs.Shape.{nodes}
use Rattle.noc_columns.specs.Places.{AreFarIn}
use Rattle.noc_columns.specs.declared.neighbours.Far.{Far}
use Rattle.noc_columns.proofs.PlaceLemmas.{AreFarTo, far-all, far-none, far-push, far-skip}
use Rattle.noc_columns.proofs.places.far_of.Goals as goal
use Rattle.noc_columns.proofs.places.far_of.Goals.{in-Some+in_ok-push, in_default}

pub loop-i-init : goal.loop-i-init
loop-i-init c = subst (AreFarTo c.args.shape.now c.args.block c.args.port 0) (sym c.new-far.ensures.items) (far-none c.args.shape.now c.args.block c.args.port)

pub loop-i-preserved : goal.loop-i-preserved
loop-i-preserved c =
    let g = c.args.shape.now in
    let b = c.args.block in
    let p = c.args.port in
    let i = c.loop-i.i in
    let far = c.loop-i.far.items in
    let inv = c.loop-i.invariant in
    elim c.match-far_in.branch [
      | in-Some+in_ok-push w ↦
          let exists : 64 * (c.loop-i.i / 2) < nodes c.args.shape.now = omega (arith, c.nodes.ensures.value) in
          subst (λ (v : Vec Far Global). AreFarTo g b p (i + 1) v.items) (sym w.far-is)
          (subst (AreFarTo g b p (i + 1)) (sym w.in_ok-push.ensures.items) (far-push g b p i far w.in-Some.one inv (subst (AreFarIn g b p _ (i / 2)) w.in-Some.is c.far_in.ensures) exists))
      | in_default w ↦
          subst (λ (v : Vec Far Global). AreFarTo g b p (i + 1) v.items) (sym w.far-is)
          (far-skip g b p i far inv (subst (AreFarIn g b p _ (i / 2)) w.in_default.is c.far_in.ensures))
    ]

pub returns : goal.returns
returns c =
    let count : c.loop-i.i ≡ 2 * ((nodes c.args.shape.now + 64 - 1) / 64) = omega (arith, c.nodes.ensures.value) in
    far-all c.args.shape.now c.args.block c.args.port c.loop-i.i c.loop-i.far.items c.nodes.ensures.grid c.requires.port count c.loop-i.invariant
