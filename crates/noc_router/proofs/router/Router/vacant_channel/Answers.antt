use Rattle.std.proofs.Common.{◌≡◌, ℕ, suc, ◌+◌, ◌-◌, ◌*◌, ◌<◌, Bool, ap, sym, ◌∙◌, ⊎_elim, arith}
use Rattle.std.specs.Prelude.{◌&&◌}
use Rattle.std.proofs.Math.Nat.{suc-mul}
use Rattle.std.proofs.lemmas.Bool.{and_parts, cases_eq}
use Rattle.noc_ring.specs.Buffers.{buffer_at}
use Rattle.noc_vc.specs.Input.{is_empty, is_idle_phase}
use Rattle.noc_router.specs.Inside.{IsRouter, view_of}
use Rattle.noc_router.specs.Sound.{nth_input}
use Rattle.noc_router.specs.declared.router.Router.TheInside.{Inside}
use Rattle.noc_view.specs.View.{View, is_vacant}
use Rattle.noc_view.proofs.FindLemmas.{find-below, find-none}
use Rattle.noc_router.proofs.RouterLemmas.{local-index}
use Rattle.noc_router.proofs.router.Router.vacant_channel.Goals as goal

-- whether a local channel of a router is vacant is whether one of its view is
vacant-view : (r : Inside) (v : View) (vc : ℕ) (b : Bool) → view_of r ≡ v → IsRouter r
    → b ≡ (is_idle_phase (nth_input r.channels.inputs.items ((r.ports - 1) * r.vcs + vc)).phase && is_empty (buffer_at r.channels.bank ((r.ports - 1) * r.vcs + vc)))
    → is_vacant v vc ≡ b
vacant-view r v vc b view is e =
    sym (e ∙ ap (λ k. is_idle_phase (nth_input r.channels.inputs.items k).phase && is_empty (buffer_at r.channels.bank k)) (local-index r vc is) ∙ ap (λ (w : View). is_vacant w vc) view)

-- a local channel is one of the router's
local-below : (r : Inside) (vc : ℕ) → IsRouter r → vc < r.vcs → (r.ports - 1) * r.vcs + vc < r.channels.size
local-below r vc is l =
    let e : r.ports ≡ suc (r.ports - 1) = omega (arith, is.ports) in
    let all : r.ports * r.vcs ≡ suc (r.ports - 1) * r.vcs = ap (λ n. n * r.vcs) e in
    omega (arith, all ∙ suc-mul (r.ports - 1) r.vcs, is.channels, l)

pub is_vacant-requires : goal.is_vacant-requires
is_vacant-requires c = local-below c.self.inside c.loop-vc.vc c.self.invariant c.loop-vc-test.true

pub loop-vc-preserved : goal.loop-vc-preserved
loop-vc-preserved c = λ k l.
    ⊎_elim (λ (here : k ≡ c.loop-vc.vc).
    ap (is_vacant c.args.self.now) here ∙ vacant-view c.self.inside c.args.self.now c.loop-vc.vc c.is_vacant.result c.self.view_is c.self.invariant c.is_vacant.ensures ∙ c.if-is_vacant.false)
    (λ (other : k ≡ c.loop-vc.vc → ⊥). c.loop-vc.invariant k (omega arith))
    (cases_eq k c.loop-vc.vc)

pub returns-then-is_vacant-clause-value : goal.returns-then-is_vacant-clause-value
returns-then-is_vacant-clause-value c =
    let v = c.args.self.now in
    let vcs : c.self.inside.vcs ≡ v.site.vcs = ap (λ (w : View). w.site.vcs) c.self.view_is in
    sym (find-below (is_vacant v) v.site.vcs c.loop-vc.vc (omega (arith, c.loop-vc-test.true, vcs))
    (vacant-view c.self.inside v c.loop-vc.vc c.is_vacant.result c.self.view_is c.self.invariant c.is_vacant.ensures ∙ c.if-is_vacant.true) c.loop-vc.invariant)

pub returns-then-is_vacant-clause-empty : goal.returns-then-is_vacant-clause-empty
returns-then-is_vacant-clause-empty c =
    let v = c.args.self.now in
    (and_parts _ _ (vacant-view c.self.inside v c.loop-vc.vc c.is_vacant.result c.self.view_is c.self.invariant c.is_vacant.ensures ∙ c.if-is_vacant.true)).1

pub returns-clause-value : goal.returns-clause-value
returns-clause-value c =
    let v = c.args.self.now in
    let vcs : c.self.inside.vcs ≡ v.site.vcs = ap (λ (w : View). w.site.vcs) c.self.view_is in
    sym (find-none (is_vacant v) v.site.vcs (λ k l. c.loop-vc.invariant k (omega (arith, l, vcs, c.loop-vc-test.false))))
