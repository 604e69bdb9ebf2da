use Rattle.std.proofs.Common.{◌∙◌, ◌≡◌, ◌+◌, ◌<◌, ℕ, Bool, Some, arith, ap, get_or, None, subst, sym}
use Rattle.std.specs.Prelude.{IfSome, is_some}
use Rattle.noc_alloc.proofs.ArbiterLemmas.{IsNearest, nearest-is, nearest-skips}
use Rattle.noc_alloc.proofs.OfferLemmas.{nearest-asks}
use Rattle.noc_alloc.proofs.SwitchLemmas.{first_in_turn-below}
use Rattle.noc_alloc.proofs.switch.first_of_those_ready.Goals as goal
use Rattle.noc_alloc.proofs.switch.first_of_those_ready.Goals.{then-is_some, else-is_some}

pub loop-vc-preserved : goal.loop-vc-preserved
loop-vc-preserved c =
    let n = c.args.arbiter.now.size in
    let p = c.args.arbiter.now.pointer in
    let test : ℕ → Bool = λ v. is_some (get_or c.args.ready.now (c.args.first + v) None) in
    let l = c.loop-vc in
    elim c.if-is_some.branch [
      | then-is_some w ↦
          subst (IsNearest n p test (l.vc + 1)) (sym (w.held-is ∙ ap (λ k. Some k) w.earlier.ensures))
          (nearest-asks n p l.vc test l.held (omega (arith, c.loop-vc-test.true, c.size-vc-end.ensures.value)) (sym c.is_some.ensures ∙ w.if-is_some.true) l.invariant)
      | else-is_some w ↦ subst (IsNearest n p test (l.vc + 1)) (sym w.held-is) (nearest-skips n p l.vc test l.held (sym c.is_some.ensures ∙ w.if-is_some.false) l.invariant)
    ]

pub returns-clause-first : goal.returns-clause-first
returns-clause-first c =
    let n = c.args.arbiter.now.size in
    let p = c.args.arbiter.now.pointer in
    let test : ℕ → Bool = λ v. is_some (get_or c.args.ready.now (c.args.first + v) None) in
    let all : c.loop-vc.vc ≡ n = omega (arith, c.size-vc-end.ensures.value, c.loop-vc.auto.vc-end, c.loop-vc-test.false) in
    nearest-is n p test c.loop-vc.held (subst (λ m. IsNearest n p test m c.loop-vc.held) all c.loop-vc.invariant)

pub returns-clause-within : goal.returns-clause-within
returns-clause-within c =
    let n = c.args.arbiter.now.size in
    let p = c.args.arbiter.now.pointer in
    let test : ℕ → Bool = λ v. is_some (get_or c.args.ready.now (c.args.first + v) None) in
    subst (λ o. IfSome o (λ v. v < n)) (sym (returns-clause-first c)) (first_in_turn-below n p test)
