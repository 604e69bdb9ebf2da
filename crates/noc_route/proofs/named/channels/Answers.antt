use Rattle.std.proofs.Common.{◌≡◌, ◌/◌, ◌%◌, ℕ, ap, sym, ◌∙◌, arith}
use Rattle.std.specs.Prelude.{◌||◌, ◌&&◌, nat_lt, nat_eq}
use Rattle.std.proofs.lemmas.Bool.{eqb-true, lt-ltb}
use Rattle.noc_packet.specs.Set.{has_bit}
use Rattle.noc_topo.specs.Shape.{coordinates}
use Rattle.noc_route.specs.Relation.{takes_channel, takes_of_class}
use Rattle.noc_route.proofs.BoolLemmas.{lt_next, and-or, and-implied}
use Rattle.noc_route.proofs.NamedLemmas.{and_next, and_next_not}
use Rattle.noc_route.proofs.WayLemmas.{index_test, of_class-within, takes_channel-below}
use Rattle.noc_route.proofs.named.channels.Goals as goal
use Rattle.noc_route.proofs.named.channels.Goals.{then-takes_of_class, else-takes_of_class}

pub loop-vc-preserved : goal.loop-vc-preserved
loop-vc-preserved c = λ r t k way.
    let f = c.args.fitting.now.map.now.sizes in
    let vc = c.loop-vc.vc in
    let x = nat_eq (k % f.vcs) vc in
    let port = nat_eq (k / f.vcs) c.args.port in
    let takes = λ (v : ℕ). takes_channel f.shape f.vcs f.classes c.args.fitting.now.rule.now c.args.class (coordinates f.shape.radix r) (coordinates f.shape.radix t) c.args.port v in
    let here : takes vc ≡ c.takes_of_class.result
    = ap (λ b. b && takes_of_class f.shape f.vcs f.classes c.args.fitting.now.rule.now (coordinates f.shape.radix r) (coordinates f.shape.radix t) c.args.port vc)
    (of_class-within f.vcs f.classes c.args.class vc (omega (arith, c.loop-vc.auto.vc, c.channels_of_class-first.ensures.first)) (omega (arith, c.loop-vc-test.true, c.channels_of_class-first.ensures.end)))
    ∙ sym (c.takes_of_class.ensures r t way) in
    let next = ap (λ b. port && (b && takes (k % f.vcs))) (sym (lt_next (k % f.vcs) vc)) in
    elim c.if-takes_of_class.branch [
      | then-takes_of_class w ↦ ap (λ set. has_bit set k) w.set-is ∙ w.with-set.ensures.members k
          ∙ ap (λ i. nat_eq k i || has_bit c.loop-vc.set k) w.index.ensures.value
          ∙ ap (λ b. b || has_bit c.loop-vc.set k) (index_test k c.args.port vc f.vcs (omega (arith, c.loop-vc-test.true, c.channels_of_class-first.ensures.within)))
          ∙ ap (λ b. (port && x) || b) (c.loop-vc.invariant r t k way)
          ∙ and-or port x (nat_lt (k % f.vcs) vc && takes (k % f.vcs))
          ∙ ap (λ b. port && b) (and_next x (nat_lt (k % f.vcs) vc) (takes (k % f.vcs)) (λ e. ap takes (eqb-true (k % f.vcs) vc e) ∙ here ∙ w.if-takes_of_class.true))
          ∙ next
      | else-takes_of_class w ↦ ap (λ set. has_bit set k) w.set-is ∙ c.loop-vc.invariant r t k way
          ∙ ap (λ b. port && b) (and_next_not x (nat_lt (k % f.vcs) vc) (takes (k % f.vcs)) (λ e. ap takes (eqb-true (k % f.vcs) vc e) ∙ here ∙ w.if-takes_of_class.false))
          ∙ next
    ]

pub returns : goal.returns
returns c = λ r t k way.
    let f = c.args.fitting.now.map.now.sizes in
    c.loop-vc.invariant r t k way
    ∙ ap (λ b. nat_eq (k / f.vcs) c.args.port && b)
    (and-implied (nat_lt (k % f.vcs) c.loop-vc.vc) _
    (λ e.
    let below = takes_channel-below f.shape f.vcs f.classes c.args.fitting.now.rule.now c.args.class (coordinates f.shape.radix r) (coordinates f.shape.radix t) c.args.port (k % f.vcs) e in
    lt-ltb (k % f.vcs) c.loop-vc.vc (omega (arith, below, c.loop-vc-test.false, c.channels_of_class-first.ensures.end))))
