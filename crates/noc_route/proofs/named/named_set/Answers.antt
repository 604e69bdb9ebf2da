use Rattle.std.proofs.Common.{◌≡◌, ℕ, ◌<◌, ◌/◌, ◌%◌, Option, Some, sym, subst, ap, ◌∙◌, arith}
use Rattle.std.specs.Prelude.{◌||◌, ◌&&◌, IfSome, nat_lt, nat_eq}
use Rattle.std.proofs.lemmas.Bool.{eqb-true, eq-eqb, ne_eqb, le-ltb, lt-ltb, and_parts}
use Rattle.noc_packet.specs.Set.{has_bit}
use Rattle.noc_topo.specs.Shape.{coordinates, local_port, ports}
use Rattle.noc_route.specs.Entered.{parts_of}
use Rattle.noc_route.specs.Relation.{is_led, takes_channel}
use Rattle.noc_steps.specs.Ways.{is_of_class}
use Rattle.noc_route.specs.Routes.{width}
use Rattle.noc_route.proofs.BoolLemmas.{same_test, lt_next, and_where, and-implied, either_next}
use Rattle.noc_route.proofs.NamedLemmas.{and_next_not}
use Rattle.noc_route.proofs.RuleLemmas.{is_led-past}
use Rattle.noc_route.proofs.WayLemmas.{port_test, is_led-home, is_led-away}
use Rattle.noc_route.proofs.named.named_set.Goals as goal
use Rattle.noc_route.proofs.named.named_set.Goals.{then-port-lt-LINKS+then-takes_port, else-port-lt-LINKS, else-port-lt-LINKS-via-then-port-lt-LINKS+else-takes_port, else-port-lt-LINKS-via-else-port-lt-LINKS}

pub returns-then-router-dst : goal.returns-then-router-dst
returns-then-router-dst c = λ k.
    let g = parts_of c.args.fitting.now in
    let home = nat_eq (k / g.vcs) (local_port g.grid) in
    let class = is_of_class g.vcs g.classes c.args.class (k % g.vcs) in
    c.ejection.ensures k
    ∙ sym
    (ap (λ b. nat_lt k (width g.grid g.vcs) && b) (is_led-home g c.args.class c.args.router c.args.dst (k / g.vcs) (k % g.vcs) (eq-eqb c.args.router c.args.dst c.if-router-dst.true))
    ∙ and-implied (nat_lt k (width g.grid g.vcs)) (home && class)
    (λ e. sym (port_test k (ports g.grid) g.vcs c.args.fitting.now.map.now.sizes.some_vcs) ∙ lt-ltb (k / g.vcs) (ports g.grid) (omega (arith, eqb-true (k / g.vcs) (local_port g.grid) (and_parts home class e).0))))

-- what is known of the one port that the rule takes
known : (o : Option ℕ) (port bound : ℕ) → IfSome o (λ p. p < bound) → o ≡ Some port → port < bound
known o port bound h e = let P : Option ℕ → Type 0 = λ o. IfSome o (λ p. p < bound) in subst P e h

pub channels-requires-clause-port : goal.channels-requires-clause-port
channels-requires-clause-port c = let f = c.args.fitting.now.map.now.sizes in omega (arith, known _ _ (local_port f.shape) c.way_of-way.ensures.link c.in-Some.ensures.towards, f.few_ports, f.all_ports)

pub channels-requires-clause-exists : goal.channels-requires-clause-exists
channels-requires-clause-exists c = let f = c.args.fitting.now.map.now.sizes in omega (arith, known _ _ (local_port f.shape) c.way_of-way.ensures.link c.in-Some.ensures.towards)

pub returns-in-Some : goal.returns-in-Some
returns-in-Some c = λ k.
    let f = c.args.fitting.now.map.now.sizes in
    let g = parts_of c.args.fitting.now in
    let port = c.in-Some.port in
    let q = k / g.vcs in
    let v = k % g.vcs in
    let takes = λ (p : ℕ). takes_channel g.grid g.vcs g.classes g.rule c.args.class (coordinates g.grid.radix c.args.router) (coordinates g.grid.radix c.args.dst) p v in
    let led = is_led g c.args.class c.args.router c.args.dst q v in
    let differ = ne_eqb c.args.router c.args.dst c.if-router-dst.false in
    let turned : nat_eq q port ≡ nat_eq port q = same_test _ _ (λ e. eq-eqb port q (sym (eqb-true q port e))) (λ e. eq-eqb q port (sym (eqb-true port q e))) in
    let away : (nat_eq port q && takes q) ≡ led
    = sym (is_led-away g c.args.class c.args.router c.args.dst q v differ ∙ ap (λ b. b && takes q) (c.in-Some.ensures.only g.grid c.args.router c.args.dst q c.way_of-way.ensures.way)) in
    c.channels.ensures c.args.router c.args.dst k c.way_of-way.ensures.way
    ∙ and_where (nat_eq q port) (takes port) (takes q) (λ e. ap takes (sym (eqb-true q port e)))
    ∙ ap (λ b. b && takes q) turned
    ∙ away
    ∙ sym
    (and-implied (nat_lt k (width g.grid g.vcs)) led
    (λ e.
    let is = eqb-true port q (and_parts (nat_eq port q) (takes q) (away ∙ e)).0 in
    sym (port_test k (ports g.grid) g.vcs f.some_vcs) ∙ lt-ltb q (ports g.grid) (omega (arith, known _ _ (local_port f.shape) c.way_of-way.ensures.link c.in-Some.ensures.towards, is))))

pub loop-port-init : goal.loop-port-init
loop-port-init c = λ k.
    let f = c.args.fitting.now.map.now.sizes in
    let none = le-ltb (k / f.vcs) 0 (omega arith) in
    c.empty-set.ensures.members k ∙ sym (ap (λ b. b && is_led (parts_of c.args.fitting.now) c.args.class c.args.router c.args.dst (k / f.vcs) (k % f.vcs)) none)

pub takes_port-requires-clause-here : goal.takes_port-requires-clause-here
takes_port-requires-clause-here c = c.way_of-way.ensures.here

pub takes_port-requires-clause-there : goal.takes_port-requires-clause-there
takes_port-requires-clause-there c = c.way_of-way.ensures.there

pub loop-port-preserved : goal.loop-port-preserved
loop-port-preserved c = λ k.
    let f = c.args.fitting.now.map.now.sizes in
    let g = parts_of c.args.fitting.now in
    let port = c.loop-port.port in
    let x = nat_eq (k / g.vcs) port in
    let l = nat_lt (k / g.vcs) port in
    let led = λ (p : ℕ). is_led g c.args.class c.args.router c.args.dst p (k % g.vcs) in
    let takes = takes_channel g.grid g.vcs g.classes g.rule c.args.class (coordinates g.grid.radix c.args.router) (coordinates g.grid.radix c.args.dst) port (k % g.vcs) in
    let differ = ne_eqb c.args.router c.args.dst c.if-router-dst.false in
    let away = is_led-away g c.args.class c.args.router c.args.dst port (k % g.vcs) differ in
    let next = ap (λ b. b && led (k / g.vcs)) (sym (lt_next (k / g.vcs) port)) in
    elim c.if-port-lt-LINKS.branch [
      | then-port-lt-LINKS+then-takes_port w ↦ ap (λ set. has_bit set k) w.set-is ∙ w.either-set.ensures k
          ∙ ap (λ b. has_bit c.loop-port.set k || b) (w.channels-then-takes_port.ensures c.args.router c.args.dst k c.way_of-way.ensures.way)
          ∙ ap (λ b. b || (x && takes)) (c.loop-port.invariant k)
          ∙ either_next x l (led (k / g.vcs)) takes
          (λ e. ap led (eqb-true (k / g.vcs) port e) ∙ away ∙ ap (λ b. b && takes) (sym (w.takes_port.ensures c.args.router c.args.dst c.way_of-way.ensures.way) ∙ w.if-takes_port.true))
          ∙ next
      | else-port-lt-LINKS w ↦ ap (λ set. has_bit set k) w.set-is ∙ c.loop-port.invariant k
          ∙ and_next_not x l (led (k / g.vcs))
          (λ e. ap led (eqb-true (k / g.vcs) port e)
          ∙ (elim w.else-port-lt-LINKS.branch [
            | else-port-lt-LINKS-via-then-port-lt-LINKS+else-takes_port v ↦ away ∙ ap (λ b. b && takes) (sym (v.takes_port.ensures c.args.router c.args.dst c.way_of-way.ensures.way) ∙ v.if-takes_port.false)
            | else-port-lt-LINKS-via-else-port-lt-LINKS v ↦ is_led-past g c.args.class c.args.router c.args.dst port (k % g.vcs) c.args.fitting.now.right differ (omega (arith, v.if-port-lt-LINKS.false, f.few_ports, f.all_ports))
          ]))
          ∙ next
    ]

pub returns : goal.returns
returns c = λ k.
    let f = c.args.fitting.now.map.now.sizes in
    let end : c.loop-port.port ≡ ports f.shape = omega (arith, c.loop-port-test.false, c.loop-port.auto.port-end, f.all_ports) in
    c.loop-port.invariant k
    ∙ ap (λ b. b && is_led (parts_of c.args.fitting.now) c.args.class c.args.router c.args.dst (k / f.vcs) (k % f.vcs)) (ap (nat_lt (k / f.vcs)) end ∙ port_test k (ports f.shape) f.vcs f.some_vcs)
