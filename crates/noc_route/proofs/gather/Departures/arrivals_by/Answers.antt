use Rattle.std.proofs.Common.{◌≡◌, ℕ, ◌+◌, ◌*◌, ◌/◌, ◌<◌, ◌≤◌, ◌∙◌, true, ap, arith, get_or, length, sym, subst}
use Rattle.std.specs.Prelude.{◌&&◌, nat_eq, nat_le, nat_lt, not, if◌then◌else◌}
use Rattle.std.proofs.lemmas.Bool.{eq-eqb, eqb-true, ne_eqb}
use Rattle.std.proofs.lemmas.List.{get_or_default}
use Rattle.noc_route.specs.Trimming.{routes_in, comes_in}
use Rattle.noc_route.proofs.BoolLemmas.{and_where}
use Rattle.noc_route.proofs.ColumnLemmas.{port-ends}
use Rattle.noc_route.proofs.TrimLemmas.{port-span_unless, comes_in-local, comes_in-none, brought}
use Rattle.noc_route.proofs.gather.Departures.arrivals_by.Goals as goal
use Rattle.noc_route.proofs.gather.Departures.arrivals_by.Goals.{then-router-dst, else-router-dst}

pub returns-then-port-sizes : goal.returns-then-port-sizes
returns-then-port-sizes c = λ sets i.
    let f = c.args.self.now.map.now.sizes in
    let here = nat_eq c.args.router c.args.dst in
    let count : c.if-router-dst.count ≡ (if here then 0 else f.vcs) = elim c.if-router-dst.branch [
      | then-router-dst w ↦ let e = eq-eqb c.args.router c.args.dst w.if-router-dst.true in rw e w.count-is
      | else-router-dst w ↦ let e = ne_eqb c.args.router c.args.dst w.if-router-dst.false in rw e w.count-is
    ] in
    let local : nat_eq (i / f.vcs) c.args.port ≡ true → not here ≡ comes_in (routes_in f sets) c.args.self.now.outs.now c.args.class c.args.router c.args.dst i = λ e.
    let same = eqb-true (i / f.vcs) c.args.port e in
    sym (comes_in-local (routes_in f sets) c.args.self.now.outs.now c.args.class c.args.router c.args.dst i (eq-eqb _ _ (omega (arith, same, c.if-port-sizes.true, f.all_ports)))) in
    c.span.ensures i
    ∙ ap (λ n. nat_le (c.args.port * f.vcs) i && nat_lt i (c.args.port * f.vcs + n)) count
    ∙ port-span_unless f.vcs c.args.port i here f.some_vcs
    ∙ and_where _ _ _ local

pub returns-in-Some : goal.returns-in-Some
returns-in-Some c = λ sets i.
    let f = c.args.self.now.map.now.sizes in
    let outs = c.args.self.now.outs.now in
    let within : c.page.result < length outs = let P : ℕ → Type 0 = λ n. c.page.result < n in subst P (sym c.args.self.now.long) c.page.ensures.within in
    let had = get_or_default outs c.page.result c.index-self-page.result 0 within ∙ ap (λ j. get_or outs j 0) c.page.ensures.value in
    c.moved.ensures i
    ∙ brought (routes_in f sets) outs c.args.class c.args.router c.args.dst c.args.port c.in-Some.sender c.in-Some.out_port (get_or outs c.page.result c.index-self-page.result) i f.some_vcs
    (λ home. c.if-port-sizes.false (omega (arith, home, f.all_ports))) (sym c.link.ensures.value ∙ c.in-Some.is) had

pub returns-in-None : goal.returns-in-None
returns-in-None c = λ sets i.
    let f = c.args.self.now.map.now.sizes in
    c.empty.ensures.members i
    ∙ sym (comes_in-none (routes_in f sets) c.args.self.now.outs.now c.args.class c.args.router c.args.dst c.args.port i (λ home. c.if-port-sizes.false (omega (arith, home, f.all_ports))) (sym c.link.ensures.value ∙ c.in-None.is))

pub overflow_mul-port : goal.overflow_mul-port
overflow_mul-port c = omega (arith, port-ends c.args.self.now.map.now.sizes c.args.port c.requires.port)

pub span-requires : goal.span-requires
span-requires c =
    let f = c.args.self.now.map.now.sizes in
    let few : c.if-router-dst.count ≤ f.vcs = elim c.if-router-dst.branch [
      | then-router-dst w ↦ omega (arith, w.count-is)
      | else-router-dst w ↦ omega (arith, w.count-is)
    ] in
    omega (arith, port-ends f c.args.port c.requires.port, few)

pub bounds-self-page : goal.bounds-self-page
bounds-self-page c = let P : ℕ → Type 0 = λ n. c.page.result < n in subst P (sym c.args.self.now.long) c.page.ensures.within

pub offset_bounds-self-page : goal.offset_bounds-self-page
offset_bounds-self-page c =
    let within : c.page.result < length c.args.self.now.outs.now = let P : ℕ → Type 0 = λ n. c.page.result < n in subst P (sym c.args.self.now.long) c.page.ensures.within in
    omega arith

pub overflow_mul-out_port : goal.overflow_mul-out_port
overflow_mul-out_port c = omega (arith, port-ends c.args.self.now.map.now.sizes c.in-Some.out_port (omega (arith, c.in-Some.ensures.range.1)))

pub overflow_mul-port-in-Some : goal.overflow_mul-port-in-Some
overflow_mul-port-in-Some c = omega (arith, port-ends c.args.self.now.map.now.sizes c.args.port c.requires.port)

pub moved-requires-clause-from : goal.moved-requires-clause-from
moved-requires-clause-from c =
    let f = c.args.self.now.map.now.sizes in
    omega (arith, port-ends f c.in-Some.out_port (omega (arith, c.in-Some.ensures.range.1)), f.some_vcs)

pub moved-requires-clause-room : goal.moved-requires-clause-room
moved-requires-clause-room c = omega (arith, port-ends c.args.self.now.map.now.sizes c.args.port c.requires.port)
