use Rattle.std.proofs.Common.{◌≡◌, ◌≢◌, ℕ, ◌+◌, ◌/◌, ◌<◌, ◌∙◌, List, Some, get_or, set, length, refl, ap, sym, arith, below_more, get_or-set_same, get_or-set_other}
use Rattle.std.specs.Prelude.{◌&&◌, ◌||◌, nat_eq}
use Rattle.noc_packet.specs.Set.{has_bit}
use Rattle.noc_topo.proofs.LinkLemmas.{link_back, neighbour-range}
use Rattle.noc_route.specs.Routes.{page_of}
use Rattle.std.proofs.lemmas.List.{get_or_default}
use Rattle.noc_route.specs.Trimming.{routes_in, comes_in}
use Rattle.noc_route.proofs.ColumnLemmas.{port-ends, pages-end}
use Rattle.noc_route.proofs.TrimLemmas.{brought}
use Rattle.noc_route.proofs.gather.Departures.arrive_by.Goals as goal

pub loop-dst-init : goal.loop-dst-init
loop-dst-init c = record { done = λ sets t i l. absurd (omega arith); rest = λ t l. refl }

pub loop-dst-preserved : goal.loop-dst-preserved
loop-dst-preserved c =
    let f = c.args.self.now.map.now.sizes in
    let before = c.args.coming.now in
    let coming = c.loop-dst.coming in
    let dst = c.loop-dst.dst in
    let more = c.either.result in
    let here : dst < length coming = omega (arith, c.loop-dst-test.true, c.loop-dst.auto.coming) in
    let had : c.index-coming-dst.result ≡ get_or before dst 0
    = c.index-coming-dst.is ∙ get_or_default coming dst c.index-coming-dst.result 0 here ∙ c.loop-dst.invariant.rest dst (omega arith) in
    let comes = λ (sets : List ℕ) (t i : ℕ). nat_eq (i / f.vcs) c.args.port && comes_in (routes_in f sets) c.args.self.now.outs.now c.args.class c.args.router t i in
    record {
      done = λ sets t i l.
          below_more (λ t. has_bit (get_or (set coming dst more) t 0) i ≡ (has_bit (get_or before t 0) i || comes sets t i)) dst
          (λ t l. let other : t ≢ dst = omega arith in ap (λ s. has_bit s i) (get_or-set_other coming dst t more 0 other) ∙ c.loop-dst.invariant.done sets t i l)
          (ap (λ s. has_bit s i) (get_or-set_same coming dst more 0 here) ∙ c.either.ensures i
          ∙ ap (λ b. has_bit c.index-coming-dst.result i || b) (c.arrivals_by-more.ensures sets i)
          ∙ ap (λ s. has_bit s i || comes sets dst i) had)
          t l;
      rest = λ t l. let other : t ≢ dst = omega arith in get_or-set_other coming dst t more 0 other ∙ c.loop-dst.invariant.rest t (omega arith);
    }

pub returns-in-Some : goal.returns-in-Some
returns-in-Some c = λ sets t i l.
    let f = c.args.self.now.map.now.sizes in
    let outs = c.args.self.now.outs.now in
    let first = c.page-first.result in
    let sender = c.in-Some.sender in
    let linked = sym c.link.ensures.value ∙ c.in-Some.is in
    let back = link_back f.shape c.args.router c.args.port sender c.in-Some.out_port f.grid c.requires.router linked in
    let port = (neighbour-range f.shape sender c.in-Some.out_port (Some (c.args.router, c.args.port)) f.grid back.node back.back).1 in
    let place : first + t ≡ page_of f.shape f.classes c.args.class sender t = omega (arith, c.page-first.ensures.value) in
    c.bring.ensures t i (omega (arith, l, c.requires.coming))
    ∙ ap (λ b. has_bit (get_or c.args.coming.now t 0) i || b)
    (brought (routes_in f sets) outs c.args.class c.args.router t c.args.port sender c.in-Some.out_port (get_or outs (first + t) 0) i f.some_vcs
    (λ home. omega (arith, port, home)) linked (ap (λ j. get_or outs j 0) place))

pub returns-after-loop-dst : goal.returns-after-loop-dst
returns-after-loop-dst c = λ sets t i l. c.loop-dst.invariant.done sets t i (omega (arith, l, c.loop-dst-test.false, c.requires.coming))

pub overflow_mul-out_port : goal.overflow_mul-out_port
overflow_mul-out_port c = omega (arith, port-ends c.args.self.now.map.now.sizes c.in-Some.out_port (omega (arith, c.in-Some.ensures.range.1)))

pub overflow_mul-port : goal.overflow_mul-port
overflow_mul-port c = omega (arith, port-ends c.args.self.now.map.now.sizes c.args.port c.requires.port)

pub bring-requires-clause-outs : goal.bring-requires-clause-outs
bring-requires-clause-outs c =
    let f = c.args.self.now.map.now.sizes in
    omega (arith, pages-end f c.args.class c.in-Some.sender c.page-first.result c.requires.class c.in-Some.ensures.range.0 c.page-first.ensures.value, c.args.self.now.long, c.requires.coming)

pub bring-requires-clause-from : goal.bring-requires-clause-from
bring-requires-clause-from c =
    let f = c.args.self.now.map.now.sizes in
    omega (arith, port-ends f c.in-Some.out_port (omega (arith, c.in-Some.ensures.range.1)), f.some_vcs)

pub bring-requires-clause-room : goal.bring-requires-clause-room
bring-requires-clause-room c = omega (arith, port-ends c.args.self.now.map.now.sizes c.args.port c.requires.port)
