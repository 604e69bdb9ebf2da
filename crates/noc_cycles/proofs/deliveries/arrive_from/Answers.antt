use Rattle.std.proofs.Common.{◌≡◌, ◌∙◌, ap, arith, refl, slice_index, sym}
use Rattle.noc_cycles.proofs.Common.{has_bit, has_bit-zero, packet_in, true≢false}
use Rattle.noc_cycles.proofs.ArrivalLemmas.{arrivals-next}
use Rattle.noc_cycles.proofs.deliveries.arrive_from.Goals as goal

pub loop-rest-init : goal.loop-rest-init
loop-rest-init c = record { part = λ r e. e; some = λ r a b. absurd (true≢false (sym a ∙ b)); others = λ p none. refl }

pub bounds-arrivals-packet : goal.bounds-arrivals-packet
bounds-arrivals-packet c =
    let held = c.requires.held c.least-router.result c.least-router.ensures.within (c.loop-rest.invariant.part c.least-router.result c.least-router.ensures.least.0) in
    omega (arith, held, c.loop-rest.auto.arrivals)

pub loop-rest-preserved : goal.loop-rest-preserved
loop-rest-preserved c =
    let t = c.least-router.result in
    let few = c.least-router.ensures.within in
    let least = c.least-router.ensures.least in
    let held = c.requires.held t few (c.loop-rest.invariant.part t least.0) in
    let long = c.loop-rest.auto.arrivals in
    arrivals-next c.args.cycle c.args.routers c.loop-rest.rest c.but_lowest-rest.result t (λ r. packet_in c.args.packets.now r c.args.channel) (slice_index c.args.arrivals.now) c.loop-rest.arrivals least few c.but_lowest-rest.ensures.members (omega (arith, held, long))
    c.loop-rest.invariant

pub returns-clause-some : goal.returns-clause-some
returns-clause-some c = λ r few e. let none : c.loop-rest.rest ≡ 0 = omega arith in c.loop-rest.invariant.some r e (ap (λ n. has_bit n r) none ∙ has_bit-zero r)

pub returns-clause-others : goal.returns-clause-others
returns-clause-others c = c.loop-rest.invariant.others
