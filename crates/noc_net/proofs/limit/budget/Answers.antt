use Rattle.std.proofs.Common.{◌≡◌, ℕ, ◌+◌, ◌*◌, ◌<◌, length, ap, ap₂, sym, ◌∙◌, arith}
use Rattle.std.proofs.lemmas.Nat.{mul-le}
use Rattle.noc_topo.specs.Shape.{Grid, distance}
use Rattle.noc_packet.specs.declared.packet.Packet.{Packet}
use Rattle.noc_route.specs.Routes.{Routes}
use Rattle.noc_theory.specs.Network.{Run, packet_at}
use Rattle.noc_theory.specs.Progress.{hops}
use Rattle.noc_net.proofs.LimitLemmas.{packet-good, packet-here, sum_more, sum_all}
use Rattle.noc_net.proofs.limit.budget.Goals as goal

-- the events of packet p
abbrev events : Run → ℕ → ℕ
events u p = (packet_at u.net p).length * (3 * hops u.net p + 2) + 2 * (hops u.net p + 1)

pub distance-hops-requires-clause-from : goal.distance-hops-requires-clause-from
distance-hops-requires-clause-from c =
    let p = packet-good c.args.network.now.net c.packets-packet-end.ensures.good c.loop-packet.packet c.packet-sent.result (omega (arith, c.packets-packet-end.ensures.value)) c.packet-sent.ensures in
    rw (c.shape-shape.ensures.value, c.relation.ensures) p.source

pub distance-hops-requires-clause-to : goal.distance-hops-requires-clause-to
distance-hops-requires-clause-to c =
    let p = packet-good c.args.network.now.net c.packets-packet-end.ensures.good c.loop-packet.packet c.packet-sent.result (omega (arith, c.packets-packet-end.ensures.value)) c.packet-sent.ensures in
    rw (c.shape-shape.ensures.value, c.relation.ensures) p.destination

pub loop-packet-preserved : goal.loop-packet-preserved
loop-packet-preserved c =
    let u = c.args.network.now in
    let net = u.net in
    let number = c.loop-packet.packet in
    let packet = c.packet-sent.result in
    let far = c.distance-hops.result in
    let l : c.loop-packet.packet < length net.packets = omega (arith, c.packets-packet-end.ensures.value) in
    let p = packet-good net c.packets-packet-end.ensures.good number packet l c.packet-sent.ensures in
    let here : packet ≡ packet_at net number = packet-here net number packet c.packet-sent.ensures in
    let grid : c.shape-shape.result.now ≡ net.relation.grid = c.shape-shape.ensures.value ∙ ap (λ (r : Routes). r.grid) c.relation.ensures in
    let one : c.from.result * (3 * far + 2) + 2 * (far + 1) ≡ events u number =
    ap (λ n. n * (3 * far + 2) + 2 * (far + 1)) c.from.ensures
    ∙ ap (λ h. packet.length * (3 * h + 2) + 2 * (h + 1))
    (c.distance-hops.ensures.value ∙ ap (λ (g : Grid). distance g packet.source packet.destination) grid ∙ ap (λ (q : Packet). distance net.relation.grid q.source q.destination) here)
    ∙ ap (λ (q : Packet). q.length * (3 * hops net number + 2) + 2 * (hops net number + 1)) here in
    let product = mul-le packet.length (3 * far + 2) 64 92 p.length (omega (arith, c.distance-hops.ensures.bound)) in (
      ap₂ (λ m n. m + n) c.loop-packet.invariant.0 one ∙ sym (sum_more (events u) (length net.packets) number l),
      omega (arith, c.loop-packet.invariant.1, product, c.distance-hops.ensures.bound, c.from.ensures, ap (λ n. n * (3 * far + 2)) c.from.ensures),
    )

pub returns-clause-value : goal.returns-clause-value
returns-clause-value c =
    let u = c.args.network.now in
    c.loop-packet.invariant.0 ∙ sum_all (events u) (length u.net.packets) c.loop-packet.packet (omega (arith, c.packets-packet-end.ensures.value))
