use Rattle.std.specs.Prelude.{Option, find, nat_eq, option_and_then}
use Rattle.std.proofs.Common.{◌≡◌, ℕ, refl, ap, sym, ◌∙◌, subst, arith}
use Rattle.std.proofs.lemmas.List.{get_or_default}
use Rattle.noc_packet.specs.declared.packet.Packet.{Packet}
use Rattle.noc_view.specs.View.{View}
use Rattle.noc_theory.specs.Good.{IsGoodPacket}
use Rattle.noc_theory.specs.Network.{packet_at}
use Rattle.noc_theory.specs.Lockstep.{view_at}
use Rattle.noc_theory.proofs.join.ArrivalLemmas.{arrival-noted}
use Rattle.noc_net.specs.Parts.{run_in, setup_in}
use Rattle.noc_net.proofs.ReaderLemmas.{count_routers, router_at}
use Rattle.noc_net.proofs.parts.Parts.arrival.Goals as goal

pub index-requires-2 : goal.index-requires-2
index-requires-2 c =
    let parts = c.args.self.now in
    let sound : IsGoodPacket parts.relation c.index.result.now = subst (IsGoodPacket parts.relation) (sym c.index.ensures) (c.requires.parts.good.packets c.args.packet c.index.result.now c.requires.packet) in
    omega (arith, sound.destination, count_routers parts c.requires.parts)

pub returns : goal.returns
returns c =
    let parts = c.args.self.now in
    let net = setup_in parts in
    let sound : IsGoodPacket parts.relation c.index.result.now = subst (IsGoodPacket parts.relation) (sym c.index.ensures) (c.requires.parts.good.packets c.args.packet c.index.result.now c.requires.packet) in
    let packet : c.index.result.now ≡ packet_at net c.args.packet = c.index.ensures ∙ get_or_default parts.packets.items c.args.packet c.index.result.now _ c.requires.packet in
    let router : c.index-2.result.now ≡ view_at net parts.count c.index.result.now.destination =
    router_at parts c.requires.parts (run_in parts) refl c.index.result.now.destination c.index-2.result.now sound.destination c.index-2.ensures in
    let noted : View → Option ℕ = λ v. option_and_then (λ (one : ℕ × Option ℕ). one.1) (find (λ (one : ℕ × Option ℕ). nat_eq one.0 c.args.packet) v.ends) in
    c.arrival.ensures ∙ ap noted router ∙ ap (λ (p : Packet). noted (view_at net parts.count p.destination)) packet ∙ arrival-noted net parts.count c.args.packet c.requires.packet
