use Rattle.std.proofs.Common.{◌≡◌, ◌<◌, Some, length, arith, refl, subst, sym}
use Rattle.std.specs.Prelude.{slice_get}
use Rattle.std.proofs.lemmas.Option.{slice_get_read}
use Rattle.noc_theory.specs.Network.{Run}
use Rattle.noc_net.proofs.network.Network.packet.Goals as goal

pub index-requires : goal.index-requires
index-requires c =
    let n = c.self.inside in
    let within : c.args.number < length n.parts.packets.items = subst (λ (u : Run). c.args.number < length u.net.packets) (sym c.self.view_is) c.requires in
    omega (arith, within, n.parts.packets.ok.0)

pub returns : goal.returns
returns c =
    let packets = c.self.inside.parts.packets.items in
    let within : c.args.number < length packets = subst (λ (u : Run). c.args.number < length u.net.packets) (sym c.self.view_is) c.requires in
    subst (λ (u : Run). slice_get u.net.packets c.args.number ≡ Some c.index.result.now) c.self.view_is (slice_get_read packets (length packets) c.args.number c.index.result.now refl within c.index.ensures)
