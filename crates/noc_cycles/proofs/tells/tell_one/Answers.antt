use Rattle.std.proofs.Common.{◌≡◌, ℕ, ◌<◌, ◌≤◌, ◌*◌, ◌+◌, ◌%◌, [], Some, ap, ap₂, sym, subst, ◌∙◌, arith, slice_index, slice_index_or}
use Rattle.noc_cycles.proofs.Common.{local_port, opposite, packet_in, apart}
use Rattle.noc_cycles.proofs.BroughtLemmas.{opposite-below}
use Rattle.noc_cycles.proofs.TellLemmas.{none-local, none-over, noted-over}
use Rattle.noc_cycles.proofs.tells.tell_one.Goals as goal

-- a channel at the other end of a link is one of few
there-few : (port width vcs vc there : ℕ) → width % 2 ≡ 0 → port < width → vc < vcs → (width + 1) * vcs ≤ 64 → there ≡ opposite port → there * vcs + vc < 64
there-few port width vcs vc there pairs l few all is =
    let below = apart (opposite port) width vcs vc (opposite-below port width pairs l) few in
    let same : there * vcs ≡ opposite port * vcs = ap (λ x. x * vcs) is in
    let whole : (width + 1) * vcs ≡ width * vcs + vcs = omega arith in
    omega (arith, below, same, whole, all)

pub overflow_mul-there : goal.overflow_mul-there
overflow_mul-there c =
    let ports = c.args.pattern.now.table.ports in
    let few = there-few c.from-port.result ports.links.width ports.links.vcs c.from-vc.result c.opposite.result ports.pairs c.if-port-links.true (subst (λ v. v < ports.links.vcs) (sym c.from-vc.ensures) c.requires.vc) c.args.pattern.now.table.few c.opposite.ensures in
    omega (arith, few)

pub overflow_add-there : goal.overflow_add-there
overflow_add-there c =
    let ports = c.args.pattern.now.table.ports in
    let few = there-few c.from-port.result ports.links.width ports.links.vcs c.from-vc.result c.opposite.result ports.pairs c.if-port-links.true (subst (λ v. v < ports.links.vcs) (sym c.from-vc.ensures) c.requires.vc) c.args.pattern.now.table.few c.opposite.ensures in
    omega (arith, few)

pub note-requires-clause-channel : goal.note-requires-clause-channel
note-requires-clause-channel c =
    let ports = c.args.pattern.now.table.ports in
    there-few c.from-port.result ports.links.width ports.links.vcs c.from-vc.result c.opposite.result ports.pairs c.if-port-links.true (subst (λ v. v < ports.links.vcs) (sym c.from-vc.ensures) c.requires.vc) c.args.pattern.now.table.few c.opposite.ensures

pub returns-then-node-clause-noted : goal.returns-then-node-clause-noted
returns-then-node-clause-noted c = λ g wired known.
    let ports = c.args.pattern.now.table.ports in
    let grant = c.args.grant.now in
    let packets = c.args.block.now.packets in
    let channel = c.args.channel in
    let s = 64 * c.args.around.now.block + grant.router in
    let link : grant.port < local_port g = subst (λ p. p < local_port g) c.from-port.ensures (subst (λ w. c.from-port.result < w) wired.ports c.if-port-links.true) in
    noted-over g wired.sound s grant.port grant.vc (packet_in packets grant.router channel) ports.links.vcs _ _ c.args.notes.now.items c.note.new.notes.items
    (ap₂ (λ r p. slice_index (slice_index_or c.args.around.now.ends r []) p) c.from-router.ensures c.from-port.ensures ∙ wired.tables.ends grant.router grant.port c.requires.router known link) c.if-node.true
    (ap₂ (λ o v. o * ports.links.vcs + v) (c.opposite.ensures ∙ ap opposite c.from-port.ensures) c.from-vc.ensures)
    (c.note.ensures.here ∙ ap (λ r. Some (packet_in packets r channel)) c.from-router.ensures) c.note.ensures.others

pub returns-else-node-clause-noted : goal.returns-else-node-clause-noted
returns-else-node-clause-noted c = λ g wired known.
    let ports = c.args.pattern.now.table.ports in
    let grant = c.args.grant.now in
    let s = 64 * c.args.around.now.block + grant.router in
    let link : grant.port < local_port g = subst (λ p. p < local_port g) c.from-port.ensures (subst (λ w. c.from-port.result < w) wired.ports c.if-port-links.true) in
    none-over g wired.sound s grant.port grant.vc (packet_in c.args.block.now.packets grant.router c.args.channel) ports.links.vcs _ c.args.notes.now.items known
    (ap₂ (λ r p. slice_index (slice_index_or c.args.around.now.ends r []) p) c.from-router.ensures c.from-port.ensures ∙ wired.tables.ends grant.router grant.port c.requires.router known link) c.if-node.false

pub returns-else-port-links-clause-noted : goal.returns-else-port-links-clause-noted
returns-else-port-links-clause-noted c = λ g wired known.
    let ports = c.args.pattern.now.table.ports in
    let grant = c.args.grant.now in
    let beyond : ports.links.width ≤ c.from-port.result = omega arith in
    none-local g wired.sound (64 * c.args.around.now.block + grant.router) grant.port grant.vc (packet_in c.args.block.now.packets grant.router c.args.channel) ports.links.vcs c.args.notes.now.items
    (subst (λ p. local_port g ≤ p) c.from-port.ensures (subst (λ w. w ≤ c.from-port.result) wired.ports beyond))
