use Rattle.std.proofs.Common.{◌≡◌, ◌*◌, ◌∙◌, ap, arith, slice_index, sym}
use Rattle.std.specs.Prelude.{if◌then◌else◌}
use Rattle.noc_cycles.proofs.Common.{has_bit, has_bit-zero, up_by, start_in, packet_in, starts_by}
use Rattle.noc_cycles.proofs.ShiftLemmas.{up-zero}
use Rattle.noc_cycles.proofs.taking.begin_if.Goals as goal

pub returns-else-routers-ne0 : goal.returns-else-routers-ne0
returns-else-routers-ne0 c = λ r k few.
    let links = c.args.pattern.now.table.ports.links in
    let zero : c.args.routers ≡ 0 = omega arith in
    let number = (start_in (starts_by c.args.starts.now) (slice_index c.args.queue.now r)).number in
    let old = packet_in c.args.packets.now r k in
    sym (ap (λ b. if b then number else old) (ap (λ s. has_bit (up_by s (links.width * links.vcs)) k) (c.requires.none zero r) ∙ ap (λ s. has_bit s k) (up-zero (links.width * links.vcs)) ∙ has_bit-zero k))
