use Rattle.std.proofs.Common.{◌≡◌, ℕ, ◌+◌, ◌∙◌, Bool, ap, sym, arith, slice_index}
use Rattle.std.specs.Prelude.{◌&&◌, nat_eq, if◌then◌else◌}
use Rattle.noc_columns.proofs.InjectionLemmas.{side-index}
use Rattle.noc_cycles.proofs.Common.{has_bit, up_by, start_in, packet_in, port_at, starts_by, set_below, word, member-is}
use Rattle.noc_cycles.proofs.BeginLemmas.{begun-next, none-up, up-next}
use Rattle.noc_cycles.proofs.begins.begin_packets.Goals as goal

pub loop-v-init : goal.loop-v-init
loop-v-init c = λ r k few. sym
    (ap
    (λ b. if b then (start_in (starts_by c.args.starts.now) (slice_index c.args.queue.now r)).number else packet_in c.args.packets.now r k)
    (none-up c.args.links (λ j. has_bit (word ((port_at c.args.local.now 0).index j) c.args.begun.now) r) k))

pub begin_in-requires-clause-queue : goal.begin_in-requires-clause-queue
begin_in-requires-clause-queue c = λ r few e.
    let n = port_at c.args.local.now 0 in
    let v = c.loop-v.v in
    c.requires.queue r v few
    (member-is n r v c.args.begun.now (omega arith) ∙ ap (λ i. has_bit (word i c.args.begun.now) r) (side-index c.args.local.now v c.requires.width) ∙ e)

pub loop-v-preserved : goal.loop-v-preserved
loop-v-preserved c = λ r k few.
    let v = c.loop-v.v in
    let begun = c.args.begun.now in
    let links = c.args.links in
    let test = λ (j : ℕ). has_bit (word ((port_at c.args.local.now 0).index j) begun) r in
    let number = (start_in (starts_by c.args.starts.now) (slice_index c.args.queue.now r)).number in
    let old = packet_in c.args.packets.now r k in
    let now = packet_in c.loop-v.packets r k in
    c.begin_in.ensures r k few
    ∙ ap (λ i. if has_bit (word i begun) r && nat_eq k (links + v) then number else now) (sym (side-index c.args.local.now v c.requires.width))
    ∙ begun-next (test v && nat_eq k (links + v)) (has_bit (up_by (set_below v test) links) k) number old now (c.loop-v.invariant r k few)
    ∙ sym (ap (λ (b : Bool). if b then number else old) (up-next links v test k))

pub returns : goal.returns
returns c = λ r k few.
    let test = λ (j : ℕ). has_bit (word ((port_at c.args.local.now 0).index j) c.args.begun.now) r in
    let all : c.loop-v.v ≡ c.args.local.now.vcs = omega arith in
    c.loop-v.invariant r k few
    ∙ ap (λ n. if has_bit (up_by (set_below n test) c.args.links) k then (start_in (starts_by c.args.starts.now) (slice_index c.args.queue.now r)).number else packet_in c.args.packets.now r k) all
