use Rattle.std.proofs.Common.{◌≢◌, ℕ, ◌+◌, ◌*◌, ◌<◌, ◌≤◌, ◌∙◌, ap, ap₂, arith, bit_or, refl, slice_index, subst, sym}
use Rattle.std.specs.Prelude.{if◌then◌else◌, not, nat_eq}
use Rattle.std.proofs.lemmas.List.{length-map}
use Rattle.noc_packet.proofs.SetLemmas.{has_bit-below}
use Rattle.noc_columns.specs.Channels.{links_by}
use Rattle.noc_columns.specs.Sources.{start_by}
use Rattle.noc_cycles.proofs.Common.{has_bit, less, up_by, packet_in, channels_of, links_of, port_at, begun_if, sent_if, source_in, starts_by, set_of, blank, held_at}
use Rattle.noc_cycles.proofs.FreshLemmas.{is-some}
use Rattle.noc_cycles.proofs.InjectLemmas.{Injects, begun-now, comes-apart, comes-due, comes-queue, goes-left, has-injected, injects-so, none-begun, some-injected, still-due}
use Rattle.noc_cycles.proofs.PartLemmas.{in-parts, links-kept}
use Rattle.noc_cycles.proofs.taking.inject_flits.Goals as goal

-- ---- once all has come
all-sends : (c : goal.After-bring) (r : ℕ) → r < 64
    → Injects c.args.pattern.now (starts_by c.args.starts.now) c.args.cycle c.args.block.now r (set_of (port_at c.args.pattern.now.table.ports.local 0) r c.inject-went.new.injection.went)
    (set_of (port_at c.args.pattern.now.table.ports.local 0) r c.inject-went.new.injection.begun) (has_bit c.inject-went.result.0 r) (has_bit c.inject-went.result.1 r)
all-sends c r few =
    let pattern = c.args.pattern.now in
    let local = port_at pattern.table.ports.local 0 in
    let block = c.args.block.now in
    let injection = c.inject-went.new.injection in
    injects-so pattern (starts_by c.args.starts.now) c.args.cycle block r few c.pass.new.self (set_of local r injection.went) (set_of local r injection.begun) (has_bit c.inject-went.result.0 r) (has_bit c.inject-went.result.1 r) c.requires
    c.pass.ensures.at c.pass.ensures.due (c.inject-went.ensures.went r blank) (λ e. c.inject-went.ensures.begun r c.args.cycle (slice_index block.sources.due.at r) blank e)
    (c.inject-went.ensures.some_went r) (c.inject-went.ensures.some_begun r)

pub returns-clause-injected : goal.returns-clause-injected
returns-clause-injected c = λ layout r fits few.
    let pattern = c.args.pattern.now in
    let local = port_at pattern.table.ports.local 0 in
    let block = c.args.block.now in
    let starts = starts_by c.args.starts.now in
    let ports = pattern.table.ports in
    let old = c.args.came.now in
    let came = links_by (set_of (links_of ports.links) r) old in
    let new = c.bring.new.came in
    let last = has_bit c.send_all-last.result r in
    let flits = c.bring.ensures.flits r in
    let tails = c.bring.ensures.tails r ∙ ap (λ w. if last then w else 0) flits in
    let h = held_at ports block r in
    let k = record h {
      packet = packet_in c.begin_if.new.packets r;
      injecting = set_of local r c.bring.new.injection.injecting;
      source = source_in c.send_all-last.new.sources r;
    } in
    has-injected (all-sends c r few) layout fits few came k (set_of (channels_of ports) r new.flits) (set_of (channels_of ports) r new.tails) last (c.send_all-last.ensures.last r few)
    (in-parts ports r new.flits ∙ ap₂ bit_or (links-kept pattern r old.flits new.flits (λ j l. (c.bring.ensures.links j l).0)) (ap (λ w. up_by w (ports.links.width * ports.links.vcs)) flits))
    (in-parts ports r new.tails ∙ ap₂ bit_or (links-kept pattern r old.tails new.tails (λ j l. (c.bring.ensures.links j l).1)) (ap (λ w. up_by w (ports.links.width * ports.links.vcs)) tails))
    (c.bring.ensures.injecting r ∙ ap₂ (λ i t. less (bit_or (set_of local r i) (set_of local r c.inject-went.new.injection.begun)) t) c.inject-went.ensures.injecting tails)
    (λ i. c.begin_if.ensures r i few)
    (c.send_all-last.ensures.sources r few ∙ ap (λ a. begun_if starts (has_bit c.inject-went.result.1 r) (sent_if starts (has_bit c.inject-went.result.0 r) (record h.source { due = slice_index a r }))) c.pass.ensures.at)
    refl

pub returns-clause-punctual : goal.returns-clause-punctual
returns-clause-punctual c = record {
  due = c.send_all-last.ensures.due
      (λ r few e. subst (λ a. slice_index a r ≤ c.args.cycle) (sym c.pass.ensures.at) (comes-due (all-sends c r few) e))
      (c.pass.ensures.due c.requires.before c.requires.earlier c.requires.punctual.due);
  injected = λ r few some. on r few some;
}
  where
    on : (r : ℕ) → r < 64 → set_of (port_at c.args.pattern.now.table.ports.local 0) r c.bring.new.injection.injecting ≢ 0 → slice_index c.send_all-last.new.sources.due.at r ≤ c.args.cycle
    on r few some =
        let pattern = c.args.pattern.now in
        let local = port_at pattern.table.ports.local 0 in
        let block = c.args.block.now in
        let starts = starts_by c.args.starts.now in
        let h = held_at pattern.table.ports block r in
        let last = has_bit c.send_all-last.result r in
        let tails = c.bring.ensures.tails r ∙ ap (λ w. if last then w else 0) (c.bring.ensures.flits r) in
        still-due (all-sends c r few) last (set_of local r c.bring.new.injection.injecting) (source_in c.send_all-last.new.sources r) (c.send_all-last.ensures.last r few)
        (c.bring.ensures.injecting r ∙ ap₂ (λ i t. less (bit_or (set_of local r i) (set_of local r c.inject-went.new.injection.begun)) t) c.inject-went.ensures.injecting tails)
        (c.send_all-last.ensures.sources r few ∙ ap (λ a. begun_if starts (has_bit c.inject-went.result.1 r) (sent_if starts (has_bit c.inject-went.result.0 r) (record h.source { due = slice_index a r }))) c.pass.ensures.at)
        some

pub returns-clause-some : goal.returns-clause-some
returns-clause-some c = λ r.
    let local = port_at c.args.pattern.now.table.ports.local 0 in
    let injection = c.inject-went.new.injection in
    some-injected c.inject-went.result.0 c.inject-went.result.1 (set_of local r injection.went) (set_of local r injection.begun) r (c.inject-went.ensures.some_went r) (c.inject-went.ensures.some_begun r)
    ∙ ap (λ s. not (nat_eq s 0)) (sym (c.bring.ensures.flits r))

-- ---- where packets begin
pub begin_if-requires-clause-none : goal.begin_if-requires-clause-none
begin_if-requires-clause-none c = λ none r. none-begun c.inject-went.result.1 (set_of (port_at c.args.pattern.now.table.ports.local 0) r c.inject-went.new.injection.begun) r (c.inject-went.ensures.some_begun r) none

pub begin_if-requires-clause-queue : goal.begin_if-requires-clause-queue
begin_if-requires-clause-queue c = λ r v few e.
    let pattern = c.args.pattern.now in
    let local = port_at pattern.table.ports.local 0 in
    let block = c.args.block.now in
    let starts = starts_by c.args.starts.now in
    let cycle = c.args.cycle in
    let due = slice_index block.sources.due.at r in
    let injection = c.inject-went.new.injection in
    let is =
    injects-so pattern starts cycle block r few c.pass.new.self (set_of local r injection.went) (set_of local r injection.begun) (not (nat_eq (set_of local r injection.went) 0)) (has_bit c.inject-went.result.1 r) c.requires
    c.pass.ensures.at c.pass.ensures.due (c.inject-went.ensures.went r blank) (λ e. c.inject-went.ensures.begun r cycle due blank e)
    refl (c.inject-went.ensures.some_begun r) in
    let l = (c.requires.each r few).queue (begun-now is (is-some (set_of local r injection.begun) v e)) in
    let long = length-map c.args.starts.now start_by in
    omega (arith, l, long)

-- ---- where they go on and begin
sends : (c : goal.After-send_all-arg-1) (r : ℕ) → r < 64
    → Injects c.args.pattern.now (starts_by c.args.starts.now) c.args.cycle c.args.block.now r (set_of (port_at c.args.pattern.now.table.ports.local 0) r c.inject-went.new.injection.went)
    (set_of (port_at c.args.pattern.now.table.ports.local 0) r c.inject-went.new.injection.begun) (has_bit c.inject-went.result.0 r) (has_bit c.inject-went.result.1 r)
sends c r few =
    let pattern = c.args.pattern.now in
    let local = port_at pattern.table.ports.local 0 in
    let block = c.args.block.now in
    let injection = c.inject-went.new.injection in
    injects-so pattern (starts_by c.args.starts.now) c.args.cycle block r few c.pass.new.self (set_of local r injection.went) (set_of local r injection.begun) (has_bit c.inject-went.result.0 r) (has_bit c.inject-went.result.1 r) c.requires
    c.pass.ensures.at c.pass.ensures.due (c.inject-went.ensures.went r blank) (λ e. c.inject-went.ensures.begun r c.args.cycle (slice_index block.sources.due.at r) blank e)
    (c.inject-went.ensures.some_went r) (c.inject-went.ensures.some_begun r)

pub send_all-last-requires-clause-left : goal.send_all-last-requires-clause-left
send_all-last-requires-clause-left c = λ r e. goes-left (sends c r (has_bit-below c.inject-went.result.0 64 r (omega arith) e)) e

pub send_all-last-requires-clause-queue : goal.send_all-last-requires-clause-queue
send_all-last-requires-clause-queue c = λ r few e. subst (λ m. slice_index c.args.block.now.sources.queue r + 1 < m) (length-map c.args.starts.now start_by) (comes-queue (sends c r few) e)

pub send_all-last-requires-clause-apart : goal.send_all-last-requires-clause-apart
send_all-last-requires-clause-apart c = λ r e. comes-apart (sends c r (has_bit-below c.inject-went.result.1 64 r (omega arith) e)) e
