use Rattle.std.proofs.Common.{◌≡◌, ℕ, ◌+◌, ◌*◌, ◌^◌, ◌≤◌, Bool, true, false, List, [], flat_map, get_or, refl, ap, sym, ◌∙◌, arith, sum, zero-add}
use Rattle.std.specs.Prelude.{if◌then◌else◌, slice_index}
use Rattle.noc_topo.specs.Shape.{Grid}
use Rattle.noc_topo.specs.Lists.{below}
use Rattle.noc_packet.specs.declared.limits.TheConstants.{MAX_CHANNELS}
use Rattle.noc_route.specs.Routes.{Routes}
use Rattle.noc_theory.specs.Lockstep.{counts_before}
use Rattle.noc_theory.specs.Network.{Run}
use Rattle.noc_files.specs.Channels.{is_input}
use Rattle.noc_files.specs.Stalls.{channel_counts}
use Rattle.noc_files.specs.Summary.{column_entry, port_total}
use Rattle.noc_files.proofs.BelowLemmas.{sum_more, sum_none}
use Rattle.noc_files.proofs.TotalLemmas.{raised-as, raised-more, raised-none, raised-up-to}
use Rattle.noc_files.proofs.summary.add_port.Goals as goal

-- the counts of a channel are those of the stall report
entry : (u : Run) (column router port vc : ℕ) (counts : List ℕ) → counts ≡ counts_before u.net u.count router (port * u.net.relation.vcs + vc)
    → slice_index counts column ≡ sum (column_entry u column router port vc)
unfolding column_entry channel_counts
entry u column router port vc counts is = ap (λ (xs : List ℕ). get_or xs column 0) is ∙ sym (zero-add _)

-- the total of a port that is an input port, and of another
port-is : (u : Run) (router port column : ℕ) (b : Bool) → is_input u.net.relation.grid router port ≡ b
    → port_total u router port column ≡ sum (if b then flat_map (column_entry u column router port) (below u.net.relation.vcs) else [])
unfolding port_total
port-is u router port column b is = ap (λ (a : Bool). sum (if a then flat_map (column_entry u column router port) (below u.net.relation.vcs) else [])) is

pub returns-then-not-has_inputs : goal.returns-then-not-has_inputs
returns-then-not-has_inputs c =
    let u = c.args.network.now in
    let grid : c.shape.result.now ≡ u.net.relation.grid = c.shape.ensures.value ∙ ap (λ (r : Routes). r.grid) c.relation.ensures in
    let off = sym (c.has_inputs.ensures ∙ ap (λ (g : Grid). is_input g c.args.router c.args.port) grid) ∙ c.if-not-has_inputs.true in
    let total = port_total u c.args.router c.args.port in
    raised-as total total 0 MAX_CHANNELS c.args.totals.now c.args.totals.now (λ column. refl) (omega arith)
    (raised-none total c.args.totals.now (λ column. port-is u c.args.router c.args.port column false off))

pub loop-vc-init : goal.loop-vc-init
loop-vc-init c =
    let u = c.args.network.now in
    let so_far = λ (column : ℕ). sum (flat_map (column_entry u column c.args.router c.args.port) (below 0)) in
    raised-none so_far c.args.totals.now (λ column. sym (sum_none (column_entry u column c.args.router c.args.port)))

pub add-requires : goal.add-requires
add-requires c =
    let u = c.args.network.now in
    let so_far = λ (column : ℕ). sum (flat_map (column_entry u column c.args.router c.args.port) (below c.loop-vc.vc)) in
    let few : c.loop-vc.vc ≤ MAX_CHANNELS = omega (arith, c.loop-vc.auto.vc-end, c.vcs-vc-end.ensures.value, c.vcs-vc-end.ensures.built.table.few_vcs) in
    raised-up-to so_far c.loop-vc.vc (2 ^ 126) (2 ^ 127) c.args.totals.now c.loop-vc.totals c.loop-vc.invariant c.requires.few (omega (arith, few))

pub loop-vc-preserved : goal.loop-vc-preserved
loop-vc-preserved c =
    let u = c.args.network.now in
    let vc = c.loop-vc.vc in
    let entries = λ (column : ℕ). column_entry u column c.args.router c.args.port in
    let total = λ (n column : ℕ). sum (flat_map (entries column) (below n)) in
    let counts = c.counts.result in
    raised-more (total vc) (slice_index counts) (total (vc + 1)) vc 1 (vc + 1) c.args.totals.now c.loop-vc.totals c.add.new.totals
    (λ column. sym (sum_more (entries column) vc (total vc column) (slice_index counts column) refl (entry u column c.args.router c.args.port vc counts c.counts.ensures)))
    refl c.loop-vc.invariant (record { more = c.add.ensures.more; bound = c.add.ensures.bound })

pub returns : goal.returns
returns c =
    let u = c.args.network.now in
    let grid : c.shape.result.now ≡ u.net.relation.grid = c.shape.ensures.value ∙ ap (λ (r : Routes). r.grid) c.relation.ensures in
    let on = sym (c.has_inputs.ensures ∙ ap (λ (g : Grid). is_input g c.args.router c.args.port) grid) ∙ c.if-not-has_inputs.false in
    let vcs = ap (λ (r : Routes). r.vcs) c.relation-2.ensures in
    let all : c.loop-vc.vc ≡ u.net.relation.vcs = omega (arith, c.loop-vc-test.false, c.loop-vc.auto.vc-end, c.vcs-vc-end.ensures.value, vcs) in
    let few : c.loop-vc.vc ≤ MAX_CHANNELS = omega (arith, c.loop-vc.auto.vc-end, c.vcs-vc-end.ensures.value, c.vcs-vc-end.ensures.built.table.few_vcs) in
    let entries = λ (column : ℕ). column_entry u column c.args.router c.args.port in
    let so_far = λ (column : ℕ). sum (flat_map (entries column) (below c.loop-vc.vc)) in
    raised-as so_far (port_total u c.args.router c.args.port) c.loop-vc.vc MAX_CHANNELS c.args.totals.now c.loop-vc.totals
    (λ column. ap (λ (n : ℕ). sum (flat_map (entries column) (below n))) all ∙ sym (port-is u c.args.router c.args.port column true on))
    few c.loop-vc.invariant
