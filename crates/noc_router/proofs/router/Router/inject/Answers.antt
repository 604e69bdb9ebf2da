use Rattle.std.proofs.Common.{◌≡◌, ◌-◌, ◌<◌, [], true, ap, length, slice_index_or, subst, sym, ◌∙◌, arith}
use Rattle.std.specs.Prelude.{◌⊎◌}
use Rattle.noc_vc.specs.Input.{is_empty}
use Rattle.noc_alloc.proofs.SwitchLemmas.{in_ready}
use Rattle.noc_router.specs.Inside.{view_of}
use Rattle.noc_router.specs.Sound.{is_awaiting}
use Rattle.noc_view.specs.View.{View, view_after_inject}
use Rattle.noc_view.proofs.SiteLemmas.{injected-site}
use Rattle.noc_router.proofs.InjectLemmas.{injected-nothing, queue-nothing, stays-view, goes-view}
use Rattle.noc_router.proofs.RouterLemmas.{at-cycle, local-index}
use Rattle.noc_router.proofs.WholeLemmas.{few-channels}
use Rattle.noc_router.proofs.router.Router.inject.Goals as goal

pub returns-in_default-clause-view : goal.returns-in_default-clause-view
returns-in_default-clause-view c =
    stays-view c.self.inside c.args.cycle (sym c.next_channel.ensures.value ∙ c.in_default.is)
    ∙ ap (λ (v : View). view_after_inject c.args.cycle v) c.self.view_is

pub returns-in_default-next_flit-clause-view : goal.returns-in_default-next_flit-clause-view
returns-in_default-next_flit-clause-view c =
    let r = c.self.inside in
    sym (injected-nothing c.args.cycle (view_of r) (queue-nothing r.source.front r.source.index r.source.begun r.source.packets.items (λ e. omega (arith, r.source.all_begun e, r.source.packets.ok.0)) (sym c.next_flit.ensures ∙ c.in_default-next_flit.is)))
    ∙ ap (λ (v : View). view_after_inject c.args.cycle v) c.self.view_is

pub returns-clause-view : goal.returns-clause-view
returns-clause-view c =
    let r = c.self.inside in
    goes-view r c.args.cycle c.in-Some.vc _ c.in-Some-next_flit.flit c.inject.new.self c.sent.new.self r.source.at_head
    (sym c.next_flit.ensures ∙ c.in-Some-next_flit.is) (sym c.next_channel.ensures.value ∙ c.in-Some.is) (local-index r c.in-Some.vc c.self.invariant)
    c.inject.ensures c.sent.ensures.queue c.sent.ensures.sending
    ∙ ap (λ (v : View). view_after_inject c.args.cycle v) c.self.view_is

pub inject-requires : goal.inject-requires
inject-requires c =
    let r = c.self.inside in
    let rings = r.channels.bank.rings in
    let at = sym (local-index r c.in-Some.vc c.self.invariant) in
    record {
      exists = omega (arith, in_ready r.ports r.vcs (r.ports - 1) c.in-Some.vc (omega arith) c.in-Some.ensures.within, c.self.invariant.channels);
      room = subst (λ i. length (slice_index_or rings i []) < r.channels.bank.capacity) at (omega (arith, c.in-Some.ensures.room, c.self.invariant.depth));
      next = subst (λ i. (is_empty (slice_index_or rings i []) ≡ true) ⊎ (is_awaiting r.channels.inputs.items i ≡ true)) at c.in-Some.ensures.next;
    }

pub returns-in_default-clause-site : goal.returns-in_default-clause-site
returns-in_default-clause-site c = ap (λ (x : View). x.site) (returns-in_default-clause-view c) ∙ injected-site c.args.cycle c.args.self.now

pub returns-in_default-next_flit-clause-site : goal.returns-in_default-next_flit-clause-site
returns-in_default-next_flit-clause-site c = ap (λ (x : View). x.site) (returns-in_default-next_flit-clause-view c) ∙ injected-site c.args.cycle c.args.self.now

pub returns-clause-site : goal.returns-clause-site
returns-clause-site c = ap (λ (x : View). x.site) (returns-clause-view c) ∙ injected-site c.args.cycle c.args.self.now

pub overflow_mul-self-inside : goal.overflow_mul-self-inside
overflow_mul-self-inside c =
    let r = c.self.inside in
    omega (arith, in_ready r.ports r.vcs (r.ports - 1) c.in-Some.vc (omega arith) c.in-Some.ensures.within, few-channels r c.self.invariant)

pub overflow_add-self-inside : goal.overflow_add-self-inside
overflow_add-self-inside c =
    let r = c.self.inside in
    omega (arith, in_ready r.ports r.vcs (r.ports - 1) c.in-Some.vc (omega arith) c.in-Some.ensures.within, few-channels r c.self.invariant)

pub invariant_of-self : goal.invariant_of-self
invariant_of-self c = at-cycle c.self.inside c.args.cycle c.self.invariant

pub invariant_of-self-in_default : goal.invariant_of-self-in_default
invariant_of-self-in_default c = at-cycle c.self.inside c.args.cycle c.self.invariant

pub invariant_of-self-in_default-next_flit : goal.invariant_of-self-in_default-next_flit
invariant_of-self-in_default-next_flit c = at-cycle c.self.inside c.args.cycle c.self.invariant
