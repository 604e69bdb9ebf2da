use Rattle.std.proofs.Common.{◌≡◌, ◌*◌, List, length, get_or, None, ap, sym, subst, ◌∙◌, arith}
use Rattle.std.specs.List.{All}
use Rattle.std.specs.Vec.{with_items}
use Rattle.std.proofs.lemmas.List.{with_items_is}
use Rattle.noc_alloc.specs.Allocation.{arbiters_after_winners, winning_pick}
use Rattle.noc_alloc.specs.Arbiter.{RoundRobin}
use Rattle.noc_router.specs.Arbiters.{SizedArbiters, sized_arbiters_in}
use Rattle.noc_router.proofs.WinnerLemmas.{all-below, below-size}
use Rattle.noc_router.proofs.arbiters.Arbiters.advance.Goals as goal

pub advance_channels-requires : goal.advance_channels-requires
advance_channels-requires c =
    let a = c.args.self.now in
    let p = c.args.plan.now in
    record {
      lengths = omega (arith, ap length c.grants.ensures, c.requires.grants, ap length c.deref_mut.ensures.value, a.one_each_channel, a.channels.ok.0);
      grants = λ k l. below-size c.grants.result.now c.deref_mut.result.now (a.ports * a.vcs) k
          (rw c.grants.ensures c.requires.granted)
          (rw c.deref_mut.ensures.value a.over_channels) l;
    }

pub advance_switch-requires : goal.advance_switch-requires
advance_switch-requires c =
    let a = c.args.self.now in
    let inputs : length c.deref_mut-2.result.now ≡ a.ports = omega (arith, ap length c.deref_mut-2.ensures.value, a.one_each_input, a.inputs.ok.0) in
    record {
      picks = omega (arith, ap length c.picks.ensures, c.requires.picks, inputs);
      wins = omega (arith, ap length c.wins.ensures, c.requires.wins, ap length c.deref_mut-3.ensures.value, a.one_each_output, a.outputs.ok.0);
      choices = record {
        vcs = λ k l. below-size c.picks.result.now c.deref_mut-2.result.now a.vcs k (rw c.picks.ensures c.requires.picked) (rw c.deref_mut-2.ensures.value a.over_vcs) l;
        ports = λ k l. below-size c.wins.result.now c.deref_mut-3.result.now a.ports k (rw c.wins.ensures c.requires.won) (rw c.deref_mut-3.ensures.value a.over_ports) l;
        winners = rw (c.wins.ensures, inputs) (all-below c.args.plan.now.round.wins a.ports c.requires.won);
      };
    }

pub invariant_of-self-clause-over_channels : goal.invariant_of-self-clause-over_channels
invariant_of-self-clause-over_channels c =
    let a = c.args.self.now in
    let new = c.advance_channels.new.arbiters in
    let P : List RoundRobin → Type 0 = λ ts. All (λ (t : RoundRobin). t.size ≡ a.ports * a.vcs) ts in
    subst P (sym (with_items_is a.channels new (omega (arith, c.advance_channels.auto.arbiters, c.deref_mut.ensures.len))))
    (c.advance_channels.ensures.sizes (a.ports * a.vcs) (subst P (sym c.deref_mut.ensures.value) a.over_channels))

pub invariant_of-self-clause-over_vcs : goal.invariant_of-self-clause-over_vcs
invariant_of-self-clause-over_vcs c =
    let a = c.args.self.now in
    let new = c.advance_switch.new.inputs in
    let P : List RoundRobin → Type 0 = λ ts. All (λ (t : RoundRobin). t.size ≡ a.vcs) ts in
    subst P (sym (with_items_is a.inputs new (omega (arith, c.advance_switch.auto.inputs, c.deref_mut-2.ensures.len))))
    (c.advance_switch.ensures.input_sizes a.vcs (subst P (sym c.deref_mut-2.ensures.value) a.over_vcs))

pub invariant_of-self-clause-over_ports : goal.invariant_of-self-clause-over_ports
invariant_of-self-clause-over_ports c =
    let a = c.args.self.now in
    let new = c.advance_switch.new.outputs in
    let P : List RoundRobin → Type 0 = λ ts. All (λ (t : RoundRobin). t.size ≡ a.ports) ts in
    subst P (sym (with_items_is a.outputs new (omega (arith, c.advance_switch.auto.outputs, c.deref_mut-3.ensures.len))))
    (c.advance_switch.ensures.output_sizes a.ports (subst P (sym c.deref_mut-3.ensures.value) a.over_ports))

pub returns : goal.returns
returns c =
    let a = c.args.self.now in
    let round = c.args.plan.now.round in
    let made : List RoundRobin → List RoundRobin → List RoundRobin → SizedArbiters = λ xs ys zs. record (sized_arbiters_in a) { states = record { channels = xs; inputs = ys; outputs = zs } } in
    let channels = with_items_is a.channels c.advance_channels.new.arbiters (omega (arith, c.advance_channels.auto.arbiters, c.deref_mut.ensures.len)) in
    let inputs = with_items_is a.inputs c.advance_switch.new.inputs (omega (arith, c.advance_switch.auto.inputs, c.deref_mut-2.ensures.len)) in
    let outputs = with_items_is a.outputs c.advance_switch.new.outputs (omega (arith, c.advance_switch.auto.outputs, c.deref_mut-3.ensures.len)) in
    ap (λ xs. made xs (with_items a.inputs c.advance_switch.new.inputs).items (with_items a.outputs c.advance_switch.new.outputs).items)
    (channels ∙ c.advance_channels.ensures.pointers ∙ ap (λ gs. arbiters_after_winners (λ o. get_or gs o None) c.deref_mut.result.now) c.grants.ensures ∙ ap (arbiters_after_winners (λ o. get_or round.grants o None)) c.deref_mut.ensures.value)
    ∙ ap (λ ys. made (arbiters_after_winners (λ o. get_or round.grants o None) a.channels.items) ys (with_items a.outputs c.advance_switch.new.outputs).items)
    (inputs ∙ c.advance_switch.ensures.inputs ∙ ap (λ ps. arbiters_after_winners (winning_pick ps c.wins.result.now) c.deref_mut-2.result.now) c.picks.ensures
    ∙ ap (λ ws. arbiters_after_winners (winning_pick round.picks ws) c.deref_mut-2.result.now) c.wins.ensures ∙ ap (arbiters_after_winners (winning_pick round.picks round.wins)) c.deref_mut-2.ensures.value)
    ∙ ap (λ zs. made (arbiters_after_winners (λ o. get_or round.grants o None) a.channels.items) (arbiters_after_winners (winning_pick round.picks round.wins) a.inputs.items) zs)
    (outputs ∙ c.advance_switch.ensures.outputs ∙ ap (λ ws. arbiters_after_winners (λ p. get_or ws p None) c.deref_mut-3.result.now) c.wins.ensures ∙ ap (arbiters_after_winners (λ p. get_or round.wins p None)) c.deref_mut-3.ensures.value)
