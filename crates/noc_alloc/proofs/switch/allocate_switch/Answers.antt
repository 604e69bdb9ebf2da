use Rattle.std.proofs.Common.{◌≡◌, ◌≢◌, ◌<◌, ◌+◌, ◌*◌, ℕ, Option, Some, None, length, get_or, ap, sym, ◌∙◌, arith, below_more, get_or-set_same, get_or-set_other, subst, refl}
use Rattle.std.specs.Prelude.{is_some, option_and_then}
use Rattle.noc_topo.specs.Lists.{is_some_of}
use Rattle.noc_alloc.specs.Arbiter.{pointers_of}
use Rattle.noc_alloc.specs.Allocation.{pick_of, picked_port, winner_of}
use Rattle.noc_alloc.proofs.OfferLemmas.{AllNearest, nearest-offered, pick-at, port_of_pick, wins-offered}
use Rattle.noc_alloc.proofs.SwitchLemmas.{first_in_turn-below, port_in_ready, tabulate-inside}
use Rattle.noc_topo.proofs.ListLemmas.{tabulate-from_each}
use Rattle.noc_alloc.proofs.switch.allocate_switch.Goals as goal
use Rattle.noc_alloc.proofs.switch.allocate_switch.Goals.{in-Some, in_default}

pub overflow_mul-first : goal.overflow_mul-first
overflow_mul-first c =
    omega (arith, port_in_ready (length c.args.inputs.now) c.args.vcs c.loop-port.port c.args.vcs (length c.args.ready.now) c.loop-port-test.true refl c.requires.ready)

pub bounds-inputs-port : goal.bounds-inputs-port
bounds-inputs-port c = c.loop-port-test.true

pub first_of_those_ready-pick-requires : goal.first_of_those_ready-pick-requires
first_of_those_ready-pick-requires c =
    let t = c.index-inputs-port.result in
    let size : (get_or c.args.inputs.now c.loop-port.port t).size ≡ c.args.vcs = c.requires.arbiters.over_vcs c.loop-port.port t c.loop-port-test.true in
    record { within = port_in_ready (length c.args.inputs.now) c.args.vcs c.loop-port.port t.size (length c.args.ready.now) c.loop-port-test.true (rw (← c.index-inputs-port.is) at size) c.requires.ready }

pub overflow_add-first : goal.overflow_add-first
overflow_add-first c =
    let t = c.index-inputs-port.result in
    let size : (get_or c.args.inputs.now c.loop-port.port t).size ≡ c.args.vcs = c.requires.arbiters.over_vcs c.loop-port.port t c.loop-port-test.true in
    omega (arith, c.in-Some.ensures.within, port_in_ready (length c.args.inputs.now) c.args.vcs c.loop-port.port t.size (length c.args.ready.now) c.loop-port-test.true (rw (← c.index-inputs-port.is) at size) c.requires.ready)

pub offset_bounds-ready-first : goal.offset_bounds-ready-first
offset_bounds-ready-first c =
    let t = c.index-inputs-port.result in
    let size : (get_or c.args.inputs.now c.loop-port.port t).size ≡ c.args.vcs = c.requires.arbiters.over_vcs c.loop-port.port t c.loop-port-test.true in
    omega (arith, c.in-Some.ensures.within, port_in_ready (length c.args.inputs.now) c.args.vcs c.loop-port.port t.size (length c.args.ready.now) c.loop-port-test.true (rw (← c.index-inputs-port.is) at size) c.requires.ready)

pub bounds-ready-first : goal.bounds-ready-first
bounds-ready-first c =
    let t = c.index-inputs-port.result in
    let size : (get_or c.args.inputs.now c.loop-port.port t).size ≡ c.args.vcs = c.requires.arbiters.over_vcs c.loop-port.port t c.loop-port-test.true in
    omega (arith, c.in-Some.ensures.within, port_in_ready (length c.args.inputs.now) c.args.vcs c.loop-port.port t.size (length c.args.ready.now) c.loop-port-test.true (rw (← c.index-inputs-port.is) at size) c.requires.ready)

pub offer-requires : goal.offer-requires
offer-requires c = c.loop-port.auto.wins ∙ c.fill.auto.self ∙ c.requires.wins

pub loop-port-preserved : goal.loop-port-preserved
loop-port-preserved c =
    let l = c.loop-port in
    let ready = c.args.ready.now in
    let t = c.index-inputs-port.result in
    let pick = c.first_of_those_ready-pick.result in
    let inside : l.port < length c.args.inputs.now = omega arith in
    let size : (get_or c.args.inputs.now l.port t).size ≡ c.args.vcs = c.requires.arbiters.over_vcs l.port t inside in
    let is : pick ≡ pick_of ready c.args.vcs (pointers_of c.args.inputs.now) l.port =
    c.first_of_those_ready-pick.ensures.first ∙ pick-at ready c.args.vcs c.args.inputs.now l.port t inside c.index-inputs-port.is (rw (← c.index-inputs-port.is) at size) in
    let way : ℕ → Option ℕ = port_of_pick ready c.args.vcs (pointers_of c.args.inputs.now) in
    let goes : (one : Option ℕ) → pick ≡ one → way l.port ≡ option_and_then (λ v. get_or ready (l.port * c.args.vcs + v) None) one = λ one e. ap (option_and_then (λ v. get_or ready (l.port * c.args.vcs + v) None)) (sym is ∙ e) in
    record {
      picks = below_more _ _
          (λ k h. let ne : k ≢ l.port = omega arith in rw get_or-set_other (l.invariant.picks k h))
          (let lt : l.port < length l.picks = omega arith in rw get_or-set_same is);
      wins = elim c.match-pick.branch [
        | in-Some w ↦ rw w.wins-is (subst (AllNearest (length c.args.inputs.now) c.args.outputs.now way (l.port + 1)) (sym w.offer.ensures)
            (nearest-offered (length c.args.inputs.now) l.port c.args.outputs.now way l.wins (get_or ready (l.port * c.args.vcs + w.in-Some.vc) None) (goes (Some w.in-Some.vc) w.in-Some.is) inside l.invariant.each l.invariant.wins))
        | in_default w ↦ rw w.wins-is (nearest-offered (length c.args.inputs.now) l.port c.args.outputs.now way l.wins None (goes None w.in_default.is) inside l.invariant.each l.invariant.wins)
      ];
      each = omega (arith, c.match-pick.auto.wins, l.invariant.each);
    }

pub returns-clause-picks : goal.returns-clause-picks
returns-clause-picks c =
    tabulate-from_each (length c.args.inputs.now) (pick_of c.args.ready.now c.args.vcs (pointers_of c.args.inputs.now)) c.loop-port.picks None (omega (arith, c.loop-port.auto.picks, c.requires.picks))
    (λ k l. c.loop-port.invariant.picks k (omega arith))

pub returns-clause-wins : goal.returns-clause-wins
returns-clause-wins c =
    let n : c.loop-port.port ≡ length c.args.inputs.now = omega arith in
    wins-offered c.args.ready.now c.args.vcs (length c.args.inputs.now) (pointers_of c.args.inputs.now) c.loop-port.picks c.args.outputs.now c.loop-port.wins
    (λ k l. c.loop-port.invariant.picks k (omega arith)) c.loop-port.invariant.each
    (subst (λ m. AllNearest (length c.args.inputs.now) c.args.outputs.now (port_of_pick c.args.ready.now c.args.vcs (pointers_of c.args.inputs.now)) m c.loop-port.wins) n c.loop-port.invariant.wins)

pub returns-clause-vcs : goal.returns-clause-vcs
returns-clause-vcs c =
    tabulate-inside (length c.args.inputs.now) c.args.vcs (pick_of c.args.ready.now c.args.vcs (pointers_of c.args.inputs.now)) c.loop-port.picks
    (λ port. first_in_turn-below c.args.vcs (get_or (pointers_of c.args.inputs.now) port 0) (λ v. is_some (get_or c.args.ready.now (port * c.args.vcs + v) None))) (returns-clause-picks c)

pub returns-clause-inputs : goal.returns-clause-inputs
returns-clause-inputs c =
    tabulate-inside (length c.args.outputs.now) (length c.args.inputs.now) (winner_of c.args.ready.now c.args.vcs (length c.args.inputs.now) c.loop-port.picks (pointers_of c.args.outputs.now)) c.loop-port.wins
    (λ port. first_in_turn-below (length c.args.inputs.now) (get_or (pointers_of c.args.outputs.now) port 0) (λ q. is_some_of (picked_port c.args.ready.now c.args.vcs c.loop-port.picks q) port)) (returns-clause-wins c)
