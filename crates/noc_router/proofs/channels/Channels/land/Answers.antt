use Rattle.std.proofs.Common.{ap, arith, sym, ◌∙◌}
use Rattle.std.specs.Prelude.{is_ok}
use Rattle.noc_ring.specs.Buffers.{buffer_at}
use Rattle.noc_vc.specs.Input.{Input, fits}
use Rattle.noc_router.specs.Parts.{states_in}
use Rattle.noc_router.proofs.ChannelLemmas.{AreSound-taken, fits-next, read-at, taken-bank, taken-states}
use Rattle.noc_router.proofs.channels.Channels.land.Goals as goal

pub invariant_of-self-clause-sound : goal.invariant_of-self-clause-sound
invariant_of-self-clause-sound c =
    let s = c.args.self.now in
    AreSound-taken s.size s.bank c.land.new.bank s.inputs.items s.outputs.items c.args.index c.index_mut.result.now _ c.args.flit.now (is_ok c.land.result)
    s.sound (omega arith) (omega arith) c.requires.exists
    (read-at s.inputs.items c.args.index _ _ (omega arith) c.index_mut.ensures.value) c.land.ensures.channel c.land.ensures.bank
    (λ e. fits-next c.args.landing.now.relation.now c.args.landing.now.router c.args.landing.now.port c.args.landing.now.vc s.bank.capacity (buffer_at s.bank c.args.index) c.index_mut.result.now c.args.flit.now (sym e ∙ c.land.ensures.fits))

pub invariant_of-self-clause-a_ring_each : goal.invariant_of-self-clause-a_ring_each
invariant_of-self-clause-a_ring_each c =
    let s = c.args.self.now in
    (taken-bank s.bank c.land.new.bank c.args.index c.args.flit.now (is_ok c.land.result) c.land.ensures.bank).0 ∙ s.a_ring_each

pub invariant_of-self-clause-some_depth : goal.invariant_of-self-clause-some_depth
invariant_of-self-clause-some_depth c =
    let s = c.args.self.now in
    omega (arith, s.some_depth, (taken-bank s.bank c.land.new.bank c.args.index c.args.flit.now (is_ok c.land.result) c.land.ensures.bank).1)

pub returns-clause-fits : goal.returns-clause-fits
returns-clause-fits c =
    let s = c.args.self.now in
    c.is_ok.ensures.value ∙ c.land.ensures.fits
    ∙ ap (λ (x : Input). fits c.args.landing.now.relation.now c.args.landing.now.router c.args.landing.now.port c.args.landing.now.vc s.bank.capacity (buffer_at s.bank c.args.index) x c.args.flit.now)
    (read-at s.inputs.items c.args.index _ _ (omega arith) c.index_mut.ensures.value)

pub returns-clause-states : goal.returns-clause-states
returns-clause-states c =
    let s = c.args.self.now in
    taken-states (states_in s) c.land.new.bank c.args.index c.index_mut.result.now _ c.args.flit.now (is_ok c.land.result) c.is_ok.result c.is_ok.ensures.value
    (read-at s.inputs.items c.args.index _ _ (omega arith) c.index_mut.ensures.value) c.land.ensures.channel c.land.ensures.bank
