use Rattle.std.proofs.Common.{ap, arith, ◌∙◌}
use Rattle.std.specs.Prelude.{is_ok}
use Rattle.noc_vc.specs.Output.{credit_fits}
use Rattle.noc_router.specs.Parts.{states_in}
use Rattle.noc_router.proofs.ChannelLemmas.{AreSound-credited, credited-states, read-at}
use Rattle.noc_router.proofs.channels.Channels.credit_back.Goals as goal

pub invariant_of-self-clause-sound : goal.invariant_of-self-clause-sound
invariant_of-self-clause-sound c =
    let s = c.args.self.now in
    AreSound-credited s.size s.bank.rings s.inputs.items s.outputs.items c.args.index c.index_mut.result.now _ (is_ok c.credit_back.result) s.sound (omega arith) c.requires
    (read-at s.outputs.items c.args.index _ _ (omega arith) c.index_mut.ensures.value) c.credit_back.ensures.channel

pub returns-clause-fits : goal.returns-clause-fits
returns-clause-fits c =
    let s = c.args.self.now in
    c.is_ok.ensures.value ∙ c.credit_back.ensures.fits ∙ ap credit_fits (read-at s.outputs.items c.args.index _ _ (omega arith) c.index_mut.ensures.value)

pub returns-clause-states : goal.returns-clause-states
returns-clause-states c =
    let s = c.args.self.now in
    credited-states (states_in s) c.args.index c.index_mut.result.now _ (is_ok c.credit_back.result) c.is_ok.result c.is_ok.ensures.value
    (read-at s.outputs.items c.args.index _ _ (omega arith) c.index_mut.ensures.value) c.credit_back.ensures.channel
