use Rattle.std.proofs.Common.{ap, ◌∙◌, subst}
use Rattle.noc_theory.specs.Good.{IsGoodSetup}
use Rattle.noc_theory.specs.Network.{Run, state_at}
use Rattle.noc_theory.specs.Progress.{is_pending}
use Rattle.noc_net.proofs.LimitLemmas.{idle}
use Rattle.noc_net.proofs.network.Network.pending.Goals as goal

pub returns-clause-ranked : goal.returns-clause-ranked
returns-clause-ranked c = λ ranks limit ranked is late.
    let now = c.args.self.now in
    c.is_waiting_by.ensures ∙ ap (λ (u : Run). is_pending now.net u.count (state_at now.net now.count)) c.self.view_is
    ∙ idle now.net (subst (λ (u : Run). IsGoodSetup u.net) c.self.view_is c.self.invariant.parts.good) ranks ranked limit is now.count late
