use Rattle.std.proofs.Common.{◌≡◌, ◌-◌, ◌*◌, ap, ap₂, arith, ◌∙◌}
use Rattle.noc_route.specs.Routes.{Routes}
use Rattle.noc_answers.proofs.ArrivingLemmas.{not-out}
use Rattle.noc_answers.proofs.arriving.arriving_cycles.Goals as goal

pub returns-clause-waiting : goal.returns-clause-waiting
returns-clause-waiting c = λ k some within.
    let u = c.args.network.now in
    let left = c.left_for-left in
    let vcs : c.vcs.result ≡ u.net.relation.vcs = c.vcs.ensures.value ∙ ap (λ (r : Routes). r.vcs) c.relation.ensures in
    let early : c.vcs.result * c.saturating_sub.result ≡ u.net.relation.vcs * (left.result.longest - 1) = ap₂ (λ a b. a * b) vcs c.saturating_sub.ensures in
    not-out u.net u.count c.packet.result.destination left.ensures.good left.result.longest left.ensures.longest k
    (omega (arith, some, within, c.min.ensures, c.saturating_sub-2.ensures, early, left.ensures.flits))
