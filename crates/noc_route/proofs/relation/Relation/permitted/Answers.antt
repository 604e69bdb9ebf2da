use Rattle.std.proofs.Common.{◌+◌, ◌*◌, ◌/◌, ◌%◌, ◌∙◌, ap, ap₂}
use Rattle.std.proofs.lemmas.Nat.{div-mul-add, mod-mul-add}
use Rattle.noc_route.specs.Routes.{Routes, set_at}
use Rattle.noc_route.proofs.relation.Relation.permitted.Goals as goal

pub returns-clause-value : goal.returns-clause-value
returns-clause-value c =
    let vcs = c.args.self.now.vcs in
    let is = c.index-input.ensures.value ∙ ap (λ (routes : Routes). c.args.in_port * routes.vcs + c.args.in_vc) c.self.view_is in
    c.permitted_from.ensures.value
    ∙ ap₂ (λ p v. set_at c.args.self.now c.args.class c.args.router p v c.args.dst)
    (ap (λ i. i / vcs) is ∙ div-mul-add c.args.in_port vcs c.args.in_vc c.requires.in_vc)
    (ap (λ i. i % vcs) is ∙ mod-mul-add c.args.in_port vcs c.args.in_vc c.requires.in_vc)
