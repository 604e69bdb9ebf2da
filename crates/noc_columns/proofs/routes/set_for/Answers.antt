use Rattle.std.proofs.Common.{◌/◌, ◌%◌, ◌∙◌, ap}
use Rattle.noc_route.specs.Routes.{set_at}
use Rattle.noc_columns.proofs.routes.set_for.Goals as goal

pub returns : goal.returns
returns c =
    let relation = c.args.relation.now in
    c.bits_of.ensures
    ∙ c.permitted_from.ensures.value
    ∙ ap (λ m. set_at relation m c.args.node (c.args.channel / relation.vcs) (c.args.channel % relation.vcs) c.from-destination.result) c.from-class.ensures
    ∙ ap (λ t. set_at relation c.args.header.class c.args.node (c.args.channel / relation.vcs) (c.args.channel % relation.vcs) t) c.from-destination.ensures
