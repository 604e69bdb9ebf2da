use Rattle.std.proofs.Common.{◌≡◌, ap, sym, ◌∙◌}
use Rattle.noc_route.specs.Routes.{Routes}
use Rattle.noc_view.specs.View.{IsRelationOf, Site, View}
use Rattle.noc_router.proofs.router.Router.finish.Goals as goal

-- a relation of a router is one of every router of the same site
relation-there : (relation : Routes) (v w : View) → w.site ≡ v.site → IsRelationOf relation v → IsRelationOf relation w
relation-there relation v w same fits = record { grid = fits.grid ∙ ap (λ (s : Site). s.grid) (sym same); vcs = fits.vcs ∙ ap (λ (s : Site). s.vcs) (sym same) }

pub plan-requires : goal.plan-requires
plan-requires c = relation-there c.args.relation.now c.args.self.now c.inject.new.self c.inject.ensures.site c.requires

pub commit-requires : goal.commit-requires
commit-requires c = record {
  relation = c.args.relation.now;
  fits = relation-there c.args.relation.now c.args.self.now c.inject.new.self c.inject.ensures.site c.requires;
  is = c.plan.ensures.value;
}
