use Rattle.std.proofs.Common.{◌≡◌, ap, sym, ◌∙◌}
use Rattle.noc_topo.specs.Shape.{local_port}
use Rattle.noc_view.specs.View.{View, Site, local_step, view_after_inject, decisions_of, view_after_commit, idle_beats}
use Rattle.noc_view.proofs.SiteLemmas.{all_taken-site}
use Rattle.noc_router.proofs.router.Router.step.Goals as goal

pub plan-requires : goal.plan-requires
plan-requires c =
    let site : c.inject.new.self.site ≡ c.args.self.now.site =
    c.inject.ensures.site ∙ ap (λ (x : View). x.site) c.take_all.ensures ∙ all_taken-site c.args.relation.now c.args.beats_in.now c.args.self.now in
    record { grid = c.requires.relation.grid ∙ ap (λ (s : Site). s.grid) (sym site); vcs = c.requires.relation.vcs ∙ ap (λ (s : Site). s.vcs) (sym site) }

pub commit-requires : goal.commit-requires
commit-requires c =
    let site : c.inject.new.self.site ≡ c.args.self.now.site =
    c.inject.ensures.site ∙ ap (λ (x : View). x.site) c.take_all.ensures ∙ all_taken-site c.args.relation.now c.args.beats_in.now c.args.self.now in
    record {
      relation = c.args.relation.now;
      fits = record { grid = c.requires.relation.grid ∙ ap (λ (s : Site). s.grid) (sym site); vcs = c.requires.relation.vcs ∙ ap (λ (s : Site). s.vcs) (sym site) };
      is = c.plan.ensures.value;
    }

pub put_all-requires : goal.put_all-requires
put_all-requires c =
    let site : c.commit.new.self.site ≡ c.args.self.now.site =
    c.commit.ensures.site ∙ c.inject.ensures.site ∙ ap (λ (x : View). x.site) c.take_all.ensures ∙ all_taken-site c.args.relation.now c.args.beats_in.now c.args.self.now in
    c.requires.beats_out ∙ ap (λ (s : Site). local_port s.grid) (sym site)

pub returns-clause-view : goal.returns-clause-view
unfolding local_step
returns-clause-view c =
    let relation = c.args.relation.now in
    c.put_all.ensures.view
    ∙ ap (λ (x : View). record x { to_put = idle_beats x.site })
    (c.commit.ensures.view relation c.plan.ensures.value
    ∙ ap (λ (x : View). view_after_commit (decisions_of relation x) x) (c.inject.ensures.view ∙ ap (view_after_inject c.args.cycle) c.take_all.ensures))

pub returns-clause-beats : goal.returns-clause-beats
unfolding local_step
returns-clause-beats c =
    let relation = c.args.relation.now in
    c.put_all.ensures.beats
    ∙ ap (λ (x : View). x.to_put)
    (c.commit.ensures.view relation c.plan.ensures.value
    ∙ ap (λ (x : View). view_after_commit (decisions_of relation x) x) (c.inject.ensures.view ∙ ap (view_after_inject c.args.cycle) c.take_all.ensures))

pub returns-clause-site : goal.returns-clause-site
returns-clause-site c =
    ap (λ (x : View). x.site) c.put_all.ensures.view ∙ c.commit.ensures.site
    ∙ c.inject.ensures.site ∙ ap (λ (x : View). x.site) c.take_all.ensures
    ∙ all_taken-site c.args.relation.now c.args.beats_in.now c.args.self.now
