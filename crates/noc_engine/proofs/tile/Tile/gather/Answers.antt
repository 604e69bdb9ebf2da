use Rattle.std.proofs.Common.{◌≡◌, ◌∙◌, ℕ, List, ap, arith, length, subst, sym}
use Rattle.std.specs.Vec.{with_items}
use Rattle.std.proofs.lemmas.List.{with_items_is}
use Rattle.noc_columns.specs.declared.channels.Links.{Links}
use Rattle.noc_engine.specs.Passes.{HaveGathered}
use Rattle.noc_engine.proofs.NextLemmas.{has-stepped, next}
use Rattle.noc_engine.proofs.tile.Tile.gather.Goals as goal

pub gather_all-requires : goal.gather_all-requires
gather_all-requires c =
    let run = c.requires.6 in
    record {
      plan = (c.requires.0, run.good, run.before.plan_is);
      left = ap length c.deref.ensures.value ∙ run.lists.left_are;
      works = omega (arith, run.lists.within, run.lists.works_are, ap length c.as_mut_slice.ensures.value);
    }

pub returns : goal.returns
returns c = λ net n from words turns was run hears near.
    let is = c.args.self.now in
    let plan = c.args.plan.now in
    let all = plan.pattern.table.ports in
    let long : length c.gather_all.new.works ≡ length is.works.items = c.gather_all.auto.works ∙ ap length c.as_mut_slice.ensures.value in
    let now : (with_items is.works c.gather_all.new.works).items ≡ c.gather_all.new.works = with_items_is is.works c.gather_all.new.works (long ∙ sym is.works.ok.0) in
    let gathered : HaveGathered net all is.first is.left.items (with_items is.works c.gather_all.new.works).items
    = subst (HaveGathered net all is.first is.left.items) (sym now) (subst (λ (xs : List (Links (List ℕ))). HaveGathered net all is.first xs c.gather_all.new.works) c.deref.ensures.value (c.gather_all.ensures net run.good run.before.plan_is)) in (
      next net plan n from words turns was is run hears near,
      has-stepped net plan n from words turns was is run hears near (with_items is.works c.gather_all.new.works) (ap length now ∙ long ∙ run.lists.works_are) gathered,
    )
