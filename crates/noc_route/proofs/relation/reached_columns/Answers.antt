use Rattle.std.proofs.Common.{◌≡◌, ◌*◌, ℕ, List, Option, None, refl, sym, subst, arith}
use Rattle.std.specs.Prelude.{All, true}
use Rattle.std.proofs.lemmas.Result.{err_from_is_err_and}
use Rattle.noc_topo.proofs.ListLemmas.{length-tabulate}
use Rattle.noc_route.specs.Built.{IsRelationOfRule}
use Rattle.noc_route.specs.Entered.{routing_in, sets_in, IsEntered}
use Rattle.noc_route.specs.Gathering.{AreOutsFrom}
use Rattle.noc_route.specs.Relation.{is_right, row_fault, table_rows_of}
use Rattle.noc_route.specs.Routes.{width, pages}
use Rattle.noc_route.specs.Trimming.{routes_in, left_in, IsFirstStuck}
use Rattle.noc_route.specs.declared.rule.Entry.{Entry}
use Rattle.noc_route.specs.declared.rule.Rule.{Rule}
use Rattle.noc_route.specs.declared.sizes.Sizes.{Sizes}
use Rattle.noc_route.proofs.BuiltLemmas.{ComesNearer-entered, IsMade}
use Rattle.noc_route.proofs.NoWayLemmas.{IsMade-steps, IsRelationOfRule-made, IsFirstNoWay-stuck, IsUnstuck-none}
use Rattle.noc_route.proofs.StuckLemmas.{left_in-at}
use Rattle.noc_route.proofs.relation.reached_columns.Goals as goal

made-of : (f : Sizes) (rule : Rule) (sets outs : List ℕ) → is_right f.shape f.vcs f.classes rule ≡ true → All (λ row. row_fault f.shape f.vcs f.classes row ≡ None) (table_rows_of rule)
    → IsEntered (routing_in f rule) (routes_in f sets) → AreOutsFrom (routes_in f sets) 0 outs → IsMade (routing_in f rule) sets (left_in f sets outs) outs
made-of f rule sets outs right rows entered gathered =
    IsMade-steps (routing_in f rule) sets (left_in f sets outs) outs f.grid right rows entered gathered.lists.sound (λ m r t place. gathered.full m r t place (omega arith)) (left_in-at f sets outs)

pub gather-requires-clause-nearer : goal.gather-requires-clause-nearer
gather-requires-clause-nearer c =
    let f = c.args.fitting.now.map.now.sizes in
    ComesNearer-entered (routing_in f c.args.fitting.now.rule.now) (sets_in f c.args.entered.now) (record { grid = f.grid; right = c.args.fitting.now.right; rows = c.requires.rows }) c.requires.entered

pub invariant_of-leaving : goal.invariant_of-leaving
invariant_of-leaving c = record { long = c.gather.ensures.lists.long }

pub returns-in_err-columns-clause-sizes : goal.returns-in_err-columns-clause-sizes
returns-in_err-columns-clause-sizes c = let p = err_from_is_err_and c.from_residual.result c.from_residual.ensures.1 in rw p.1 tt

pub returns-in_err-columns-clause-exact : goal.returns-in_err-columns-clause-exact
returns-in_err-columns-clause-exact c = let p = err_from_is_err_and c.from_residual.result c.from_residual.ensures.1 in rw (p.1, p.2) c.args.fitting.now.right

pub returns-in-Some-clause-exact : goal.returns-in-Some-clause-exact
returns-in-Some-clause-exact c =
    let f = c.args.fitting.now.map.now.sizes in
    let sets = sets_in f c.args.entered.now in
    let outs = c.gather.new.outs in
    let made = made-of f c.args.fitting.now.rule.now sets outs c.args.fitting.now.right c.requires.rows c.requires.entered c.gather.ensures in
    let P : Option Entry → Type 0 = λ first. IsFirstStuck (routes_in f (left_in f sets outs)) outs (pages f.shape f.classes * width f.shape f.vcs) first in
    IsFirstNoWay-stuck (routing_in f c.args.fitting.now.rule.now) sets (left_in f sets outs) outs c.in-Some.entry made (subst P c.in-Some.is c.in_ok-columns.ensures.first)

pub returns-in-None-clause-sizes : goal.returns-in-None-clause-sizes
returns-in-None-clause-sizes c = c.in_ok-columns.ensures.sizes

pub returns-in-None-clause-exact : goal.returns-in-None-clause-exact
returns-in-None-clause-exact c =
    let f = c.args.fitting.now.map.now.sizes in
    let g = routing_in f c.args.fitting.now.rule.now in
    let sets = sets_in f c.args.entered.now in
    let outs = c.gather.new.outs in
    let left = left_in f sets outs in
    let made = made-of f c.args.fitting.now.rule.now sets outs c.args.fitting.now.right c.requires.rows c.requires.entered c.gather.ensures in
    let P : Option Entry → Type 0 = λ first. IsFirstStuck (routes_in f left) outs (pages f.shape f.classes * width f.shape f.vcs) first in
    let unstuck = IsUnstuck-none g left outs (pages f.shape f.classes * width f.shape f.vcs) refl (subst P c.in-None.is c.in_ok-columns.ensures.first) in
    subst (λ items. IsRelationOfRule g (routes_in f items)) (sym c.in_ok-columns.ensures.table)
    (IsRelationOfRule-made g sets left outs made unstuck
    (record {
      grid = f.grid;
      some_vcs = f.some_vcs;
      few_vcs = f.few_vcs;
      some_classes = f.some_classes;
      few_classes = f.few_classes;
      long = length-tabulate _ _;
    }))
