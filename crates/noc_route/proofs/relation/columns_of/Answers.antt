use Rattle.std.proofs.Common.{◌≡◌, ◌∙◌, ap}
use Rattle.std.specs.Prelude.{replicate}
use Rattle.std.proofs.lemmas.Result.{err_from_is_err_and}
use Rattle.noc_route.specs.Entered.{sets_in}
use Rattle.noc_route.specs.Trimming.{routes_in}
use Rattle.noc_route.proofs.EntryLemmas.{zeros-at}
use Rattle.noc_route.proofs.TrimLemmas.{outs-none}
use Rattle.noc_route.proofs.relation.columns_of.Goals as goal

pub returns-in_err-outs-clause-sizes : goal.returns-in_err-outs-clause-sizes
returns-in_err-outs-clause-sizes c = let p = err_from_is_err_and c.from_residual.result c.from_residual.ensures.1 in rw p.1 tt

pub returns-in_err-outs-clause-exact : goal.returns-in_err-outs-clause-exact
returns-in_err-outs-clause-exact c = let p = err_from_is_err_and c.from_residual.result c.from_residual.ensures.1 in rw (p.1, p.2) c.args.fitting.now.right

pub returns-in_err-entered-clause-sizes : goal.returns-in_err-entered-clause-sizes
returns-in_err-entered-clause-sizes c = let p = err_from_is_err_and c.from_residual-in_err-entered.result c.from_residual-in_err-entered.ensures.1 in rw p.1 tt

pub returns-in_err-entered-clause-exact : goal.returns-in_err-entered-clause-exact
returns-in_err-entered-clause-exact c =
    let p = err_from_is_err_and c.from_residual-in_err-entered.result c.from_residual-in_err-entered.ensures.1 in rw (p.1, p.2) c.in_err-entered.ensures.err

pub reached_columns-requires-clause-rows : goal.reached_columns-requires-clause-rows
reached_columns-requires-clause-rows c = c.in_ok-entered.ensures.rows

pub reached_columns-requires-clause-all : goal.reached_columns-requires-clause-all
reached_columns-requires-clause-all c = c.in_ok-entered.ensures.all

pub reached_columns-requires-clause-entered : goal.reached_columns-requires-clause-entered
reached_columns-requires-clause-entered c = c.in_ok-entered.ensures.entered

pub reached_columns-requires-clause-outs : goal.reached_columns-requires-clause-outs
reached_columns-requires-clause-outs c =
    let f = c.args.fitting.now.map.now.sizes in
    let outs = c.deref_mut.result.now in
    let zeros : outs ≡ replicate c.pages.result 0 = c.deref_mut.ensures.value ∙ c.in_ok-outs.ensures.items_if_clones_equal (λ y e. e) ∙ ap (λ set. replicate c.pages.result set) c.empty.ensures.bits in
    outs-none (routes_in f (sets_in f c.in_ok-entered.entered)) outs (c.deref_mut.ensures.len ∙ c.in_ok-outs.ensures.len ∙ c.pages.ensures.value) (zeros-at outs c.pages.result zeros)

pub returns-clause-sizes : goal.returns-clause-sizes
returns-clause-sizes c = c.reached_columns.ensures.sizes

pub returns-clause-exact : goal.returns-clause-exact
returns-clause-exact c = c.reached_columns.ensures.exact
