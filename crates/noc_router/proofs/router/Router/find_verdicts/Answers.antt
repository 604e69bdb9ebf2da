use Rattle.std.proofs.Common.{◌≡◌, ℕ, List, Option, length, ap, arith, ◌∙◌}
use Rattle.noc_topo.proofs.ListLemmas.{length-tabulate}
use Rattle.noc_router.specs.Decided.{verdict_at}
use Rattle.noc_view.specs.Verdict.{asks_of}
use Rattle.noc_view.specs.View.{View, size_of, view_stands}
use Rattle.noc_view.specs.declared.verdict.Verdict.TheVariants.{Empty}
use Rattle.noc_view.proofs.StandLemmas.{ask_of-stand, asks_of-stands}
use Rattle.noc_router.proofs.TableLemmas.{written-all, written-more}
use Rattle.noc_router.proofs.WholeLemmas.{few-channels, size_view}
use Rattle.noc_router.proofs.router.Router.find_verdicts.Goals as goal

-- there is one for each input channel
one-each : (v : View) (asks : List (Option ℕ)) → asks ≡ asks_of (view_stands v) → length asks ≡ size_of v.site
one-each v asks are = ap (λ (xs : List (Option ℕ)). length xs) (are ∙ asks_of-stands v) ∙ length-tabulate _ _

pub loop-index-preserved : goal.loop-index-preserved
loop-index-preserved c =
    let l = c.loop-index in
    let v = c.args.self.now in
    let few = few-channels c.self.inside c.self.invariant in
    written-more 56 l.index Empty (verdict_at (record { grants = c.args.grants.now; picks = c.args.picks.now; wins = c.args.wins.now }) v) l.verdicts c.verdict.result
    (omega (arith, few, c.loop-index-test.true)) c.verdict.ensures l.invariant

pub returns : goal.returns
returns c =
    let l = c.loop-index in
    let v = c.args.self.now in
    let few = few-channels c.self.inside c.self.invariant in
    let size = size_view c.self.inside v c.self.view_is c.self.invariant in
    written-all 56 (size_of v.site) l.index Empty (verdict_at (record { grants = c.args.grants.now; picks = c.args.picks.now; wins = c.args.wins.now }) v) l.verdicts
    (omega (arith, few, size)) (omega (arith, size, c.loop-index-test.false)) l.invariant

pub bounds-verdicts-index : goal.bounds-verdicts-index
bounds-verdicts-index c =
    omega (arith, few-channels c.self.inside c.self.invariant, c.loop-index-test.true)

pub verdict-requires-clause-index : goal.verdict-requires-clause-index
verdict-requires-clause-index c = omega (arith, size_view c.self.inside c.args.self.now c.self.view_is c.self.invariant, c.loop-index-test.true)

pub verdict-requires-clause-asked : goal.verdict-requires-clause-asked
verdict-requires-clause-asked c =
    ask_of-stand c.args.self.now c.args.asks.now c.loop-index.index c.requires.asks (omega (arith, size_view c.self.inside c.args.self.now c.self.view_is c.self.invariant, c.loop-index-test.true))

pub bounds-asks-index : goal.bounds-asks-index
bounds-asks-index c =
    let v = c.args.self.now in
    omega (arith, one-each v c.args.asks.now c.requires.asks, size_view c.self.inside v c.self.view_is c.self.invariant, c.loop-index-test.true)
