use Rattle.noc_router.specs.Decided.{verdict_at}
use Rattle.noc_view.specs.declared.verdict.Verdict.TheVariants.{Empty}
use Rattle.noc_router.proofs.TableLemmas.{IsWrittenTo}
use Rattle.noc_router.proofs.router.Router.find_verdicts.Given as goal

-- the entries so far are there
abbrev pub invariant-loop-index : goal.invariant-loop-index
invariant-loop-index l = IsWrittenTo 56 l.index Empty (verdict_at (record { grants = l.grants; picks = l.picks; wins = l.wins }) l.self) l.verdicts
