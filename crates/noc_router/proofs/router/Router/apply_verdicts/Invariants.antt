use Rattle.noc_router.specs.Settled.{decisions_by}
use Rattle.noc_view.specs.View.{size_of}
use Rattle.noc_router.proofs.SettleLemmas.{IsSettling, IsWhole, from_next}
use Rattle.noc_router.proofs.router.Router.apply_verdicts.Given as goal

-- the verdicts of the channels so far have taken effect
abbrev pub invariant-loop-index : goal.invariant-loop-index
invariant-loop-index l = record {
  whole : IsWhole l.fn.self;
  settling : IsSettling (decisions_by l.plan l.fn.self) l.fn.self (from_next (size_of l.fn.self.site) l.index) l.self;
}
