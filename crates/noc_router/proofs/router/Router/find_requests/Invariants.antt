use Rattle.std.proofs.Common.{None}
use Rattle.std.specs.Prelude.{not}
use Rattle.noc_vc.specs.Input.{is_empty}
use Rattle.noc_view.specs.Verdict.{ask_of, ready_port}
use Rattle.noc_view.specs.View.{route_of, view_buffer, view_claim}
use Rattle.noc_router.proofs.TableLemmas.{IsWrittenTo}
use Rattle.noc_router.proofs.router.Router.find_requests.Given as goal

-- the entries so far are there
abbrev pub invariant-loop-index : goal.invariant-loop-index
invariant-loop-index l =
    IsWrittenTo 56 l.index 0 (route_of l.relation l.self) l.routes
    × IsWrittenTo 56 l.index None (λ k. ask_of (view_claim l.self k)) l.asks
    × IsWrittenTo 56 l.index None (λ k. ready_port l.self.site.vcs (view_claim l.self k) (not (is_empty (view_buffer l.self k)))) l.ready
