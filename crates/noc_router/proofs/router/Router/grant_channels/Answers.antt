use Rattle.std.proofs.Common.{◌≡◌, List, Option, ℕ, length, ap, sym, subst, take_at, ◌∙◌}
use Rattle.std.specs.List.{All}
use Rattle.noc_topo.proofs.ListLemmas.{length-tabulate}
use Rattle.noc_alloc.specs.Arbiter.{RoundRobin}
use Rattle.noc_view.specs.View.{View, size_of}
use Rattle.noc_view.proofs.StandLemmas.{asks_of-stands}
use Rattle.noc_router.proofs.PlannedLemmas.{granted-view}
use Rattle.noc_router.proofs.WholeLemmas.{arbiters_view}
use Rattle.noc_router.proofs.router.Router.grant_channels.Goals as goal

pub allocate_channels-requires-clause-sizes : goal.allocate_channels-requires-clause-sizes
allocate_channels-requires-clause-sizes c =
    let v = c.args.self.now in
    let a = arbiters_view c.self.inside v c.self.view_is c.self.invariant in
    let channels : c.deref.result.now ≡ v.arbiters.channels = c.deref.ensures.value ∙ ap (λ (w : View). w.arbiters.channels) c.self.view_is in
    let many : length c.args.asks.now ≡ size_of v.site = ap (λ (xs : List (Option ℕ)). length xs) (c.requires ∙ asks_of-stands v) ∙ length-tabulate _ _ in
    subst (λ (ts : List RoundRobin). All (λ (t : RoundRobin). t.size ≡ length c.args.asks.now) ts) (sym channels) (λ k d l. a.over_channels k d l ∙ sym many)

pub returns : goal.returns
returns c =
    let v = c.args.self.now in
    let a = arbiters_view c.self.inside v c.self.view_is c.self.invariant in
    let channels : c.deref.result.now ≡ v.arbiters.channels = c.deref.ensures.value ∙ ap (λ (w : View). w.arbiters.channels) c.self.view_is in
    let many : length c.deref.result.now ≡ size_of v.site = ap (λ (ts : List RoundRobin). length ts) channels ∙ a.channels in
    let grants = c.allocate_channels.new.grants in
    take_at grants _ (size_of v.site) (ap (λ (xs : List (Option ℕ)). length xs) c.allocate_channels.ensures.grants ∙ length-tabulate _ _ ∙ many)
    ∙ granted-view v c.args.asks.now grants c.deref.result.now c.requires channels many c.allocate_channels.ensures.grants
