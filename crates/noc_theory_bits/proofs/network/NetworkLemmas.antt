-- What the passes of a cycle rest on, for every network that was made, at every count.
use Rattle.std.proofs.Common.{◌≡◌, ℕ, suc, ◌<◌, ◌≤◌, true, List, [], length, IfSome, refl, ap, sym, ◌∙◌, subst, arith}
use Rattle.noc_theory.proofs.join.JoinLemmas.{next-view}
use Rattle.noc_theory.proofs.join.JoinedLemmas.{phases}
use Rattle.noc_theory.proofs.join.PhaseLemmas.{IsTaken, IsInjected}
use Rattle.noc_theory.proofs.join.LockstepTheoremLemmas.{are-short, good-network}
use Rattle.noc_theory_bits.proofs.Common.{tabulate, nodes, ports, local_port, neighbour, get_or-tabulate, length-tabulate, Beat, is_free, Site, View, size_of, view_output, view_after_takes, view_after_inject, local_step, ArbiterStates, CYCLE_LIMIT, IsGoodSetup, beats_at, beats_in, beat_by, view_in, view_at, Setup, State, state_at, frozen_state, frozen_at, after_injection, IsGood, ordered-state, ordered-mid, ordered-frozen, mid, well-formed, view_at-seen, IsSeen, IsTidy, HasSize, HasTaken, flit_from, credit_from}
use Rattle.noc_theory_bits.proofs.routers.CommittedLemmas.{beats-fit}
use Rattle.noc_theory_bits.proofs.network.PointerLemmas.{AreArbiters, arbiters-frozen_at}
use Rattle.noc_theory_bits.proofs.network.SteadyLemmas.{IsSteady, steady-start, steady-frozen, owed-at}
use Rattle.noc_theory_bits.proofs.network.TidyLemmas.{tidy, has-size, full}

module _ (net : Setup) (setup : IsGoodSetup net) where
  abbrev pub good : IsGood net
  good = good-network net (well-formed net setup)

  pub steady-state : (n : ℕ) → IsSteady net good (state_at net n)
  steady-state n = steady-start net good (state_at net n) (ordered-state net good n) (owed-at net good n)

  pub steady-still : (n : ℕ) → IsSteady net good (frozen_at net n)
  steady-still n = steady-frozen net good (frozen_at net n) (ordered-frozen net good n)

  module _ (n r : ℕ) (l : r < nodes net.relation.grid) where
    -- the beats on the wires to router r, its view once it has taken them, and its frozen view
    abbrev pub beats : List Beat
    beats = beats_at (beats_in net (state_at net n)) r

    abbrev pub taken_view : View
    taken_view = view_after_takes net.relation (beats_at (beats_in net (state_at net n)) r) (view_at net n r)

    abbrev pub frozen_view : View
    frozen_view = view_after_inject n (view_after_takes net.relation (beats_at (beats_in net (state_at net n)) r) (view_at net n r))

    pub taken-seen : IsTaken net (state_at net n) r (view_at net n r) taken_view
    unfolding view_at view_in
    taken-seen = (phases net good (are-short net setup)).takes (state_at net n) (ordered-state net good n) r l (view_at net n r) (view_at-seen net n r) refl

    pub entered-seen : IsInjected net (mid net (state_at net n)) n r taken_view frozen_view
    entered-seen = (phases net good (are-short net setup)).injects (mid net (state_at net n)) (ordered-mid net good n) n r l taken_view taken-seen.seen

    same-frozen : after_injection net n (mid net (state_at net n)) ≡ frozen_at net n
    unfolding frozen_state
    same-frozen = refl

    pub frozen-seen : IsSeen net (frozen_at net n) r frozen_view
    frozen-seen = subst (λ (F : State). IsSeen net F r frozen_view) same-frozen entered-seen.seen

    -- ---- the view at a count

    pub start-tidy : IsTidy (view_at net n r)
    start-tidy = tidy net good (state_at net n) (steady-state n) r l (view_at net n r) (view_at-seen net n r)

    pub start-size : HasSize (view_at net n r)
    start-size = has-size net good (state_at net n) (steady-state n) r l (view_at net n r) (view_at-seen net n r)

    -- ---- the frozen view

    pub frozen-tidy : IsTidy frozen_view
    frozen-tidy = tidy net good (frozen_at net n) (steady-still n) r l frozen_view frozen-seen

    pub frozen-size : HasSize frozen_view
    frozen-size = has-size net good (frozen_at net n) (steady-still n) r l frozen_view frozen-seen

    pub frozen-full : (o : ℕ) → o < size_of frozen_view.site → is_free (view_output frozen_view o).holder ≡ true → IfSome (view_output frozen_view o).credit (λ k. k ≡ frozen_view.site.depth)
    frozen-full = full net good (frozen_at net n) (steady-still n) r l frozen_view frozen-seen

    pub frozen-arbiters : AreArbiters (ports net.relation.grid) net.relation.vcs frozen_view.arbiters
    frozen-arbiters = subst (λ (a : ArbiterStates). AreArbiters (ports net.relation.grid) net.relation.vcs a) (sym frozen-seen.arbiters) (arbiters-frozen_at net good.relation.table.some_vcs n r l)

    -- ---- one cycle

    -- the view at the next count is that after a local step, all of it
    pub next-count : n < CYCLE_LIMIT → (local_step net.relation (view_at net n r) (beats_at (beats_in net (state_at net n)) r) n).0 ≡ view_at net (suc n) r
    unfolding local_step
    next-count few = next-view net (phases net good (are-short net setup)) n r l (omega (arith, few)) (ordered-state net good n) (ordered-mid net good n) (ordered-frozen net good n)

    pub beats-few : length beats ≤ ports (view_at net n r).site.grid
    unfolding beats_in
    beats-few =
        let row = get_or-tabulate (nodes net.relation.grid) r (λ s. tabulate (local_port net.relation.grid) (λ q. beat_by net (state_at net n) s q (neighbour net.relation.grid s q))) [] l in
        let many : length beats ≡ local_port net.relation.grid = ap length row ∙ length-tabulate (local_port net.relation.grid) _ in
        let grid : ports (view_at net n r).site.grid ≡ ports net.relation.grid = ap (λ (s : Site). ports s.grid) (view_at-seen net n r).site in
        omega (arith, many, grid)

    -- no beat misses its place, so each channel is as its own beat leaves it
    pub beats-taken : n < CYCLE_LIMIT → HasTaken net.relation (view_at net n r) taken_view (flit_from (view_at net n r).site.vcs 0 beats) (credit_from (view_at net n r).site.vcs 0 beats)
    beats-taken few =
        beats-fit net.relation (view_at net n r) beats n start-size beats-few (ap (λ (v : View). v.misfits) (next-count few) ∙ (view_at-seen net (suc n) r).misfits)
