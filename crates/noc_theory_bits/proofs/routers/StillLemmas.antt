-- Routers in which nothing happens up to a cycle, with nothing in flight: each stays as it is, but
-- for its counts.
use Rattle.std.proofs.Common.{◌≡◌, ℕ, ◌-◌, ◌<◌, ◌≤◌, false, List, get_or, ap, sym, ◌∙◌, subst, ⊎_elim, arith}
use Rattle.std.specs.List.{All}
use Rattle.noc_view.specs.Still.{view_after_waiting}
use Rattle.noc_theory.specs.Halves.{beat_at}
use Rattle.noc_theory.specs.Lockstep.{lockstep_at}
use Rattle.noc_theory.specs.Seen.{AreSeen}
use Rattle.noc_theory.proofs.runs.RunLemmas.{count_views, past_wires}
use Rattle.noc_theory.proofs.runs.StillRunLemmas.{still-wait, without_findings}
use Rattle.noc_theory.proofs.join.LockstepTheoremLemmas.{lockstep-is_state}
use Rattle.noc_theory_bits.proofs.Common.{cases_lt, nodes, get_or-tabulate, Beat, IsHeldBefore, takes_effect, View, idle_beat, CYCLE_LIMIT, IsGoodSetup, IsSilent, beats_at, beats_in, view_at, Setup, state_at}

module _ (net : Setup) (setup : IsGoodSetup net) (n end : ℕ) (less : n < end) (limit : end ≤ CYCLE_LIMIT)
    (effect : (r : ℕ) → r < nodes net.relation.grid → takes_effect net.relation (view_at net n r) ≡ false)
    (held : (r : ℕ) → r < nodes net.relation.grid → IsHeldBefore end (view_at net n r))
    (silent : (r : ℕ) → r < nodes net.relation.grid → IsSilent (beats_at (beats_in net (state_at net n)) r)) where
  abbrev w : View → View
  w = view_after_waiting net.relation (end - n) (end - 1)

  now : AreSeen net n
  now = lockstep-is_state net setup n (omega (arith, less, limit))

  then_seen : AreSeen net end
  then_seen = lockstep-is_state net setup end limit

  -- the view of a router in the lockstep run
  at : (m : ℕ) → AreSeen net m → (r : ℕ) (d : View) → r < nodes net.relation.grid → get_or (lockstep_at net m).views r d ≡ view_at net m r
  at m seen r d l = ap (λ vs. get_or vs r d) seen.views ∙ get_or-tabulate (nodes net.relation.grid) r (view_at net m) d l

  each : (P : View → Type 0) → ((s : ℕ) → s < nodes net.relation.grid → P (view_at net n s)) → All P (lockstep_at net n).views
  each P all s d u = let low : s < nodes net.relation.grid = omega (arith, u, count_views net n) in subst P (sym (at n now s d low)) (all s low)

  quiet : (s port : ℕ) → beat_at (lockstep_at net n).wires s port ≡ idle_beat
  quiet s port =
      ⊎_elim (λ (l : s < nodes net.relation.grid). ap (λ (ws : List (List Beat)). beat_at ws s port) now.wires ∙ silent s l port)
      (λ (past : nodes net.relation.grid ≤ s). past_wires net n s port past)
      (cases_lt s (nodes net.relation.grid))

  waits : ((r : ℕ) (d : View) → r < nodes net.relation.grid → without_findings (get_or (lockstep_at net end).views r d) ≡ without_findings (w (get_or (lockstep_at net n).views r d)))
      × ((r port : ℕ) → beat_at (lockstep_at net end).wires r port ≡ idle_beat)
  waits = still-wait net n end less quiet (each (λ v. takes_effect net.relation v ≡ false) effect) (each (IsHeldBefore end) held)

  pub all-still : (r : ℕ) → r < nodes net.relation.grid → without_findings (view_at net end r) ≡ without_findings (view_after_waiting net.relation (end - n) (end - 1) (view_at net n r))
  all-still r l =
      let d : View = view_at net n r in
      ap without_findings (sym (at end then_seen r d l)) ∙ waits.0 r d l ∙ ap (λ v. without_findings (w v)) (at n now r d l)

  -- nothing is in flight then either
  pub still-silent : (r : ℕ) → r < nodes net.relation.grid → IsSilent (beats_at (beats_in net (state_at net end)) r)
  still-silent r l port = ap (λ (ws : List (List Beat)). beat_at ws r port) (sym then_seen.wires) ∙ waits.1 r port
