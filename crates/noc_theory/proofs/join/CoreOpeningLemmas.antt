-- A core opened on a network begins where its routers are in lockstep, and the
-- counts of a channel add up.
use Rattle.std.proofs.Common.{◌≡◌, ℕ, suc, ◌+◌, ◌-◌, ◌^◌, ◌<◌, ◌≤◌, List, [], ◌∷◌, length, sum, ap, sym, ◌∙◌, arith}
use Rattle.std.specs.Prelude.{if◌then◌else◌}
use Rattle.std.proofs.lemmas.List.Sums.{get_or-le-sum_by}
use Rattle.noc_theory.proofs.Common.{All, same_lists, map_indexed, tabulate, nodes, length-tabulate, get_or-tabulate, length-map_indexed, get_or-map_indexed, Beat, View, CYCLE_LIMIT, Post, is_linked, link_ports, resting_post, IsGoodSetup, beat_at, lockstep_core, lockstep_wires, counts_before, lockstep_at, lockstep_cycle, view_at, Run, Setup, verdict_in_cycle}
use Rattle.noc_theory.specs.Core.{opening_core, wires_in_flight}
use Rattle.noc_theory.specs.Seen.{shown_at}
use Rattle.noc_theory.proofs.verdicts.CountLemmas.{sum-counts}
use Rattle.noc_theory.proofs.join.LockstepTheoremLemmas.{lockstep-is_state}

-- the lockstep run, as one value
pub shown-is : (net : Setup) → IsGoodSetup net → (n : ℕ) → n ≤ CYCLE_LIMIT → lockstep_at net n ≡ shown_at net n
shown-is net good n l =
    let seen = lockstep-is_state net good n l in
    ap (λ (views : List View). record { views = views; wires = (lockstep_at net n).wires }) seen.views
    ∙ ap (λ (wires : List (List Beat)). record { views = tabulate (nodes net.relation.grid) (view_at net n); wires = wires }) seen.wires

pub shown-next : (net : Setup) → IsGoodSetup net → (n : ℕ) → n < CYCLE_LIMIT → shown_at net (n + 1) ≡ lockstep_cycle net n (shown_at net n)
unfolding lockstep_at
shown-next net good n l =
    sym (shown-is net good (n + 1) (omega arith))
    ∙ next n
    ∙ ap (lockstep_cycle net n) (shown-is net good n (omega arith))
  where
    next : (n : ℕ) → lockstep_at net (n + 1) ≡ lockstep_cycle net n (lockstep_at net n)
    next n = let e : n + 1 ≡ suc n = omega arith in ap (lockstep_at net) e

pub opening-is : (u : Run) → IsGoodSetup u.net → u.count ≤ CYCLE_LIMIT → opening_core u ≡ lockstep_core u
unfolding opening_core lockstep_core
opening-is u good few =
    let net = u.net in
    let n = u.count in
    let size = nodes net.relation.grid in
    let seen = lockstep-is_state net good n few in
    let at = λ (r : ℕ) (view : View). resting_post net view n (lockstep_wires net n r) in
    let first = λ (r : ℕ). resting_post net (view_at net n r) n (wires_in_flight net n r) in
    let views = tabulate size (view_at net n) in
    let count : length (tabulate size (view_at net n)) ≡ size = length-tabulate size (view_at net n) in
    ap (λ (posts : List Post). record { net = net; posts = posts })
    (same_lists (tabulate size first) (map_indexed at views) (length-tabulate size first ∙ sym (length-map_indexed at views ∙ count))
    (λ r d l.
    let low : r < size = let c = length-tabulate size first in omega arith in
    get_or-tabulate size r first d low
    ∙ ap (λ (wires : List (List Beat)). resting_post net (view_at net n r) n (tabulate (link_ports net) (λ port. if is_linked net r port then beat_at wires r port ∷ [] else []))) (sym seen.wires)
    ∙ ap (at r) (sym (get_or-tabulate size r (view_at net n) (view_at net n r) low))
    ∙ sym (get_or-map_indexed at views r (view_at net n r) d (omega (arith, count))))
    ∙ ap (map_indexed at) (sym seen.views))

-- ---- counts

pub counts-sum : (net : Setup) (n r i : ℕ) → sum (counts_before net n r i) ≡ n
counts-sum net n r i = sum-counts (λ m. verdict_in_cycle net m r i) n

pub counts-few : (net : Setup) (n r i : ℕ) → n ≤ CYCLE_LIMIT → All (λ count. count < 2 ^ 64 - 1) (counts_before net n r i)
counts-few net n r i few k d l =
    let s = counts-sum net n r i in
    let b = get_or-le-sum_by (λ x. x) (counts_before net n r i) k d l in
    omega arith
