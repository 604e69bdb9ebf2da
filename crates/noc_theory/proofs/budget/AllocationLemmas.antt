-- Where one of a router asks or is ready, one is granted or moves.
use Rattle.std.proofs.Common.{◌≡◌, ℕ, ◌+◌, ◌*◌, ◌/◌, ◌%◌, ◌<◌, Bool, true, false, List, get_or, Option, Some, None, ap, sym, ◌∙◌}
use Rattle.std.specs.Prelude.{filter, is_some, option_and_then}
use Rattle.noc_alloc.specs.Arbiter.{first_in_turn, distance_in_turn}
use Rattle.noc_alloc.specs.Allocation.{pick_of, picked_port, winner_of}
use Rattle.noc_alloc.proofs.ArbiterLemmas.{first_in_turn-picks}
use Rattle.noc_theory.proofs.Common.{div-mul-add, mod-mul-add, ask, Claim, Holds, Round, Unrouted, Waits, ready_port, verdict_of, Moved, ports, below, is_some_of, tabulate, some-value, is_some_of-true, is_some_of-some, get_or-tabulate}
use Rattle.noc_theory.proofs.worms.OptionLemmas.{and_then-some}
use Rattle.noc_theory.proofs.worms.MemberLemmas.{Has-kept}
use Rattle.noc_theory.proofs.worms.OpeningLemmas.{below-has}
use Rattle.noc_theory.proofs.budget.HasLemmas.{least-some}

pub is_some-value : (o : Option ℕ) (x : ℕ) → o ≡ Some x → is_some o ≡ true
is_some-value o x e = ap (λ (p : Option ℕ). is_some p) e

-- where one asks, one is first in turn
pub first_in_turn-some : (n p x : ℕ) (asks : ℕ → Bool) → x < n → asks x ≡ true → (y : ℕ) × (first_in_turn n p asks ≡ Some y)
unfolding first_in_turn
first_in_turn-some n p x asks u t =
    let r = least-some (distance_in_turn n p) (filter asks (below n)) x (Has-kept asks x (below n) (below-has x n u) t) in (r.0, r.1)

-- where an input channel of the router is ready, a port's pick wins an output port
pub switch-moves : (ports vcs : ℕ) (ready : List (Option ℕ)) (ins outs : List ℕ) (q v p : ℕ)
    → q < ports → v < vcs → get_or ready (q * vcs + v) None ≡ Some p
    → ((i o : ℕ) → get_or ready i None ≡ Some o → o < ports)
    → let picks = tabulate ports (pick_of ready vcs ins) in
    let wins = tabulate ports (winner_of ready vcs ports picks outs) in
    (q' : ℕ) × (v' : ℕ) × (p' : ℕ) × (q' < ports) × (v' < vcs) × (get_or ready (q' * vcs + v') None ≡ Some p') × (get_or picks q' None ≡ Some v') × (get_or wins p' None ≡ Some q')
switch-moves ports vcs ready ins outs q v p lq lv r range =
    let picks : List (Option ℕ) = tabulate ports (pick_of ready vcs ins) in
    let pick = first_in_turn-some vcs (get_or ins q 0) v (λ w. is_some (get_or ready (q * vcs + w) None)) lv (is_some-value _ p r) in
    let picked = first_in_turn-picks vcs (get_or ins q 0) pick.0 (λ w. is_some (get_or ready (q * vcs + w) None)) pick.1 in
    let at_pick : get_or picks q None ≡ Some pick.0 = get_or-tabulate ports q (pick_of ready vcs ins) None lq ∙ pick.1 in
    let port = some-value (get_or ready (q * vcs + pick.0) None) picked.0 in
    let goes : picked_port ready vcs picks q ≡ Some port.0 = ap (option_and_then (λ w. get_or ready (q * vcs + w) None)) at_pick ∙ port.1 in
    let out : port.0 < ports = range _ _ port.1 in
    let win = first_in_turn-some ports (get_or outs port.0 0) q (λ x. is_some_of (picked_port ready vcs picks x) port.0) lq (is_some_of-some _ _ goes) in
    let won = first_in_turn-picks ports (get_or outs port.0 0) win.0 (λ x. is_some_of (picked_port ready vcs picks x) port.0) win.1 in
    let goes' : picked_port ready vcs picks win.0 ≡ Some port.0 = is_some_of-true _ _ won.0 in
    let wins_at : get_or (tabulate ports (winner_of ready vcs ports picks outs)) port.0 None ≡ Some win.0 = get_or-tabulate ports port.0 (winner_of ready vcs ports picks outs) None out ∙ win.1 in
    let back = and_then-some (λ w. get_or ready (win.0 * vcs + w) None) (get_or picks win.0 None) port.0 goes' in
    let own_pick : pick_of ready vcs ins win.0 ≡ Some back.0 = sym (get_or-tabulate ports win.0 (pick_of ready vcs ins) None won.1) ∙ back.1 in
    let in_vcs = first_in_turn-picks vcs (get_or ins win.0 0) back.0 (λ w. is_some (get_or ready (win.0 * vcs + w) None)) own_pick in
    (win.0, back.0, port.0, won.1, in_vcs.1, back.2, back.1, wins_at)

-- an input channel with this pick and this win moves
pub moves-at : (vcs q v p : ℕ) (round : Round) (claim : Claim) (flit : Bool) → v < vcs
    → ready_port vcs claim flit ≡ Some p → get_or round.picks q None ≡ Some v → get_or round.wins p None ≡ Some q
    → verdict_of vcs round (q * vcs + v) claim flit ≡ Moved
moves-at vcs q v p round Unrouted flit l r pick win = absurd (cc r)
moves-at vcs q v p round (Waits ask) flit l r pick win = absurd (cc r)
moves-at vcs q v p round (Holds o true) false l r pick win = absurd (cc r)
moves-at vcs q v p round (Holds o false) flit l r pick win = absurd (cc r)
moves-at vcs q v p round (Holds o true) true l r pick win =
    let out : o / vcs ≡ p = let s : Some (o / vcs) ≡ Some p = r in cc in
    let port : (q * vcs + v) / vcs ≡ q = div-mul-add q vcs v l in
    let vc : (q * vcs + v) % vcs ≡ v = mod-mul-add q vcs v l in
    let first : is_some_of (get_or round.picks ((q * vcs + v) / vcs) None) ((q * vcs + v) % vcs) ≡ true
    = rw (port, vc) (is_some_of-some _ _ pick) in
    let second : is_some_of (get_or round.wins (o / vcs) None) ((q * vcs + v) / vcs) ≡ true
    = rw (port, out) (is_some_of-some _ _ win) in
    rw (first, second)
