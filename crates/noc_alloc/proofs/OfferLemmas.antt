-- Requesters that are offered to their arbiters one after another, the least first.
use Rattle.std.proofs.Common.{◌≡◌, ℕ, ◌+◌, ◌*◌, ◌<◌, Bool, true, false, refl, ap, ◌∙◌, List, length, get_or, set, Option, Some, None, sym, arith, inl, inr, subst, get_or-set_same, get_or-set_other}
use Rattle.std.specs.Prelude.{◌⊎◌, ◌||◌, nat_le, nat_lt, is_some, option_and_then, if◌then◌else◌}
use Rattle.std.proofs.lemmas.Bool.{cases_eq, leb-true, leb-false, ltb-true, ltb-false}
use Rattle.std.proofs.lemmas.List.{get_or_read, length-set}
use Rattle.noc_topo.specs.Lists.{is_some_of, tabulate}
use Rattle.noc_alloc.specs.Arbiter.{RoundRobin, arbiter_at, first_in_turn, earlier, pointers_of}
use Rattle.noc_alloc.specs.Allocation.{pick_of, picked_port, winner_of}
use Rattle.noc_alloc.specs.Steps.{firsts_after_request}
use Rattle.noc_alloc.proofs.WordLemmas.{is_some_of-some, is_some_of-none, is_some_of-other}
use Rattle.noc_topo.proofs.ListLemmas.{tabulate-from_each}
use Rattle.noc_alloc.proofs.ArbiterLemmas.{IsNearest, first_in_turn-same, nearest-is, nearest-skips, nearest-one, nearest-held, nearest-next}
use Rattle.noc_alloc.proofs.SwitchLemmas.{pointer-at}

-- the later one asks
pub nearest-asks : (n p k : ℕ) (asks : ℕ → Bool) (r : Option ℕ) → k < n → asks k ≡ true → IsNearest n p asks k r → IsNearest n p asks (k + 1) (Some (earlier p r k))
nearest-asks n p k asks None u e h = nearest-one n p k asks e h
nearest-asks n p k asks (Some x) u e h = at (nat_le p x) (nat_lt k p) refl refl
  where
    at : (a b : Bool) → nat_le p x ≡ a → nat_lt k p ≡ b → IsNearest n p asks (k + 1) (Some (if a || b then x else k))
    at true b ea eb = nearest-held n p k x asks u (inl (leb-true p x ea)) h
    at false true ea eb = nearest-held n p k x asks u (inr (ltb-true k p eb)) h
    at false false ea eb = nearest-next n p k x asks u (leb-false p x ea) (ltb-false k p eb) e h

-- each arbiter holds the requester that it puts first, of those below k
abbrev pub AllNearest : ℕ → List RoundRobin → (ℕ → Option ℕ) → ℕ → List (Option ℕ) → Type 0
AllNearest n arbiters asks k held = (o : ℕ) → o < length arbiters → IsNearest n (get_or (pointers_of arbiters) o 0) (λ i. is_some_of (asks i) o) k (get_or held o None)

pub nearest-none : (n : ℕ) (arbiters : List RoundRobin) (asks : ℕ → Option ℕ) (held : List (Option ℕ)) → ((o : ℕ) → o < length arbiters → get_or held o None ≡ None) → AllNearest n arbiters asks 0 held
nearest-none n arbiters asks held none o l =
    subst (IsNearest n (get_or (pointers_of arbiters) o 0) (λ i. is_some_of (asks i) o) 0) (sym (none o l)) (λ y u. absurd (omega arith))

-- one requester more, which asks for something or for nothing
pub nearest-offered : (n k : ℕ) (arbiters : List RoundRobin) (asks : ℕ → Option ℕ) (held : List (Option ℕ)) (ask : Option ℕ) → asks k ≡ ask → k < n → length held ≡ length arbiters
    → AllNearest n arbiters asks k held → AllNearest n arbiters asks (k + 1) (firsts_after_request arbiters ask k held)
nearest-offered n k arbiters asks held None e u same h o l =
    nearest-skips n (get_or (pointers_of arbiters) o 0) k (λ i. is_some_of (asks i) o) (get_or held o None) (is_some_of-none (asks k) o e) (h o l)
nearest-offered n k arbiters asks held (Some out) e u same h o l = at (cases_eq o out)
  where
    first : Option ℕ
    first = Some (earlier (arbiter_at arbiters out).pointer (get_or held out None) k)

    at : (o ≡ out) ⊎ (o ≡ out → ⊥) → IsNearest n (get_or (pointers_of arbiters) o 0) (λ i. is_some_of (asks i) o) (k + 1) (get_or (set held out first) o None)
    at (inl is) =
        let inside : out < length arbiters = omega arith in
        subst (λ x. IsNearest n (get_or (pointers_of arbiters) x 0) (λ i. is_some_of (asks i) x) (k + 1) (get_or (set held out first) x None)) (sym is)
        (subst (IsNearest n (get_or (pointers_of arbiters) out 0) (λ i. is_some_of (asks i) out) (k + 1))
        (sym (get_or-set_same held out first None (omega arith)))
        (subst (λ q. IsNearest n (get_or (pointers_of arbiters) out 0) (λ i. is_some_of (asks i) out) (k + 1) (Some (earlier q (get_or held out None) k))) (pointer-at arbiters out inside)
        (nearest-asks n (get_or (pointers_of arbiters) out 0) k (λ i. is_some_of (asks i) out) (get_or held out None) u (is_some_of-some (asks k) out e) (h out inside))))
    at (inr other) =
        subst (IsNearest n (get_or (pointers_of arbiters) o 0) (λ i. is_some_of (asks i) o) (k + 1)) (sym (get_or-set_other held out o first None other))
        (nearest-skips n (get_or (pointers_of arbiters) o 0) k (λ i. is_some_of (asks i) o) (get_or held o None) (is_some_of-other (asks k) o out e (λ same_out. other (sym same_out))) (h o l))

pub length-firsts : (arbiters : List RoundRobin) (ask : Option ℕ) (k : ℕ) (held : List (Option ℕ)) → length (firsts_after_request arbiters ask k held) ≡ length held
length-firsts arbiters None k held = refl
length-firsts arbiters (Some o) k held = length-set held o (Some (earlier (arbiter_at arbiters o).pointer (get_or held o None) k))

-- all have been offered
pub nearest-all : (n : ℕ) (arbiters : List RoundRobin) (asks : ℕ → Option ℕ) (held : List (Option ℕ)) → length held ≡ length arbiters → AllNearest n arbiters asks n held
    → held ≡ tabulate (length arbiters) (λ o. first_in_turn n (get_or (pointers_of arbiters) o 0) (λ i. is_some_of (asks i) o))
nearest-all n arbiters asks held long all =
    tabulate-from_each (length arbiters) (λ o. first_in_turn n (get_or (pointers_of arbiters) o 0) (λ i. is_some_of (asks i) o)) held None long
    (λ o l. nearest-is n (get_or (pointers_of arbiters) o 0) (λ i. is_some_of (asks i) o) (get_or held o None) (all o l))

-- ---- the two stages of the switch
-- the output port for which an input port asks
abbrev pub port_of_pick : List (Option ℕ) → ℕ → List ℕ → ℕ → Option ℕ
port_of_pick ready vcs pointers q = option_and_then (λ v. get_or ready (q * vcs + v) None) (pick_of ready vcs pointers q)

-- the output ports are won, once all picks have been offered
pub wins-offered : (ready : List (Option ℕ)) (vcs n : ℕ) (pointers : List ℕ) (picks : List (Option ℕ)) (arbiters : List RoundRobin) (wins : List (Option ℕ))
    → ((k : ℕ) → k < n → get_or picks k None ≡ pick_of ready vcs pointers k) → length wins ≡ length arbiters → AllNearest n arbiters (port_of_pick ready vcs pointers) n wins
    → wins ≡ tabulate (length arbiters) (winner_of ready vcs n picks (pointers_of arbiters))
wins-offered ready vcs n pointers picks arbiters wins are long all =
    tabulate-from_each (length arbiters) (winner_of ready vcs n picks (pointers_of arbiters)) wins None long
    (λ o l. nearest-is n (get_or (pointers_of arbiters) o 0) (λ q. is_some_of (port_of_pick ready vcs pointers q) o) (get_or wins o None) (all o l)
    ∙ first_in_turn-same n (get_or (pointers_of arbiters) o 0) (λ q. is_some_of (port_of_pick ready vcs pointers q) o) (λ q. is_some_of (picked_port ready vcs picks q) o)
    (λ q u. ap (λ pick. is_some_of (option_and_then (λ v. get_or ready (q * vcs + v) None) pick) o) (sym (are q u))))

-- the pick of an input port, by its arbiter
pub pick-at : (ready : List (Option ℕ)) (vcs : ℕ) (arbiters : List RoundRobin) (port : ℕ) (t : RoundRobin) → port < length arbiters → t ≡ get_or arbiters port t → t.size ≡ vcs
    → first_in_turn t.size t.pointer (λ v. is_some (get_or ready (port * vcs + v) None)) ≡ pick_of ready vcs (pointers_of arbiters) port
pick-at ready vcs arbiters port t l is size =
    let p : get_or (pointers_of arbiters) port 0 ≡ t.pointer = pointer-at arbiters port l ∙ ap (λ (x : RoundRobin). x.pointer) (sym (get_or_read arbiters port t l is (record { size = 0; pointer = 0 }))) in
    ap (λ n. first_in_turn n t.pointer (λ v. is_some (get_or ready (port * vcs + v) None))) size
    ∙ ap (λ q. first_in_turn vcs q (λ v. is_some (get_or ready (port * vcs + v) None))) (sym p)
