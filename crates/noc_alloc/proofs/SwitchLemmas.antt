-- Picks, wins and the pointers that move.
use Rattle.std.proofs.Common.{◌≡◌, ℕ, ◌+◌, ◌*◌, ◌<◌, ◌≤◌, Bool, true, false, List, [], ◌∷◌, length, get_or, set, take, zero, suc, Option, Some, None, refl, ap, sym, ◌∙◌, arith, inl, inr, subst, get_or-set_same, get_or-set_other}
use Rattle.std.specs.Prelude.{All, IfSome, ◌⊎◌, ◌||◌, nat_lt, if◌then◌else◌}
use Rattle.std.proofs.lemmas.Bool.{cases_eq, cases_lt, false≢true, or_cases, lt-ltb, le-ltb}
use Rattle.std.proofs.lemmas.Nat.{mul-add-lt, row_fits}
use Rattle.std.proofs.lemmas.List.{get_or-map}
use Rattle.noc_topo.specs.Lists.{is_some_of, tabulate}
use Rattle.noc_alloc.specs.Arbiter.{RoundRobin, first_in_turn, arbiter_after, arbiter_at, pointers_of}
use Rattle.noc_alloc.specs.Allocation.{picked_port, winner_of, has_won, winning_pick, moving_pick, arbiters_after_winners, is_won_by, pick_won}
use Rattle.noc_alloc.specs.Steps.{arbiters_after_winner}
use Rattle.noc_topo.proofs.ListLemmas.{map_indexed-from_each, length-map_indexed, get_or-map_indexed, get_or-tabulate, length-tabulate}
use Rattle.noc_alloc.proofs.WordLemmas.{is_some_of-true, is_some_of-some, is_some_of-none, is_some_of-other}
use Rattle.noc_alloc.proofs.ArbiterLemmas.{first_in_turn-picks}

-- the index of an input channel is one of a list with so many for each port
pub in_ready : (ports vcs port v : ℕ) → port < ports → v < vcs → port * vcs + v < ports * vcs
in_ready ports vcs port v l u = let m : port * vcs + v < vcs * ports = mul-add-lt port vcs v ports l u in omega arith

-- the input channels of a port, of so many in each, are in the list
pub port_in_ready : (ports vcs port size n : ℕ) → port < ports → size ≡ vcs → n ≡ ports * vcs → port * vcs + size ≤ n
port_in_ready ports vcs port size n l same long = let m : port * vcs + vcs ≤ ports * vcs = row_fits port vcs ports vcs l (omega arith) in omega arith

-- one that is picked is below the size
pub first_in_turn-below : (n p : ℕ) (asks : ℕ → Bool) → IfSome (first_in_turn n p asks) (λ y. y < n)
first_in_turn-below n p asks = at (first_in_turn n p asks) refl
  where
    at : (r : Option ℕ) → first_in_turn n p asks ≡ r → IfSome r (λ y. y < n)
    at None e = tt
    at (Some y) e = (first_in_turn-picks n p y asks e).1

pub pointer-at : (arbiters : List RoundRobin) (o : ℕ) → o < length arbiters → get_or (pointers_of arbiters) o 0 ≡ (arbiter_at arbiters o).pointer
pointer-at arbiters o l = get_or-map (λ (t : RoundRobin). t.pointer) arbiters o (record { size = 0; pointer = 0 }) 0 l

-- every winner is below the number of requesters
pub tabulate-inside : (n m : ℕ) (f : ℕ → Option ℕ) (xs : List (Option ℕ)) → ((k : ℕ) → IfSome (f k) (λ y. y < m)) → xs ≡ tabulate n f → All (λ x. IfSome x (λ y. y < m)) xs
tabulate-inside n m f xs inside is k d l =
    let same : length xs ≡ n = ap (λ (ys : List (Option ℕ)). length ys) is ∙ length-tabulate n f in
    subst (λ o. IfSome o (λ y. y < m)) (sym (ap (λ ys. get_or ys k d) is ∙ get_or-tabulate n k f d (omega arith))) (inside k)

-- ---- pointers
-- to advance past one winner twice is to advance once
pub advanced-again : (t : RoundRobin) (b : Bool) (w : Option ℕ) → arbiter_after (arbiter_after t (if b then w else None)) w ≡ arbiter_after t w
advanced-again t true None = refl
advanced-again t true (Some x) = refl
advanced-again t false None = refl
advanced-again t false (Some x) = refl

pub has_won-more : (wins : List (Option ℕ)) (i port : ℕ) → i < length wins → has_won (take (i + 1) wins) port ≡ (has_won (take i wins) port || is_some_of (get_or wins i None) port)
has_won-more [] i port l = absurd (omega arith)
has_won-more (w ∷ ws) zero port l = regrouped (is_some_of w port)
  where
    regrouped : (b : Bool) → (b || false) ≡ (false || b)
    regrouped true = refl
    regrouped false = refl
has_won-more (w ∷ ws) (suc i) port l =
    rw (let e : suc i + 1 ≡ suc (i + 1) = omega arith in e)
    (ap (λ b. is_some_of w port || b) (has_won-more ws i port (omega arith)) ∙ regrouped (is_some_of w port) (has_won (take i ws) port) (is_some_of (get_or ws i None) port))
  where
    regrouped : (a b c : Bool) → (a || (b || c)) ≡ ((a || b) || c)
    regrouped true b c = refl
    regrouped false b c = refl

-- the arbiters of the input ports, where the output ports below i have been looked at
abbrev pub AllAdvanced : List RoundRobin → List (Option ℕ) → List (Option ℕ) → ℕ → List RoundRobin → Type 0
AllAdvanced before picks wins i after = (k : ℕ) → k < length before → arbiter_at after k ≡ arbiter_after (arbiter_at before k) (winning_pick picks (take i wins) k)

pub advanced-more : (before after : List RoundRobin) (picks wins : List (Option ℕ)) (i : ℕ) (r : Option ℕ) → get_or wins i None ≡ r → i < length wins → length after ≡ length before
    → IfSome r (λ q. q < length before)
    → AllAdvanced before picks wins i after → AllAdvanced before picks wins (i + 1) (arbiters_after_winner r picks after)
advanced-more before after picks wins i None e l same inside h k u =
    h k u
    ∙ ap (λ b. arbiter_after (arbiter_at before k) (if b then get_or picks k None else None))
    (sym (has_won-more wins i k l ∙ ap (λ b. has_won (take i wins) k || b) (is_some_of-none (get_or wins i None) k e) ∙ or_false (has_won (take i wins) k)))
  where
    or_false : (b : Bool) → (b || false) ≡ b
    or_false true = refl
    or_false false = refl
advanced-more before after picks wins i (Some q) e l same inside h k u = at (cases_eq k q)
  where
    or_false : (b : Bool) → (b || false) ≡ b
    or_false true = refl
    or_false false = refl

    or_true : (b : Bool) → (b || true) ≡ true
    or_true true = refl
    or_true false = refl

    at : (k ≡ q) ⊎ (k ≡ q → ⊥) → arbiter_at (set after q (arbiter_after (arbiter_at after q) (get_or picks q None))) k ≡ arbiter_after (arbiter_at before k) (winning_pick picks (take (i + 1) wins) k)
    at (inl is) =
        let won : has_won (take (i + 1) wins) q ≡ true = has_won-more wins i q l ∙ ap (λ b. has_won (take i wins) q || b) (is_some_of-some (get_or wins i None) q e) ∙ or_true (has_won (take i wins) q) in
        ap (arbiter_at (set after q (arbiter_after (arbiter_at after q) (get_or picks q None)))) is
        ∙ get_or-set_same after q (arbiter_after (arbiter_at after q) (get_or picks q None)) (record { size = 0; pointer = 0 }) (omega arith)
        ∙ ap (λ (t : RoundRobin). arbiter_after t (get_or picks q None)) (h q inside)
        ∙ advanced-again (arbiter_at before q) (has_won (take i wins) q) (get_or picks q None)
        ∙ ap (λ b. arbiter_after (arbiter_at before q) (if b then get_or picks q None else None)) (sym won)
        ∙ ap (λ j. arbiter_after (arbiter_at before j) (winning_pick picks (take (i + 1) wins) j)) (sym is)
    at (inr other) =
        get_or-set_other after q k (arbiter_after (arbiter_at after q) (get_or picks q None)) (record { size = 0; pointer = 0 }) other
        ∙ h k u
        ∙ ap (λ b. arbiter_after (arbiter_at before k) (if b then get_or picks k None else None))
        (sym (has_won-more wins i k l ∙ ap (λ b. has_won (take i wins) k || b) (is_some_of-other (get_or wins i None) k q e (λ same_port. other (sym same_port))) ∙ or_false (has_won (take i wins) k)))

-- the arbiters below i have advanced
abbrev pub AreAdvancedBelow : List RoundRobin → List (Option ℕ) → ℕ → List RoundRobin → Type 0
AreAdvancedBelow before wins i after = (k : ℕ) → arbiter_at after k ≡ (if nat_lt k i then arbiter_after (arbiter_at before k) (get_or wins k None) else arbiter_at before k)

-- one arbiter more has gone on
pub advanced_below-more : (before after : List RoundRobin) (wins : List (Option ℕ)) (i : ℕ) (new : RoundRobin) → i < length after → new ≡ arbiter_after (arbiter_at before i) (get_or wins i None)
    → AreAdvancedBelow before wins i after → AreAdvancedBelow before wins (i + 1) (set after i new)
advanced_below-more before after wins i new l is so_far k = at (cases_eq k i) (cases_lt k i)
  where
    at : (k ≡ i) ⊎ (k ≡ i → ⊥) → (k < i) ⊎ (i ≤ k) → arbiter_at (set after i new) k ≡ (if nat_lt k (i + 1) then arbiter_after (arbiter_at before k) (get_or wins k None) else arbiter_at before k)
    at (inl same) _ =
        ap (arbiter_at (set after i new)) same ∙ get_or-set_same after i new (record { size = 0; pointer = 0 }) l ∙ is
        ∙ ap (λ j. arbiter_after (arbiter_at before j) (get_or wins j None)) (sym same)
        ∙ sym (ap (λ b. if b then arbiter_after (arbiter_at before k) (get_or wins k None) else arbiter_at before k) (lt-ltb k (i + 1) (omega arith)))
    at (inr other) (inl less) =
        get_or-set_other after i k new (record { size = 0; pointer = 0 }) other ∙ so_far k
        ∙ ap (λ b. if b then arbiter_after (arbiter_at before k) (get_or wins k None) else arbiter_at before k) (lt-ltb k i less ∙ sym (lt-ltb k (i + 1) (omega arith)))
    at (inr other) (inr more) =
        get_or-set_other after i k new (record { size = 0; pointer = 0 }) other ∙ so_far k
        ∙ ap (λ b. if b then arbiter_after (arbiter_at before k) (get_or wins k None) else arbiter_at before k) (le-ltb k i more ∙ sym (le-ltb k (i + 1) (omega arith)))

-- all arbiters have gone on
pub advanced_below-all : (before after : List RoundRobin) (wins : List (Option ℕ)) (i : ℕ) → length before ≤ i → length after ≡ length before
    → AreAdvancedBelow before wins i after → after ≡ arbiters_after_winners (λ k. get_or wins k None) before
advanced_below-all before after wins i all same advanced =
    map_indexed-from_each (λ k (t : RoundRobin). arbiter_after t (get_or wins k None)) before after (record { size = 0; pointer = 0 }) (record { size = 0; pointer = 0 }) same
    (λ k l. advanced k ∙ ap (λ b. if b then arbiter_after (arbiter_at before k) (get_or wins k None) else arbiter_at before k) (lt-ltb k i (omega arith)))

-- an arbiter that advances is over as many as before
pub advanced_by-sizes : (winner : ℕ → Option ℕ) (before after : List RoundRobin) (n : ℕ) → after ≡ arbiters_after_winners winner before → All (λ (t : RoundRobin). t.size ≡ n) before → All (λ (t : RoundRobin). t.size ≡ n) after
advanced_by-sizes winner before after n is sizes k d l =
    let f : ℕ → RoundRobin → RoundRobin = λ i t. arbiter_after t (winner i) in
    let u : k < length before = omega (arith, ap (λ (ts : List RoundRobin). length ts) is, length-map_indexed f before) in
    ap (λ (ts : List RoundRobin). (get_or ts k d).size) is ∙ ap (λ (t : RoundRobin). t.size) (get_or-map_indexed f before k d d u) ∙ sizes k d u

-- ---- an input port has won exactly where its pick won the output port that it goes to
has_won-at : (wins : List (Option ℕ)) (port : ℕ) → has_won wins port ≡ true → (o : ℕ) × (o < length wins) × (get_or wins o None ≡ Some port)
has_won-at [] port e = absurd (false≢true e)
has_won-at (w ∷ ws) port e = at (or_cases (is_some_of w port) (has_won ws port) e) (λ t. has_won-at ws port t)
  where
    at : (is_some_of w port ≡ true) ⊎ (has_won ws port ≡ true) → (has_won ws port ≡ true → (o : ℕ) × (o < length ws) × (get_or ws o None ≡ Some port))
        → (o : ℕ) × (o < length (w ∷ ws)) × (get_or (w ∷ ws) o None ≡ Some port)
    at (inl t) rest = (0, omega arith, is_some_of-true w port t)
    at (inr t) rest = let r = rest t in (suc r.0, omega (arith, r.1), r.2)

has_won-from : (wins : List (Option ℕ)) (port o : ℕ) → get_or wins o None ≡ Some port → has_won wins port ≡ true
has_won-from [] port o e = absurd (cc e)
has_won-from (w ∷ ws) port zero e = ap (λ b. b || has_won ws port) (is_some_of-some w port e)
has_won-from (w ∷ ws) port (suc o) e = ap (λ b. is_some_of w port || b) (has_won-from ws port o e) ∙ or_true (is_some_of w port)
  where
    or_true : (b : Bool) → (b || true) ≡ true
    or_true true = refl
    or_true false = refl

pub won-is_pick_won : (ready : List (Option ℕ)) (vcs ports n : ℕ) (picks : List (Option ℕ)) (ps : List ℕ) (port : ℕ)
    → let wins = tabulate n (winner_of ready vcs ports picks ps) in has_won wins port ≡ pick_won ready vcs picks wins port
won-is_pick_won ready vcs ports n picks ps port = at (picked_port ready vcs picks port) refl (has_won (tabulate n (winner_of ready vcs ports picks ps)) port) refl
  where
    -- the output port that it won is the one that its pick goes to
    goes : has_won (tabulate n (winner_of ready vcs ports picks ps)) port ≡ true
        → (o : ℕ) × (picked_port ready vcs picks port ≡ Some o) × (get_or (tabulate n (winner_of ready vcs ports picks ps)) o None ≡ Some port)
    goes t =
        let r = has_won-at (tabulate n (winner_of ready vcs ports picks ps)) port t in
        let w : winner_of ready vcs ports picks ps r.0 ≡ Some port = sym (get_or-tabulate n r.0 (winner_of ready vcs ports picks ps) None (omega (arith, r.1, length-tabulate n (winner_of ready vcs ports picks ps)))) ∙ r.2 in
        let asks = first_in_turn-picks ports (get_or ps r.0 0) port (λ q. is_some_of (picked_port ready vcs picks q) r.0) w in
        (r.0, is_some_of-true (picked_port ready vcs picks port) r.0 asks.0, r.2)

    at : (p : Option ℕ) → picked_port ready vcs picks port ≡ p → (b : Bool) → has_won (tabulate n (winner_of ready vcs ports picks ps)) port ≡ b
        → has_won (tabulate n (winner_of ready vcs ports picks ps)) port ≡ is_won_by (tabulate n (winner_of ready vcs ports picks ps)) port (picked_port ready vcs picks port)
    at None e true t = let g = goes t in let no : None ≡ Some g.0 = sym e ∙ g.1 in absurd (cc no)
    at None e false t = t ∙ sym (ap (is_won_by (tabulate n (winner_of ready vcs ports picks ps)) port) e)
    at (Some o) e true t =
        let g = goes t in
        t ∙ sym (ap (is_won_by (tabulate n (winner_of ready vcs ports picks ps)) port) g.1 ∙ is_some_of-some (get_or (tabulate n (winner_of ready vcs ports picks ps)) g.0 None) port g.2)
    at (Some o) e false t = t ∙ sym (ap (is_won_by (tabulate n (winner_of ready vcs ports picks ps)) port) e ∙ off (is_some_of (get_or (tabulate n (winner_of ready vcs ports picks ps)) o None) port) refl)
      where
        off : (b : Bool) → is_some_of (get_or (tabulate n (winner_of ready vcs ports picks ps)) o None) port ≡ b → b ≡ false
        off false _ = refl
        off true won = absurd (false≢true (sym t ∙ has_won-from (tabulate n (winner_of ready vcs ports picks ps)) port o (is_some_of-true (get_or (tabulate n (winner_of ready vcs ports picks ps)) o None) port won)))

-- two rules that name the same winners move the same pointers
advanced_by-same : (f g : ℕ → Option ℕ) (arbiters : List RoundRobin) → ((i : ℕ) → f i ≡ g i) → arbiters_after_winners f arbiters ≡ arbiters_after_winners g arbiters
advanced_by-same f g arbiters same =
    map_indexed-from_each (λ i (t : RoundRobin). arbiter_after t (g i)) arbiters (arbiters_after_winners f arbiters) (record { size = 0; pointer = 0 }) (record { size = 0; pointer = 0 })
    (length-map_indexed (λ i (t : RoundRobin). arbiter_after t (f i)) arbiters)
    (λ i l. get_or-map_indexed (λ i (t : RoundRobin). arbiter_after t (f i)) arbiters i (record { size = 0; pointer = 0 }) (record { size = 0; pointer = 0 }) l ∙ ap (arbiter_after (arbiter_at arbiters i)) (same i))

pub moved-by_requests : (ready : List (Option ℕ)) (vcs ports : ℕ) (ps : List ℕ) (picks wins : List (Option ℕ)) (arbiters : List RoundRobin)
    → wins ≡ tabulate (length wins) (winner_of ready vcs ports picks ps) → arbiters_after_winners (winning_pick picks wins) arbiters ≡ arbiters_after_winners (moving_pick ready vcs picks wins) arbiters
moved-by_requests ready vcs ports ps picks wins arbiters is =
    advanced_by-same (winning_pick picks wins) (moving_pick ready vcs picks wins) arbiters
    (λ port. ap (λ b. if b then get_or picks port None else None)
    (let P : List (Option ℕ) → Type 0 = λ ws. has_won ws port ≡ pick_won ready vcs picks ws port in
    subst P (sym is) (won-is_pick_won ready vcs ports (length wins) picks ps port)))
