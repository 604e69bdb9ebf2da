-- How the pointers of the arbiters go on.
use Rattle.std.proofs.Common.{◌≡◌, ℕ, zero, suc, ◌+◌, ◌%◌, ◌<◌, Bool, true, false, List, [], ◌∷◌, length, get_or, replicate, Option, Some, None, refl, ap, sym, subst, ◌∙◌, arith, inl, inr}
use Rattle.std.specs.Prelude.{◌⊎◌, if◌then◌else◌}
use Rattle.std.proofs.lemmas.Bool.{false≢true, or_cases, or_left, or_right}
use Rattle.std.proofs.lemmas.List.{get_or-replicate, length-replicate}
use Rattle.std.proofs.lemmas.Option.{none-some}
use Rattle.noc_topo.specs.Lists.{is_some_of}
use Rattle.noc_topo.specs.Shape.{nodes, ports}
use Rattle.noc_topo.proofs.ListLemmas.{get_or-map_indexed, length-map_indexed, length-tabulate}
use Rattle.noc_alloc.specs.Arbiter.{RoundRobin, pointer_after, pointers_of, arbiter_at, arbiter_after}
use Rattle.noc_alloc.specs.Allocation.{has_won, arbiters_after_winners, winner_of, winning_pick}
use Rattle.noc_alloc.proofs.WordLemmas.{is_some_of-some, is_some_of-true}
use Rattle.noc_view.specs.Verdict.{ArbiterStates, arbiters_after, opening_arbiters, ready_of}
use Rattle.noc_theory.specs.Network.{Setup, State, size, arbiters_at, after_verdicts, frozen_at, network_cycle, opening_state, round_at, stands_at, state_at}
use Rattle.noc_theory.proofs.worms.OneBackLemmas.{arbiters-frozen, arbiters-state}
use Rattle.noc_theory.proofs.join.OrderedLemmas.{IsGood, IsOrderedFrozen}
use Rattle.noc_theory_headline.specs.Effects.{IsPointerAfter}
use Rattle.noc_theory_headline.specs.Headline.{IsPick, WinsChannel, WinsSwitch}
use Rattle.noc_theory_headline.proofs.RoundLemmas.{granted-wins, is-picked, is-won, picked-is, wins-granted, won-is}

-- ---- one list of arbiters: m of them, each over k requesters

abbrev Sized : ℕ → ℕ → List RoundRobin → Type 0
Sized m k ts = (length ts ≡ m) × ((o : ℕ) → o < m → (arbiter_at ts o).size ≡ k)

advanced-at : (winner : ℕ → Option ℕ) (ts : List RoundRobin) (o : ℕ) → o < length ts → arbiter_at (arbiters_after_winners winner ts) o ≡ arbiter_after (arbiter_at ts o) (winner o)
advanced-at winner ts o l = get_or-map_indexed (λ i (t : RoundRobin). arbiter_after t (winner i)) ts o (record { size = 0; pointer = 0 }) (record { size = 0; pointer = 0 }) l

sized-opening : (m k : ℕ) → Sized m k (replicate m (record { size = k; pointer = 0 }))
sized-opening m k = (
  length-replicate m (record { size = k; pointer = 0 }),
  λ o l. ap (λ (t : RoundRobin). t.size) (get_or-replicate m o (record { size = k; pointer = 0 }) (record { size = 0; pointer = 0 }) l),
)

sized-advanced : (m k : ℕ) (winner : ℕ → Option ℕ) (ts : List RoundRobin) → Sized m k ts → Sized m k (arbiters_after_winners winner ts)
sized-advanced m k winner ts s = (
  length-map_indexed (λ i (t : RoundRobin). arbiter_after t (winner i)) ts ∙ s.0,
  λ o l. ap (λ (t : RoundRobin). t.size) (advanced-at winner ts o (let c = s.0 in omega arith)) ∙ s.1 o l,
)

pointer-advances : (m k : ℕ) (winner : ℕ → Option ℕ) (ts : List RoundRobin) → Sized m k ts → (Wins : ℕ → Type 0) (o : ℕ) → o < m
    → ((x : ℕ) → winner o ≡ Some x → Wins x) → ((x : ℕ) → Wins x → winner o ≡ Some x) → IsPointerAfter k Wins (arbiter_at ts o).pointer (arbiter_at (arbiters_after_winners winner ts) o).pointer
pointer-advances m k winner ts s Wins o l to from = (
  (λ x w. is ∙ ap (pointer_after (arbiter_at ts o).size (arbiter_at ts o).pointer) (from x w) ∙ ap (λ z. (x + 1) % z) (s.1 o l)),
  (λ none. is ∙ stays (winner o) refl none),
)
  where
    is : (arbiter_at (arbiters_after_winners winner ts) o).pointer ≡ pointer_after (arbiter_at ts o).size (arbiter_at ts o).pointer (winner o)
    is = ap (λ (t : RoundRobin). t.pointer) (advanced-at winner ts o (let c = s.0 in omega arith))

    stays : (w : Option ℕ) → winner o ≡ w → ((x : ℕ) → Wins x → ⊥) → pointer_after (arbiter_at ts o).size (arbiter_at ts o).pointer (winner o) ≡ (arbiter_at ts o).pointer
    stays None e none = ap (pointer_after (arbiter_at ts o).size (arbiter_at ts o).pointer) e
    stays (Some x) e none = absurd (none x (to x e))

-- ---- an input port that has won

won-some : (wins : List (Option ℕ)) (q : ℕ) → has_won wins q ≡ true → (k : ℕ) × (k < length wins) × (get_or wins k None ≡ Some q)
won-some [] q e = absurd (false≢true e)
won-some (win ∷ wins) q e = by (or_cases (is_some_of win q) (has_won wins q) e) (won-some wins q)
  where
    by : (is_some_of win q ≡ true) ⊎ (has_won wins q ≡ true) → (has_won wins q ≡ true → (k : ℕ) × (k < length wins) × (get_or wins k None ≡ Some q))
        → (k : ℕ) × (k < length (win ∷ wins)) × (get_or (win ∷ wins) k None ≡ Some q)
    by (inl h) rest = (0, omega arith, is_some_of-true win q h)
    by (inr h) rest = let r = rest h in (suc r.0, (let l = r.1 in omega arith), r.2)

some-won : (wins : List (Option ℕ)) (k q : ℕ) → k < length wins → get_or wins k None ≡ Some q → has_won wins q ≡ true
some-won [] k q l e = absurd (omega arith)
some-won (win ∷ wins) zero q l e = or_left (is_some_of win q) (has_won wins q) (is_some_of-some win q e)
some-won (win ∷ wins) (suc k) q l e = or_right (is_some_of win q) (has_won wins q) (some-won wins k q (omega arith) e)

-- ---- all arbiters of a router

record AreSized (net : Setup) (t : ArbiterStates) : Type 0 where
  channels : Sized (size net) (size net) t.channels
  inputs : Sized (ports net.relation.grid) net.relation.vcs t.inputs
  outputs : Sized (ports net.relation.grid) (ports net.relation.grid) t.outputs

module _ (net : Setup) where
  pub arbiters-after : (n : ℕ) (F : State) (r : ℕ) → r < length F.arbiters → arbiters_at net (after_verdicts net n F) r ≡ arbiters_after (round_at net F r) (arbiters_at net F r)
  unfolding after_verdicts
  arbiters-after n F r l = get_or-map_indexed (λ s (t : ArbiterStates). arbiters_after (round_at net F s) t) F.arbiters r (record { channels = []; inputs = []; outputs = [] }) (record { channels = []; inputs = []; outputs = [] }) l

  frozen-count : (n : ℕ) → length (frozen_at net n).arbiters ≡ nodes net.relation.grid
  frozen-count n = ap length (arbiters-frozen net n (state_at net n)) ∙ arbiters-state net n

  sized-at : (n r : ℕ) → r < nodes net.relation.grid → AreSized net (arbiters_at net (state_at net n) r)
  unfolding state_at network_cycle opening_state
  sized-at zero r l =
      let is : arbiters_at net (opening_state net) r ≡ opening_arbiters (ports net.relation.grid) net.relation.vcs =
      get_or-replicate (nodes net.relation.grid) r (opening_arbiters (ports net.relation.grid) net.relation.vcs) (record { channels = []; inputs = []; outputs = [] }) l in
      subst (AreSized net) (sym is) (record {
        channels = sized-opening (size net) (size net);
        inputs = sized-opening (ports net.relation.grid) net.relation.vcs;
        outputs = sized-opening (ports net.relation.grid) (ports net.relation.grid);
      })
  sized-at (suc n) r l =
      let F = frozen_at net n in
      let before = sized-at n r l in
      let c = frozen-count n in
      let same : arbiters_at net F r ≡ arbiters_at net (state_at net n) r = ap (λ ts. get_or ts r (record { channels = []; inputs = []; outputs = [] })) (arbiters-frozen net n (state_at net n)) in
      let s = subst (AreSized net) (sym same) before in
      let round = round_at net F r in
      subst (AreSized net) (sym (arbiters-after n F r (omega arith))) (record {
        channels = sized-advanced (size net) (size net) (λ o. get_or round.grants o None) (arbiters_at net F r).channels s.channels;
        inputs = sized-advanced (ports net.relation.grid) net.relation.vcs (winning_pick round.picks round.wins) (arbiters_at net F r).inputs s.inputs;
        outputs = sized-advanced (ports net.relation.grid) (ports net.relation.grid) (λ q. get_or round.wins q None) (arbiters_at net F r).outputs s.outputs;
      })

  module _ (good : IsGood net) (n : ℕ) (x : IsOrderedFrozen net (frozen_at net n)) (r : ℕ) (l : r < nodes net.relation.grid) where
    abbrev F : State
    F = frozen_at net n

    abbrev T : State
    T = after_verdicts net n F

    now : arbiters_at net T r ≡ arbiters_after (round_at net F r) (arbiters_at net F r)
    now = arbiters-after n F r (let c = frozen-count n in omega arith)

    sized : AreSized net (arbiters_at net F r)
    sized = subst (AreSized net) (ap (λ ts. get_or ts r (record { channels = []; inputs = []; outputs = [] })) (sym (arbiters-frozen net n (state_at net n)))) (sized-at n r l)

    pub channel-pointers : (o : ℕ) → o < size net → IsPointerAfter (size net) (λ i. WinsChannel net F r i o) (arbiter_at (arbiters_at net F r).channels o).pointer (arbiter_at (arbiters_at net T r).channels o).pointer
    channel-pointers o u =
        subst (λ (t : ArbiterStates). IsPointerAfter (size net) (λ i. WinsChannel net F r i o) (arbiter_at (arbiters_at net F r).channels o).pointer (arbiter_at t.channels o).pointer) (sym now)
        (pointer-advances (size net) (size net) (λ k. get_or (round_at net F r).grants k None) (arbiters_at net F r).channels sized.channels (λ i. WinsChannel net F r i o) o u
        (λ i e. granted-wins net good F x r l i o u e) (λ i w. wins-granted net good F x r l i o u w))

    pub output-pointers : (port : ℕ) → port < ports net.relation.grid
        → IsPointerAfter (ports net.relation.grid) (λ q. WinsSwitch net F r q port) (arbiter_at (arbiters_at net F r).outputs port).pointer (arbiter_at (arbiters_at net T r).outputs port).pointer
    output-pointers port u =
        subst (λ (t : ArbiterStates). IsPointerAfter (ports net.relation.grid) (λ q. WinsSwitch net F r q port) (arbiter_at (arbiters_at net F r).outputs port).pointer (arbiter_at t.outputs port).pointer) (sym now)
        (pointer-advances (ports net.relation.grid) (ports net.relation.grid) (λ k. get_or (round_at net F r).wins k None) (arbiters_at net F r).outputs sized.outputs (λ q. WinsSwitch net F r q port) port u
        (λ q e. won-is net good F x r l port q u e) (λ q w. is-won net good F x r l port q u w))

    -- the pick of an input port, where the port won an output port
    abbrev Moves : ℕ → ℕ → Type 0
    Moves port v = IsPick net F r port v × ((out : ℕ) × (out < ports net.relation.grid) × WinsSwitch net F r port out)

    count-wins : length (round_at net F r).wins ≡ ports net.relation.grid
    count-wins = length-tabulate (ports net.relation.grid) (winner_of (ready_of net.relation.vcs (stands_at net F r)) net.relation.vcs (ports net.relation.grid) (round_at net F r).picks (pointers_of (arbiters_at net F r).outputs))

    picks-moves : (port v : ℕ) → port < ports net.relation.grid → winning_pick (round_at net F r).picks (round_at net F r).wins port ≡ Some v → Moves port v
    picks-moves port v u e = by (has_won (round_at net F r).wins port) refl e
      where
        by : (b : Bool) → has_won (round_at net F r).wins port ≡ b → (if b then get_or (round_at net F r).picks port None else None) ≡ Some v → Moves port v
        by false h g = absurd (none-some v g)
        by true h g =
            let won = won-some (round_at net F r).wins port h in
            let low : won.0 < ports net.relation.grid = (let a = won.1 in let c = count-wins in omega arith) in
            (picked-is net good F x r l port v u g, (won.0, low, won-is net good F x r l won.0 port low won.2))

    moves-picks : (port v : ℕ) → port < ports net.relation.grid → Moves port v → winning_pick (round_at net F r).picks (round_at net F r).wins port ≡ Some v
    moves-picks port v u m =
        let won : has_won (round_at net F r).wins port ≡ true = some-won (round_at net F r).wins m.1.0 port (let c = count-wins in let a = m.1.1 in omega arith) (is-won net good F x r l m.1.0 port m.1.1 m.1.2) in
        ap (λ (b : Bool). if b then get_or (round_at net F r).picks port None else None) won ∙ is-picked net good F x r l port v u m.0

    pub input-pointers : (port : ℕ) → port < ports net.relation.grid
        → IsPointerAfter net.relation.vcs (Moves port) (arbiter_at (arbiters_at net F r).inputs port).pointer (arbiter_at (arbiters_at net T r).inputs port).pointer
    input-pointers port u =
        subst (λ (t : ArbiterStates). IsPointerAfter net.relation.vcs (Moves port) (arbiter_at (arbiters_at net F r).inputs port).pointer (arbiter_at t.inputs port).pointer) (sym now)
        (pointer-advances (ports net.relation.grid) net.relation.vcs (winning_pick (round_at net F r).picks (round_at net F r).wins) (arbiters_at net F r).inputs sized.inputs (Moves port) port u
        (λ v e. picks-moves port v u e) (λ v m. moves-picks port v u m))
