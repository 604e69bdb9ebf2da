-- A router in a cycle without an event: no output channel is asked for, no flit can go on, and so
-- its arbiters stay as they are.
use Rattle.std.proofs.Common.{◌≡◌, ℕ, ◌+◌, ◌*◌, ◌<◌, ◌≤◌, Bool, true, false, cond, List, length, get_or, Option, Some, None, refl, ap, ◌∙◌, arith, inl, inr}
use Rattle.std.specs.Prelude.{◌⊎◌, find, is_some, nat_lt, option_and_then, slice_index, if◌then◌else◌}
use Rattle.noc_alloc.specs.Arbiter.{RoundRobin, arbiter_after, pointers_of}
use Rattle.noc_alloc.specs.Allocation.{arbiters_after_winners, grant_of, has_won, pick_of, picked_port, winner_of, winning_pick}
use Rattle.noc_alloc.proofs.ArbiterLemmas.{first_in_turn-none}
use Rattle.noc_view.proofs.StillLemmas.{map_indexed-same}
use Rattle.noc_theory.proofs.Common.{cases_lt, ltb-true, get_or_past, below, is_some_of, nodes, ports, get_or-tabulate, length-tabulate, Channel, ArbiterStates, Round, Unrouted, Waits, arbiters_after, ask_of, ready_port, Setup, State, arbiters_at, arriving, ask, claim_of, claim_with, count_in, has_channel, has_credit_in, next_channel, owner_of, round_at, size, stand_of}
use Rattle.noc_theory.proofs.worms.GrantLemmas.{Has-below}
use Rattle.noc_theory.proofs.worms.OptionLemmas.{and_then-some}
use Rattle.noc_theory.proofs.budget.HasLemmas.{find-has}
use Rattle.noc_theory.proofs.budget.ProgressRecordLemmas.{IsBuilt}
use Rattle.noc_theory.proofs.budget.RouterLemmas.{asks, grant-given, ready, stand-at, stand-past}
use Rattle.noc_theory.proofs.budget.WormChainLemmas.{IsChain, IsQuiet}
use Rattle.noc_theory.proofs.budget.WormLemmas.{allowed_at, next-moves, ungranted}

-- a value from a list that was made by a function without a value
none-from : (n : ℕ) (f : ℕ → Option ℕ) (xs : List (Option ℕ)) → length xs ≡ n → ((i : ℕ) → i < n → get_or xs i None ≡ f i) → ((i : ℕ) → f i ≡ None) → (i : ℕ) → get_or xs i None ≡ None
none-from n f xs count each none i = at (cases_lt i n)
  where
    at : (i < n) ⊎ (n ≤ i) → get_or xs i None ≡ None
    at (inl l) = each i l ∙ none i
    at (inr u) = get_or_past xs i None (omega (arith, count))

-- the pick of nobody
either-none : (b : Bool) → ◌≡◌ {A = Option ℕ} (if b then None else None) None
either-none true = refl
either-none false = refl

-- where nobody is granted, picked or wins, the arbiters stay as they are
arbiters-stay : (round : Round) (arbiters : ArbiterStates) → ((o : ℕ) → get_or round.grants o None ≡ None) → ((q : ℕ) → get_or round.picks q None ≡ None) → ((port : ℕ) → get_or round.wins port None ≡ None)
    → arbiters_after round arbiters ≡ arbiters
arbiters-stay round arbiters grants picks wins =
    let start : RoundRobin = record { size = 0; pointer = 0 } in
    let channels : arbiters_after_winners (λ o. get_or round.grants o None) arbiters.channels ≡ arbiters.channels =
    map_indexed-same (λ o (t : RoundRobin). arbiter_after t (get_or round.grants o None)) arbiters.channels start (λ o t. ap (arbiter_after t) (grants o)) in
    let inputs : arbiters_after_winners (winning_pick round.picks round.wins) arbiters.inputs ≡ arbiters.inputs =
    map_indexed-same (λ q (t : RoundRobin). arbiter_after t (winning_pick round.picks round.wins q)) arbiters.inputs start
    (λ q t. ap (arbiter_after t) (ap (λ pick. if has_won round.wins q then pick else None) (picks q) ∙ either-none (has_won round.wins q))) in
    let outputs : arbiters_after_winners (λ port. get_or round.wins port None) arbiters.outputs ≡ arbiters.outputs =
    map_indexed-same (λ port (t : RoundRobin). arbiter_after t (get_or round.wins port None)) arbiters.outputs start (λ port t. ap (arbiter_after t) (wins port)) in
    rw (channels, inputs, outputs) refl

module _ (net : Setup) (F : State) (built : IsBuilt net) (worm : IsChain net F) (n : ℕ) (quiet : IsQuiet net n F) (r : ℕ) (in_net : r < nodes net.relation.grid) where
  -- an output channel that is asked for would be granted
  unasked : (c : Channel) (i : ℕ) → i < size net → arriving net r i ≡ Some c → ask_of (claim_of net F r c) ≡ None
  unasked c i l e = at (has_channel F.routed c) refl (next_channel net F c) refl (ask net F r c) refl
    where
      granted : (o : ℕ) → claim_of net F r c ≡ Waits (ask net F r c) → ask net F r c ≡ Some o → ⊥
      granted o waits asked =
          let owned = and_then-some (λ p. find (allowed_at net F c p r) (below (size net))) (owner_of net F c) o asked in
          let there = Has-below o (size net) (find-has (allowed_at net F c owned.0 r) (below (size net)) o owned.2).0 in
          let g = grant-given net built F c r i o in_net l e there (waits ∙ ap Waits asked) in
          ungranted net F built worm n quiet g.0 g.1 g.2

      at : (b : Bool) → has_channel F.routed c ≡ b → (next : Option Channel) → next_channel net F c ≡ next → (o : Option ℕ) → ask net F r c ≡ o → ask_of (claim_of net F r c) ≡ None
      at false h next k o a = ap (λ b. ask_of (cond b (claim_with net F r c (next_channel net F c)) Unrouted)) h
      at true h (Some d) k o a = ap (λ b. ask_of (cond b (claim_with net F r c (next_channel net F c)) Unrouted)) h ∙ ap (λ x. ask_of (claim_with net F r c x)) k
      at true h None k None a = ap (λ b. ask_of (cond b (claim_with net F r c (next_channel net F c)) Unrouted)) h ∙ ap (λ x. ask_of (claim_with net F r c x)) k ∙ a
      at true h None k (Some o) a =
          absurd (granted o (ap (λ b. cond b (claim_with net F r c (next_channel net F c)) Unrouted) h ∙ ap (claim_with net F r c) k) a)

  -- a flit that can go on would move
  unready : (c : Channel) → ready_port net.relation.vcs (claim_of net F r c) (nat_lt 0 (count_in net F c)) ≡ None
  unready c = at (has_channel F.routed c) refl (next_channel net F c) refl
    where
      moves : (o : Channel) → next_channel net F c ≡ Some o → (credit : Bool) → has_credit_in net F o ≡ credit → (flit : Bool) → nat_lt 0 (count_in net F c) ≡ flit
          → ready_port net.relation.vcs (claim_with net F r c (Some o)) (nat_lt 0 (count_in net F c)) ≡ None
      moves o k false cr flit f = rw cr refl
      moves o k true cr false f = rw (cr, f) refl
      moves o k true cr true f = absurd (next-moves net F built worm n quiet c o k cr (ltb-true _ _ f))

      at : (b : Bool) → has_channel F.routed c ≡ b → (next : Option Channel) → next_channel net F c ≡ next → ready_port net.relation.vcs (claim_of net F r c) (nat_lt 0 (count_in net F c)) ≡ None
      at false h next k = ap (λ b. ready_port net.relation.vcs (cond b (claim_with net F r c (next_channel net F c)) Unrouted) (nat_lt 0 (count_in net F c))) h
      at true h None k =
          ap (λ b. ready_port net.relation.vcs (cond b (claim_with net F r c (next_channel net F c)) Unrouted) (nat_lt 0 (count_in net F c))) h
          ∙ ap (λ x. ready_port net.relation.vcs (claim_with net F r c x) (nat_lt 0 (count_in net F c))) k
      at true h (Some o) k =
          ap (λ b. ready_port net.relation.vcs (cond b (claim_with net F r c (next_channel net F c)) Unrouted) (nat_lt 0 (count_in net F c))) h
          ∙ ap (λ x. ready_port net.relation.vcs (claim_with net F r c x) (nat_lt 0 (count_in net F c))) k
          ∙ moves o k (has_credit_in net F o) refl (nat_lt 0 (count_in net F c)) refl

  no-ask : (i : ℕ) → get_or (asks net built F r) i None ≡ None
  no-ask i = at (cases_lt i (size net))
    where
      by : i < size net → (c : Option Channel) → arriving net r i ≡ c → ask_of (stand_of net F r c).claim ≡ None
      by l None e = refl
      by l (Some c) e = unasked c i l e

      at : (i < size net) ⊎ (size net ≤ i) → get_or (asks net built F r) i None ≡ None
      at (inl l) = stand-at net built F (λ stand. ask_of stand.claim) None r i l ∙ by l (arriving net r i) refl
      at (inr u) = stand-past net built F (λ stand. ask_of stand.claim) None r i u

  no-ready : (i : ℕ) → get_or (ready net built F r) i None ≡ None
  no-ready i = at (cases_lt i (size net))
    where
      by : (c : Option Channel) → ready_port net.relation.vcs (stand_of net F r c).claim (stand_of net F r c).has_flit ≡ None
      by None = refl
      by (Some c) = unready c

      at : (i < size net) ⊎ (size net ≤ i) → get_or (ready net built F r) i None ≡ None
      at (inl l) = stand-at net built F (λ stand. ready_port net.relation.vcs stand.claim stand.has_flit) None r i l ∙ by (arriving net r i)
      at (inr u) = stand-past net built F (λ stand. ready_port net.relation.vcs stand.claim stand.has_flit) None r i u

  -- so the arbiters stay as they are
  pub arbiters-unasked : (arbiters : ArbiterStates) → arbiters_after (round_at net F r) arbiters ≡ arbiters
  arbiters-unasked arbiters = arbiters-stay (round_at net F r) arbiters grants picks wins
    where
      router_arbiters : ArbiterStates
      router_arbiters = arbiters_at net F r

      requests : List (Option ℕ)
      requests = ready net built F r

      n_ports : ℕ
      n_ports = ports net.relation.grid

      grants : (o : ℕ) → get_or (round_at net F r).grants o None ≡ None
      grants =
          let f = grant_of (asks net built F r) (size net) (pointers_of router_arbiters.channels) in
          none-from (size net) f (round_at net F r).grants (length-tabulate (size net) f) (λ i l. get_or-tabulate (size net) i f None l)
          (λ o. first_in_turn-none (size net) (slice_index (pointers_of router_arbiters.channels) o) (λ i. is_some_of (get_or (asks net built F r) i None) o) (λ i l. ap (λ x. is_some_of x o) (no-ask i)))

      picks : (q : ℕ) → get_or (round_at net F r).picks q None ≡ None
      picks =
          let f = pick_of requests net.relation.vcs (pointers_of router_arbiters.inputs) in
          none-from n_ports f (round_at net F r).picks (length-tabulate n_ports f) (λ i l. get_or-tabulate n_ports i f None l)
          (λ q. first_in_turn-none net.relation.vcs (slice_index (pointers_of router_arbiters.inputs) q) (λ v. is_some (get_or requests (q * net.relation.vcs + v) None)) (λ v l. ap is_some (no-ready (q * net.relation.vcs + v))))

      wins : (port : ℕ) → get_or (round_at net F r).wins port None ≡ None
      wins =
          let f = winner_of requests net.relation.vcs n_ports (round_at net F r).picks (pointers_of router_arbiters.outputs) in
          none-from n_ports f (round_at net F r).wins (length-tabulate n_ports f) (λ i l. get_or-tabulate n_ports i f None l)
          (λ port. first_in_turn-none n_ports (slice_index (pointers_of router_arbiters.outputs) port) (λ q. is_some_of (picked_port requests net.relation.vcs (round_at net F r).picks q) port)
          (λ q l. ap (λ pick. is_some_of (option_and_then (λ v. get_or requests (q * net.relation.vcs + v) None) pick) port) (picks q)))
