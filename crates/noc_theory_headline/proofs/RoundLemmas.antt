-- What the arbiters of a router decide, in words of the state.
use Rattle.std.proofs.Common.{◌≡◌, ℕ, zero, suc, ◌+◌, ◌*◌, ◌/◌, ◌<◌, Bool, true, false, List, [], ◌∷◌, get_or, Option, Some, None, refl, ap, sym, ◌∙◌, subst, arith}
use Rattle.std.specs.Prelude.{is_some, option_and_then, nat_lt, slice_index}
use Rattle.std.proofs.lemmas.Bool.{false≢true, ltb-true, lt-ltb, eqb-true, eq-eqb}
use Rattle.std.proofs.lemmas.Nat.{mul-add-lt}
use Rattle.std.proofs.lemmas.List.{get_or-map}
use Rattle.std.proofs.lemmas.Option.{none-some, same_Some}
use Rattle.noc_topo.specs.Lists.{is_some_of}
use Rattle.noc_topo.specs.Shape.{nodes, ports}
use Rattle.noc_topo.proofs.ListLemmas.{length-tabulate, get_or-tabulate}
use Rattle.noc_alloc.specs.Arbiter.{RoundRobin, first_in_turn, pointers_of, arbiter_at}
use Rattle.noc_alloc.specs.Allocation.{grant_of, pick_of, picked_port, winner_of}
use Rattle.noc_alloc.proofs.WordLemmas.{is_some_of-true, is_some_of-some}
use Rattle.noc_route.specs.Channel.{Channel}
use Rattle.noc_view.specs.Verdict.{Claim, Unrouted, Waits, Holds, Stand, ask_of, asks_of, ready_of, ready_port}
use Rattle.noc_theory.specs.Network.{Setup, State, size, arriving, leaving, has_credit_in, claim_of, count_in, round_at, stand_of, stands_at, arbiters_at}
use Rattle.noc_theory.proofs.join.OrderedLemmas.{IsGood, IsOrderedFrozen}
use Rattle.noc_theory.proofs.join.PlaceViewLemmas.{IsAt, arriving-at}
use Rattle.noc_theory_headline.specs.Headline.{GoesOnBy, AsksForChannel, CanSend, HoldsAt, WinsChannel, IsPick, PickGoesThrough, WinsSwitch}
use Rattle.noc_theory_headline.proofs.ClaimLemmas.{Case, off, all_taken, asks, goes, case-of, claim-waits, claim-goes, ask-some, credit-true, credit-from}
use Rattle.noc_theory_headline.proofs.TurnLemmas.{turn-first, first-turn}

pointer-of : (arbiters : List RoundRobin) (o : ℕ) → slice_index (pointers_of arbiters) o ≡ (arbiter_at arbiters o).pointer
pointer-of [] o = refl
pointer-of (t ∷ ts) zero = refl
pointer-of (t ∷ ts) (suc o) = pointer-of ts o

module _ (net : Setup) (good : IsGood net) (F : State) (x : IsOrderedFrozen net F) (r : ℕ) (l : r < nodes net.relation.grid) where
  abbrev vcs : ℕ
  vcs = net.relation.vcs

  at-input : (i : ℕ) (c : Channel) → i < size net → arriving net r i ≡ Some c → IsAt net good r i c
  at-input i c u e = arriving-at net good r i c l u e

  -- ---- one input channel

  pub asks-true : (i : ℕ) (c : Channel) → IsAt net good r i c → (o : ℕ) → is_some_of (ask_of (claim_of net F r c)) o ≡ true → AsksForChannel net F r c o
  asks-true i c at o e = by (case-of net good F x r i c at)
    where
      by : Case net good F x r c → AsksForChannel net F r c o
      by (off n k) = absurd (false≢true (ap (λ (y : Claim). is_some_of (ask_of y) o) (sym k) ∙ e))
      by (all_taken w n k) = absurd (false≢true (ap (λ (y : Claim). is_some_of (ask_of y) o) (sym k) ∙ e))
      by (asks j a k) = subst (AsksForChannel net F r c) (eqb-true j o (ap (λ (y : Claim). is_some_of (ask_of y) o) (sym k) ∙ e)) a
      by (goes j g k) = absurd (false≢true (ap (λ (y : Claim). is_some_of (ask_of y) o) (sym k) ∙ e))

  pub asks-claim : (i : ℕ) (c : Channel) → IsAt net good r i c → (o : ℕ) → AsksForChannel net F r c o → claim_of net F r c ≡ Waits (Some o)
  asks-claim i c at o a = claim-waits net good F x r i c at a.waits ∙ ap Waits (ask-some net good F x r c o a.may a.least)

  pub sends-claim : (i : ℕ) (c : Channel) → IsAt net good r i c → (o : ℕ) → CanSend net F r c o → claim_of net F r c ≡ Holds o true
  sends-claim i c at o s = claim-goes net good F x r i c at o s.goes ∙ ap (Holds o) (credit-from net good F x r (leaving net r o) s.credit)

  -- the output port to which a flit can go
  abbrev ready : Channel → Option ℕ
  ready c = ready_port vcs (claim_of net F r c) (nat_lt 0 (count_in net F c))

  ready-sends : (i : ℕ) (c : Channel) → IsAt net good r i c → (port : ℕ) → ready c ≡ Some port → (o : ℕ) × CanSend net F r c o × (o / net.relation.vcs ≡ port)
  ready-sends i c at port e = by (case-of net good F x r i c at)
    where
      of_claim : (y : Claim) → claim_of net F r c ≡ y → ready_port vcs y (nat_lt 0 (count_in net F c)) ≡ Some port
      of_claim y k = ap (λ (z : Claim). ready_port vcs z (nat_lt 0 (count_in net F c))) (sym k) ∙ e

      goes-by : (j : ℕ) → GoesOnBy net F r c j → (credit : Bool) → has_credit_in net F (leaving net r j) ≡ credit → (flit : Bool) → nat_lt 0 (count_in net F c) ≡ flit → ready_port vcs (Holds j credit) flit ≡ Some port
          → (o : ℕ) × CanSend net F r c o × (o / net.relation.vcs ≡ port)
      goes-by j g true h true f k = (j, record { goes = g; flit = ltb-true _ _ f; credit = credit-true net good F x r (leaving net r j) h }, same_Some _ _ k)
      goes-by j g true h false f k = absurd (none-some port k)
      goes-by j g false h flit f k = absurd (none-some port k)

      by : Case net good F x r c → (o : ℕ) × CanSend net F r c o × (o / net.relation.vcs ≡ port)
      by (off n k) = absurd (none-some port (of_claim Unrouted k))
      by (all_taken w n k) = absurd (none-some port (of_claim (Waits None) k))
      by (asks j a k) = absurd (none-some port (of_claim (Waits (Some j)) k))
      by (goes j g k) = goes-by j g (has_credit_in net F (leaving net r j)) refl (nat_lt 0 (count_in net F c)) refl (of_claim (Holds j (has_credit_in net F (leaving net r j))) k)

  sends-ready : (i : ℕ) (c : Channel) → IsAt net good r i c → (o : ℕ) → CanSend net F r c o → ready c ≡ Some (o / net.relation.vcs)
  sends-ready i c at o s =
      ap (λ (z : Claim). ready_port vcs z (nat_lt 0 (count_in net F c))) (sends-claim i c at o s)
      ∙ ap (ready_port vcs (Holds o true)) (lt-ltb _ _ s.flit)

  -- ---- the requests of all

  abbrev stand : ℕ → Stand
  stand i = stand_of net F r (arriving net r i)

  ask-at : (i : ℕ) → i < size net → get_or (asks_of (stands_at net F r)) i None ≡ ask_of (stand i).claim
  ask-at i u =
      get_or-map (λ (s : Stand). ask_of s.claim) (stands_at net F r) i (stand i) None (omega (arith, length-tabulate (size net) stand))
      ∙ ap (λ (s : Stand). ask_of s.claim) (get_or-tabulate (size net) i stand (stand i) u)

  ready-at : (i : ℕ) → i < size net → get_or (ready_of vcs (stands_at net F r)) i None ≡ ready_port vcs (stand i).claim (stand i).has_flit
  ready-at i u =
      get_or-map (λ (s : Stand). ready_port vcs s.claim s.has_flit) (stands_at net F r) i (stand i) None (omega (arith, length-tabulate (size net) stand))
      ∙ ap (λ (s : Stand). ready_port vcs s.claim s.has_flit) (get_or-tabulate (size net) i stand (stand i) u)

  ask-some_at : (i : ℕ) → i < size net → (o : ℕ) → is_some_of (get_or (asks_of (stands_at net F r)) i None) o ≡ true → HoldsAt net F r (λ c. AsksForChannel net F r c o) i
  ask-some_at i u o e = by (arriving net r i) refl
    where
      by : (a : Option Channel) → arriving net r i ≡ a → HoldsAt net F r (λ c. AsksForChannel net F r c o) i
      by None k = absurd (false≢true (sym (ap (λ y. is_some_of y o) (ask-at i u) ∙ ap (λ (a : Option Channel). is_some_of (ask_of (stand_of net F r a).claim) o) k) ∙ e))
      by (Some c) k = (c, k, asks-true i c (at-input i c u k) o (sym (ap (λ y. is_some_of y o) (ask-at i u) ∙ ap (λ (a : Option Channel). is_some_of (ask_of (stand_of net F r a).claim) o) k) ∙ e))

  some_at-ask : (i : ℕ) → i < size net → (o : ℕ) → HoldsAt net F r (λ c. AsksForChannel net F r c o) i → is_some_of (get_or (asks_of (stands_at net F r)) i None) o ≡ true
  some_at-ask i u o h =
      ap (λ y. is_some_of y o) (ask-at i u) ∙ ap (λ (a : Option Channel). is_some_of (ask_of (stand_of net F r a).claim) o) h.1
      ∙ ap (λ (y : Claim). is_some_of (ask_of y) o) (asks-claim i h.0 (at-input i h.0 u h.1) o h.2) ∙ eq-eqb o o refl

  -- input channel i can send to this output port
  abbrev SendsTo : ℕ → ℕ → Type 0
  SendsTo port i = HoldsAt net F r (λ c. (o : ℕ) × CanSend net F r c o × (o / net.relation.vcs ≡ port)) i

  ready-to : (i : ℕ) → i < size net → (port : ℕ) → get_or (ready_of vcs (stands_at net F r)) i None ≡ Some port → SendsTo port i
  ready-to i u port e = by (arriving net r i) refl
    where
      by : (a : Option Channel) → arriving net r i ≡ a → SendsTo port i
      by None k = absurd (none-some port (sym (ready-at i u ∙ ap (λ (a : Option Channel). ready_port vcs (stand_of net F r a).claim (stand_of net F r a).has_flit) k) ∙ e))
      by (Some c) k = (c, k, ready-sends i c (at-input i c u k) port (sym (ready-at i u ∙ ap (λ (a : Option Channel). ready_port vcs (stand_of net F r a).claim (stand_of net F r a).has_flit) k) ∙ e))

  to-ready : (i : ℕ) → i < size net → (port : ℕ) → SendsTo port i → get_or (ready_of vcs (stands_at net F r)) i None ≡ Some port
  to-ready i u port h =
      ready-at i u ∙ ap (λ (a : Option Channel). ready_port vcs (stand_of net F r a).claim (stand_of net F r a).has_flit) h.1
      ∙ sends-ready i h.0 (at-input i h.0 u h.1) h.2.0 h.2.1 ∙ ap Some h.2.2

  -- ---- grants

  grant-is : (o : ℕ) → o < size net → get_or (round_at net F r).grants o None
      ≡ first_in_turn (size net) (arbiter_at (arbiters_at net F r).channels o).pointer (λ i. is_some_of (get_or (asks_of (stands_at net F r)) i None) o)
  grant-is o u =
      get_or-tabulate (size net) o (grant_of (asks_of (stands_at net F r)) (size net) (pointers_of (arbiters_at net F r).channels)) None u
      ∙ ap (λ p. first_in_turn (size net) p (λ i. is_some_of (get_or (asks_of (stands_at net F r)) i None) o)) (pointer-of (arbiters_at net F r).channels o)

  pub granted-wins : (i o : ℕ) → o < size net → get_or (round_at net F r).grants o None ≡ Some i → WinsChannel net F r i o
  granted-wins i o u e =
      turn-first (size net) (arbiter_at (arbiters_at net F r).channels o).pointer (λ k. is_some_of (get_or (asks_of (stands_at net F r)) k None) o) (HoldsAt net F r (λ c. AsksForChannel net F r c o))
      (λ k v. ask-some_at k v o) (λ k v. some_at-ask k v o) i (sym (grant-is o u) ∙ e)

  pub wins-granted : (i o : ℕ) → o < size net → WinsChannel net F r i o → get_or (round_at net F r).grants o None ≡ Some i
  wins-granted i o u w =
      grant-is o u
      ∙ first-turn (size net) (arbiter_at (arbiters_at net F r).channels o).pointer (λ k. is_some_of (get_or (asks_of (stands_at net F r)) k None) o) (HoldsAt net F r (λ c. AsksForChannel net F r c o))
      (λ k v. ask-some_at k v o) (λ k v. some_at-ask k v o) i w

  -- ---- picks

  in_size : (q v : ℕ) → q < ports net.relation.grid → v < vcs → q * net.relation.vcs + v < size net
  in_size q v a b = let m : q * vcs + v < vcs * ports net.relation.grid = mul-add-lt q vcs v (ports net.relation.grid) a b in omega arith

  pick-is : (q : ℕ) → q < ports net.relation.grid → get_or (round_at net F r).picks q None
      ≡ first_in_turn vcs (arbiter_at (arbiters_at net F r).inputs q).pointer (λ v. is_some (get_or (ready_of vcs (stands_at net F r)) (q * vcs + v) None))
  pick-is q u =
      get_or-tabulate (ports net.relation.grid) q (pick_of (ready_of vcs (stands_at net F r)) vcs (pointers_of (arbiters_at net F r).inputs)) None u
      ∙ ap (λ p. first_in_turn vcs p (λ v. is_some (get_or (ready_of vcs (stands_at net F r)) (q * vcs + v) None))) (pointer-of (arbiters_at net F r).inputs q)

  -- virtual channel v of input port q can send
  abbrev Ready : ℕ → ℕ → Type 0
  Ready q v = HoldsAt net F r (λ c. (o : ℕ) × CanSend net F r c o) (q * net.relation.vcs + v)

  some-ready : (q v : ℕ) → q < ports net.relation.grid → v < vcs → is_some (get_or (ready_of vcs (stands_at net F r)) (q * vcs + v) None) ≡ true → Ready q v
  some-ready q v a b e = by (get_or (ready_of vcs (stands_at net F r)) (q * vcs + v) None) refl
    where
      by : (p : Option ℕ) → get_or (ready_of vcs (stands_at net F r)) (q * vcs + v) None ≡ p → Ready q v
      by None k = absurd (false≢true (ap is_some (sym k) ∙ e))
      by (Some port) k = let s = ready-to (q * vcs + v) (in_size q v a b) port k in (s.0, s.1, (s.2.0, s.2.1))

  ready-some : (q v : ℕ) → q < ports net.relation.grid → v < vcs → Ready q v → is_some (get_or (ready_of vcs (stands_at net F r)) (q * vcs + v) None) ≡ true
  ready-some q v a b h = ap is_some (to-ready (q * vcs + v) (in_size q v a b) (h.2.0 / vcs) (h.0, h.1, (h.2.0, h.2.1, refl)))

  pub picked-is : (q v : ℕ) → q < ports net.relation.grid → get_or (round_at net F r).picks q None ≡ Some v → IsPick net F r q v
  picked-is q v u e =
      turn-first vcs (arbiter_at (arbiters_at net F r).inputs q).pointer (λ k. is_some (get_or (ready_of vcs (stands_at net F r)) (q * vcs + k) None)) (Ready q)
      (λ k b. some-ready q k u b) (λ k b. ready-some q k u b) v (sym (pick-is q u) ∙ e)

  pub is-picked : (q v : ℕ) → q < ports net.relation.grid → IsPick net F r q v → get_or (round_at net F r).picks q None ≡ Some v
  is-picked q v u p =
      pick-is q u
      ∙ first-turn vcs (arbiter_at (arbiters_at net F r).inputs q).pointer (λ k. is_some (get_or (ready_of vcs (stands_at net F r)) (q * vcs + k) None)) (Ready q)
      (λ k b. some-ready q k u b) (λ k b. ready-some q k u b) v p

  -- ---- winners

  win-is : (port : ℕ) → port < ports net.relation.grid → get_or (round_at net F r).wins port None
      ≡ first_in_turn (ports net.relation.grid) (arbiter_at (arbiters_at net F r).outputs port).pointer (λ q. is_some_of (picked_port (ready_of vcs (stands_at net F r)) vcs (round_at net F r).picks q) port)
  win-is port u =
      get_or-tabulate (ports net.relation.grid) port (winner_of (ready_of vcs (stands_at net F r)) vcs (ports net.relation.grid) (round_at net F r).picks (pointers_of (arbiters_at net F r).outputs)) None u
      ∙ ap (λ p. first_in_turn (ports net.relation.grid) p (λ q. is_some_of (picked_port (ready_of vcs (stands_at net F r)) vcs (round_at net F r).picks q) port)) (pointer-of (arbiters_at net F r).outputs port)

  abbrev to_port : Option ℕ → ℕ → ℕ → Bool
  to_port pick q port = is_some_of (option_and_then (λ v. get_or (ready_of vcs (stands_at net F r)) (q * vcs + v) None) pick) port

  goes-through : (port q : ℕ) → q < ports net.relation.grid → is_some_of (picked_port (ready_of vcs (stands_at net F r)) vcs (round_at net F r).picks q) port ≡ true → PickGoesThrough net F r port q
  goes-through port q u e = by (get_or (round_at net F r).picks q None) refl e
    where
      by : (pick : Option ℕ) → get_or (round_at net F r).picks q None ≡ pick → to_port pick q port ≡ true → PickGoesThrough net F r port q
      by None k h = absurd (false≢true h)
      by (Some v) k h =
          let p = picked-is q v u k in
          (v, p, ready-to (q * vcs + v) (in_size q v u p.exists) port (is_some_of-true _ port h))

  through-goes : (port q : ℕ) → q < ports net.relation.grid → PickGoesThrough net F r port q → is_some_of (picked_port (ready_of vcs (stands_at net F r)) vcs (round_at net F r).picks q) port ≡ true
  through-goes port q u h =
      ap (λ pick. to_port pick q port) (is-picked q h.0 u h.1)
      ∙ is_some_of-some _ port (to-ready (q * vcs + h.0) (in_size q h.0 u h.1.exists) port h.2)

  pub won-is : (port q : ℕ) → port < ports net.relation.grid → get_or (round_at net F r).wins port None ≡ Some q → WinsSwitch net F r q port
  won-is port q u e =
      turn-first (ports net.relation.grid) (arbiter_at (arbiters_at net F r).outputs port).pointer (λ k. is_some_of (picked_port (ready_of vcs (stands_at net F r)) vcs (round_at net F r).picks k) port) (PickGoesThrough net F r port)
      (λ k b. goes-through port k b) (λ k b. through-goes port k b) q (sym (win-is port u) ∙ e)

  pub is-won : (port q : ℕ) → port < ports net.relation.grid → WinsSwitch net F r q port → get_or (round_at net F r).wins port None ≡ Some q
  is-won port q u w =
      win-is port u
      ∙ first-turn (ports net.relation.grid) (arbiter_at (arbiters_at net F r).outputs port).pointer (λ k. is_some_of (picked_port (ready_of vcs (stands_at net F r)) vcs (round_at net F r).picks k) port) (PickGoesThrough net F r port)
      (λ k b. goes-through port k b) (λ k b. through-goes port k b) q w
