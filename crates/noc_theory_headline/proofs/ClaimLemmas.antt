-- What an input channel can go on with, in words of the state.
use Rattle.std.proofs.Common.{◌≡◌, ℕ, ◌+◌, ◌*◌, ◌/◌, ◌<◌, Bool, true, false, cond, Option, Some, None, refl, ap, sym, ◌∙◌, inl, inr, subst, arith}
use Rattle.std.specs.Prelude.{◌⊎◌, find, option_and_then, option_map, unwrap_or, is_none, not, nat_lt, ◌&&◌, ◌||◌}
use Rattle.std.proofs.lemmas.Bool.{false≢true, true≢false, eq-eqb, and_parts, and_from, lt-ltb, ltb-true, or_cases, false_from_ne_true, not-true}
use Rattle.std.proofs.lemmas.Nat.{div-add-mod'}
use Rattle.std.proofs.lemmas.Option.{none-some, same_Some}
use Rattle.std.proofs.Math.Bool.{or-true}
use Rattle.noc_topo.specs.Lists.{below, is_some_of, Has}
use Rattle.noc_topo.specs.Shape.{local_port}
use Rattle.noc_route.specs.Channel.{Channel, Link, Inject, Eject, sending_router, is_link}
use Rattle.noc_route.specs.Routes.{permits}
use Rattle.noc_route.proofs.BuiltLemmas.{linked-port}
use Rattle.noc_route.proofs.OptionLemmas.{is_none-none}
use Rattle.noc_view.specs.Verdict.{Unrouted, Waits, Holds, verdict_of}
use Rattle.noc_view.proofs.FindLemmas.{find-below, find-none as find-below-none, find-some}
use Rattle.noc_theory_headline.proofs.SearchLemmas.{find-least_below, find-absent}
use Rattle.noc_theory.specs.Network.{Setup, State, size, packet_at, leaving, owner_of, next_channel, has_channel, has_credit_in, credit_of, is_idle, ask, claim_of, claim_with, verdict_in, verdict_at, count_in, round_at, end_of, leads_from}
use Rattle.noc_theory.proofs.worms.MoveLemmas.{IsNext, next-is, leads-end}
use Rattle.noc_theory.proofs.worms.NextLemmas.{next-from}
use Rattle.noc_theory.proofs.worms.OwnedLemmas.{owner-has, owner-is}
use Rattle.noc_theory.proofs.join.OrderedLemmas.{IsGood, IsOrderedFrozen}
use Rattle.noc_theory.proofs.join.PlaceViewLemmas.{IsAt, IsFrom, input-at, leaving-from, begins-at, mod-below, link-from, eject-from}
use Rattle.noc_theory_headline.specs.Headline.{IsRouted, HasCredit, GoesOnBy, IsWaiting, MayTake, AsksForChannel}

module _ (net : Setup) (good : IsGood net) (F : State) (x : IsOrderedFrozen net F) (r : ℕ) where
  -- ---- next channels

  leads : (i : ℕ) (c : Channel) → IsAt net good r i c → (o : ℕ) → leads_from net c (leaving net r o) ≡ true
  leads i c at o =
      ap (λ b. unwrap_or (option_map (is_some_of (end_of net.relation c)) b) false) (begins-at net good r o)
      ∙ ap (λ (a : Option (ℕ × ℕ)). is_some_of (option_map (λ (place : ℕ × ℕ). place.0) a) r) at.arrives ∙ eq-eqb r r refl

  pub goes-next : (i : ℕ) (c : Channel) → IsAt net good r i c → (o : ℕ) → GoesOnBy net F r c o → next_channel net F c ≡ Some (leaving net r o)
  goes-next i c at o g =
      next-from net good.built F x.whole.sound.keyed x.whole.sound.worm g.packet c (leaving net r o) (owner-has net F c g.packet g.here)
      (record { owns = owner-has net F (leaving net r o) g.packet g.next; leads = leads i c at o })

  -- the next channel is one of the output channels of the router
  from : (i p : ℕ) (c o : Channel) → IsAt net good r i c → Has (c, p) F.own → next_channel net F c ≡ Some o → (j : ℕ) × IsFrom net good r j o × Has (o, p) F.own
  from i p c o at h e = by o (next-is net good.built F x.whole.sound.keyed x.whole.sound.worm p c o h e)
    where
      end : (o : Channel) → leads_from net c o ≡ true → (s : ℕ) → sending_router o ≡ Some s → s ≡ r
      end o leads s b =
          let q = leads-end net c o leads in
          let a : q.0 ≡ s = same_Some _ _ (sym q.1 ∙ b) in
          let z : q.0 ≡ r = same_Some _ _ (sym q.2 ∙ ap (option_map (λ (place : ℕ × ℕ). place.0)) at.arrives) in
          sym a ∙ z

      by : (o : Channel) → IsNext net good.built F x.whole.sound.keyed x.whole.sound.worm p c o → (j : ℕ) × IsFrom net good r j o × Has (o, p) F.own
      by (Link a b w) n =
          let s : a ≡ r = end (Link a b w) n.leads a refl in
          let at_o = input-at net good (Link a b w) (x.whole.covered (Link a b w) p (n.owns, (λ z. z))) in
          let port : b < local_port net.relation.grid = linked-port net.relation.grid a b (at_o.0, at_o.1 / net.relation.vcs) at_o.2.arrives in
          let low : w < net.relation.vcs = subst (λ k. k < net.relation.vcs) (sym at_o.2.vc) (mod-below net good at_o.1) in
          (b * net.relation.vcs + w, subst (λ k. IsFrom net good r (b * net.relation.vcs + w) (Link k b w)) (sym s) (link-from net good r b w port low), n.owns)
      by (Inject a w) n = absurd (false≢true n.leads)
      by (Eject a w) n =
          let s : a ≡ r = end (Eject a w) n.leads a refl in
          let low : w < net.relation.vcs = x.more.low a w p n.owns in
          (local_port net.relation.grid * net.relation.vcs + w, subst (λ k. IsFrom net good r (local_port net.relation.grid * net.relation.vcs + w) (Eject k w)) (sym s) (eject-from net good r w low), n.owns)

  next-goes : (i : ℕ) (c o : Channel) → IsAt net good r i c → IsRouted net F r c → next_channel net F c ≡ Some o → (j : ℕ) × GoesOnBy net F r c j
  next-goes i c o at routed e =
      let held = x.whole.routed.mid.only c routed in
      let n = from i held.0 c o at held.1.0 e in (
        n.0,
        record {
          packet = held.0;
          here = owner-is net F c held.0 x.whole.sound.worm.once held.1.0;
          next = ap (owner_of net F) n.1.found ∙ owner-is net F o held.0 x.whole.sound.worm.once n.2;
          exists = n.1.index;
          routed = routed;
        },
      )

  -- ---- credits

  pub credit-true : (o : Channel) → has_credit_in net F o ≡ true → HasCredit net F r o
  credit-true o e = by (or_cases (not (is_link o)) (nat_lt 0 (credit_of net F o)) e)
    where
      by : (not (is_link o) ≡ true) ⊎ (nat_lt 0 (credit_of net F o) ≡ true) → HasCredit net F r o
      by (inl k) = inl (not-true (is_link o) k)
      by (inr k) = inr (ltb-true _ _ k)

  pub credit-from : (o : Channel) → HasCredit net F r o → has_credit_in net F o ≡ true
  credit-from o (inl k) = ap (λ b. not b || nat_lt 0 (credit_of net F o)) k
  credit-from o (inr k) = ap (λ b. not (is_link o) || b) (lt-ltb _ _ k) ∙ or-true (not (is_link o))

  -- ---- what is asked for

  abbrev test : ℕ → Channel → ℕ → Bool
  test p c o = is_idle net F (leaving net r o) && permits net.relation (packet_at net p).class c (packet_at net p).destination (leaving net r o)

  passes-may : (p : ℕ) (c : Channel) (o : ℕ) → owner_of net F c ≡ Some p → o < size net → test p c o ≡ true → MayTake net F r c o
  passes-may p c o own l e =
      let parts = and_parts _ _ e in
      record { packet = p; here = own; permitted = parts.1; idle = is_none-none (owner_of net F (leaving net r o)) parts.0; exists = l }

  may-passes : (p : ℕ) (c : Channel) (o : ℕ) → owner_of net F c ≡ Some p → MayTake net F r c o → test p c o ≡ true
  may-passes p c o own m =
      let same : m.packet ≡ p = same_Some _ _ (sym m.here ∙ own) in
      and_from _ _ (ap is_none m.idle) (subst (λ k. permits net.relation (packet_at net k).class c (packet_at net k).destination (leaving net r o) ≡ true) same m.permitted)

  ask-found : (p : ℕ) (c : Channel) → owner_of net F c ≡ Some p → ask net F r c ≡ find (test p c) (below (size net))
  ask-found p c own = ap (option_and_then (λ q. find (test q c) (below (size net)))) own

  pub ask-some : (c : Channel) (o : ℕ) → MayTake net F r c o → ((k : ℕ) → k < o → ¬ MayTake net F r c k) → ask net F r c ≡ Some o
  ask-some c o m least =
      ask-found m.packet c m.here
      ∙ find-below (test m.packet c) (size net) o m.exists (may-passes m.packet c o m.here m)
      (λ k l. let in_size : k < size net = within k l m.exists in false_from_ne_true (test m.packet c k) (λ e. least k l (passes-may m.packet c k m.here in_size e)))
    where
      within : (k : ℕ) → k < o → o < size net → k < size net
      within k l u = omega arith

  pub some-ask : (p : ℕ) (c : Channel) (o : ℕ) → owner_of net F c ≡ Some p → ask net F r c ≡ Some o → MayTake net F r c o × ((k : ℕ) → k < o → ¬ MayTake net F r c k)
  some-ask p c o own e =
      let f = sym (ask-found p c own) ∙ e in
      let s = find-some (test p c) (size net) o f in
      (passes-may p c o own s.1 s.0, λ k l m. true≢false (sym (may-passes p c k own m) ∙ find-least_below (test p c) (size net) o k f l))

  pub ask-none : (p : ℕ) (c : Channel) → owner_of net F c ≡ Some p → ((o : ℕ) → ¬ MayTake net F r c o) → ask net F r c ≡ None
  ask-none p c own none = ask-found p c own ∙ find-below-none (test p c) (size net) (λ k l. false_from_ne_true (test p c k) (λ e. none k (passes-may p c k own l e)))

  pub none-ask : (p : ℕ) (c : Channel) → owner_of net F c ≡ Some p → ask net F r c ≡ None → (o : ℕ) → ¬ MayTake net F r c o
  none-ask p c own e o m = true≢false (sym (may-passes p c o own m) ∙ find-absent (test p c) (size net) o (sym (ask-found p c own) ∙ e) m.exists)

  -- ---- claims

  pub data Case (c : Channel) : Type 0 where
    off : (IsRouted net F r c → ⊥) → claim_of net F r c ≡ Unrouted → Case c
    all_taken : IsWaiting net F r c → ((o : ℕ) → ¬ MayTake net F r c o) → claim_of net F r c ≡ Waits None → Case c
    asks : (o : ℕ) → AsksForChannel net F r c o → claim_of net F r c ≡ Waits (Some o) → Case c
    goes : (o : ℕ) → GoesOnBy net F r c o → claim_of net F r c ≡ Holds o (has_credit_in net F (leaving net r o)) → Case c

  pub claim-off : (c : Channel) → (IsRouted net F r c → ⊥) → claim_of net F r c ≡ Unrouted
  claim-off c n = ap (λ b. cond b (claim_with net F r c (next_channel net F c)) Unrouted) (false_from_ne_true (has_channel F.routed c) n)

  claim-on : (c : Channel) → IsRouted net F r c → claim_of net F r c ≡ claim_with net F r c (next_channel net F c)
  claim-on c e = ap (λ b. cond b (claim_with net F r c (next_channel net F c)) Unrouted) e

  pub claim-goes : (i : ℕ) (c : Channel) → IsAt net good r i c → (o : ℕ) → GoesOnBy net F r c o → claim_of net F r c ≡ Holds o (has_credit_in net F (leaving net r o))
  claim-goes i c at o g =
      claim-on c g.routed ∙ ap (claim_with net F r c) (goes-next i c at o g)
      ∙ ap (λ k. Holds k (has_credit_in net F (leaving net r o))) (leaving-from net good r o g.exists).is_index

  pub claim-waits : (i : ℕ) (c : Channel) → IsAt net good r i c → IsWaiting net F r c → claim_of net F r c ≡ Waits (ask net F r c)
  claim-waits i c at w = claim-on c w.routed ∙ ap (claim_with net F r c) (none (next_channel net F c) refl)
    where
      none : (o : Option Channel) → next_channel net F c ≡ o → next_channel net F c ≡ None
      none None e = e
      none (Some o) e = let g = next-goes i c o at w.routed e in absurd (w.no_next g.0 g.1)

  pub case-of : (i : ℕ) (c : Channel) → IsAt net good r i c → Case c
  case-of i c at = by (has_channel F.routed c) refl
    where
      waiting : IsWaiting net F r c → (p : ℕ) → owner_of net F c ≡ Some p → (a : Option ℕ) → ask net F r c ≡ a → Case c
      waiting w p own None e = all_taken w (none-ask p c own e) (claim-waits i c at w ∙ ap Waits e)
      waiting w p own (Some o) e =
          let s = some-ask p c o own e in
          asks o (record { waits = w; may = s.0; least = s.1 }) (claim-waits i c at w ∙ ap Waits e)

      next : IsRouted net F r c → (o : Option Channel) → next_channel net F c ≡ o → Case c
      next routed None e =
          let held = x.whole.routed.mid.only c routed in
          waiting (record { routed = routed; no_next = λ o g. none-some _ (sym e ∙ goes-next i c at o g) }) held.0 (owner-is net F c held.0 x.whole.sound.worm.once held.1.0) (ask net F r c) refl
      next routed (Some o) e = let g = next-goes i c o at routed e in goes g.0 g.1 (claim-goes i c at g.0 g.1)

      by : (b : Bool) → has_channel F.routed c ≡ b → Case c
      by false e = off (λ routed. false≢true (sym e ∙ routed)) (claim-off c (λ routed. false≢true (sym e ∙ routed)))
      by true e = next e (next_channel net F c) refl

  -- ---- the verdict by the claim

  pub verdict-at : (i : ℕ) (c : Channel) → IsAt net good r i c → verdict_in net F c ≡ verdict_of net.relation.vcs (round_at net F r) i (claim_of net F r c) (nat_lt 0 (count_in net F c))
  verdict-at i c at =
      ap (verdict_at net F c) at.arrives
      ∙ ap (λ j. verdict_of net.relation.vcs (round_at net F r) (i / net.relation.vcs * net.relation.vcs + j) (claim_of net F r c) (nat_lt 0 (count_in net F c))) at.vc
      ∙ ap (λ j. verdict_of net.relation.vcs (round_at net F r) j (claim_of net F r c) (nat_lt 0 (count_in net F c))) (div-add-mod' i net.relation.vcs)
