-- After the landings and the credits: each output channel as the state shows it, and
-- each credit that comes fits.
use Rattle.std.proofs.Common.{◌≡◌, ◌≢◌, ℕ, zero, suc, ◌+◌, ◌-◌, ◌*◌, ◌<◌, ◌≤◌, Bool, true, false, cond, length, Option, Some, None, refl, ap, sym, ◌∙◌, inl, inr, subst, arith}
use Rattle.std.specs.Prelude.{◌⊎◌, ◌&&◌, ◌||◌}
use Rattle.noc_vc.specs.Output.{holder_at}
use Rattle.noc_vc.specs.declared.output.OutputState.{OutputState}
use Rattle.noc_vc.specs.declared.output.OutputState.TheVariants.{Idle as Free}
use Rattle.noc_theory.proofs.Common.{false≢true, true≢false, lt-ltb, ltb-true, le-ltb, le-leb, ne_eqb, eq-eqb, or_left, or_right, Has, one_if, Channel, Link, Inject, Eject, same_channel, is_link, Output, output_after_credit, credit_fits, Owned, Draining, has_come, seen_output, seen_holder, seen_sender, Setup, State, Located, Place, Source, On, In, Out, leaving, place_of_flit, tail_place, is_on, is_in, is_past, owner_of, leads_from, has_channel, credit_of, count_in, count_on, landed_place, after_credits, weight, hops, IsValid}
use Rattle.noc_theory.proofs.worms.BufferLemmas.{same_channel-refl, same_channel-true}
use Rattle.noc_theory.proofs.worms.MoveLemmas.{IsNext, far-link, far-eject}
use Rattle.noc_theory.proofs.worms.OwnedLemmas.{owner-has}
use Rattle.noc_theory.proofs.worms.StateWordLemmas.{IsEject, IsHeld, IsPlaced, goal, last_of, far_of}
use Rattle.noc_theory.proofs.worms.PlaceLemmas.{place-of-flit, flit-there, is_in-is, is_on-is}
use Rattle.noc_theory.proofs.worms.RoomLemmas.{landed-count, filter-some}
use Rattle.noc_theory.proofs.worms.SourceOfLemmas.{has-source}
use Rattle.noc_theory.proofs.worms.WormRecordLemmas.{valid-last}
use Rattle.noc_theory.proofs.landing.ComeLemmas.{come-level}
use Rattle.noc_theory.proofs.landing.LandLemmas.{keyed, worm, sound, keyedM, wormM, landed-tail, sent-landed, owned-still, owner-still, owner-gone, owner-freed, wire-weight}
use Rattle.noc_theory.proofs.join.OrderedLemmas.{IsGood, IsOrdered}
use Rattle.noc_theory.proofs.join.PhaseLemmas.{mid}
use Rattle.noc_theory.proofs.injection.SourceLemmas.{at-router, sender-is, not-end}

module _ (net : Setup) (good : IsGood net) (S : State) (x : IsOrdered net S) where
  -- ---- credits

  none-on : (c : Channel) → count_on net (mid net S) c ≡ 0
  none-on c = cases (filter-some (λ (f : Located). is_on c f.place) (mid net S).at)
    where
      cases : (count_on net (mid net S) c ≡ 0) ⊎ ((f : Located) × Has f (mid net S).at × (is_on c f.place ≡ true)) → count_on net (mid net S) c ≡ 0
      cases (inl e) = e
      cases (inr r) =
          let f : Located = r.0 in
          absurd ((sound net good S x).still f.packet f.index ((keyedM net good S x).valid f r.1) c (place-of-flit net (mid net S) (keyedM net good S x) f r.1 ∙ is_on-is c f.place r.2))

  in-landed : (c : Channel) → count_in net (mid net S) c ≡ count_on net S c + count_in net S c
  unfolding after_credits
  in-landed c = landed-count net c S

  no-back : (c : Channel) → has_channel (mid net S).back c ≡ false
  unfolding after_credits
  no-back c = refl

  credit-now : (c : Channel) → credit_of net (mid net S) c ≡ net.depth - (count_on net S c + count_in net S c)
  credit-now c =
      ap (λ k. net.depth - k - count_in net (mid net S) c - one_if (has_channel (mid net S).back c)) (none-on c)
      ∙ ap (λ k. net.depth - 0 - k - one_if (has_channel (mid net S).back c)) (in-landed c)
      ∙ ap (λ b. net.depth - 0 - (count_on net S c + count_in net S c) - one_if b) (no-back c)
      ∙ omega arith

  credit-same : (c : Channel) → has_channel S.back c ≡ false → credit_of net (mid net S) c ≡ credit_of net S c
  credit-same c e = credit-now c ∙ sym (ap (λ b. net.depth - count_on net S c - count_in net S c - one_if b) e ∙ omega arith)

  held-with : (c : Channel) → has_channel S.back c ≡ true → count_on net S c + count_in net S c + 1 ≤ net.depth
  held-with c e =
      let r = x.whole.sound.room c in
      let one : one_if (has_channel S.back c) ≡ 1 = ap one_if e in
      omega (arith, r, one)

  credit-was : (c : Channel) → has_channel S.back c ≡ true → credit_of net S c ≡ net.depth - (count_on net S c + count_in net S c) - 1
  credit-was c e = ap (λ b. net.depth - count_on net S c - count_in net S c - one_if b) e ∙ omega arith

  credit-back : (c : Channel) → has_channel S.back c ≡ true → credit_of net (mid net S) c ≡ credit_of net S c + 1
  credit-back c e =
      let h = held-with c e in
      let n = credit-now c in
      let w = credit-was c e in
      omega (arith, h, n, w)

  -- ---- holders

  abbrev sent : State → Channel → ℕ → Bool
  sent T c p = is_on c (tail_place net T p) || has_come net c (goal net p) (tail_place net T p)

  sent-same : (c : Channel) (p : ℕ) → p < length net.packets → sent (mid net S) c p ≡ sent S c p
  sent-same c p l = ap (λ (y : Place). is_on c y || has_come net c (goal net p) y) (landed-tail net good S x p l) ∙ sent-landed net good S x p c (tail_place net S p)

  tail-valid : (p : ℕ) → p < length net.packets → IsValid net p (last_of net p)
  tail-valid p l = valid-last net good.built p l

  -- a tail that is past the channel before o has been sent on o
  reached : (p : ℕ) (c o : Channel) → Has (c, p) S.own → IsNext net good.built S (keyed net good S x) (worm net good S x) p c o → is_past net c (goal net p) (tail_place net S p) ≡ true → (is_link o ≡ true → sent S o p ≡ true) × ((IsEject o) → ⊥)
  reached p c (Link a b w) h m e = ((λ _. link), (λ z. z))
    where
      f : far_of net p c ≡ far_of net p (Link a b w) + 1
      f = far-link net good.built S (keyed net good S x) (worm net good S x) p c a b w m

      placed : IsPlaced net S.own p (tail_place net S p)
      placed = (worm net good S x).placed p (last_of net p) (tail-valid p ((worm net good S x).known c p h))

      light : (y : Place) → tail_place net S p ≡ y → IsPlaced net S.own p y → is_past net c (goal net p) y ≡ true → weight net p y ≤ 3 * far_of net p (Link a b w) + 3
      light Source z k t = absurd (false≢true t)
      light (On (Link s u j)) z k t = let l = ltb-true _ _ t in let g = f in omega (arith, l, g)
      light (On (Inject s j)) z k t = elim k [ ]
      light (On (Eject s j)) z k t = elim k [ ]
      light (In (Link s u j)) z k t = let l = ltb-true _ _ t in let g = f in omega (arith, l, g)
      light (In (Inject s j)) z k t =
          let l = ltb-true _ _ t in
          let g = f in
          let q : far_of net p (Inject s j) ≡ hops net p = ap (λ v. Rattle.noc_topo.specs.Shape.distance net.relation.grid v (goal net p)) ((worm net good S x).near (Inject s j) p k) in
          omega (arith, l, g, q)
      light (In (Eject s j)) z k t = elim k [ ]
      light (Out j) z k t = omega arith

      link : sent S (Link a b w) p ≡ true
      link = at (is_on (Link a b w) (tail_place net S p)) refl
        where
          at : (t : Bool) → is_on (Link a b w) (tail_place net S p) ≡ t → sent S (Link a b w) p ≡ true
          at true t = or_left _ _ t
          at false t =
              let l = wire-weight net good S x p a b w (tail_place net S p) m.owns placed (λ z. true≢false (sym (ap (is_on (Link a b w)) z ∙ same_channel-refl (Link a b w)) ∙ t)) (light (tail_place net S p) refl placed e) in
              or_right (is_on (Link a b w) (tail_place net S p)) _ (come-level net good.built S (keyed net good S x) (worm net good S x) p (Link a b w) (tail_place net S p) (m.owns, (λ z. z)) placed ∙ le-leb _ _ l)
  reached p c (Inject a w) h m e = absurd (false≢true m.leads)
  reached p c (Eject a w) h m e = ((λ t. absurd (false≢true t)), (λ _. none (tail_place net S p) refl e))
    where
      g : far_of net p c ≡ 0
      g = far-eject net good.built S (keyed net good S x) (worm net good S x) p c a w m

      none : (y : Place) → tail_place net S p ≡ y → is_past net c (goal net p) y ≡ true → ⊥
      none Source z t = false≢true t
      none (On d) z t = let l = ltb-true _ _ t in let q = g in omega (arith, l, q)
      none (In d) z t = let l = ltb-true _ _ t in let q = g in omega (arith, l, q)
      none (Out k) z t = x.whole.routed.mid.eject a w p k m.owns z

  -- the source of a channel on which the tail was not sent stays
  sender-same : (r j p : ℕ) (o : Channel) → leaving net r j ≡ o → Has (o, p) S.own → Has (o, p) (mid net S).own → ((n v : ℕ) → o ≡ Inject n v → ⊥) → (tail_place net S p ≡ On o → ⊥) → (tail_place net S p ≡ In o → ⊥) → is_past net o (goal net p) (tail_place net S p) ≡ false
      → (is_link o ≡ true → sent S o p ≡ false) → (is_link o ≡ true) ⊎ IsEject o → seen_sender net (mid net S) r o ≡ seen_sender net S r o
  sender-same r j p o from own ownM none not_on not_in behind unsent kind =
      let s = has-source net good.built S.own (place_of_flit net S) (worm net good S x) o p own none not_on not_in behind in
      let c : Channel = s.0 in
      let leads : leads_from net c (leaving net r j) ≡ true = subst (λ (y : Channel). leads_from net c y ≡ true) (sym from) s.2 in
      let h : IsHeld net S c p = (s.1, not-end net good S (keyed net good S x) (worm net good S x) c o s.2) in
      let at = at-router net good S (keyed net good S x) (worm net good S x) r j c (x.whole.covered c p h) leads in
      let next : IsNext net good.built S (keyed net good S x) (worm net good S x) p c o = record { owns = own; leads = s.2 } in
      let before : is_past net c (goal net p) (tail_place net S p) ≡ false = stays c s.1 next in
      let mine : Has (c, p) (mid net S).own = owned-still net good S x c p s.1 (ap (λ b. is_link c && b) before ∙ none-and (is_link c)) in
      sender-is net good (mid net S) (keyedM net good S x) (wormM net good S x) r at.0 p c o at.1 mine (record { owns = ownM; leads = s.2 })
      ∙ sym (sender-is net good S (keyed net good S x) (worm net good S x) r at.0 p c o at.1 s.1 next)
    where
      none-and : (b : Bool) → (b && false) ≡ false
      none-and true = refl
      none-and false = refl

      stays : (c : Channel) → Has (c, p) S.own → IsNext net good.built S (keyed net good S x) (worm net good S x) p c o → is_past net c (goal net p) (tail_place net S p) ≡ false
      stays c h m = by (is_past net c (goal net p) (tail_place net S p)) refl
        where
          by : (b : Bool) → is_past net c (goal net p) (tail_place net S p) ≡ b → is_past net c (goal net p) (tail_place net S p) ≡ false
          by false e = e
          by true e = absurd (way kind)
            where
              way : (is_link o ≡ true) ⊎ IsEject o → ⊥
              way (inl t) = true≢false (sym ((reached p c o h m e).0 t) ∙ unsent t)
              way (inr t) = (reached p c o h m e).1 t

  -- ---- a link channel

  module _ (r j a b w : ℕ) (from : leaving net r j ≡ Link a b w) where
    abbrev out : OutputState → ℕ → Output
    out holder credit = record { holder = holder; credit = Some credit; depth = net.depth }

    holder-link : (T : State) (p : ℕ) → owner_of net T (Link a b w) ≡ Some p → seen_holder net T r (Link a b w) (owner_of net T (Link a b w)) ≡ cond (sent T (Link a b w) p) Draining (Owned (seen_sender net T r (Link a b w)) p)
    holder-link T p e = ap (seen_holder net T r (Link a b w)) e

    holder-none : (T : State) → owner_of net T (Link a b w) ≡ None → seen_holder net T r (Link a b w) (owner_of net T (Link a b w)) ≡ Free
    holder-none T e = ap (seen_holder net T r (Link a b w)) e

    -- the tail has not left the buffer at its end
    module _ (p : ℕ) (e : owner_of net S (Link a b w) ≡ Some p) (behind : is_past net (Link a b w) (goal net p) (tail_place net S p) ≡ false) where
      low : p < length net.packets
      low = (worm net good S x).known (Link a b w) p (owner-has net S (Link a b w) p e)

      holder-same : seen_holder net (mid net S) r (Link a b w) (owner_of net (mid net S) (Link a b w)) ≡ seen_holder net S r (Link a b w) (owner_of net S (Link a b w))
      holder-same =
          holder-link (mid net S) p (owner-still net good S x (Link a b w) p e behind)
          ∙ ap (λ t. cond t Draining (Owned (seen_sender net (mid net S) r (Link a b w)) p)) (sent-same (Link a b w) p low)
          ∙ at (sent S (Link a b w) p) refl
          ∙ sym (holder-link S p e)
        where
          at : (t : Bool) → sent S (Link a b w) p ≡ t → cond t Draining (Owned (seen_sender net (mid net S) r (Link a b w)) p) ≡ cond t Draining (Owned (seen_sender net S r (Link a b w)) p)
          at true t = refl
          at false t = ap (λ k. Owned k p)
              (sender-same r j p (Link a b w) from (owner-has net S (Link a b w) p e) (owner-has net (mid net S) (Link a b w) p (owner-still net good S x (Link a b w) p e behind)) (λ s u z. cc z)
              (λ z. true≢false (sym (or_left _ _ (ap (is_on (Link a b w)) z ∙ same_channel-refl (Link a b w))) ∙ t))
              (λ z. true≢false (sym (or_right (is_on (Link a b w) (tail_place net S p)) _ (ap (has_come net (Link a b w) (goal net p)) z ∙ or_left _ _ (same_channel-refl (Link a b w)))) ∙ t)) behind (λ _. t) (inl refl))

    pub link-same : has_channel S.back (Link a b w) ≡ false → seen_output net (mid net S) r (Link a b w) ≡ seen_output net S r (Link a b w)
    link-same nb = at (owner_of net S (Link a b w)) refl
      where
        credit : credit_of net (mid net S) (Link a b w) ≡ credit_of net S (Link a b w)
        credit = credit-same (Link a b w) nb

        both : seen_holder net (mid net S) r (Link a b w) (owner_of net (mid net S) (Link a b w)) ≡ seen_holder net S r (Link a b w) (owner_of net S (Link a b w)) → seen_output net (mid net S) r (Link a b w) ≡ seen_output net S r (Link a b w)
        both h = ap (λ y. out y (credit_of net (mid net S) (Link a b w))) h ∙ ap (out (seen_holder net S r (Link a b w) (owner_of net S (Link a b w)))) credit

        at : (o : Option ℕ) → owner_of net S (Link a b w) ≡ o → seen_output net (mid net S) r (Link a b w) ≡ seen_output net S r (Link a b w)
        at None e = both (holder-none (mid net S) (owner-gone net good S x (Link a b w) e) ∙ sym (holder-none S e))
        at (Some p) e = way (is_past net (Link a b w) (goal net p) (tail_place net S p)) refl
          where
            way : (t : Bool) → is_past net (Link a b w) (goal net p) (tail_place net S p) ≡ t → seen_output net (mid net S) r (Link a b w) ≡ seen_output net S r (Link a b w)
            way false t = both (holder-same p e t)
            way true t = absurd (false≢true (sym nb ∙ x.whole.backed (Link a b w) p (owner-has net S (Link a b w) p e, (λ z. z)) refl t))

    pub credit-fits : has_channel S.back (Link a b w) ≡ true → credit_fits (seen_output net S r (Link a b w)) ≡ true
    credit-fits e =
        let h = held-with (Link a b w) e in
        let c = credit-was (Link a b w) e in
        lt-ltb (credit_of net S (Link a b w)) net.depth (omega (arith, h, c))

    pub link-credited : has_channel S.back (Link a b w) ≡ true → seen_output net (mid net S) r (Link a b w) ≡ output_after_credit (seen_output net S r (Link a b w))
    link-credited bk = at (owner_of net S (Link a b w)) refl
      where
        credit : credit_of net (mid net S) (Link a b w) ≡ credit_of net S (Link a b w) + 1
        credit = credit-back (Link a b w) bk

        both : (h h' : OutputState) → seen_holder net (mid net S) r (Link a b w) (owner_of net (mid net S) (Link a b w)) ≡ h' → seen_holder net S r (Link a b w) (owner_of net S (Link a b w)) ≡ h
            → h' ≡ holder_at net.depth (credit_of net S (Link a b w) + 1) h → seen_output net (mid net S) r (Link a b w) ≡ output_after_credit (seen_output net S r (Link a b w))
        both h h' e k z =
            ap (λ y. out y (credit_of net (mid net S) (Link a b w))) (e ∙ z) ∙ ap (out (holder_at net.depth (credit_of net S (Link a b w) + 1) h)) credit
            ∙ sym (ap (λ y. out (holder_at net.depth (credit_of net S (Link a b w) + 1) y) (credit_of net S (Link a b w) + 1)) k)

        at : (o : Option ℕ) → owner_of net S (Link a b w) ≡ o → seen_output net (mid net S) r (Link a b w) ≡ output_after_credit (seen_output net S r (Link a b w))
        at None e = both Free Free (holder-none (mid net S) (owner-gone net good S x (Link a b w) e)) (holder-none S e) refl
        at (Some p) e = way (is_past net (Link a b w) (goal net p) (tail_place net S p)) refl
          where
            own : Has (Link a b w, p) S.own
            own = owner-has net S (Link a b w) p e

            low_p : p < length net.packets
            low_p = (worm net good S x).known (Link a b w) p own

            -- where the tail is past it, nothing is left of the packet
            empty : is_past net (Link a b w) (goal net p) (tail_place net S p) ≡ true → count_in net (mid net S) (Link a b w) ≡ 0
            empty t = cases (filter-some (λ (f : Located). is_in (Link a b w) f.place) (mid net S).at)
              where
                cases : (count_in net (mid net S) (Link a b w) ≡ 0) ⊎ ((f : Located) × Has f (mid net S).at × (is_in (Link a b w) f.place ≡ true)) → count_in net (mid net S) (Link a b w) ≡ 0
                cases (inl z) = z
                cases (inr q) = absurd (left q.0 q.1 q.2)
                  where
                    left : (f : Located) → Has f (mid net S).at → is_in (Link a b w) f.place ≡ true → ⊥
                    left f h z =
                        let in_c : f.place ≡ In (Link a b w) = is_in-is (Link a b w) f.place z in
                        let there : place_of_flit net (mid net S) f.packet f.index ≡ In (Link a b w) = place-of-flit net (mid net S) (keyedM net good S x) f h ∙ in_c in
                        let v = (keyedM net good S x).valid f h in
                        let ownM : Has (Link a b w, f.packet) (mid net S).own = subst (λ (y : Place). IsPlaced net (mid net S).own f.packet y) there ((wormM net good S x).placed f.packet f.index v) in
                        let gone = owner-freed net good S x (Link a b w) p e t in
                        Rattle.noc_theory.proofs.worms.OwnedLemmas.idle-none net (mid net S) (Link a b w) f.packet gone ownM

            way : (t : Bool) → is_past net (Link a b w) (goal net p) (tail_place net S p) ≡ t → seen_output net (mid net S) r (Link a b w) ≡ output_after_credit (seen_output net S r (Link a b w))
            way true t =
                let sent_S : sent S (Link a b w) p ≡ true = or_right (is_on (Link a b w) (tail_place net S p)) _ (or_right (is_in (Link a b w) (tail_place net S p)) _ t) in
                let full : credit_of net S (Link a b w) + 1 ≡ net.depth
                = (let z = empty t in let i = in-landed (Link a b w) in let c = credit-was (Link a b w) bk in let h = held-with (Link a b w) bk in omega (arith, z, i, c, h)) in
                both Draining Free (holder-none (mid net S) (owner-freed net good S x (Link a b w) p e t)) (holder-link S p e ∙ ap (λ y. cond y Draining (Owned (seen_sender net S r (Link a b w)) p)) sent_S)
                (sym (ap (λ y. cond y Free Draining) (eq-eqb (credit_of net S (Link a b w) + 1) net.depth full)))
            way false t = kind (sent S (Link a b w) p) refl
              where
                same : seen_holder net (mid net S) r (Link a b w) (owner_of net (mid net S) (Link a b w)) ≡ seen_holder net S r (Link a b w) (owner_of net S (Link a b w))
                same = holder-same p e t

                kind : (y : Bool) → sent S (Link a b w) p ≡ y → seen_output net (mid net S) r (Link a b w) ≡ output_after_credit (seen_output net S r (Link a b w))
                kind false y =
                    let h : seen_holder net S r (Link a b w) (owner_of net S (Link a b w)) ≡ Owned (seen_sender net S r (Link a b w)) p = holder-link S p e ∙ ap (λ z. cond z Draining (Owned (seen_sender net S r (Link a b w)) p)) y in
                    both (Owned (seen_sender net S r (Link a b w)) p) (Owned (seen_sender net S r (Link a b w)) p) (same ∙ h) h refl
                kind true y =
                    let h : seen_holder net S r (Link a b w) (owner_of net S (Link a b w)) ≡ Draining = holder-link S p e ∙ ap (λ z. cond z Draining (Owned (seen_sender net S r (Link a b w)) p)) y in
                    let inside : tail_place net (mid net S) p ≡ In (Link a b w) = in-place (tail_place net S p) refl y t in
                    let some : 0 < count_in net (mid net S) (Link a b w) = filled (count_in net (mid net S) (Link a b w)) refl inside in
                    let short : credit_of net S (Link a b w) + 1 ≢ net.depth
                    = (let i = in-landed (Link a b w) in let c = credit-was (Link a b w) bk in let q = held-with (Link a b w) bk in λ z. omega (arith, some, i, c, q, z)) in
                    both Draining Draining (same ∙ h) h (sym (ap (λ z. cond z Free Draining) (ne_eqb (credit_of net S (Link a b w) + 1) net.depth short)))
                  where
                    in-place : (z : Place) → tail_place net S p ≡ z → sent S (Link a b w) p ≡ true → is_past net (Link a b w) (goal net p) (tail_place net S p) ≡ false → tail_place net (mid net S) p ≡ In (Link a b w)
                    in-place z q s u = landed-tail net good S x p low_p ∙ ap (landed_place net) q ∙ by z (ap (λ (g : Place). is_on (Link a b w) g || has_come net (Link a b w) (goal net p) g) (sym q) ∙ s) (ap (is_past net (Link a b w) (goal net p)) (sym q) ∙ u)
                      where
                        or-false : (g h : Bool) → (g || h) ≡ true → h ≡ false → g ≡ true
                        or-false true h e f = refl
                        or-false false h e f = absurd (false≢true (sym f ∙ e))

                        by : (z : Place) → (is_on (Link a b w) z || has_come net (Link a b w) (goal net p) z) ≡ true → is_past net (Link a b w) (goal net p) z ≡ false → landed_place net z ≡ In (Link a b w)
                        by Source s u = absurd (false≢true s)
                        by (On d) s u = ap In (sym (same_channel-true (Link a b w) d (or-false (same_channel (Link a b w) d) (is_past net (Link a b w) (goal net p) (On d)) s u)))
                        by (In d) s u = ap In (sym (same_channel-true (Link a b w) d (or-false (same_channel (Link a b w) d) (is_past net (Link a b w) (goal net p) (In d)) s u)))
                        by (Out k) s u = absurd (true≢false u)

                    filled : (k : ℕ) → count_in net (mid net S) (Link a b w) ≡ k → tail_place net (mid net S) p ≡ In (Link a b w) → 0 < count_in net (mid net S) (Link a b w)
                    filled (suc k) z q = omega (arith, z)
                    filled zero z q =
                        absurd (false≢true (sym (Rattle.noc_theory.proofs.worms.InjectionRoomLemmas.filter-none (λ (f : Located). is_in (Link a b w) f.place) (mid net S).at (record { packet = p; index = last_of net p; place = tail_place net (mid net S) p }) z
                        (flit-there net (mid net S) (keyedM net good S x) p (last_of net p) (tail-valid p low_p))) ∙ ap (is_in (Link a b w)) q ∙ same_channel-refl (Link a b w)))

  -- ---- an ejection channel

  pub eject-same : (r j a w : ℕ) → leaving net r j ≡ Eject a w → seen_output net (mid net S) r (Eject a w) ≡ seen_output net S r (Eject a w)
  eject-same r j a w from = ap (λ h. record { holder = h; credit = None; depth = 0 }) (at (owner_of net S (Eject a w)) refl)
    where
      at : (o : Option ℕ) → owner_of net S (Eject a w) ≡ o → seen_holder net (mid net S) r (Eject a w) (owner_of net (mid net S) (Eject a w)) ≡ seen_holder net S r (Eject a w) (owner_of net S (Eject a w))
      at None e = ap (seen_holder net (mid net S) r (Eject a w)) (owner-gone net good S x (Eject a w) e) ∙ sym (ap (seen_holder net S r (Eject a w)) e)
      at (Some p) e =
          let own : Has (Eject a w, p) S.own = owner-has net S (Eject a w) p e in
          let ownM = owner-still net good S x (Eject a w) p e refl in
          ap (seen_holder net (mid net S) r (Eject a w)) ownM
          ∙ ap (λ k. Owned k p) (sender-same r j p (Eject a w) from own (owner-has net (mid net S) (Eject a w) p ownM) (λ s u z. cc z) (λ z. off (subst (λ (y : Place). IsPlaced net S.own p y) z (placed own))) (λ z. off-in (subst (λ (y : Place). IsPlaced net S.own p y) z (placed own)))
          (behind own (tail_place net S p) refl) (λ t. absurd (false≢true t)) (inr tt))
          ∙ sym (ap (seen_holder net S r (Eject a w)) e)
        where
          placed : Has (Eject a w, p) S.own → IsPlaced net S.own p (tail_place net S p)
          placed own = (worm net good S x).placed p (last_of net p) (tail-valid p ((worm net good S x).known (Eject a w) p own))

          off : IsPlaced net S.own p (On (Eject a w)) → ⊥
          off k = k

          off-in : IsPlaced net S.own p (In (Eject a w)) → ⊥
          off-in k = k

          behind : Has (Eject a w, p) S.own → (y : Place) → tail_place net S p ≡ y → is_past net (Eject a w) (goal net p) (tail_place net S p) ≡ false
          behind own Source z = ap (is_past net (Eject a w) (goal net p)) z
          behind own (On d) z = ap (is_past net (Eject a w) (goal net p)) z ∙ le-ltb (far_of net p d) 0 (omega arith)
          behind own (In d) z = ap (is_past net (Eject a w) (goal net p)) z ∙ le-ltb (far_of net p d) 0 (omega arith)
          behind own (Out k) z = absurd (x.whole.routed.mid.eject a w p k own z)
