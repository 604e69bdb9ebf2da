-- The packet that holds an input channel, through the first phases of a cycle: flits land, credits
-- free channels, and a packet may begin.
use Rattle.std.proofs.Common.{◌≡◌, ◌≢◌, ℕ, zero, suc, ◌+◌, ◌*◌, ◌/◌, ◌%◌, ◌<◌, Bool, true, false, List, [], ◌∷◌, length, Option, Some, None, refl, ap, sym, ◌∙◌, subst, arith, inl, inr}
use Rattle.std.specs.Prelude.{◌⊎◌, count_by, find, nat_eq, nat_lt, not, option_map, if◌then◌else◌}
use Rattle.std.proofs.lemmas.Bool.{or_left}
use Rattle.noc_route.specs.Channel.{channel_vc}
use Rattle.noc_theory.specs.Lockstep.{seen_sending}
use Rattle.noc_theory.specs.Network.{Injection, injections, injection_at, is_at_source, flits_of, owned_by, first_waiting, is_injection_of, is_freed, after_landing, after_credits, Source}
use Rattle.noc_theory.proofs.worms.BufferLemmas.{find-passes}
use Rattle.noc_theory.proofs.worms.InjectionPhaseLemmas.{IsEntry}
use Rattle.noc_theory.proofs.worms.InjectionStateLemmas.{injection_of-is}
use Rattle.noc_theory.proofs.worms.MemberLemmas.{Has-filter_map}
use Rattle.noc_theory.proofs.worms.OwnedLemmas.{of-has}
use Rattle.noc_theory.proofs.worms.RoutedRecordLemmas.{entering-behind}
use Rattle.noc_theory.proofs.injection.EntryLemmas.{WasHeld, was-held, worm, keyed, Enters, held, begun}
use Rattle.noc_theory.proofs.injection.EntryChannelLemmas.{is_entry, entered}
use Rattle.noc_theory.proofs.join.OrderedLemmas.{IsOrderedFrozen}
use Rattle.noc_sets.specs.Taken.{landed_by}
use Rattle.noc_theory_bits.proofs.Common.{eq-eqb, eqb-true, false≢true, div-mul-add, mod-mul-add, mul-add-lt, none-some, same_Some, Has, below, nodes, ports, local_port, neighbour, flit_at, Flit, Packet, Channel, Link, Inject, Eject, Input, Site, View, size_of, local_channel, view_buffer, view_input, IsGoodSetup, seen_input, site_at, Setup, State, Located, Place, On, In, Out, size, arriving, place_of_flit, tail_place, is_in, is_past, state_at, frozen_at, frozen_state, after_injection, head_place, same_channel-refl, Has-below, Has-filter, find-has, IsEject, goal, ordered-mid, mid, HasInjected, injected_to, injection_from, injection_in, holder_at}
use Rattle.noc_theory_bits.proofs.network.NetworkLemmas.{good, beats, taken_view, taken-seen, frozen_view, frozen-seen, start-size, steady-state, steady-still}
use Rattle.noc_theory_bits.proofs.network.PresentLemmas.{packet-there}
use Rattle.noc_theory_bits.proofs.routers.CommittedLemmas.{size-taken}
use Rattle.noc_theory_bits.proofs.routers.InjectedLemmas.{has-injected}
use Rattle.noc_theory_bits.proofs.bits.HolderLemmas.{holder-has, has-holder, seen-packet}

module _ (net : Setup) (setup : IsGoodSetup net) (n r : ℕ) (l : r < nodes net.relation.grid) where
  abbrev S : State
  S = state_at net n

  abbrev M : State
  M = mid net (state_at net n)

  abbrev F : State
  F = frozen_at net n

  abbrev w : View
  w = taken_view net setup n r l

  abbrev x : View
  x = frozen_view net setup n r l

  order : IsOrderedFrozen net (mid net (state_at net n))
  order = ordered-mid net (good net setup) n

  same-frozen : after_injection net n (mid net (state_at net n)) ≡ frozen_at net n
  unfolding frozen_state
  same-frozen = refl

  -- ---- flits land and credits come
  owned-landed : (c : Channel) (p : ℕ) → Has (c, p) M.own → Has (c, p) S.own
  unfolding after_landing after_credits
  owned-landed c p h = (Has-filter (λ pair. not (is_freed net (after_landing net S) pair)) (c, p) S.own h).0

  -- who holds a channel then held it before
  pub holder-landed : (i p : ℕ) → holder_at net M r i ≡ Some p → holder_at net S r i ≡ Some p
  holder-landed i p e = let h = holder-has net M r i p e in has-holder net S r i p h.0 (steady-state net setup n).worm.once h.1 (owned-landed h.0 p h.2)

  -- ---- a packet begins
  -- on input channel i of the router, with its head
  pub record Begins (i p : ℕ) : Type 0 where
    pub sending : w.sending ≡ None
    pub vc : ℕ
    pub flit : Flit
    pub injection : injection_in n w ≡ Some (vc, flit)
    pub channel : i ≡ local_channel w.site vc
    pub packet : flit.packet ≡ p

  injects : HasInjected w x (injection_in n w)
  injects = has-injected n w (size-taken net.relation (beats net setup n r l) _ (start-size net setup n r l))

  module _ (i : ℕ) (u : i < size net) (p : ℕ) (c : Channel) (found : arriving net r i ≡ Some c) (one : Injection net) (has : Has one (injections net M n)) (begins : one.begins ≡ true) (channel : one.channel ≡ c) (packet : one.packet ≡ p)
      (own : Has (c, p) F.own) where
    at : (node : ℕ) × Has node (below (nodes net.relation.grid)) × (injection_at net M n node ≡ Some one)
    at = Has-filter_map (injection_at net M n) one (below (nodes net.relation.grid)) has

    known : at.0 < nodes net.relation.grid
    known = Has-below at.0 (nodes net.relation.grid) at.1

    entry : IsEntry net (good net setup).built M.own (place_of_flit net M) (worm net (good net setup) M order n) at.0 one
    entry = is_entry net (good net setup) M order n at.0 known one at.2

    abbrev New : Type 0
    New = ((q : ℕ) → Has (one.channel, q) M.own → ⊥) × ((d : Channel) → Has (d, one.packet) M.own → ⊥)

    -- nobody had the channel, and the packet had nothing
    new : New
    new = by entry.goes
      where
        by : ((one.begins ≡ false) × Has (one.channel, one.packet) M.own) ⊎ ((one.begins ≡ true) × ((q : ℕ) → Has (one.channel, q) M.own → ⊥) × ((d : Channel) → Has (d, one.packet) M.own → ⊥)) → New
        by (inl k) = absurd (false≢true (sym k.0 ∙ begins))
        by (inr k) = (k.1, k.2)

    -- so its head was at its source, and is in the buffer now
    at-source : place_of_flit net M one.packet 0 ≡ Source
    at-source = by (place_of_flit net M one.packet 0) refl
      where
        off : place_of_flit net M one.packet 0 ≢ Source → place_of_flit net M one.packet 0 ≡ Source
        off never = let h = (worm net (good net setup) M order n).holds one.packet entry.low never entry.waits in absurd (new.1 _ h.1)

        by : (y : Place) → place_of_flit net M one.packet 0 ≡ y → place_of_flit net M one.packet 0 ≡ Source
        by Source e = e
        by (On d) e = off (λ z. let k : On d ≡ Source = sym e ∙ z in cc k)
        by (In d) e = off (λ z. let k : In d ≡ Source = sym e ∙ z in cc k)
        by (Out m) e = off (λ z. let k : Out m ≡ Source = sym e ∙ z in cc k)

    enters : Enters net (good net setup) M order n one.packet one
    enters = entered net (good net setup) M order n at.0 known one at.2

    head-in : place_of_flit net F p 0 ≡ In c
    head-in =
        subst (λ (s : State). place_of_flit net s p 0 ≡ In c) same-frozen
        (subst (λ q. place_of_flit net (after_injection net n M) q 0 ≡ In c) packet (ap (place_of_flit net (after_injection net n M) one.packet) (sym (none enters.flit refl)) ∙ enters.now ∙ ap In channel))
      where
        none : (k : ℕ) → enters.flit ≡ k → enters.flit ≡ 0
        none zero e = e
        none (suc k) e = absurd (enters.first 0 (omega (arith, e)) at-source)

    is-inject : c ≡ Inject at.0 entry.vc
    is-inject = sym channel ∙ entry.channel

    no-eject : (d : Channel) → d ≡ Inject at.0 entry.vc → IsEject d → ⊥
    no-eject (Link a b v) e k = k
    no-eject (Inject a v) e k = k
    no-eject (Eject a v) e k = cc e

    -- and the router sees the packet
    seen : (view_input x i).packet ≡ Some p
    seen =
        ap (λ (y : Input). y.packet) ((frozen-seen net setup n r l).input i u)
        ∙ ap (λ (o : Option Channel). (seen_input net F r i o).packet) found
        ∙ packet-there net (good net setup) F (steady-still net setup n) r i p c (own, no-eject c is-inject)
        (or_left (is_in c (head_place net F p)) (is_past net c (goal net p) (head_place net F p)) (ap (is_in c) head-in ∙ same_channel-refl c))
        (subst (λ (d : Channel). Has (d, p) F.own → is_past net d (goal net p) (tail_place net F p) ≡ false) (sym is-inject)
        (λ h. entering-behind net (good net setup).built p (Inject at.0 entry.vc) (tail_place net F p) ((steady-still net setup n).worm.entering at.0 entry.vc p h)) own)

    -- so a flit of it was injected into the channel
    injected : (o : Option Flit) → injected_to w (injection_in n w) i ≡ o → (f : Flit) × (injected_to w (injection_in n w) i ≡ Some f) × (f.packet ≡ p)
    injected None e =
        let same : view_input x i ≡ view_input w i = injects.input i (subst (λ (s : Site). i < size_of s) (sym (taken-seen net setup n r l).seen.site) u) ∙ ap (landed_by (view_input w i)) e in
        let h = holder-has net M r i p (seen-packet net M r w (taken-seen net setup n r l).seen i p u (ap (λ (y : Input). y.packet) (sym same) ∙ seen)) in
        absurd (new.0 p (subst (λ (d : Channel). Has (d, p) M.own) (same_Some _ _ (sym h.1 ∙ found) ∙ sym channel) h.2))
    injected (Some f) e =
        let same : view_input x i ≡ landed_by (view_input w i) (Some f) = injects.input i (subst (λ (s : Site). i < size_of s) (sym (taken-seen net setup n r l).seen.site) u) ∙ ap (landed_by (view_input w i)) e in
        (f, e, same_Some _ _ (sym (ap (λ (y : Input). y.packet) same) ∙ seen))

    -- of no packet that had begun before
    goes-on : (vc index : ℕ) → w.sending ≡ Some (vc, index) → i ≡ local_channel w.site vc → ⊥
    goes-on vc index sends is = by (first_waiting net M r) refl
      where
        site : w.site ≡ site_at net r
        site = (taken-seen net setup n r l).seen.site

        place : i ≡ local_port net.relation.grid * net.relation.vcs + vc
        place = is ∙ ap (λ (s : Site). local_channel s vc) site

        low : vc < net.relation.vcs
        low = omega (arith, place, u)

        here : c ≡ Inject r vc
        here = same_Some _ _ (sym found ∙ arrives)
          where
            port : i / net.relation.vcs ≡ local_port net.relation.grid
            port = ap (λ k. k / net.relation.vcs) place ∙ div-mul-add (local_port net.relation.grid) net.relation.vcs vc low

            arrives : arriving net r i ≡ Some (Inject r vc)
            arrives =
                ap (λ b. if b then Some (Inject r (i % net.relation.vcs)) else option_map (λ (from : ℕ × ℕ). Link from.0 from.1 (i % net.relation.vcs)) (neighbour net.relation.grid r (i / net.relation.vcs))) (eq-eqb _ _ port)
                ∙ ap (λ k. Some (Inject r k)) (ap (λ k. k % net.relation.vcs) place ∙ mod-mul-add (local_port net.relation.grid) net.relation.vcs vc low)

        sent : seen_sending net M r (first_waiting net M r) ≡ Some (vc, index)
        sent = sym (taken-seen net setup n r l).seen.sending ∙ sends

        by : (o : Option ℕ) → first_waiting net M r ≡ o → ⊥
        by None e = none-some (vc, index) (sym (ap (seen_sending net M r) e) ∙ sent)
        by (Some q) e = on (find (is_injection_of net r) (owned_by net M q)) refl (sym (ap (seen_sending net M r) e) ∙ sent)
          where
            on : (o : Option Channel) → find (is_injection_of net r) (owned_by net M q) ≡ o
                → option_map {U = ℕ × ℕ} (λ d. (channel_vc d, count_by (λ (f : Located). not (is_at_source f.place)) (flits_of net M q))) o ≡ Some (vc, index) → ⊥
            on None f k = none-some (vc, index) k
            on (Some d) f k =
                let v = injection_of-is net (good net setup).built M (keyed net (good net setup) M order n) (worm net (good net setup) M order n) n r d (find-passes (is_injection_of net r) (owned_by net M q) d f) in
                let number : channel_vc d ≡ vc = ap (λ (y : ℕ × ℕ). y.0) (same_Some _ _ k) in
                let same : v.0 ≡ vc = sym (ap channel_vc v.1) ∙ number in
                let is_c : d ≡ c = v.1 ∙ ap (Inject r) same ∙ sym here in
                new.0 q (subst (λ (y : Channel). Has (y, q) M.own) (is_c ∙ sym channel) (of-has d q M.own (find-has (is_injection_of net r) (owned_by net M q) d f)))

    pub begins-here : Begins i p
    begins-here = by (injection_in n w) refl
      where
        f : (f : Flit) × (injected_to w (injection_in n w) i ≡ Some f) × (f.packet ≡ p)
        f = injected (injected_to w (injection_in n w) i) refl

        by : (o : Option (ℕ × Flit)) → injection_in n w ≡ o → Begins i p
        by None e = absurd (none-some f.0 (sym (ap (λ o. injected_to w o i) e) ∙ f.1))
        by (Some (vc, g)) e = to (nat_eq i (local_channel w.site vc)) refl (sym (ap (λ o. injected_to w o i) e) ∙ f.1)
          where
            to : (b : Bool) → nat_eq i (local_channel w.site vc) ≡ b → (if b then Some g else None) ≡ Some f.0 → Begins i p
            to false t k = absurd (none-some f.0 k)
            to true t k = record { sending = idle w.sending refl; vc = vc; flit = g; injection = e; channel = place; packet = ap (λ (y : Flit). y.packet) (same_Some g f.0 k) ∙ f.2 }
              where
                place : i ≡ local_channel w.site vc
                place = eqb-true i (local_channel w.site vc) t

                idle : (o : Option (ℕ × ℕ)) → w.sending ≡ o → w.sending ≡ None
                idle None z = z
                idle (Some (j, index)) z = absurd (goes-on j index z (place ∙ ap (local_channel w.site) (sym (into w.queue (sym (ap (λ o. injection_from n w.queue o w) z) ∙ e)))))
                  where
                    into : (queue : List (ℕ × Packet)) → injection_from n queue (Some (j, index)) w ≡ Some (vc, g) → j ≡ vc
                    into [] k = absurd (none-some (vc, g) k)
                    into ((number, q) ∷ rest) k = room (nat_lt (length (view_buffer w (local_channel w.site j))) w.site.depth) k
                      where
                        room : (b : Bool) → if◌then◌else◌ {A = Option (ℕ × Flit)} b (Some (j, flit_at q number index)) None ≡ Some (vc, g) → j ≡ vc
                        room true m = ap (λ (y : ℕ × Flit). y.0) (same_Some _ _ m)
                        room false m = absurd (none-some (vc, g) m)

  -- who holds a channel in the frozen state held it before, or begins
  pub holder-frozen : (i p : ℕ) → i < size net → holder_at net F r i ≡ Some p → (holder_at net S r i ≡ Some p) ⊎ Begins i p
  holder-frozen i p u e = by (was-held net (good net setup) M order n h.0 p (subst (λ (s : State). Has (h.0, p) s.own) (sym same-frozen) h.2))
    where
      h : (c : Channel) × (arriving net r i ≡ Some c) × Has (c, p) F.own
      h = holder-has net F r i p e

      by : WasHeld net (good net setup) M order n h.0 p → (holder_at net S r i ≡ Some p) ⊎ Begins i p
      by (held k) = inl (holder-landed i p (has-holder net M r i p h.0 (worm net (good net setup) M order n).once h.1 k))
      by (begun one k b c q) = inr (begins-here i u p h.0 h.1 one k b c q h.2)

  -- and a packet that begins holds its channel
  pub begun-holds : (vc : ℕ) (f : Flit) → vc < net.relation.vcs → injection_in n w ≡ Some (vc, f) → holder_at net F r (local_channel w.site vc) ≡ Some f.packet
  begun-holds vc f low e =
      seen-packet net F r x (frozen-seen net setup n r l) (local_channel w.site vc) f.packet within
      (ap (λ (y : Input). y.packet) (injects.input (local_channel w.site vc) (subst (λ (s : Site). local_channel w.site vc < size_of s) (sym site) within) ∙ ap (landed_by (view_input w (local_channel w.site vc))) is))
    where
      site : w.site ≡ site_at net r
      site = (taken-seen net setup n r l).seen.site

      is : injected_to w (injection_in n w) (local_channel w.site vc) ≡ Some f
      is = ap (λ o. injected_to w o (local_channel w.site vc)) e ∙ ap (λ b. if b then Some f else None) (eq-eqb (local_channel w.site vc) (local_channel w.site vc) refl)

      within : local_channel w.site vc < size net
      within = subst (λ (s : Site). local_channel s vc < size net) (sym site) (let m = mul-add-lt (local_port net.relation.grid) net.relation.vcs vc (ports net.relation.grid) (omega arith) low in omega (arith, m))
