-- A view that shows a steady state is tidy.
use Rattle.std.proofs.Common.{◌≡◌, ℕ, zero, suc, ◌*◌, ◌/◌, ◌<◌, ◌≤◌, Bool, true, false, cond, List, [], ◌∷◌, map, length, Option, Some, None, IfSome, refl, ap, sym, ◌∙◌, inl, inr, subst, arith, div-lt_iff_lt-mul}
use Rattle.std.specs.Prelude.{find, option_map, unwrap_or, ◌⊎◌, ◌&&◌, ◌||◌, nat_lt, is_some}
use Rattle.noc_vc.specs.declared.output.OutputState.TheVariants.{Idle as Free}
use Rattle.noc_theory.specs.Lockstep.{seen_output, goes_on_by}
use Rattle.noc_theory.specs.Network.{count_in, count_on, credit_of, Source}
use Rattle.noc_theory.proofs.verdicts.CommitGrantLemmas.{come-true}
use Rattle.noc_theory.proofs.worms.InjectionRoomLemmas.{filter-none}
use Rattle.noc_theory.proofs.worms.NextLemmas.{next-from}
use Rattle.noc_theory.proofs.worms.OwnedLemmas.{idle-none}
use Rattle.noc_theory.proofs.worms.StateWordLemmas.{Come}
use Rattle.noc_theory.proofs.worms.PlaceLemmas.{flit-there, place-of-flit}
use Rattle.noc_theory.proofs.worms.RoomLemmas.{filter-some, unowned-empty}
use Rattle.noc_theory.proofs.injection.SourceLemmas.{same-owner}
use Rattle.noc_theory.proofs.worms.WormRecordLemmas.{valid-first}
use Rattle.noc_theory.proofs.join.PlaceViewLemmas.{arriving-at, leaving-from, not-eject, OutputCase, ejects, output-case, links}
use Rattle.noc_theory_bits.proofs.Common.{false≢true, lt-ltb, le-ltb, eqb-true, eq-eqb, length-map, div-add-mod', none-some, below, Has, one_if, nodes, local_port, flit_at, Flit, Channel, Link, Inject, Eject, is_link, Input, is_idle_phase, is_waiting, is_empty, Output, is_free, InputState, Idle, Waiting, Active, OutputState, Owned, Draining, owns, is_owned_from, Site, View, size_of, view_buffer, view_output, has_come, seen_flits, seen_input, seen_phase_with, seen_holder, seen_sender, Setup, State, Located, Place, On, In, Out, size, arriving, leaving, packet_at, place_of_flit, tail_place, is_on, is_in, is_past, owner_of, next_channel, has_channel, buffer_of, head_place, same_channel-refl, Has-below, Has-filter, find-has, owner-has, IsEject, IsPlaced, goal, last_of, IsValid, valid-last, IsGood, IsSeen, IsTidy, is_draining, HasSize}
use Rattle.noc_theory_bits.proofs.network.PresentLemmas.{in-some, packet-in, packet-none, packet-there}
use Rattle.noc_theory_bits.proofs.network.SteadyLemmas.{IsSteady, Sends, sends-active, sends-owned, holder-sends, active-sends, same-truth}

module _ (net : Setup) (good : IsGood net) (S : State) (x : IsSteady net good S) where
  -- what a flit at a place takes of a channel
  pub on-some : (c : Channel) (p i : ℕ) → IsValid net p i → is_on c (place_of_flit net S p i) ≡ true → 0 < count_on net S c
  on-some c p i v e = at (count_on net S c) refl
    where
      at : (k : ℕ) → count_on net S c ≡ k → 0 < count_on net S c
      at zero h = absurd (false≢true (sym (filter-none (λ (f : Located). is_on c f.place) S.at (record { packet = p; index = i; place = place_of_flit net S p i }) h (flit-there net S x.keyed p i v)) ∙ e))
      at (suc k) h = omega (arith, h)

  -- a channel that nobody owns holds nothing, and all its credits are there
  unowned-on : (c : Channel) → ((p : ℕ) → Has (c, p) S.own → ⊥) → count_on net S c ≡ 0
  unowned-on c none = cases (filter-some (λ (f : Located). is_on c f.place) S.at)
    where
      placed : (p : ℕ) (y : Place) → IsPlaced net S.own p y → is_on c y ≡ true → Has (c, p) S.own
      placed p Source h e = absurd (false≢true e)
      placed p (On (Link r a v)) h e = subst (λ (d : Channel). Has (d, p) S.own) (sym (Rattle.noc_theory.proofs.worms.BufferLemmas.same_channel-true c (Link r a v) e)) h
      placed p (On (Inject n v)) h e = elim h [ ]
      placed p (On (Eject n v)) h e = elim h [ ]
      placed p (In d) h e = absurd (false≢true e)
      placed p (Out n) h e = absurd (false≢true e)

      cases : (count_on net S c ≡ 0) ⊎ ((f : Located) × Has f S.at × (is_on c f.place ≡ true)) → count_on net S c ≡ 0
      cases (inl e) = e
      cases (inr h) =
          let f : Located = h.0 in
          let here : IsPlaced net S.own f.packet f.place = subst (λ (y : Place). IsPlaced net S.own f.packet y) (place-of-flit net S x.keyed f h.1) (x.worm.placed f.packet f.index (x.keyed.valid f h.1)) in
          absurd (none f.packet (placed f.packet f.place here h.2))

  pub credits-full : (c : Channel) → owner_of net S c ≡ None → credit_of net S c ≡ net.depth
  credits-full c e =
      let none : (p : ℕ) → Has (c, p) S.own → ⊥ = λ p h. idle-none net S c p e h in
      let a = unowned-on c none in
      let b = unowned-empty net good.built S x.keyed x.worm c none in
      let k = back (has_channel S.back c) refl none in
      omega (arith, a, b, k)
    where
      back : (t : Bool) → has_channel S.back c ≡ t → ((p : ℕ) → Has (c, p) S.own → ⊥) → one_if (has_channel S.back c) ≡ 0
      back false h none = ap one_if h
      back true h none = let o = x.owed c h in absurd (none o.0 o.1)

  -- a link channel on which the tail of its owner was sent misses a credit
  drained : (c : Channel) (p : ℕ) → Has (c, p) S.own → (IsEject c → ⊥) → is_link c ≡ true → (is_on c (tail_place net S p) || has_come net c (goal net p) (tail_place net S p)) ≡ true → credit_of net S c < net.depth
  drained c p h goes link e = from (is_on c (tail_place net S p)) refl (is_in c (tail_place net S p)) refl (is_past net c (goal net p) (tail_place net S p)) refl e
    where
      tail : IsValid net p (last_of net p)
      tail = valid-last net good.built p (x.worm.known c p h)

      from : (a : Bool) → is_on c (tail_place net S p) ≡ a → (b : Bool) → is_in c (tail_place net S p) ≡ b → (d : Bool) → is_past net c (goal net p) (tail_place net S p) ≡ d
          → (is_on c (tail_place net S p) || (is_in c (tail_place net S p) || is_past net c (goal net p) (tail_place net S p))) ≡ true → credit_of net S c < net.depth
      from true f b g d k e = let one = on-some c p (last_of net p) tail f in let room = x.room c in omega (arith, one, room)
      from false f true g d k e = let one = in-some net good S x c p (last_of net p) tail g in let room = x.room c in omega (arith, one, room)
      from false f false g true k e =
          let one : one_if (has_channel S.back c) ≡ 1 = ap one_if (x.backed c p (h, goes) link k) in
          let room = x.room c in
          omega (arith, one, room)
      from false f false g false k e = absurd (false≢true (sym (ap (λ t. t || (is_in c (tail_place net S p) || is_past net c (goal net p) (tail_place net S p))) f ∙ ap (λ t. t || is_past net c (goal net p) (tail_place net S p)) g ∙ k) ∙ e))

  module _ (r : ℕ) (l : r < nodes net.relation.grid) (v : View) (seen : IsSeen net S r v) where
    within : (i : ℕ) → i < size_of v.site → i < size net
    within i h = subst (λ (s : Site). i < size_of s) seen.site h

    places : v.site.depth ≡ net.depth
    places = ap (λ (s : Site). s.depth) seen.site

    pub has-size : HasSize v
    has-size = record {
      some = subst (λ (s : Site). 0 < s.vcs) (sym seen.site) good.relation.table.some_vcs;
      buffers = seen.n_buffers ∙ sym (ap size_of seen.site);
      inputs = seen.n_inputs ∙ sym (ap size_of seen.site);
      outputs = seen.n_outputs ∙ sym (ap size_of seen.site);
    }

    -- ---- buffers and credits

    few : (c : Option Channel) → length (seen_flits net S c) ≤ net.depth
    few None = omega arith
    few (Some c) =
        let n : length (seen_flits net S (Some c)) ≡ count_in net S c = length-map (buffer_of net S c) (λ (f : Located). flit_at (packet_at net f.packet) f.packet f.index) in
        let room = x.room c in
        omega (arith, n, room)

    lens : (i : ℕ) → i < size_of v.site → length (view_buffer v i) ≤ v.site.depth
    lens i h =
        let n : length (view_buffer v i) ≡ length (seen_flits net S (arriving net r i)) = ap length (seen.buffer i (within i h)) in
        let k = few (arriving net r i) in
        let p = places in
        omega (arith, n, k, p)

    credits-at : (c : Channel) → IfSome (seen_output net S r c).credit (λ n. n ≤ v.site.depth)
    credits-at (Link a b w) = let p = places in omega (arith, p)
    credits-at (Inject a w) = tt
    credits-at (Eject a w) = tt

    places-at : (c : Channel) → IfSome (seen_output net S r c).credit (λ n. (seen_output net S r c).depth ≡ v.site.depth)
    places-at (Link a b w) = sym places
    places-at (Inject a w) = tt
    places-at (Eject a w) = tt

    abbrev Drains : Output → Type 0
    Drains y = is_draining y.holder ≡ true → IfSome y.credit (λ n. n < v.site.depth) × (is_some y.credit ≡ true)

    drains-at : (c : Channel) → Drains (seen_output net S r c)
    drains-at (Link a b w) e = (at (owner_of net S (Link a b w)) refl e, refl)
      where
        at : (o : Option ℕ) → owner_of net S (Link a b w) ≡ o → is_draining (seen_holder net S r (Link a b w) o) ≡ true → credit_of net S (Link a b w) < v.site.depth
        at None h f = absurd (false≢true f)
        at (Some p) h f = by (is_on (Link a b w) (tail_place net S p) || has_come net (Link a b w) (goal net p) (tail_place net S p)) refl f
          where
            by : (t : Bool) → (is_on (Link a b w) (tail_place net S p) || has_come net (Link a b w) (goal net p) (tail_place net S p)) ≡ t
                → is_draining (cond t Draining (Owned (seen_sender net S r (Link a b w)) p)) ≡ true → credit_of net S (Link a b w) < v.site.depth
            by true t g =
                let k = drained (Link a b w) p (owner-has net S (Link a b w) p h) (λ z. z) refl t in
                let q = places in
                omega (arith, k, q)
            by false t g = absurd (false≢true g)
    drains-at (Inject a w) e = absurd (false≢true (sym (still (owner_of net S (Inject a w))) ∙ e))
      where
        still : (o : Option ℕ) → is_draining (seen_holder net S r (Inject a w) o) ≡ false
        still None = refl
        still (Some p) = refl
    drains-at (Eject a w) e = absurd (false≢true (sym (still (owner_of net S (Eject a w))) ∙ e))
      where
        still : (o : Option ℕ) → is_draining (seen_holder net S r (Eject a w) o) ≡ false
        still None = refl
        still (Some p) = refl

    links-at : (o : ℕ) → o < size net → is_some (seen_output net S r (leaving net r o)).credit ≡ nat_lt o (local_port net.relation.grid * net.relation.vcs)
    links-at o u = by (output-case net good r o u)
      where
        by : OutputCase net good r o → is_some (seen_output net S r (leaving net r o)).credit ≡ nat_lt o (local_port net.relation.grid * net.relation.vcs)
        by (ejects p e) =
            let whole = div-add-mod' o net.relation.vcs in
            let start : o / net.relation.vcs * net.relation.vcs ≡ local_port net.relation.grid * net.relation.vcs = ap (λ q. q * net.relation.vcs) p in
            ap (λ c. is_some (seen_output net S r c).credit) e ∙ sym (le-ltb o (local_port net.relation.grid * net.relation.vcs) (omega (arith, whole, start)))
        by (links p e) =
            ap (λ c. is_some (seen_output net S r c).credit) e
            ∙ sym (lt-ltb o (local_port net.relation.grid * net.relation.vcs) ((div-lt_iff_lt-mul {k = net.relation.vcs} {x = o} {y = local_port net.relation.grid} good.relation.table.some_vcs).0 p))

    -- all credits of a free link channel are there
    pub full : (o : ℕ) → o < size_of v.site → is_free (view_output v o).holder ≡ true → IfSome (view_output v o).credit (λ n. n ≡ v.site.depth)
    full o h = subst (λ (y : Output). is_free y.holder ≡ true → IfSome y.credit (λ n. n ≡ v.site.depth)) (sym (seen.output o (within o h))) (at (leaving net r o))
      where
        at : (c : Channel) → is_free (seen_output net S r c).holder ≡ true → IfSome (seen_output net S r c).credit (λ n. n ≡ v.site.depth)
        at (Link a b w) e = by (owner_of net S (Link a b w)) refl e
          where
            tell : (t : Bool) (i p : ℕ) → is_free (cond t Draining (Owned i p)) ≡ true → ⊥
            tell true i p g = false≢true g
            tell false i p g = false≢true g

            by : (q : Option ℕ) → owner_of net S (Link a b w) ≡ q → is_free (seen_holder net S r (Link a b w) q) ≡ true → credit_of net S (Link a b w) ≡ v.site.depth
            by None k f = credits-full (Link a b w) k ∙ sym places
            by (Some p) k f = absurd (tell (is_on (Link a b w) (tail_place net S p) || has_come net (Link a b w) (goal net p) (tail_place net S p)) (seen_sender net S r (Link a b w)) p f)
        at (Inject a w) e = tt
        at (Eject a w) e = tt

    -- ---- who owns what

    abbrev holder : ℕ → OutputState
    holder o = (seen_output net S r (leaving net r o)).holder

    holder-is : (c : Channel) → (seen_output net S r c).holder ≡ seen_holder net S r c (owner_of net S c)
    holder-is (Link a b w) = refl
    holder-is (Inject a w) = refl
    holder-is (Eject a w) = refl

    -- the phase of an input channel that is active
    active : (i o : ℕ) → i < size net → (seen_input net S r i (arriving net r i)).phase ≡ Active o → Sends net good S x r l i o
    active i o u e = at (arriving net r i) refl e
      where
        at : (c : Option Channel) → arriving net r i ≡ c → (seen_input net S r i c).phase ≡ Active o → Sends net good S x r l i o
        at None k f = absurd (cc f)
        at (Some c) k f = sends-active net good S x r l i o c (arriving-at net good r i c l u k) f

    owner-source : (o i : ℕ) (h : OutputState) → is_owned_from h i ≡ true → (p : ℕ) × (h ≡ Owned i p)
    owner-source o i Free e = absurd (false≢true e)
    owner-source o i (Owned j p) e = (p, ap (λ k. Owned k p) (eqb-true j i e))
    owner-source o i Draining e = absurd (false≢true e)

    phase-owns : (h : InputState) (o : ℕ) → owns h o ≡ true → h ≡ Active o
    phase-owns Idle o e = absurd (false≢true e)
    phase-owns (Waiting set) o e = absurd (false≢true e)
    phase-owns (Active j) o e = ap Active (eqb-true j o e)

    owners-at : (i o : ℕ) → i < size net → o < size net → owns (seen_input net S r i (arriving net r i)).phase o ≡ is_owned_from (holder o) i
    owners-at i o ui uo = same-truth _ _ to from
      where
        to : owns (seen_input net S r i (arriving net r i)).phase o ≡ true → is_owned_from (holder o) i ≡ true
        to e =
            let s = active i o ui (phase-owns _ o e) in
            ap (λ h. is_owned_from h i) (holder-is (leaving net r o) ∙ ap (λ c. seen_holder net S r c (owner_of net S c)) s.there.found ∙ holder-sends net good S x r l i o s) ∙ eq-eqb i i refl

        from : is_owned_from (holder o) i ≡ true → owns (seen_input net S r i (arriving net r i)).phase o ≡ true
        from e =
            let h = owner-source o i (holder o) e in
            let s = sends-owned net good S x r l i o h.0 (leaving net r o) (leaving-from net good r o uo) (sym (holder-is (leaving net r o)) ∙ h.1) in
            ap (λ (c : Option Channel). owns (seen_input net S r i c).phase o) s.here.found ∙ ap (λ h. owns h o) (active-sends net good S x r l i o s) ∙ eq-eqb o o refl

    -- ---- what waits has its head there

    waits-at : (i : ℕ) → i < size net → is_waiting (seen_input net S r i (arriving net r i)).phase ≡ true → is_empty (seen_flits net S (arriving net r i)) ≡ false
    waits-at i u e = at (arriving net r i) refl e
      where
        some : (fs : List Located) → 0 < length fs → is_empty (map (λ (f : Located). flit_at (packet_at net f.packet) f.packet f.index) fs) ≡ false
        some [] k = absurd (omega (arith, k))
        some (f ∷ fs) k = refl

        at : (c : Option Channel) → arriving net r i ≡ c → is_waiting (seen_input net S r i c).phase ≡ true → is_empty (seen_flits net S c) ≡ false
        at None k f = absurd (false≢true f)
        at (Some c) k f = by (has_channel S.routed c) refl f
          where
            with : (d : Option Channel) → next_channel net S c ≡ d → has_channel S.routed c ≡ true → is_waiting (seen_phase_with net S r i c d) ≡ true → is_empty (seen_flits net S (Some c)) ≡ false
            with (Some d) n h g = absurd (false≢true g)
            with None n h g = come (x.routed.only c h).2
              where
                only : (p : ℕ) × Rattle.noc_theory.proofs.worms.StateWordLemmas.IsHeld net S c p × Rattle.noc_theory.proofs.worms.StateWordLemmas.Come net p c (head_place net S p) × (is_past net c (goal net p) (tail_place net S p) ≡ false)
                only = x.routed.only c h

                come : Rattle.noc_theory.proofs.worms.StateWordLemmas.Come net only.0 c (head_place net S only.0) → is_empty (seen_flits net S (Some c)) ≡ false
                come (inl e) =
                    some (buffer_of net S c)
                    (in-some net good S x c only.0 0 (valid-first net good.built only.0 (x.worm.known c only.0 only.1.0)) (ap (is_in c) e ∙ same_channel-refl c))
                come (inr e) =
                    let next = x.routed.leads c only.0 only.1 e only.3 in
                    absurd (none-some next.0 (sym n ∙ next-from net good.built S x.keyed x.worm only.0 c next.0 only.1.0 (record { owns = next.1; leads = next.2 })))

            by : (b : Bool) → has_channel S.routed c ≡ b → is_waiting (cond b (seen_phase_with net S r i c (next_channel net S c)) Idle) ≡ true → is_empty (seen_flits net S (Some c)) ≡ false
            by false h g = absurd (false≢true g)
            by true h g = with (next_channel net S c) refl h g

    -- ---- the packet of a channel

    firsts-at : (i : ℕ) (f : Flit) (rest : List Flit) → seen_flits net S (arriving net r i) ≡ f ∷ rest → (seen_input net S r i (arriving net r i)).packet ≡ Some f.packet
    firsts-at i f rest e = at (arriving net r i) e
      where
        at : (c : Option Channel) → seen_flits net S c ≡ f ∷ rest → (seen_input net S r i c).packet ≡ Some f.packet
        at None h = absurd (cc h)
        at (Some c) h = by (buffer_of net S c) refl h
          where
            flit : Located → Flit
            flit g = flit_at (packet_at net g.packet) g.packet g.index

            by : (fs : List Located) → buffer_of net S c ≡ fs → map flit fs ≡ f ∷ rest → (seen_input net S r i (Some c)).packet ≡ Some f.packet
            by [] k z = absurd (cc z)
            by (g ∷ fs) k z =
                let member = Has-filter (λ (y : Located). is_in c y.place) g S.at (subst (Has g) (sym k) (inl refl)) in
                let first : flit g ≡ f = cc z in
                packet-in net good S x r i c g member.0 member.1 ∙ ap (λ (y : Flit). Some y.packet) first

    vacant-at : (i : ℕ) → i < size net → is_idle_phase (seen_input net S r i (arriving net r i)).phase ≡ true → seen_flits net S (arriving net r i) ≡ [] → (seen_input net S r i (arriving net r i)).packet ≡ None
    vacant-at i u idle empty = at (arriving net r i) refl idle empty
      where
        at : (c : Option Channel) → arriving net r i ≡ c → is_idle_phase (seen_input net S r i c).phase ≡ true → seen_flits net S c ≡ [] → (seen_input net S r i c).packet ≡ None
        at None k h e = refl
        at (Some c) k h e =
            packet-none net good S x r i c (not-eject net good (arriving-at net good r i c l u k)) h
            (sym (length-map (buffer_of net S c) (λ (f : Located). flit_at (packet_at net f.packet) f.packet f.index)) ∙ ap length e)

    named-at : (i o p : ℕ) → o < size net → holder o ≡ Owned i p → (seen_input net S r i (arriving net r i)).packet ≡ Some p
    named-at i o p u e =
        let s = sends-owned net good S x r l i o p (leaving net r o) (leaving-from net good r o u) (sym (holder-is (leaving net r o)) ∙ e) in
        let only = x.routed.only s.from s.routed in
        let same : only.0 ≡ s.packet = same-owner net good S x.keyed x.worm s.from only.0 s.packet only.1.0 s.owned in
        let come : has_come net s.from (goal net s.packet) (head_place net S s.packet) ≡ true
        = come-true net S s.packet s.from (head_place net S s.packet) (subst (λ (q : ℕ). Come net q s.from (head_place net S q)) same only.2) in
        let owner : Owned i s.packet ≡ Owned i p
        = sym (holder-sends net good S x r l i o s) ∙ sym (ap (λ c. seen_holder net S r c (owner_of net S c)) s.there.found) ∙ sym (holder-is (leaving net r o)) ∙ e in
        let number : s.packet ≡ p = cc owner in
        ap (λ (c : Option Channel). (seen_input net S r i c).packet) s.here.found
        ∙ packet-there net good S x r i s.packet s.from (s.owned, not-eject net good s.here) come s.behind
        ∙ ap Some number

    -- ---- all

    sender-below : (c : Channel) → 0 < size net → seen_sender net S r c < size net
    sender-below c some = at (find (λ i. unwrap_or (option_map (goes_on_by net S c) (arriving net r i)) false) (below (size net))) refl
      where
        at : (o : Option ℕ) → find (λ i. unwrap_or (option_map (goes_on_by net S c) (arriving net r i)) false) (below (size net)) ≡ o → unwrap_or o 0 < size net
        at None e = some
        at (Some i) e = Has-below i (size net) (find-has (λ i. unwrap_or (option_map (goes_on_by net S c) (arriving net r i)) false) (below (size net)) i e)

    owner-below : (c : Channel) (i : ℕ) → 0 < size net → is_owned_from (seen_output net S r c).holder i ≡ true → i < size net
    owner-below c i some e = at (owner_of net S c) (ap (λ h. is_owned_from h i) (sym (holder-is c)) ∙ e)
      where
        tell : (t : Bool) (p : ℕ) → is_owned_from (cond t Draining (Owned (seen_sender net S r c) p)) i ≡ true → i < size net
        tell true p f = absurd (false≢true f)
        tell false p f = subst (λ k. k < size net) (eqb-true (seen_sender net S r c) i f) (sender-below c some)

        at : (o : Option ℕ) → is_owned_from (seen_holder net S r c o) i ≡ true → i < size net
        at None f = absurd (false≢true f)
        at (Some p) f = tell (is_link c && (is_on c (tail_place net S p) || has_come net c (goal net p) (tail_place net S p))) p f

    pub tidy : IsTidy v
    tidy = record {
      lens = lens;
      credits = λ o h. subst (λ (y : Output). IfSome y.credit (λ n. n ≤ v.site.depth)) (sym (seen.output o (within o h))) (credits-at (leaving net r o));
      places = λ o h. subst (λ (y : Output). IfSome y.credit (λ n. y.depth ≡ v.site.depth)) (sym (seen.output o (within o h))) (places-at (leaving net r o));
      drains = λ o h. subst (λ (y : Output). Drains y) (sym (seen.output o (within o h))) (drains-at (leaving net r o));
      links = λ o h. subst (λ (s : Site). is_some (view_output v o).credit ≡ nat_lt o (local_port s.grid * s.vcs)) (sym seen.site) (ap (λ (y : Output). is_some y.credit) (seen.output o (within o h)) ∙ links-at o (within o h));
      owners = λ i o h k.
          ap (λ (y : Input). owns y.phase o) (seen.input i (within i h)) ∙ owners-at i o (within i h) (within o k) ∙ sym (ap (λ (y : Output). is_owned_from y.holder i) (seen.output o (within o k)));
      owned_below = λ i o h e.
          let s = active i o (within i h) (sym (ap (λ (y : Input). y.phase) (seen.input i (within i h))) ∙ e) in
          subst (λ (z : Site). o < size_of z) (sym seen.site) s.there.index;
      owner_below = λ i o h e.
          let some : 0 < size net = (let u = within o h in omega (arith, u)) in
          subst (λ (z : Site). i < size_of z) (sym seen.site) (owner-below (leaving net r o) i some (sym (ap (λ (y : Output). is_owned_from y.holder i) (seen.output o (within o h))) ∙ e));
      waits = λ i h e.
          ap (λ (fs : List Flit). is_empty fs) (seen.buffer i (within i h)) ∙ waits-at i (within i h) (sym (ap (λ (y : Input). is_waiting y.phase) (seen.input i (within i h))) ∙ e);
      firsts = λ i f rest h e.
          ap (λ (y : Input). y.packet) (seen.input i (within i h)) ∙ firsts-at i f rest (sym (seen.buffer i (within i h)) ∙ e);
      vacant = λ i h idle e.
          let is = seen.input i (within i h) in
          ap (λ (y : Input). y.packet) is ∙ vacant-at i (within i h) (ap (λ (y : Input). is_idle_phase y.phase) (sym is) ∙ idle) (sym (seen.buffer i (within i h)) ∙ e);
      named = λ i o p h k e.
          ap (λ (y : Input). y.packet) (seen.input i (within i h)) ∙ named-at i o p (within o k) (ap (λ (y : Output). y.holder) (sym (seen.output o (within o k))) ∙ e);
    }
