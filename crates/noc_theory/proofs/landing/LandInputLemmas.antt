-- After the landings and the credits: each input channel as the state shows it, and
-- each flit that lands fits.
use Rattle.std.proofs.Common.{◌≡◌, ℕ, ◌+◌, ◌-◌, ◌<◌, Bool, true, false, cond, List, [], ◌∷◌, map, length, Option, Some, None, refl, ap, sym, ◌∙◌, inl, inr, subst, arith}
use Rattle.std.specs.Prelude.{filter, find, option_map, option_and_then, ◌&&◌, not, nat_eq, nat_lt, if◌then◌else◌}
use Rattle.noc_theory.proofs.Common.{false≢true, ne_eqb, eq-eqb, or_right, and_from, none-some, Has, flit_at, Flit, Channel, Link, Inject, Eject, same_channel, is_link, next_of, InputState, Idle, Waiting, flit_on, has_come, come_count, seen_flits, seen_input, seen_phase, seen_phase_with, seen_set, is_present, last_come, Setup, State, Located, Place, Source, On, In, Out, packet_at, tail_place, is_on, is_in, is_past, landed_place, owner_of, next_channel, has_channel, after_landing, after_credits}
use Rattle.noc_theory.proofs.worms.BufferLemmas.{same_channel-refl, same_channel-true}
use Rattle.noc_theory.proofs.worms.MemberLemmas.{find-fails}
use Rattle.noc_theory.proofs.worms.OwnedLemmas.{owner-has, idle-none}
use Rattle.noc_theory.proofs.worms.StateWordLemmas.{IsEject, IsHeld, goal}
use Rattle.noc_theory.proofs.verdicts.AfterInputLemmas.{made, seen-held, seen-unowned}
use Rattle.noc_theory.proofs.landing.ComeLemmas.{count-all}
use Rattle.noc_theory.proofs.landing.LandLemmas.{keyed, worm, landed-tail, past-landed, come-landed, owner-still, owner-gone, owner-freed, next-still}
use Rattle.noc_theory.proofs.join.OrderedLemmas.{IsGood, IsOrdered}
use Rattle.noc_theory.proofs.join.PhaseLemmas.{mid}
use Rattle.noc_theory.proofs.join.LockstepStepLemmas.{count-step}

module _ (net : Setup) (good : IsGood net) (S : State) (x : IsOrdered net S) where
  abbrev flit_of : Located → Flit
  flit_of f = flit_at (packet_at net f.packet) f.packet f.index

  abbrev step : Located → Located
  step f = record f { place = landed_place net f.place }

  -- ---- a channel on whose wire nothing is

  module _ (c : Channel) (none : flit_on net S c ≡ None) where
    off : (f : Located) → Has f S.at → f.place ≡ On c → ⊥
    off f h e = at (find (λ (g : Located). is_on c g.place) S.at) refl
      where
        at : (o : Option Located) → find (λ (g : Located). is_on c g.place) S.at ≡ o → ⊥
        at None k = false≢true (sym (find-fails (λ (g : Located). is_on c g.place) S.at f k h) ∙ ap (is_on c) e ∙ same_channel-refl c)
        at (Some g) k = none-some (flit_of g) (sym none ∙ ap (option_map flit_of) k)

    pub flits-none : seen_flits net (mid net S) (Some c) ≡ seen_flits net S (Some c)
    unfolding after_landing after_credits
    flits-none = ap (map flit_of) (all S.at (λ f h. off f h))
      where
        all : (fs : List Located) → ((f : Located) → Has f fs → f.place ≡ On c → ⊥) → filter (λ (f : Located). is_in c f.place) (map step fs) ≡ filter (λ (f : Located). is_in c f.place) fs
        all [] never = refl
        all (f ∷ fs) never = at f.place refl (all fs (λ g h. never g (inr h)))
          where
            at : (y : Place) → f.place ≡ y → filter (λ (g : Located). is_in c g.place) (map step fs) ≡ filter (λ (g : Located). is_in c g.place) fs
                → filter (λ (g : Located). is_in c g.place) (map step (f ∷ fs)) ≡ filter (λ (g : Located). is_in c g.place) (f ∷ fs)
            at Source e rest = rw e rest
            at (On d) e rest = by (same_channel c d) refl
              where
                by : (b : Bool) → same_channel c d ≡ b → filter (λ (g : Located). is_in c g.place) (map step (f ∷ fs)) ≡ filter (λ (g : Located). is_in c g.place) (f ∷ fs)
                by true k = absurd (never f (inl refl) (e ∙ ap On (sym (same_channel-true c d k))))
                by false k = rw e (rw k rest)
            at (In d) e rest =
                let kept : step f ≡ f = ap (λ (y : Place). record f { place = y }) (ap (landed_place net) e ∙ sym e) in
                ap (λ (g : Located). filter (λ (h : Located). is_in c h.place) (g ∷ map step fs)) kept ∙ ap (λ (gs : List Located). cond (is_in c f.place) (f ∷ gs) gs) rest
            at (Out k) e rest = rw e rest

    count-none-landed : (p : ℕ) → come_count net (mid net S) c p ≡ come_count net S c p
    unfolding after_landing after_credits
    count-none-landed p =
        count-step (λ (f : Located). has_come net c (goal net p) f.place) (λ (f : Located). has_come net c (goal net p) f.place) (λ (f : Located). nat_eq p f.packet) step (λ f. refl) S.at
        (λ f h e. come-landed net good S x p c f.place (off f h))

    same-routed : (mid net S).routed ≡ S.routed
    unfolding after_landing after_credits
    same-routed = refl

    pub input-none : (r i : ℕ) → (IsEject c → ⊥) → seen_input net (mid net S) r i (Some c) ≡ seen_input net S r i (Some c)
    input-none r i eject = at (owner_of net S c) refl
      where
        unrouted-phase : (T : State) → T.routed ≡ S.routed → has_channel S.routed c ≡ false → seen_phase net T r i c ≡ Idle
        unrouted-phase T e k = ap (λ (cs : List Channel). cond (has_channel cs c) (seen_phase_with net T r i c (next_channel net T c)) Idle) e ∙ ap (λ b. cond b (seen_phase_with net T r i c (next_channel net T c)) Idle) k

        no_route : ((p : ℕ) → Has (c, p) S.own → (is_past net c (goal net p) (tail_place net S p) ≡ false) → ⊥) → has_channel S.routed c ≡ false
        no_route never = by (has_channel S.routed c) refl
          where
            by : (b : Bool) → has_channel S.routed c ≡ b → has_channel S.routed c ≡ false
            by false e = e
            by true e = let o = x.whole.routed.mid.only c e in absurd (never o.0 o.1.0 o.3)

        at : (o : Option ℕ) → owner_of net S c ≡ o → seen_input net (mid net S) r i (Some c) ≡ seen_input net S r i (Some c)
        at None e =
            let unrouted = no_route (λ p h k. idle-none net S c p e h) in
            seen-unowned net (mid net S) r i c (owner-gone net good S x c e) ∙ ap (λ (ph : InputState). made ph None None) (unrouted-phase (mid net S) same-routed unrouted)
            ∙ sym (seen-unowned net S r i c e ∙ ap (λ (ph : InputState). made ph None None) (unrouted-phase S refl unrouted))
        at (Some p) e = way (is_past net c (goal net p) (tail_place net S p)) refl
          where
            h : IsHeld net S c p
            h = (owner-has net S c p e, eject)

            low : p < length net.packets
            low = (worm net good S x).known c p h.0

            behind-case : is_past net c (goal net p) (tail_place net S p) ≡ false → seen_input net (mid net S) r i (Some c) ≡ seen_input net S r i (Some c)
            behind-case k =
                let free : (is_link c && is_past net c (goal net p) (tail_place net S p)) ≡ false = ap (λ b. is_link c && b) k ∙ none-and (is_link c) in
                let owner = owner-still net good S x c p e free in
                let next = next-still net good S x p c h.0 k in
                let with_next : (o : Option Channel) → seen_phase_with net (mid net S) r i c o ≡ seen_phase_with net S r i c o = phase-with owner in
                let phase : seen_phase net (mid net S) r i c ≡ seen_phase net S r i c
                = ap (λ (cs : List Channel). cond (has_channel cs c) (seen_phase_with net (mid net S) r i c (next_channel net (mid net S) c)) Idle) same-routed
                ∙ ap (λ (o : Option Channel). cond (has_channel S.routed c) (seen_phase_with net (mid net S) r i c o) Idle) next
                ∙ ap (λ (ph : InputState). cond (has_channel S.routed c) ph Idle) (with_next (next_channel net S c)) in
                let past : is_past net c (goal net p) (tail_place net (mid net S) p) ≡ is_past net c (goal net p) (tail_place net S p)
                = ap (is_past net c (goal net p)) (landed-tail net good S x p low) ∙ past-landed net good S x p c (tail_place net S p) in
                let present : is_present net (mid net S) c p ≡ is_present net S c p
                = ap (λ j. nat_lt 0 j && not (is_past net c (goal net p) (tail_place net (mid net S) p))) (count-none-landed p) ∙ ap (λ b. nat_lt 0 (come_count net S c p) && not b) past in
                let last : last_come net (mid net S) c p ≡ last_come net S c p = ap (λ j. if nat_eq j 0 then None else Some (flit_at (packet_at net p) p (j - 1))) (count-none-landed p) in
                seen-held net (mid net S) r i p c owner
                ∙ ap (λ (ph : InputState). made ph (if is_present net (mid net S) c p then Some p else None) (option_and_then next_of (last_come net (mid net S) c p))) phase
                ∙ ap (λ b. made (seen_phase net S r i c) (if b then Some p else None) (option_and_then next_of (last_come net (mid net S) c p))) present
                ∙ ap (λ (f : Option Flit). made (seen_phase net S r i c) (if is_present net S c p then Some p else None) (option_and_then next_of f)) last
                ∙ sym (seen-held net S r i p c e)
              where
                none-and : (b : Bool) → (b && false) ≡ false
                none-and true = refl
                none-and false = refl

                phase-with : owner_of net (mid net S) c ≡ Some p → (o : Option Channel) → seen_phase_with net (mid net S) r i c o ≡ seen_phase_with net S r i c o
                phase-with owner None = ap (λ (o : Option ℕ). Waiting (seen_set net S r i o)) (owner ∙ sym e)
                phase-with owner (Some o) = refl

            -- its tail has left it
            left-case : is_past net c (goal net p) (tail_place net S p) ≡ true → seen_input net (mid net S) r i (Some c) ≡ seen_input net S r i (Some c)
            left-case k =
                let unrouted = no_route (λ q hq kq.
                let same : q ≡ p = Rattle.noc_theory.proofs.injection.SourceLemmas.same-owner net good S (keyed net good S x) (worm net good S x) c q p hq h.0 in
                false≢true (sym kq ∙ ap (λ j. is_past net c (goal net j) (tail_place net S j)) same ∙ k)) in
                let link : is_link c ≡ true = link-of c refl k in
                let owner = owner-freed net good S x c p e (and_from _ _ link k) in
                let all = count-all net good.built S (keyed net good S x) (worm net good S x) p c h (or_right (is_in c (tail_place net S p)) (is_past net c (goal net p) (tail_place net S p)) k) in
                let some = good.built.some_flit p low in
                let gone : is_present net S c p ≡ false = ap (λ b. nat_lt 0 (come_count net S c p) && not b) k ∙ none-and (nat_lt 0 (come_count net S c p)) in
                let last : option_and_then next_of (last_come net S c p) ≡ None
                = ap (λ j. option_and_then next_of (if nat_eq j 0 then None else Some (flit_at (packet_at net p) p (j - 1)))) all
                ∙ ap (λ b. option_and_then next_of (if b then None else Some (flit_at (packet_at net p) p ((packet_at net p).length - 1)))) (ne_eqb (packet_at net p).length 0 (λ z. omega arith))
                ∙ ap (λ b. if b then None else Some (record { packet = p; index = (packet_at net p).length - 1 + 1; dst = (packet_at net p).destination; class = (packet_at net p).class })) (eq-eqb ((packet_at net p).length - 1 + 1) (packet_at net p).length (omega arith)) in
                seen-unowned net (mid net S) r i c owner ∙ ap (λ (ph : InputState). made ph None None) (unrouted-phase (mid net S) same-routed unrouted)
                ∙ sym (seen-held net S r i p c e
                ∙ ap (λ (ph : InputState). made ph (if is_present net S c p then Some p else None) (option_and_then next_of (last_come net S c p))) (unrouted-phase S refl unrouted)
                ∙ ap (λ b. made Idle (if b then Some p else None) (option_and_then next_of (last_come net S c p))) gone
                ∙ ap (λ a. made Idle None a) last)
              where
                none-and : (b : Bool) → (b && false) ≡ false
                none-and true = refl
                none-and false = refl

                link-of : (d : Channel) → d ≡ c → is_past net c (goal net p) (tail_place net S p) ≡ true → is_link c ≡ true
                link-of (Link a b w) q k = ap is_link (sym q)
                link-of (Inject a w) q k =
                    let own : Has (Inject a w, p) S.own = subst (λ (y : Channel). Has (y, p) S.own) (sym q) h.0 in
                    let enter = (worm net good S x).entering a w p own in
                    absurd (false≢true (sym (ap (λ (y : Channel). is_past net y (goal net p) (tail_place net S p)) (sym q) ∙ Rattle.noc_theory.proofs.worms.RoutedRecordLemmas.entering-behind net good.built p (Inject a w) (tail_place net S p) enter) ∙ k))
                link-of (Eject a w) q k = absurd (eject (subst (λ (y : Channel). IsEject y) q tt))

            way : (b : Bool) → is_past net c (goal net p) (tail_place net S p) ≡ b → seen_input net (mid net S) r i (Some c) ≡ seen_input net S r i (Some c)
            way false k = behind-case k
            way true k = left-case k
