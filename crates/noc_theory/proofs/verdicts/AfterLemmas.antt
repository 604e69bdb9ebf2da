-- After the verdicts: who owns what, how many flits have come to a buffer, and where tails are.
use Rattle.std.proofs.Common.{◌≡◌, ℕ, ◌+◌, ◌<◌, ◌≤◌, Bool, true, false, length, Option, Some, None, refl, ap, sym, ◌∙◌, inl, inr, subst, arith}
use Rattle.std.specs.Prelude.{filter, ◌⊎◌, nat_eq, nat_lt, not, ◌||◌}
use Rattle.noc_theory.proofs.Common.{filter_map, false≢true, true≢false, lt-ltb, le-ltb, cases_eq, cases_lt, eqb-true, not-true, or_right, Has, Channel, Link, Inject, Eject, same_channel, Setup, State, Located, Place, In, place_of_flit, tail_place, is_in, is_past, gone_to, moved_place, verdict_in, is_released, tail_leaves, after_verdicts, all_inputs, granted_pair, has_come, come_count, Moved, IsValid}
use Rattle.noc_theory.proofs.worms.BufferLemmas.{same_channel-refl, same_channel-true}
use Rattle.noc_theory.proofs.worms.GrantLemmas.{IsGrant, granted-is}
use Rattle.noc_theory.proofs.worms.MemberLemmas.{Has-append, Has-right, Has-filter, Has-filter_map, Has-filter_mapped}
use Rattle.noc_theory.proofs.worms.MoveLemmas.{IsNext, IsFirst, IsMoving, IsMoved, moved-or-not, same-far, far-link, far-eject, next-no-eject}
use Rattle.noc_theory.proofs.worms.StateWordLemmas.{IsEject, IsKeyed, IsHeld, goal, last_of, far_of}
use Rattle.noc_theory.proofs.worms.PlaceLemmas.{place-of-flit, place-stepped}
use Rattle.noc_theory.proofs.worms.RoutedStateLemmas.{IsWhole, whole-verdicts}
use Rattle.noc_theory.proofs.worms.VerdictPhaseLemmas.{kept-left, tail-of, leaves-tail}
use Rattle.noc_theory.proofs.worms.WormRecordLemmas.{IsWorm, valid-last}
use Rattle.noc_theory.proofs.join.OrderedLemmas.{IsGood, IsOrderedFrozen}
use Rattle.noc_theory.proofs.join.LockstepStepLemmas.{count-step}

module _ (net : Setup) (good : IsGood net) (F : State) (x : IsOrderedFrozen net F) (n : ℕ) where
  abbrev pub T : State
  T = after_verdicts net n F

  abbrev pub step : Located → Located
  step f = record f { place = moved_place net F n f f.place }

  pub whole : IsWhole net T
  whole = whole-verdicts net good.built good.wired good.covering n F x.whole

  abbrev keyed : IsKeyed net F.at
  keyed = x.whole.sound.keyed

  abbrev worm : IsWorm net F.own (place_of_flit net F)
  worm = x.whole.sound.worm

  abbrev pub Moves : ℕ → ℕ → Channel → Channel → Type 0
  Moves p i c o = IsMoving net good.built F x.whole.sound.keyed x.whole.sound.worm n x.whole.sound.still p i c o

  abbrev pub Next : ℕ → Channel → Channel → Type 0
  Next p c o = IsNext net good.built F x.whole.sound.keyed x.whole.sound.worm p c o

  -- ---- flits

  -- where a flit is and goes
  pub data Goes (f : Located) : Type 0 where
    stays : (step f).place ≡ f.place → ((c : Channel) → verdict_in net F c ≡ Moved → IsFirst net good.built F x.whole.sound.keyed x.whole.sound.worm c f.packet f.index → ⊥) → Goes f
    moves : (c o : Channel) → Moves f.packet f.index c o → f.place ≡ In c → (step f).place ≡ gone_to net n c (Some o) → Goes f

  pub goes : (f : Located) → Has f F.at → Goes f
  unfolding after_verdicts
  goes f h = by (moved-or-not net good.built F keyed worm n x.whole.sound.still f.packet f.index v)
    where
      v : IsValid net f.packet f.index
      v = keyed.valid f h

      here : place_of_flit net F f.packet f.index ≡ f.place
      here = place-of-flit net F keyed f h

      to : place_of_flit net T f.packet f.index ≡ (step f).place
      to = place-stepped net (λ (g : Located). moved_place net F n g g.place) F T keyed refl f.packet f.index v
          ∙ ap (λ (y : Place). moved_place net F n (record { packet = f.packet; index = f.index; place = y }) y) here

      by : IsMoved net good.built F keyed worm n x.whole.sound.still f.packet f.index → Goes f
      by (inl s) = stays (sym to ∙ s.now ∙ here) s.not_first
      by (inr m) = moves m.0 m.1 m.2 (sym here ∙ m.2.was) (sym to ∙ m.2.now)

  -- ---- what has come to a buffer stays come

  pub come-gone : (p : ℕ) (c d o : Channel) → IsHeld net F c p → Has (d, p) F.own → Next p d o → has_come net c (goal net p) (gone_to net n d (Some o)) ≡ has_come net c (goal net p) (In d)
  come-gone p c d o h k m = by o m
    where
      eject : IsEject d → ⊥
      eject = next-no-eject net good.built F keyed worm p d o m

      near : (b : ℕ) → far_of net p d ≡ b + 1 → nat_lt b (far_of net p c) ≡ (same_channel c d || nat_lt (far_of net p d) (far_of net p c))
      near b e = cases (cases_eq (far_of net p c) (far_of net p d))
        where
          cases : (far_of net p c ≡ far_of net p d) ⊎ (far_of net p c ≡ far_of net p d → ⊥) → nat_lt b (far_of net p c) ≡ (same_channel c d || nat_lt (far_of net p d) (far_of net p c))
          cases (inl s) =
              let same : c ≡ d = same-far net good.built F keyed worm p c d h.0 k h.1 eject s in
              let t : same_channel c d ≡ true = ap (same_channel c) (sym same) ∙ same_channel-refl c in
              lt-ltb b (far_of net p c) (omega arith) ∙ sym (ap (λ (y : Bool). y || nat_lt (far_of net p d) (far_of net p c)) t)
          cases (inr s) = apart (cases_lt (far_of net p d) (far_of net p c))
            where
              other : same_channel c d ≡ false
              other = at (same_channel c d) refl
                where
                  at : (y : Bool) → same_channel c d ≡ y → same_channel c d ≡ false
                  at false q = q
                  at true q = absurd (s (ap (far_of net p) (same_channel-true c d q)))

              apart : (far_of net p d < far_of net p c) ⊎ (far_of net p c ≤ far_of net p d) → nat_lt b (far_of net p c) ≡ (same_channel c d || nat_lt (far_of net p d) (far_of net p c))
              apart (inl l) = lt-ltb b (far_of net p c) (omega arith) ∙ sym (ap (λ (y : Bool). y || nat_lt (far_of net p d) (far_of net p c)) other ∙ lt-ltb (far_of net p d) (far_of net p c) l)
              apart (inr l) = le-ltb b (far_of net p c) (omega arith) ∙ sym (ap (λ (y : Bool). y || nat_lt (far_of net p d) (far_of net p c)) other ∙ le-ltb (far_of net p d) (far_of net p c) l)

      by : (o : Channel) → Next p d o → has_come net c (goal net p) (gone_to net n d (Some o)) ≡ has_come net c (goal net p) (In d)
      by (Link a b w) y = near (far_of net p (Link a b w)) (far-link net good.built F keyed worm p d a b w y)
      by (Inject a w) y = absurd (false≢true y.leads)
      by (Eject a w) y = home (cases_eq (far_of net p c) 0)
        where
          none : far_of net p d ≡ 0
          none = far-eject net good.built F keyed worm p d a w y

          home : (far_of net p c ≡ 0) ⊎ (far_of net p c ≡ 0 → ⊥) → true ≡ (same_channel c d || nat_lt (far_of net p d) (far_of net p c))
          home (inl e) =
              let same : c ≡ d = same-far net good.built F keyed worm p c d h.0 k h.1 eject (e ∙ sym none) in
              sym (ap (λ (z : Bool). z || nat_lt (far_of net p d) (far_of net p c)) (ap (same_channel c) (sym same) ∙ same_channel-refl c))
          home (inr e) = let g = none in sym (or_right (same_channel c d) (nat_lt (far_of net p d) (far_of net p c)) (lt-ltb _ _ (omega arith)))

  pub come-kept : (p : ℕ) (c : Channel) → IsHeld net F c p → (f : Located) → Has f F.at → f.packet ≡ p → has_come net c (goal net p) (step f).place ≡ has_come net c (goal net p) f.place
  come-kept p c h f m e = by (goes f m)
    where
      by : Goes f → has_come net c (goal net p) (step f).place ≡ has_come net c (goal net p) f.place
      by (stays s t) = ap (has_come net c (goal net p)) s
      by (moves d o k was now) =
          let k' : IsMoving net good.built F keyed worm n x.whole.sound.still p f.index d o = subst (λ q. IsMoving net good.built F keyed worm n x.whole.sound.still q f.index d o) e k in
          ap (has_come net c (goal net p)) now ∙ come-gone p c d o h k'.owns k'.next ∙ sym (ap (has_come net c (goal net p)) was)

  pub count-kept : (p : ℕ) (c : Channel) → IsHeld net F c p → come_count net T c p ≡ come_count net F c p
  unfolding after_verdicts
  count-kept p c h =
      count-step (λ (f : Located). has_come net c (goal net p) f.place) (λ (f : Located). has_come net c (goal net p) f.place) (λ (f : Located). nat_eq p f.packet) step (λ f. refl) F.at
      (λ f m q. come-kept p c h f m (sym (eqb-true p f.packet q)))

  -- ---- owners

  abbrev pub wormT : IsWorm net T.own (place_of_flit net T)
  wormT = whole.sound.worm

  pub data WasOwned (c : Channel) (p : ℕ) : Type 0 where
    kept : Has (c, p) F.own → is_released net F (c, p) ≡ false → WasOwned c p
    given : (d : Channel) → Has d (all_inputs net) → granted_pair net F d ≡ Some (c, p) → IsGrant net F d c p → WasOwned c p

  pub was-owned : (c : Channel) (p : ℕ) → Has (c, p) T.own → WasOwned c p
  unfolding after_verdicts
  was-owned c p h = cases (Has-append (c, p) (filter (λ pair. not (is_released net F pair)) F.own) (filter_map (granted_pair net F) (all_inputs net)) h)
    where
      cases : Has (c, p) (filter (λ pair. not (is_released net F pair)) F.own) ⊎ Has (c, p) (filter_map (granted_pair net F) (all_inputs net)) → WasOwned c p
      cases (inl k) = let f = Has-filter (λ pair. not (is_released net F pair)) (c, p) F.own k in kept f.0 (not-true _ f.1)
      cases (inr k) = let r = Has-filter_map (granted_pair net F) (c, p) (all_inputs net) k in given r.0 r.1 r.2 (granted-is net F r.0 c p r.2)

  pub owned-given : (d c : Channel) (p : ℕ) → Has d (all_inputs net) → granted_pair net F d ≡ Some (c, p) → Has (c, p) T.own
  unfolding after_verdicts
  owned-given d c p h e =
      Has-right (c, p) (filter (λ pair. not (is_released net F pair)) F.own) (filter_map (granted_pair net F) (all_inputs net)) (Has-filter_mapped (granted_pair net F) d (c, p) (all_inputs net) h e)

  pub owned-kept : (c : Channel) (p : ℕ) → Has (c, p) F.own → is_released net F (c, p) ≡ false → Has (c, p) T.own
  owned-kept c p h e = kept-left net good.built good.wired F keyed worm n x.whole.sound.still c p h (ap not e)

  -- a channel that is held stays held while its tail does not leave it, and a link channel anyway
  pub held-kept : (c : Channel) (p : ℕ) → IsHeld net F c p → tail_leaves net F c ≡ false → Has (c, p) T.own
  held-kept (Link r a v) p h e = owned-kept (Link r a v) p h.0 refl
  held-kept (Inject m v) p h e = owned-kept (Inject m v) p h.0 e
  held-kept (Eject m v) p h e = absurd (h.1 tt)

  -- ---- tails

  in-only : (c d : Channel) (o : Option Channel) → same_channel c d ≡ false → is_in c (gone_to net n d o) ≡ false
  in-only c d None e = e
  in-only c d (Some (Link r a v)) e = refl
  in-only c d (Some (Inject m v)) e = e
  in-only c d (Some (Eject m v)) e = refl

  leaves-in : (d o : Channel) (p : ℕ) → Next p d o → is_in d (gone_to net n d (Some o)) ≡ false
  leaves-in d (Link r a v) p y = refl
  leaves-in d (Inject m v) p y = absurd (false≢true y.leads)
  leaves-in d (Eject m v) p y = refl

  -- a tail is past a channel exactly where it has just left it
  pub tail-past : (c : Channel) (p : ℕ) → IsHeld net F c p → is_past net c (goal net p) (tail_place net T p) ≡ tail_leaves net F c
  unfolding after_verdicts
  tail-past c p h = by (moved-or-not net good.built F keyed worm n x.whole.sound.still p (last_of net p) last)
    where
      low : p < length net.packets
      low = worm.known c p h.0

      last : IsValid net p (last_of net p)
      last = valid-last net good.built p low

      behind : is_past net c (goal net p) (tail_place net F p) ≡ false
      behind = x.whole.routed.behind c p h

      leaving : (b : Bool) → tail_leaves net F c ≡ b → IsFirst net good.built F keyed worm c p (last_of net p) × (verdict_in net F c ≡ Moved) ⊎ (tail_leaves net F c ≡ false)
      leaving false e = inr e
      leaving true e = let r = tail-of net good.built good.wired F keyed worm n x.whole.sound.still c p h.0 e in inl (r.1, r.0)

      by : IsMoved net good.built F keyed worm n x.whole.sound.still p (last_of net p) → is_past net c (goal net p) (tail_place net T p) ≡ tail_leaves net F c
      by (inl s) = at (leaving (tail_leaves net F c) refl)
        where
          at : IsFirst net good.built F keyed worm c p (last_of net p) × (verdict_in net F c ≡ Moved) ⊎ (tail_leaves net F c ≡ false) → is_past net c (goal net p) (tail_place net T p) ≡ tail_leaves net F c
          at (inl k) = absurd (s.not_first c k.1 k.0)
          at (inr e) = ap (is_past net c (goal net p)) s.now ∙ behind ∙ sym e
      by (inr m) = at (same_channel c m.0) refl
        where
          d : Channel
          d = m.0

          o : Channel
          o = m.1

          behind_in : is_past net c (goal net p) (In m.0) ≡ false
          behind_in = ap (is_past net c (goal net p)) (sym m.2.was) ∙ behind

          at : (b : Bool) → same_channel c m.0 ≡ b → is_past net c (goal net p) (tail_place net T p) ≡ tail_leaves net F c
          at true e =
              let same : c ≡ m.0 = same_channel-true c m.0 e in
              let t : tail_leaves net F m.0 ≡ true = leaves-tail net good.built good.wired F keyed worm n x.whole.sound.still m.0 p low m.2.moves m.2.first in
              let none : is_in c (gone_to net n m.0 (Some m.1)) ≡ false = ap (λ (z : Channel). is_in z (gone_to net n m.0 (Some m.1))) same ∙ leaves-in m.0 m.1 p m.2.next in
              ap (is_past net c (goal net p)) m.2.now
              ∙ ap (λ b. b || is_past net c (goal net p) (gone_to net n m.0 (Some m.1))) (sym none)
              ∙ come-gone p c m.0 m.1 h m.2.owns m.2.next
              ∙ ap (λ b. b || is_past net c (goal net p) (In m.0)) e
              ∙ sym (ap (tail_leaves net F) same ∙ t)
          at false e =
              let none : is_in c (gone_to net n m.0 (Some m.1)) ≡ false = in-only c m.0 (Some m.1) e in
              ap (is_past net c (goal net p)) m.2.now
              ∙ ap (λ b. b || is_past net c (goal net p) (gone_to net n m.0 (Some m.1))) (sym none)
              ∙ come-gone p c m.0 m.1 h m.2.owns m.2.next
              ∙ ap (λ b. b || is_past net c (goal net p) (In m.0)) e
              ∙ behind_in
              ∙ sym (off (leaving (tail_leaves net F c) refl))
            where
              off : IsFirst net good.built F keyed worm c p (last_of net p) × (verdict_in net F c ≡ Moved) ⊎ (tail_leaves net F c ≡ false) → tail_leaves net F c ≡ false
              off (inl k) =
                  let z : In c ≡ In m.0 = sym k.0.there ∙ m.2.was in
                  let s : c ≡ m.0 = cc in
                  absurd (true≢false (sym (ap (same_channel c) (sym s) ∙ same_channel-refl c) ∙ e))
              off (inr k) = k
