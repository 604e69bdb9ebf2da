-- After the landings and the credits: owners, next channels, and where flits are.
use Rattle.std.proofs.Common.{◌≡◌, ℕ, ◌+◌, ◌*◌, ◌<◌, ◌≤◌, Bool, true, false, length, Option, Some, None, refl, ap, sym, ◌∙◌, inl, inr, arith}
use Rattle.std.specs.Prelude.{◌⊎◌, ◌&&◌, ◌||◌, not}
use Rattle.noc_theory.proofs.Common.{true≢false, cases_eq, not-true, Has, Channel, Link, Inject, Eject, same_channel, is_link, has_come, Setup, State, Located, Place, Source, On, In, Out, place_of_flit, tail_place, is_on, is_past, is_freed, landed_place, owner_of, next_channel, after_landing, after_credits, weight, IsValid}
use Rattle.noc_theory.proofs.worms.BufferLemmas.{same_channel-true}
use Rattle.noc_theory.proofs.worms.MemberLemmas.{Has-filter, Has-kept}
use Rattle.noc_theory.proofs.worms.MoveLemmas.{IsNext, next-is, same-far, far-link}
use Rattle.noc_theory.proofs.worms.OwnedLemmas.{owner-has, idle-none}
use Rattle.noc_theory.proofs.worms.StateWordLemmas.{IsKeyed, IsPlaced, goal, last_of, far_of}
use Rattle.noc_theory.proofs.worms.PlaceLemmas.{place-stepped}
use Rattle.noc_theory.proofs.worms.RoutedRecordLemmas.{past-earlier}
use Rattle.noc_theory.proofs.worms.SoundLemmas.{IsSoundFrozen, sound-landed, sound-credits}
use Rattle.noc_theory.proofs.worms.WormRecordLemmas.{IsWorm, valid-last}
use Rattle.noc_theory.proofs.worms.NextLemmas.{next-from}
use Rattle.noc_theory.proofs.verdicts.NextViewLemmas.{owner-at, owner-none, next-none, no-next}
use Rattle.noc_theory.proofs.join.OrderedLemmas.{IsGood, IsOrdered}
use Rattle.noc_theory.proofs.join.PhaseLemmas.{mid}

module _ (net : Setup) (good : IsGood net) (S : State) (x : IsOrdered net S) where
  abbrev pub M : State
  M = mid net S

  abbrev pub keyed : IsKeyed net S.at
  keyed = x.whole.sound.keyed

  abbrev pub worm : IsWorm net S.own (place_of_flit net S)
  worm = x.whole.sound.worm

  pub sound : IsSoundFrozen net (mid net S)
  sound = sound-credits net good.built good.wired (after_landing net S) (sound-landed net good.built good.wired S x.whole.sound)

  abbrev pub keyedM : IsKeyed net M.at
  keyedM = sound.keyed

  abbrev pub wormM : IsWorm net M.own (place_of_flit net M)
  wormM = sound.worm

  pub landed : (p i : ℕ) → IsValid net p i → place_of_flit net M p i ≡ landed_place net (place_of_flit net S p i)
  unfolding after_landing after_credits
  landed p i v = place-stepped net (λ (f : Located). landed_place net f.place) S (after_landing net S) keyed refl p i v

  pub landed-tail : (p : ℕ) → p < length net.packets → tail_place net M p ≡ landed_place net (tail_place net S p)
  landed-tail p l = landed p (last_of net p) (valid-last net good.built p l)

  pub past-landed : (p : ℕ) (c : Channel) (y : Place) → is_past net c (goal net p) (landed_place net y) ≡ is_past net c (goal net p) y
  past-landed p c Source = refl
  past-landed p c (On d) = refl
  past-landed p c (In d) = refl
  past-landed p c (Out n) = refl

  -- what is on the wire of c comes to its buffer, and nothing else does
  pub come-landed : (p : ℕ) (c : Channel) (y : Place) → (y ≡ On c → ⊥) → has_come net c (goal net p) (landed_place net y) ≡ has_come net c (goal net p) y
  come-landed p c Source k = refl
  come-landed p c (On d) k = at (same_channel c d) refl
    where
      at : (b : Bool) → same_channel c d ≡ b → (same_channel c d || is_past net c (goal net p) (On d)) ≡ is_past net c (goal net p) (On d)
      at true e = absurd (k (ap On (sym (same_channel-true c d e))))
      at false e = ap (λ b. b || is_past net c (goal net p) (On d)) e
  come-landed p c (In d) k = refl
  come-landed p c (Out n) k = refl

  pub sent-landed : (p : ℕ) (c : Channel) (y : Place) → (is_on c (landed_place net y) || has_come net c (goal net p) (landed_place net y)) ≡ (is_on c y || has_come net c (goal net p) y)
  sent-landed p c Source = refl
  sent-landed p c (On d) = refl
  sent-landed p c (In d) = refl
  sent-landed p c (Out n) = refl

  -- ---- owners

  freed-is : (c : Channel) (p : ℕ) → Has (c, p) S.own → is_freed net (after_landing net S) (c, p) ≡ (is_link c && is_past net c (goal net p) (tail_place net S p))
  unfolding after_landing
  freed-is c p h =
      let l = worm.known c p h in
      ap (λ (y : Place). is_link c && is_past net c (goal net p) y) (place-stepped net (λ (f : Located). landed_place net f.place) S (after_landing net S) keyed refl p (last_of net p) (valid-last net good.built p l))
      ∙ ap (λ b. is_link c && b) (past-landed p c (tail_place net S p))

  pub owned-before : (c : Channel) (p : ℕ) → Has (c, p) M.own → Has (c, p) S.own × ((is_link c && is_past net c (goal net p) (tail_place net S p)) ≡ false)
  unfolding after_credits after_landing
  owned-before c p h =
      let r = Has-filter (λ pair. not (is_freed net (after_landing net S) pair)) (c, p) S.own h in
      (r.0, sym (freed-is c p r.0) ∙ not-true _ r.1)

  pub owned-still : (c : Channel) (p : ℕ) → Has (c, p) S.own → (is_link c && is_past net c (goal net p) (tail_place net S p)) ≡ false → Has (c, p) M.own
  unfolding after_credits after_landing
  owned-still c p h e = Has-kept (λ pair. not (is_freed net (after_landing net S) pair)) (c, p) S.own h (ap not (freed-is c p h ∙ e))

  pub owner-still : (c : Channel) (p : ℕ) → owner_of net S c ≡ Some p → (is_link c && is_past net c (goal net p) (tail_place net S p)) ≡ false → owner_of net M c ≡ Some p
  owner-still c p e k = owner-at net good.built M keyedM wormM c p (owned-still c p (owner-has net S c p e) k)

  pub owner-gone : (c : Channel) → owner_of net S c ≡ None → owner_of net M c ≡ None
  owner-gone c e = owner-none net good.built M keyedM wormM c (λ p h. idle-none net S c p e (owned-before c p h).0)

  pub owner-freed : (c : Channel) (p : ℕ) → owner_of net S c ≡ Some p → (is_link c && is_past net c (goal net p) (tail_place net S p)) ≡ true → owner_of net M c ≡ None
  owner-freed c p e k = owner-none net good.built M keyedM wormM c (λ q h.
      let b = owned-before c q h in
      let same : q ≡ p = Rattle.noc_theory.proofs.injection.SourceLemmas.same-owner net good S keyed worm c q p b.0 (owner-has net S c p e) in
      true≢false (sym k ∙ ap (λ j. is_link c && is_past net c (goal net j) (tail_place net S j)) (sym same) ∙ b.1))

  -- the next channel of a channel that the tail is not past stays
  pub next-still : (p : ℕ) (c : Channel) → Has (c, p) S.own → is_past net c (goal net p) (tail_place net S p) ≡ false → next_channel net M c ≡ next_channel net S c
  next-still p c h e = at (next_channel net S c) refl
    where
      mine : Has (c, p) M.own
      mine = owned-still c p h (ap (λ b. is_link c && b) e ∙ none (is_link c))
        where
          none : (b : Bool) → (b && false) ≡ false
          none true = refl
          none false = refl

      stays : (o : Channel) → IsNext net good.built S keyed worm p c o → (is_link o && is_past net o (goal net p) (tail_place net S p)) ≡ false
      stays (Link a b w) m = by (is_past net (Link a b w) (goal net p) (tail_place net S p)) refl
        where
          by : (y : Bool) → is_past net (Link a b w) (goal net p) (tail_place net S p) ≡ y → is_past net (Link a b w) (goal net p) (tail_place net S p) ≡ false
          by false k = k
          by true k = absurd (true≢false (sym (past-earlier net good.built p c (Link a b w) (tail_place net S p) (far-link net good.built S keyed worm p c a b w m) k) ∙ e))
      stays (Inject a w) m = refl
      stays (Eject a w) m = refl

      at : (o : Option Channel) → next_channel net S c ≡ o → next_channel net M c ≡ next_channel net S c
      at (Some o) k =
          let m = next-is net good.built S keyed worm p c o h k in
          next-from net good.built M keyedM wormM p c o mine (record { owns = owned-still o p m.owns (stays o m); leads = m.leads }) ∙ sym k
      at None k = next-none net good.built M keyedM wormM p c mine (λ o m. no-next net good.built S keyed worm p c o h k (record { owns = (owned-before o p m.owns).0; leads = m.leads })) ∙ sym k

  -- ---- weights

  -- what weighs no more than the wire of c, and is not on it, has come to
  -- the buffer of c or past it
  pub wire-weight : (p r a v : ℕ) (y : Place) → Has (Link r a v, p) S.own → IsPlaced net S.own p y → (y ≡ On (Link r a v) → ⊥) → weight net p y ≤ 3 * far_of net p (Link r a v) + 3 → weight net p y ≤ 3 * far_of net p (Link r a v) + 2
  wire-weight p r a v Source h k off l = let n = (worm.near (Link r a v) p h).0 in absurd (omega (arith, n, l))
  wire-weight p r a v (On (Link s b u)) h k off l = by (cases_eq (far_of net p (Link s b u)) (far_of net p (Link r a v)))
    where
      by : (far_of net p (Link s b u) ≡ far_of net p (Link r a v)) ⊎ (far_of net p (Link s b u) ≡ far_of net p (Link r a v) → ⊥) → 3 * far_of net p (Link s b u) + 3 ≤ 3 * far_of net p (Link r a v) + 2
      by (inl e) = absurd (off (ap On (same-far net good.built S keyed worm p (Link s b u) (Link r a v) k h (λ z. z) (λ z. z) e)))
      by (inr e) = omega (arith, e, l)
  wire-weight p r a v (On (Inject m u)) h k off l = elim k [ ]
  wire-weight p r a v (On (Eject m u)) h k off l = elim k [ ]
  wire-weight p r a v (In (Link s b u)) h k off l = omega (arith, l)
  wire-weight p r a v (In (Inject m u)) h k off l = let n = (worm.near (Link r a v) p h).0 in absurd (omega (arith, n, l))
  wire-weight p r a v (In (Eject m u)) h k off l = elim k [ ]
  wire-weight p r a v (Out m) h k off l = omega arith
