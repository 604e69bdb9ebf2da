-- Which packet an input channel of a router has, in a steady state of a network.
use Rattle.std.proofs.Common.{◌≡◌, ℕ, zero, suc, ◌+◌, ◌*◌, ◌<◌, Bool, true, false, cond, Option, Some, None, refl, ap, sym, ◌∙◌, inl, inr, subst, arith}
use Rattle.std.specs.Prelude.{option_and_then, ◌⊎◌, ◌&&◌, not, nat_lt, if◌then◌else◌}
use Rattle.std.proofs.lemmas.Bool.{not-true, or_cases, or_left}
use Rattle.noc_theory.specs.Lockstep.{come_count, is_present, seen_phase}
use Rattle.noc_theory.specs.Network.{count_in}
use Rattle.noc_theory.specs.Progress.{weight}
use Rattle.noc_theory.proofs.landing.ComeLemmas.{come-before, count-none, count-some}
use Rattle.noc_theory.proofs.worms.InjectionRoomLemmas.{filter-none}
use Rattle.noc_theory.proofs.worms.StateWordLemmas.{IsHeld, far_of}
use Rattle.noc_theory.proofs.worms.PlaceLemmas.{flit-there, is_in-is, place-of-flit}
use Rattle.noc_theory.proofs.worms.RoutedRecordLemmas.{entering-behind}
use Rattle.noc_theory.proofs.worms.WormRecordLemmas.{heavy-not-past, valid-first}
use Rattle.noc_theory_bits.proofs.Common.{false≢true, and_parts, lt-ltb, ltb-true, Has, Channel, Link, Inject, Eject, is_idle_phase, Idle, has_come, seen_input, seen_phase_with, Setup, State, Located, Place, In, place_of_flit, tail_place, is_in, is_past, owner_of, next_channel, has_channel, head_place, same_channel-refl, IsGood, owner-has, owner-is, IsEject, IsPlaced, goal, last_of, IsValid, valid-last}
use Rattle.noc_theory_bits.proofs.network.SteadyLemmas.{IsSteady}

module _ (net : Setup) (good : IsGood net) (S : State) (x : IsSteady net good S) where
  -- a flit in the buffer of a channel is counted there
  pub in-some : (c : Channel) (p i : ℕ) → IsValid net p i → is_in c (place_of_flit net S p i) ≡ true → 0 < count_in net S c
  in-some c p i v e = at (count_in net S c) refl
    where
      at : (k : ℕ) → count_in net S c ≡ k → 0 < count_in net S c
      at zero h = absurd (false≢true (sym (filter-none (λ (f : Located). is_in c f.place) S.at (record { packet = p; index = i; place = place_of_flit net S p i }) h (flit-there net S x.keyed p i v)) ∙ e))
      at (suc k) h = omega (arith, h)

  -- a channel has the packet that holds it, once the head has come to it, until the tail has left
  -- it
  pub packet-there : (r i p : ℕ) (c : Channel) → IsHeld net S c p → has_come net c (goal net p) (head_place net S p) ≡ true → is_past net c (goal net p) (tail_place net S p) ≡ false
      → (seen_input net S r i (Some c)).packet ≡ Some p
  packet-there r i p c h come behind =
      let none = count-some net good.built S x.keyed x.worm p c h come in
      let some : nat_lt 0 (come_count net S c p) ≡ true = lt-ltb _ _ (positive (come_count net S c p) none) in
      let there : is_present net S c p ≡ true = ap (λ b. b && not (is_past net c (goal net p) (tail_place net S p))) some ∙ ap not behind in
      ap (λ (o : Option ℕ). option_and_then (λ q. if is_present net S c q then Some q else None) o) (owner-is net S c p x.worm.once h.0)
      ∙ ap (λ b. if b then Some p else None) there
    where
      positive : (k : ℕ) → (k ≡ 0 → ⊥) → 0 < k
      positive k none = omega arith

  -- the packet of a channel is that of the flits in its buffer
  pub packet-in : (r i : ℕ) (c : Channel) (g : Located) → Has g S.at → is_in c g.place ≡ true → (seen_input net S r i (Some c)).packet ≡ Some g.packet
  packet-in r i c g member e = packet-there r i g.packet c (held c placed) come (behind c placed place)
    where
      valid : IsValid net g.packet g.index
      valid = x.keyed.valid g member

      last : IsValid net g.packet (last_of net g.packet)
      last = valid-last net good.built g.packet valid.0

      place : place_of_flit net S g.packet g.index ≡ In c
      place = place-of-flit net S x.keyed g member ∙ is_in-is c g.place e

      placed : IsPlaced net S.own g.packet (In c)
      placed = subst (λ (y : Place). IsPlaced net S.own g.packet y) place (x.worm.placed g.packet g.index valid)

      held : (d : Channel) → IsPlaced net S.own g.packet (In d) → IsHeld net S d g.packet
      held (Link r a v) h = (h, λ z. z)
      held (Inject n v) h = (h, λ z. z)
      held (Eject n v) h = elim h [ ]

      come : has_come net c (goal net g.packet) (head_place net S g.packet) ≡ true
      come =
          come-before net good.built S x.keyed x.worm g.packet 0 g.index c (held c placed) valid (omega arith)
          (or_left (is_in c (place_of_flit net S g.packet g.index)) (is_past net c (goal net g.packet) (place_of_flit net S g.packet g.index)) (ap (is_in c) place ∙ same_channel-refl c))

      -- the tail is behind it
      behind : (d : Channel) → IsPlaced net S.own g.packet (In d) → place_of_flit net S g.packet g.index ≡ In d → is_past net d (goal net g.packet) (tail_place net S g.packet) ≡ false
      behind (Link r a v) h is =
          let heavy : weight net g.packet (place_of_flit net S g.packet g.index) ≡ 3 * far_of net g.packet (Link r a v) + 2 = ap (weight net g.packet) is in
          let few = valid.1 in
          let order = x.worm.order g.packet g.index (last_of net g.packet) last (omega (arith, few)) in
          heavy-not-past net S.own g.packet (Link r a v) (tail_place net S g.packet) (λ d k. x.worm.near d g.packet k) (x.worm.near (Link r a v) g.packet h).0
          (x.worm.placed g.packet (last_of net g.packet) last) (omega (arith, heavy, order))
      behind (Inject n v) h is = entering-behind net good.built g.packet (Inject n v) (tail_place net S g.packet) (x.worm.entering n v g.packet h)
      behind (Eject n v) h is = elim h [ ]

  -- an idle channel with no flit has no packet
  pub packet-none : (r i : ℕ) (c : Channel) → (IsEject c → ⊥) → is_idle_phase (seen_phase net S r i c) ≡ true → count_in net S c ≡ 0 → (seen_input net S r i (Some c)).packet ≡ None
  packet-none r i c goes idle empty = at (owner_of net S c) refl
    where
      unrouted : has_channel S.routed c ≡ false
      unrouted = by (has_channel S.routed c) refl idle
        where
          busy : (o : Option Channel) → is_idle_phase (seen_phase_with net S r i c o) ≡ true → ⊥
          busy None e = false≢true e
          busy (Some o) e = false≢true e

          by : (b : Bool) → has_channel S.routed c ≡ b → is_idle_phase (cond b (seen_phase_with net S r i c (next_channel net S c)) Idle) ≡ true → has_channel S.routed c ≡ false
          by false h e = h
          by true h e = absurd (busy (next_channel net S c) e)

      Owned : Option ℕ → Option ℕ
      Owned o = option_and_then (λ p. if is_present net S c p then Some p else None) o

      at : (o : Option ℕ) → owner_of net S c ≡ o → Owned (owner_of net S c) ≡ None
      at None e = ap Owned e
      at (Some p) e = ap Owned e ∙ ap (λ b. if b then Some p else None) (gone (is_present net S c p) refl)
        where
          held : IsHeld net S c p
          held = (owner-has net S c p e, goes)

          -- a head that has come is in the buffer, or past a channel that is routed
          come : (b : Bool) → has_come net c (goal net p) (head_place net S p) ≡ b → 0 < come_count net S c p → is_past net c (goal net p) (tail_place net S p) ≡ false → ⊥
          come false h some behind = let z = count-none net good.built S x.keyed x.worm p c held h in omega (arith, some, z)
          come true h some behind = by (or_cases (is_in c (head_place net S p)) (is_past net c (goal net p) (head_place net S p)) h)
            where
              by : (is_in c (head_place net S p) ≡ true) ⊎ (is_past net c (goal net p) (head_place net S p) ≡ true) → ⊥
              by (inl k) = let one = in-some c p 0 (valid-first net good.built p (x.worm.known c p held.0)) k in omega (arith, one, empty)
              by (inr k) = false≢true (sym unrouted ∙ x.routed.passed c p held k behind)

          gone : (b : Bool) → is_present net S c p ≡ b → is_present net S c p ≡ false
          gone false h = h
          gone true h =
              let parts = and_parts (nat_lt 0 (come_count net S c p)) (not (is_past net c (goal net p) (tail_place net S p))) h in
              absurd (come (has_come net c (goal net p) (head_place net S p)) refl (ltb-true 0 (come_count net S c p) parts.0) (not-true (is_past net c (goal net p) (tail_place net S p)) parts.1))
