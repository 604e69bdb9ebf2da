-- While a packet is alone nobody else owns a channel.
use Rattle.std.proofs.Common.{◌≡◌, ◌≢◌, ℕ, ◌<◌, ◌≤◌, length, None, refl, ap, sym, ◌∙◌, arith, inl, inr}
use Rattle.std.specs.Prelude.{◌⊎◌}
use Rattle.noc_theory.proofs.Common.{true≢false, cases_eq, cases_lt, Has, Channel, Link, Inject, Eject, Setup, State, Place, Source, On, In, Out, packet_at, tail_place, is_past, out_cycle, arrival_in, state_at, frozen_at, head_place, IsWellFormedSetup}
use Rattle.noc_theory.proofs.worms.BuiltLemmas.{good-built}
use Rattle.noc_theory.proofs.worms.StateWordLemmas.{goal, last_of}
use Rattle.noc_theory.proofs.worms.WormRecordLemmas.{valid-last}
use Rattle.noc_theory.proofs.worms.RoutedStateLemmas.{IsWholeFrozen}
use Rattle.noc_theory.proofs.worms.WormOrderLemmas.{whole-frozen_at}
use Rattle.noc_theory.proofs.worms.NetworkLemmas.{mid_at, whole-mid_at}
use Rattle.noc_theory.proofs.alone.UndueLemmas.{undue-mid, undue-frozen, out-mid, out-frozen}

module _ (net : Setup) where
  -- nobody but p owns a channel
  pub record OwnsAlone (p : ℕ) (S : State) : Type 0 where
    pub mine : (c : Channel) (q : ℕ) → Has (c, q) S.own → q ≡ p

  -- packet q has not begun, or is out
  abbrev IsAway : State → ℕ → Type 0
  IsAway S q = (head_place net S q ≡ Source) ⊎ ((m : ℕ) × (tail_place net S q ≡ Out m))

  -- such a packet owns nothing
  away-owns : (S : State) → IsWholeFrozen net S → (c : Channel) (q : ℕ) → IsAway S q → Has (c, q) S.own → ⊥
  away-owns S whole c q (inl e) h = whole.sound.worm.begun c q h e
  away-owns S whole (Eject n v) q (inr m) h = whole.routed.mid.eject n v q m.0 h m.1
  away-owns S whole (Link r a v) q (inr m) h = true≢false (sym (ap (is_past net (Link r a v) (goal net q)) m.1) ∙ whole.routed.behind (Link r a v) q (h, λ z. z))
  away-owns S whole (Inject n v) q (inr m) h = true≢false (sym (ap (is_past net (Inject n v) (goal net q)) m.1) ∙ whole.routed.behind (Inject n v) q (h, λ z. z))

  all-away : (p : ℕ) (S : State) → IsWholeFrozen net S → ((q : ℕ) → q < length net.packets → q ≢ p → IsAway S q) → OwnsAlone p S
  all-away p S whole away = record { mine = λ c q h. at c q h (cases_eq q p) }
    where
      at : (c : Channel) (q : ℕ) → Has (c, q) S.own → (q ≡ p) ⊎ (q ≡ p → ⊥) → q ≡ p
      at c q h (inl e) = e
      at c q h (inr other) = absurd (away-owns S whole c q (away q (whole.sound.worm.known c q h) other) h)

  -- what has an arrival is out
  pub arrived-out : (S : State) (q : ℕ) → arrival_in net S q ≢ None → (m : ℕ) × (tail_place net S q ≡ Out m)
  arrived-out S q some = at (tail_place net S q) refl
    where
      at : (x : Place) → tail_place net S q ≡ x → (m : ℕ) × (tail_place net S q ≡ Out m)
      at Source e = absurd (some (ap out_cycle e))
      at (On c) e = absurd (some (ap out_cycle e))
      at (In c) e = absurd (some (ap out_cycle e))
      at (Out m) e = (m, e)

  -- in cycle n every packet but p that is due has its tail out
  abbrev pub OthersAreOut : ℕ → ℕ → Type 0
  OthersAreOut p n = (q : ℕ) → q < length net.packets → q ≢ p → (packet_at net q).due ≤ n → arrival_in net (state_at net n) q ≢ None

  module _ (good : IsWellFormedSetup net) (p n : ℕ) (others : OthersAreOut p n) where
    -- another packet that is not out is due later
    pub due-later : (q : ℕ) → q < length net.packets → q ≢ p → (n < (packet_at net q).due) ⊎ ((m : ℕ) × (tail_place net (state_at net n) q ≡ Out m))
    due-later q l other = at (cases_lt n (packet_at net q).due)
      where
        at : (n < (packet_at net q).due) ⊎ ((packet_at net q).due ≤ n) → (n < (packet_at net q).due) ⊎ ((m : ℕ) × (tail_place net (state_at net n) q ≡ Out m))
        at (inl late) = inl late
        at (inr early) = inr (arrived-out (state_at net n) q (others q l other early))

    pub alone-mid : OwnsAlone p (mid_at net good n)
    alone-mid = all-away p (mid_at net good n) (whole-mid_at net good n) (λ q l other. at q l (due-later q l other))
      where
        at : (q : ℕ) → q < length net.packets → (n < (packet_at net q).due) ⊎ ((m : ℕ) × (tail_place net (state_at net n) q ≡ Out m)) → IsAway (mid_at net good n) q
        at q l (inl late) = inl (undue-mid net good n q l (omega arith))
        at q l (inr m) = inr (m.0, out-mid net good n q (last_of net q) m.0 (valid-last net (good-built net good) q l) m.1)

    pub alone-frozen : OwnsAlone p (frozen_at net n)
    alone-frozen = all-away p (frozen_at net n) (whole-frozen_at net good n) (λ q l other. at q l (due-later q l other))
      where
        at : (q : ℕ) → q < length net.packets → (n < (packet_at net q).due) ⊎ ((m : ℕ) × (tail_place net (state_at net n) q ≡ Out m)) → IsAway (frozen_at net n) q
        at q l (inl late) = inl (undue-frozen net good n q l late)
        at q l (inr m) = inr (m.0, out-frozen net good n q (last_of net q) m.0 (valid-last net (good-built net good) q l) m.1)
