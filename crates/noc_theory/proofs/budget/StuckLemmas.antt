-- A cycle without an event leaves every flit where it is, so whether it was stuck can be told
-- from the state after it.
use Rattle.std.proofs.Common.{◌≡◌, ℕ, zero, suc, ◌≤◌, Bool, true, false, cond, List, length, Option, Some, None, refl, ap, sym, ◌∙◌, arith}
use Rattle.std.specs.Prelude.{nat_eq, nat_le, nat_lt, not, is_none, ◌&&◌}
use Rattle.noc_theory.proofs.Common.{true≢false, false_from_ne_true, and_left, and_right, lt-ltb, le-ltb, ne_eqb, eq-eqb, below, is_some_of, Channel, is_event, is_moved, Setup, Located, Place, Source, On, In, Out, packet_at, state_at, frozen_at, network_cycle, after_verdicts, moved_place, is_the_flit, front_in, gone_to, next_channel, verdict_in, arrival_in, events, is_pending, is_stuck, last_event_before, is_moved-true, IsWellFormedSetup}
use Rattle.noc_theory.proofs.worms.MemberLemmas.{any-same}
use Rattle.noc_theory.proofs.budget.ProgressLemmas.{map-same, at-same, quiet-frozen}
use Rattle.noc_theory.proofs.budget.ProgressTheoremLemmas.{countable}

module _ (net : Setup) (made : IsWellFormedSetup net) (n : ℕ) (quiet : events net n (state_at net n) ≡ 0) where
  pub unmoved : (c : Channel) → is_moved (verdict_in net (frozen_at net n) c) ≡ false
  unmoved c =
      false_from_ne_true _ (λ k.
      let moved = is_moved-true (verdict_in net (frozen_at net n) c) k in
      let silent = (quiet-frozen net n (state_at net n) quiet).silent c ((countable net made n).moves.listed c moved) in
      true≢false (sym (ap is_event moved) ∙ silent))

  stays : (f : Located) (place : Place) → moved_place net (frozen_at net n) n f place ≡ place
  stays f Source = refl
  stays f (On c) = refl
  stays f (In c) = ap (λ b. cond b (gone_to net n c (next_channel net (frozen_at net n) c)) (In c)) (and_left _ (is_the_flit net f (front_in net (frozen_at net n) c)) (unmoved c))
  stays f (Out m) = refl

  -- a cycle without an event leaves each flit where it is
  pub cycle-same : (network_cycle net n (state_at net n)).at ≡ (state_at net n).at
  unfolding network_cycle after_verdicts
  cycle-same =
      map-same (λ (f : Located). record f { place = moved_place net (frozen_at net n) n f f.place }) (frozen_at net n).at (λ f h. ap (λ (q : Place). record f { place = q }) (stays f f.place))
      ∙ at-same net n (state_at net n) quiet

  -- so no packet arrives in it
  pub arrivals-same : (p : ℕ) → arrival_in net (state_at net (suc n)) p ≡ arrival_in net (state_at net n) p
  unfolding state_at
  arrivals-same p = ap (λ (at : List Located). arrival_in net (record (state_at net n) { at = at }) p) cycle-same

-- the last event below a count is below it
last-below : (net : Setup) (n : ℕ) (o : Option ℕ) → last_event_before net n ≡ o → (m : ℕ) → n ≤ m → is_some_of o m ≡ false
last-below net zero None e m l = refl
last-below net zero (Some k) e m l = absurd (cc e)
last-below net (suc n) o e m l = at (nat_lt 0 (events net n (state_at net n))) e (λ f. last-below net n o f m (omega arith))
  where
    at : (b : Bool) → cond b (Some n) (last_event_before net n) ≡ o → (last_event_before net n ≡ o → is_some_of o m ≡ false) → is_some_of o m ≡ false
    at true f rest = ap (λ (x : Option ℕ). is_some_of x m) (sym f) ∙ ne_eqb n m (λ s. omega arith)
    at false f rest = rest f

-- the last cycle was stuck where it had no event, and a packet that was due
-- has not arrived by its end
pub stuck-after : (net : Setup) → IsWellFormedSetup net → (n : ℕ) → (not (is_some_of (last_event_before net (suc n)) n) && is_pending net n (state_at net (suc n))) ≡ is_stuck net (suc n)
stuck-after net made n = at (events net n (state_at net n)) refl
  where
    and-true : (b : Bool) → (b && true) ≡ b
    and-true true = refl
    and-true false = refl

    pending-same : events net n (state_at net n) ≡ 0 → is_pending net n (state_at net (suc n)) ≡ is_pending net n (state_at net n)
    pending-same z =
        any-same (λ p. nat_le (packet_at net p).due n && is_none (arrival_in net (state_at net (suc n)) p)) (λ p. nat_le (packet_at net p).due n && is_none (arrival_in net (state_at net n) p)) (below (length net.packets))
        (λ p h. ap (λ (o : Option ℕ). nat_le (packet_at net p).due n && is_none o) (arrivals-same net made n z p))

    at : (x : ℕ) → events net n (state_at net n) ≡ x → (not (is_some_of (last_event_before net (suc n)) n) && is_pending net n (state_at net (suc n))) ≡ is_stuck net (suc n)
    at zero z =
        let none : last_event_before net (suc n) ≡ last_event_before net n = ap (λ b. cond b (Some n) (last_event_before net n)) (ap (nat_lt 0) z ∙ le-ltb 0 0 (omega arith)) in
        ap (λ (o : Option ℕ). not (is_some_of o n) && is_pending net n (state_at net (suc n))) none
        ∙ ap (λ b. not b && is_pending net n (state_at net (suc n))) (last-below net n (last_event_before net n) refl n (omega arith))
        ∙ pending-same z
        ∙ sym (and-true (is_pending net n (state_at net n)))
        ∙ ap (λ b. is_pending net n (state_at net n) && b) (sym (eq-eqb (events net n (state_at net n)) 0 z))
    at (suc x) z =
        let one : last_event_before net (suc n) ≡ Some n = ap (λ b. cond b (Some n) (last_event_before net n)) (lt-ltb 0 (events net n (state_at net n)) (omega arith)) in
        ap (λ (o : Option ℕ). not (is_some_of o n) && is_pending net n (state_at net (suc n))) one
        ∙ ap (λ b. not b && is_pending net n (state_at net (suc n))) (eq-eqb n n refl)
        ∙ sym (and_right (is_pending net n (state_at net n)) (nat_eq (events net n (state_at net n)) 0) (ne_eqb (events net n (state_at net n)) 0 (λ s. omega arith)))
