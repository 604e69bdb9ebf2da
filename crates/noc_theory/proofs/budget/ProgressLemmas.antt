-- A pending cycle has an event, where ranks have an escape and the worms of each
-- frozen state are in order.
use Rattle.std.proofs.Common.{◌≡◌, ℕ, zero, suc, ◌<◌, ◌≤◌, Bool, true, false, Option, List, [], ◌∷◌, ◌++◌, map, refl, ap, ap₂, ◌∙◌, arith, inl, inr, subst, append-nil}
use Rattle.std.specs.Prelude.{count_by, find, nat_eq, ◌&&◌, filter, IsTrue}
use Rattle.std.proofs.lemmas.List.{nil_from_length}
use Rattle.noc_theory.proofs.budget.ProgressRecordLemmas.{IsBuilt}
use Rattle.noc_route.specs.Ranks.{IsRanked}
use Rattle.noc_theory.proofs.Common.{true≢false, and_left, and_right, ne_eqb, end_distance, after_injection, In, Injection, Located, On, Out, Place, Setup, Source, State, after_credits, after_landing, all_inputs, frozen_state, injected_place, injections, landed_place, state_at, verdict_in, events, is_flying, is_pending, is_stuck, Channel, permits, is_event, Has}
use Rattle.noc_theory.proofs.budget.HasLemmas.{none-counted}
use Rattle.noc_theory.proofs.budget.WormChainLemmas.{IsNearing, IsChain, IsQuiet}
use Rattle.noc_theory.proofs.budget.QuietLemmas.{quiet-absurd}

pub map-same : {X : Type 0} (f : X → X) (xs : List X) → ((x : X) → Has x xs → f x ≡ x) → map f xs ≡ xs
map-same f [] h = refl
map-same f (x ∷ xs) h = ap₂ (λ y ys. y ∷ ys) (h x (inl refl)) (map-same f xs (λ y k. h y (inr k)))

module _ (net : Setup) (n : ℕ) (S : State) (none : events net n S ≡ 0) where
  abbrev pub F : State
  F = frozen_state net n S

  abbrev pub T : State
  T = after_credits net (after_landing net S)

  still-before : count_by (λ (f : Located). is_flying f.place) S.at ≡ 0
  still-before = omega arith

  uninjected : injections net T n ≡ []
  uninjected = nil_from_length _ (omega arith)

  silent-then : count_by (λ c. is_event (verdict_in net F c)) (all_inputs net) ≡ 0
  silent-then = omega arith

  landed-same : (place : Place) → is_flying place ≡ false → landed_place net place ≡ place
  landed-same Source e = refl
  landed-same (On c) e = absurd (true≢false e)
  landed-same (In c) e = refl
  landed-same (Out m) e = refl

  pub landing-same : T.at ≡ S.at
  unfolding after_credits after_landing
  landing-same =
      map-same (λ (f : Located). record f { place = landed_place net f.place }) S.at
      (λ f h. ap (λ (q : Place). record f { place = q }) (landed-same f.place (none-counted (λ (g : Located). is_flying g.place) S.at still-before f h)))

  pub injection-same : F ≡ T
  unfolding frozen_state after_credits after_injection
  injection-same =
      ap₂ (λ (at : List Located) (own : List (Channel × ℕ)). record T { at = at; own = own })
      (map-same (λ (f : Located). record f { place = injected_place net T f (find (λ (one : Injection net). nat_eq one.packet f.packet) (injections net T n)) }) T.at
      (λ f h. ap (λ (all : List (Injection net)). record f { place = injected_place net T f (find (λ (one : Injection net). nat_eq one.packet f.packet) all) }) uninjected))
      (ap (λ (all : List (Injection net)). T.own ++ map (λ (one : Injection net). (one.channel, one.packet)) (filter (λ (one : Injection net). one.begins) all)) uninjected ∙ append-nil T.own)

  pub at-same : F.at ≡ S.at
  at-same = ap (λ (X : State). X.at) injection-same ∙ landing-same

  pub quiet-frozen : IsQuiet net n F
  unfolding frozen_state after_injection after_credits
  quiet-frozen = record {
    still = λ f h. none-counted (λ (g : Located). is_flying g.place) S.at still-before f (subst (λ (xs : List Located). Has f xs) at-same h);
    no_credit = refl;
    none_injected = ap (λ (X : State). injections net X n) injection-same ∙ uninjected;
    silent = none-counted (λ c. is_event (verdict_in net F c)) (all_inputs net) silent-then;
  }

  pub pending-frozen : is_pending net n F ≡ is_pending net n S
  pending-frozen = ap (λ (at : List Located). is_pending net n (record F { at = at })) at-same

module _ (net : Setup) (built : IsBuilt net) (worms : (n : ℕ) → IsChain net (frozen_state net n (state_at net n)))
    (nearer : IsNearing net) (bound : ℕ) (within : (c : Channel) (t : ℕ) → end_distance net.relation c t ≤ bound)
    (ranks : ℕ → ℕ → ℕ → Option ℕ) (ranked : IsRanked (λ m c t o. IsTrue (permits net.relation m c t o)) net.relation.grid ranks) where
  -- each pending cycle has an event
  pub pending-event : (n : ℕ) → is_pending net n (state_at net n) ≡ true → 0 < events net n (state_at net n)
  pending-event n pending = at (events net n (state_at net n)) refl
    where
      at : (k : ℕ) → events net n (state_at net n) ≡ k → 0 < k
      at (suc k) e = omega arith
      at zero e =
          absurd (quiet-absurd net (frozen_state net n (state_at net n)) built (worms n) n (quiet-frozen net n (state_at net n) e) nearer bound within ranks ranked
          (pending-frozen net n (state_at net n) e ∙ pending))

  -- so the network is stuck at no count
  pub never-stuck : (n : ℕ) → is_stuck net n ≡ false
  never-stuck zero = refl
  never-stuck (suc n) = at (is_pending net n (state_at net n)) refl
    where
      at : (b : Bool) → is_pending net n (state_at net n) ≡ b → (is_pending net n (state_at net n) && nat_eq (events net n (state_at net n)) 0) ≡ false
      at false e = and_left _ _ e
      at true e = and_right _ _ (ne_eqb (events net n (state_at net n)) 0 (λ z. let l = pending-event n e in omega arith))
