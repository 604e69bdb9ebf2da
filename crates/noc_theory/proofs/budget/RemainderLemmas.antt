-- What an injection takes from the weights of the flits.
use Rattle.std.proofs.Common.{◌≡◌, ℕ, ◌+◌, Bool, true, false, cond, Option, Some, None, refl, ap, ◌∙◌, arith, add-zero}
use Rattle.std.specs.Prelude.{find, nat_eq, ◌&&◌, sum_by, count_by, is_some}
use Rattle.noc_theory.proofs.Common.{In, Injection, Located, On, Out, Place, Setup, Source, State, after_injection, first_at_source, injected_place, injections, is_at_source, is_the_flit, weight, Inject}
use Rattle.noc_theory.proofs.budget.SumLemmas.{sum_by-falls}

module _ (net : Setup) (n : ℕ) (S : State) where
  abbrev pub injection_of : Located → Option (Injection net)
  injection_of f = find (λ (one : Injection net). nat_eq one.packet f.packet) (injections net S n)

  -- whether a flit leaves its source
  abbrev pub leaves : Located → Bool
  leaves f = is_some (injection_of f) && (is_at_source f.place && is_the_flit net f (first_at_source net S f.packet))

  -- what is injected goes to an injection channel
  abbrev pub IsToInject : Option (Injection net) → Type 0
  IsToInject None = Unit {0}
  IsToInject (Some one) = (m : ℕ) × (v : ℕ) × (one.channel ≡ Inject m v)

  abbrev target : Option (Injection net) → Place → Bool → Place
  target None place first = place
  target (Some one) place first = cond (is_at_source place && first) (In one.channel) place

  falls-at : (p : ℕ) (one : Option (Injection net)) (place : Place) (first : Bool) → IsToInject one
      → weight net p (target one place first) + cond (is_some one && (is_at_source place && first)) 1 0 ≡ weight net p place
  falls-at p None place first to = add-zero _
  falls-at p (Some one) Source false to = add-zero _
  falls-at p (Some one) Source true to = rw to.2 (omega arith)
  falls-at p (Some one) (On c) first to = add-zero _
  falls-at p (Some one) (In c) first to = add-zero _
  falls-at p (Some one) (Out m) first to = add-zero _

  same-target : (f : Located) (one : Option (Injection net)) → injected_place net S f one ≡ target one f.place (is_the_flit net f (first_at_source net S f.packet))
  same-target f None = refl
  same-target f (Some one) = refl

  -- the weights fall by the number of flits that leave their sources
  pub injection-falls : ((f : Located) → IsToInject (injection_of f))
      → sum_by (λ (f : Located). weight net f.packet f.place) (after_injection net n S).at + count_by leaves S.at
      ≡ sum_by (λ (f : Located). weight net f.packet f.place) S.at
  unfolding after_injection
  injection-falls to =
      sum_by-falls (λ (f : Located). weight net f.packet f.place)
      (λ (f : Located). record f { place = injected_place net S f (injection_of f) }) leaves
      (λ f. ap (λ q. weight net f.packet q + cond (leaves f) 1 0) (same-target f (injection_of f))
      ∙ falls-at f.packet (injection_of f) f.place (is_the_flit net f (first_at_source net S f.packet)) (to f))
      S.at
