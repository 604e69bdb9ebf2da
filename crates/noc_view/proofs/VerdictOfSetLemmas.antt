-- A channel has the verdict of the set that it is in, and where it is in one set alone, no other.
use Rattle.std.proofs.Common.{◌≡◌, ℕ, zero, suc, ◌+◌, ◌<◌, ◌≤◌, Bool, true, false, List, [], ◌∷◌, refl, ap, sym, ◌∙◌, inl, inr, arith}
use Rattle.std.specs.Prelude.{◌⊎◌, if◌then◌else◌}
use Rattle.noc_topo.specs.Lists.{one_if}
use Rattle.noc_packet.specs.Set.{has_bit}
use Rattle.noc_view.specs.VerdictSets.{HasVerdict, VerdictSets, sets_with, verdict_by}
use Rattle.noc_view.specs.declared.verdict.Verdict.{Verdict}
use Rattle.noc_view.specs.declared.verdict.Verdict.TheVariants.{Empty, Routed, Granted, Moved, NoFlit, NoIdleChannel, LostChannel, NoCredit, LostInput, LostSwitch}

-- ---- the first set that has it
pub has-verdict : (sets : VerdictSets) (i : ℕ) → HasVerdict sets i (verdict_by sets i)
has-verdict sets i = at (has_bit sets.moved i) refl (has_bit sets.granted i) refl (has_bit sets.routed i) refl (has_bit sets.no_flit i) refl (has_bit sets.no_idle_channel i) refl (has_bit sets.lost_channel i) refl (has_bit sets.no_credit i) refl (has_bit sets.lost_input i) refl (has_bit sets.lost_switch i) refl
  where
    at : (a : Bool) → has_bit sets.moved i ≡ a → (b : Bool) → has_bit sets.granted i ≡ b → (c : Bool) → has_bit sets.routed i ≡ c → (d : Bool) → has_bit sets.no_flit i ≡ d → (e : Bool) → has_bit sets.no_idle_channel i ≡ e → (f : Bool) → has_bit sets.lost_channel i ≡ f → (g : Bool) → has_bit sets.no_credit i ≡ g → (h : Bool) → has_bit sets.lost_input i ≡ h → (k : Bool) → has_bit sets.lost_switch i ≡ k
        → HasVerdict sets i (if a then Moved else (if b then Granted else (if c then Routed else (if d then NoFlit else (if e then NoIdleChannel else (if f then LostChannel else (if g then NoCredit else (if h then LostInput else (if k then LostSwitch else Empty)))))))))
    at true a_is b b_is c c_is d d_is e e_is f f_is g g_is h h_is k k_is = a_is
    at false a_is true b_is c c_is d d_is e e_is f f_is g g_is h h_is k k_is = b_is
    at false a_is false b_is true c_is d d_is e e_is f f_is g g_is h h_is k k_is = c_is
    at false a_is false b_is false c_is true d_is e e_is f f_is g g_is h h_is k k_is = d_is
    at false a_is false b_is false c_is false d_is true e_is f f_is g g_is h h_is k k_is = e_is
    at false a_is false b_is false c_is false d_is false e_is true f_is g g_is h h_is k k_is = f_is
    at false a_is false b_is false c_is false d_is false e_is false f_is true g_is h h_is k k_is = g_is
    at false a_is false b_is false c_is false d_is false e_is false f_is false g_is true h_is k k_is = h_is
    at false a_is false b_is false c_is false d_is false e_is false f_is false g_is false h_is true k_is = k_is
    at false a_is false b_is false c_is false d_is false e_is false f_is false g_is false h_is false k_is = let none = λ (b : Bool) (e : b ≡ false). ap one_if e in omega (arith, none _ a_is, none _ b_is, none _ c_is, none _ d_is, none _ e_is, none _ f_is, none _ g_is, none _ h_is, none _ k_is)

-- ---- no other
abbrev bits : VerdictSets → ℕ → List Bool
bits sets i = has_bit sets.moved i ∷ has_bit sets.granted i ∷ has_bit sets.routed i ∷ has_bit sets.no_flit i ∷ has_bit sets.no_idle_channel i ∷ has_bit sets.lost_channel i ∷ has_bit sets.no_credit i ∷ has_bit sets.lost_input i ∷ has_bit sets.lost_switch i ∷ []

abbrev count : List Bool → ℕ
count [] = 0
count (b ∷ bs) = one_if b + count bs

-- bit k is on
abbrev IsOn : List Bool → ℕ → Type 0
IsOn [] k = ⊥
IsOn (b ∷ bs) zero = b ≡ true
IsOn (b ∷ bs) (suc k) = IsOn bs k

some-on : (bs : List Bool) (k : ℕ) → IsOn bs k → 0 < count bs
some-on [] k on = absurd on
some-on (b ∷ bs) zero on = let one = ap one_if on in omega (arith, one)
some-on (b ∷ bs) (suc k) on = let more = some-on bs k on in omega (arith, more)

-- where one is on at most, each that is on is the same
same-on : (bs : List Bool) (j k : ℕ) → count bs ≤ 1 → IsOn bs j → IsOn bs k → j ≡ k
same-on [] j k few on too = absurd on
same-on (b ∷ bs) zero zero few on too = refl
same-on (b ∷ bs) zero (suc k) few on too = let one = ap one_if on in let more = some-on bs k too in absurd (omega (arith, few, one, more))
same-on (b ∷ bs) (suc j) zero few on too = let one = ap one_if too in let more = some-on bs j on in absurd (omega (arith, few, one, more))
same-on (b ∷ bs) (suc j) (suc k) few on too = ap suc (same-on bs j k (omega (arith, few)) on too)

-- where the set of a verdict stands among the bits
abbrev place : Verdict → ℕ
place Moved = 0
place Granted = 1
place Routed = 2
place NoFlit = 3
place NoIdleChannel = 4
place LostChannel = 5
place NoCredit = 6
place LostInput = 7
place LostSwitch = 8
place Empty = 9

abbrev verdict_at : ℕ → Verdict
verdict_at zero = Moved
verdict_at (suc zero) = Granted
verdict_at (suc (suc zero)) = Routed
verdict_at (suc (suc (suc zero))) = NoFlit
verdict_at (suc (suc (suc (suc zero)))) = NoIdleChannel
verdict_at (suc (suc (suc (suc (suc zero))))) = LostChannel
verdict_at (suc (suc (suc (suc (suc (suc zero)))))) = NoCredit
verdict_at (suc (suc (suc (suc (suc (suc (suc zero))))))) = LostInput
verdict_at (suc (suc (suc (suc (suc (suc (suc (suc zero)))))))) = LostSwitch
verdict_at _ = Empty

there : (v : Verdict) → verdict_at (place v) ≡ v
there Moved = refl
there Granted = refl
there Routed = refl
there NoFlit = refl
there NoIdleChannel = refl
there LostChannel = refl
there NoCredit = refl
there LostInput = refl
there LostSwitch = refl
there Empty = refl

module _ (sets : VerdictSets) (i : ℕ) where
  all-bits : count (bits sets i) ≡ sets_with sets i
  all-bits = omega arith

  in-set : (v : Verdict) → HasVerdict sets i v → ((v ≡ Empty) × (sets_with sets i ≡ 0)) ⊎ IsOn (bits sets i) (place v)
  in-set Moved h = inr h
  in-set Granted h = inr h
  in-set Routed h = inr h
  in-set NoFlit h = inr h
  in-set NoIdleChannel h = inr h
  in-set LostChannel h = inr h
  in-set NoCredit h = inr h
  in-set LostInput h = inr h
  in-set LostSwitch h = inr h
  in-set Empty h = inl (refl, h)

  one-verdict : sets_with sets i ≤ 1 → (v w : Verdict) → HasVerdict sets i v → HasVerdict sets i w → v ≡ w
  one-verdict few v w h k = by (in-set v h) (in-set w k)
    where
      by : ((v ≡ Empty) × (sets_with sets i ≡ 0)) ⊎ IsOn (bits sets i) (place v) → ((w ≡ Empty) × (sets_with sets i ≡ 0)) ⊎ IsOn (bits sets i) (place w) → v ≡ w
      by (inl a) (inl b) = a.0 ∙ sym b.0
      by (inl a) (inr on) = let some = some-on (bits sets i) (place w) on in absurd (omega (arith, some, all-bits, a.1))
      by (inr on) (inl b) = let some = some-on (bits sets i) (place v) on in absurd (omega (arith, some, all-bits, b.1))
      by (inr on) (inr too) = sym (there v) ∙ ap verdict_at (same-on (bits sets i) (place v) (place w) (omega (arith, few, all-bits)) on too) ∙ there w

  -- where a channel is in one set at most, its verdict is the first in whose set it is
  pub only-verdict : sets_with sets i ≤ 1 → (v : Verdict) → HasVerdict sets i v → verdict_by sets i ≡ v
  only-verdict few v h = one-verdict few (verdict_by sets i) v (has-verdict sets i) h
