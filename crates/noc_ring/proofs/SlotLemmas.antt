-- Offsets in a ring, and the slots of all rings.
use Rattle.std.proofs.Common.{◌≡◌, ◌≢◌, ℕ, ◌+◌, ◌-◌, ◌*◌, ◌%◌, ◌<◌, ◌≤◌, ap, sym, ◌∙◌, arith, inl, inr}
use Rattle.std.specs.Prelude.{◌⊎◌}
use Rattle.std.proofs.lemmas.Bool.{cases_lt}
use Rattle.std.proofs.lemmas.Nat.{mul-add-lt, same_from_place}
use Rattle.std.proofs.Math.Nat.{mod-eq_of_lt, add-mod_right}

-- an offset that is past the end once
pub past_end : (p c : ℕ) → c ≤ p → p < c + c → p % c ≡ p - c
past_end p c l u =
    let e : p ≡ (p - c) + c = omega arith in
    ap (λ n. n % c) e ∙ add-mod_right (p - c) c ∙ mod-eq_of_lt (omega arith)

-- where an offset is, by cases
pub wraps_to : (h i c : ℕ) → h < c → i ≤ c → ((h + i < c) × ((h + i) % c ≡ h + i)) ⊎ ((c ≤ h + i) × ((h + i) % c ≡ h + i - c))
wraps_to h i c l u = at (cases_lt (h + i) c)
  where
    at : (h + i < c) ⊎ (c ≤ h + i) → ((h + i < c) × ((h + i) % c ≡ h + i)) ⊎ ((c ≤ h + i) × ((h + i) % c ≡ h + i - c))
    at (inl low) = inl (low, mod-eq_of_lt low)
    at (inr high) = inr (high, past_end (h + i) c high (omega arith))

-- two offsets from one head are at two slots
pub apart : (h c i j : ℕ) → h < c → i < j → j < c → (h + i) % c ≢ (h + j) % c
apart h c i j l u v e = at (wraps_to h i c l (omega arith)) (wraps_to h j c l (omega arith))
  where
    at : ((h + i < c) × ((h + i) % c ≡ h + i)) ⊎ ((c ≤ h + i) × ((h + i) % c ≡ h + i - c))
        → ((h + j < c) × ((h + j) % c ≡ h + j)) ⊎ ((c ≤ h + j) × ((h + j) % c ≡ h + j - c)) → ⊥
    at (inl a) (inl b) = omega arith
    at (inl a) (inr b) = omega arith
    at (inr a) (inl b) = omega arith
    at (inr a) (inr b) = omega arith

-- from the next head, each offset is one less
pub next_head : (h c i : ℕ) → h < c → i < c → ((h + 1) % c + i) % c ≡ (h + (i + 1)) % c
next_head h c i l u = at (wraps_to h 1 c l (omega arith))
  where
    at : ((h + 1 < c) × ((h + 1) % c ≡ h + 1)) ⊎ ((c ≤ h + 1) × ((h + 1) % c ≡ h + 1 - c)) → ((h + 1) % c + i) % c ≡ (h + (i + 1)) % c
    at (inl a) =
        let e : (h + 1) % c + i ≡ h + (i + 1) = omega (arith, a.1) in
        ap (λ n. n % c) e
    at (inr a) =
        let e : h + (i + 1) ≡ ((h + 1) % c + i) + c = omega (arith, a.1) in
        sym (ap (λ n. n % c) e ∙ add-mod_right ((h + 1) % c + i) c)

-- an offset of ring r is one of the slots
pub in_slots : (r rings c p : ℕ) → r < rings → p < c → r * c + p < rings * c
in_slots r rings c p l u = let m : r * c + p < c * rings = mul-add-lt r c p rings l u in omega arith

-- the slots of two rings are apart
pub rings_apart : (q r c p s : ℕ) → q ≢ r → p < c → s < c → q * c + p ≢ r * c + s
rings_apart q r c p s other l u e = other (same_from_place q p r s c l u e).0
