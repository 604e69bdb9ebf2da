-- The words of a group of four channels, verdict by verdict.
use Rattle.std.proofs.Common.{◌≡◌, ℕ, zero, suc, ◌+◌, ◌*◌, ◌/◌, ◌%◌, ◌<◌, ◌≤◌, List, refl, ap, arith, bit_or}
use Rattle.std.proofs.lemmas.Nat.{le_or_l, le_or_r}
use Rattle.noc_sets.specs.Counts.{ByVerdict}
use Rattle.noc_columns.specs.Words.{word}
use Rattle.noc_counts.specs.Rows.{by_lane, row_of, waiting_in}

pub nine-same : {a b c d e f g h i p q r s t u v w x : ℕ} → a ≡ p → b ≡ q → c ≡ r → d ≡ s → e ≡ t → f ≡ u → g ≡ v → h ≡ w → i ≡ x
    → ◌≡◌ {A = ByVerdict}
    (record { routed = a; granted = b; moved = c; no_flit = d; no_idle_channel = e; lost_channel = f; no_credit = g; lost_input = h; lost_switch = i })
    (record { routed = p; granted = q; moved = r; no_flit = s; no_idle_channel = t; lost_channel = u; no_credit = v; lost_input = w; lost_switch = x })
nine-same ea eb ec ed ee ef eg eh ei = rw (ea, eb, ec, ed, ee, ef, eg, eh, ei) refl

pub left-none : (a b : ℕ) → bit_or a b ≡ 0 → a ≡ 0
left-none a b e = let l : a ≤ bit_or a b = le_or_l a b in omega (arith, e, l)

pub right-none : (a b : ℕ) → bit_or a b ≡ 0 → b ≡ 0
right-none a b e = let l : b ≤ bit_or a b = le_or_r a b in omega (arith, e, l)

-- what is told of the places of a channel
pub lane-same : (f g : ℕ → ℕ) (l : ℕ) → l < 4 → ((p : ℕ) → p < 32 → f p ≡ g p) → by_lane f l ≡ by_lane g l
lane-same f g l few same =
    nine-same (same (8 + l) (omega arith)) refl (same (12 + l) (omega arith)) (same (0 + l) (omega arith)) (same (4 + l) (omega arith))
    (same (16 + l) (omega arith)) (same (20 + l) (omega arith)) (same (24 + l) (omega arith)) (same (28 + l) (omega arith))

-- the words of a channel of a group are those that are told of it, but for Granted
pub lane-of : (told : ℕ → ByVerdict) (j : ℕ) → by_lane (λ p. word p (row_of told (j / 4))) (j % 4) ≡ record (told j) { granted = 0 }
lane-of told j = at (j % 4) (omega arith) (omega arith)
  where
    at : (l : ℕ) → l < 4 → j ≡ 4 * (j / 4) + l → by_lane (λ p. word p (row_of told (j / 4))) l ≡ record (told j) { granted = 0 }
    at zero few e = ap (λ (k : ℕ). record (told k) { granted = 0 }) (let i : 4 * (j / 4) ≡ j = omega (arith, e) in i)
    at (suc zero) few e = ap (λ (k : ℕ). record (told k) { granted = 0 }) (let i : 4 * (j / 4) + 1 ≡ j = omega (arith, e) in i)
    at (suc (suc zero)) few e = ap (λ (k : ℕ). record (told k) { granted = 0 }) (let i : 4 * (j / 4) + 2 ≡ j = omega (arith, e) in i)
    at (suc (suc (suc zero))) few e = ap (λ (k : ℕ). record (told k) { granted = 0 }) (let i : 4 * (j / 4) + 3 ≡ j = omega (arith, e) in i)
    at (suc (suc (suc (suc l)))) few e = absurd (omega arith)

-- the words of the three verdicts in which nothing happens
pub lane-waiting : (row : List ℕ) (l : ℕ) → l < 4
    → by_lane (λ p. word p (waiting_in row)) l
    ≡ record { routed = 0; granted = 0; moved = 0; no_flit = word (0 + l) row; no_idle_channel = word (4 + l) row; lost_channel = 0; no_credit = word (20 + l) row; lost_input = 0; lost_switch = 0 }
lane-waiting row zero few = refl
lane-waiting row (suc zero) few = refl
lane-waiting row (suc (suc zero)) few = refl
lane-waiting row (suc (suc (suc zero))) few = refl
lane-waiting row (suc (suc (suc (suc l)))) few = absurd (omega arith)
