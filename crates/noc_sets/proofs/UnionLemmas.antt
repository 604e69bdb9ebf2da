-- The members of a union of words, one of each port.
use Rattle.std.proofs.Common.{◌≡◌, ◌≢◌, ℕ, zero, suc, ◌^◌, ◌<◌, Bool, true, false, refl, ap, ap₂, sym, ◌∙◌, arith, inl, inr, bit_or}
use Rattle.std.specs.Prelude.{◌&&◌, ◌||◌, not}
use Rattle.std.proofs.lemmas.Bool.{cases_eq}
use Rattle.noc_packet.specs.Set.{has_bit}
use Rattle.noc_packet.proofs.SetLemmas.{either_members}
use Rattle.noc_sets.specs.Unions.{some_below, union_from, rest_from}
use Rattle.noc_sets.proofs.MemberLemmas.{less_fits, less_members}

pub or-none : (b : Bool) → (b || false) ≡ b
or-none true = refl
or-none false = refl

pub or-assoc : (a b c : Bool) → ((a || b) || c) ≡ (a || (b || c))
or-assoc true b c = refl
or-assoc false b c = refl

pub some-none : (n : ℕ) (test : ℕ → Bool) → ((q : ℕ) → q < n → test q ≡ false) → some_below n test ≡ false
some-none zero test none = refl
some-none (suc n) test none = ap₂ (λ a b. a || b) (some-none n test (λ q l. none q (omega arith))) (none n (omega arith))

-- a test that one port alone can pass
pub some-one : (n p : ℕ) (test : ℕ → Bool) → p < n → ((q : ℕ) → q < n → q ≢ p → test q ≡ false) → some_below n test ≡ test p
some-one zero p test l others = absurd (omega arith)
some-one (suc n) p test l others = elim (cases_eq n p) [
  | inl same ↦ ap (λ b. b || test n) (some-none n test (λ q u. others q (omega arith) (λ e. omega arith))) ∙ ap test same
  | inr other ↦ ap₂ (λ a b. a || b) (some-one n p test (omega arith) (λ q u o. others q (omega arith) o)) (others n (omega arith) other) ∙ or-none (test p)
]

pub some-same : (n : ℕ) (f g : ℕ → Bool) → ((q : ℕ) → q < n → f q ≡ g q) → some_below n f ≡ some_below n g
some-same zero f g same = refl
some-same (suc n) f g same = ap₂ (λ a b. a || b) (some-same n f g (λ q l. same q (omega arith))) (same n (omega arith))

pub some-and : (n : ℕ) (f : ℕ → Bool) (b : Bool) → some_below n (λ q. f q && b) ≡ (some_below n f && b)
some-and zero f b = refl
some-and (suc n) f b = ap (λ x. x || (f n && b)) (some-and n f b) ∙ spread (some_below n f) (f n) b
  where
    spread : (x y b : Bool) → ((x && b) || (y && b)) ≡ ((x || y) && b)
    spread true y true = refl
    spread true true false = refl
    spread true false false = refl
    spread false y b = refl

pub union-members : (base n : ℕ) (words : ℕ → ℕ) (k : ℕ) → has_bit (union_from base n words) k ≡ (has_bit base k || some_below n (λ q. has_bit (words q) k))
union-members base zero words k = sym (or-none (has_bit base k))
union-members base (suc n) words k =
    either_members (union_from base n words) (words n) k ∙ ap (λ b. b || has_bit (words n) k) (union-members base n words k)
    ∙ or-assoc (has_bit base k) (some_below n (λ q. has_bit (words q) k)) (has_bit (words n) k)

pub rest-fits : (base n : ℕ) (words : ℕ → ℕ) → base < 2 ^ 64 → rest_from base n words < 2 ^ 64
rest-fits base zero words fits = fits
rest-fits base (suc n) words fits = less_fits (rest_from base n words) (words n) (rest-fits base n words fits)

pub rest-members : (base n : ℕ) (words : ℕ → ℕ) (k : ℕ) → has_bit (rest_from base n words) k ≡ (has_bit base k && not (some_below n (λ q. has_bit (words q) k)))
rest-members base zero words k = same (has_bit base k)
  where
    same : (b : Bool) → b ≡ (b && true)
    same true = refl
    same false = refl
rest-members base (suc n) words k =
    less_members (rest_from base n words) (words n) k
    ∙ ap (λ b. b && not (has_bit (words n) k)) (rest-members base n words k)
    ∙ apart (has_bit base k) (some_below n (λ q. has_bit (words q) k)) (has_bit (words n) k)
  where
    apart : (a b c : Bool) → ((a && not b) && not c) ≡ (a && not (b || c))
    apart true true c = refl
    apart true false c = refl
    apart false b c = refl

pub union-same : (n : ℕ) (f g : ℕ → ℕ) → ((q : ℕ) → q < n → f q ≡ g q) → union_from 0 n f ≡ union_from 0 n g
union-same zero f g same = refl
union-same (suc n) f g same = ap₂ bit_or (union-same n f g (λ q l. same q (omega (arith, l)))) (same n (omega arith))
