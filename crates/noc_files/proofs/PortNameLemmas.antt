-- The names of a shape's ports.
use Rattle.std.proofs.Common.{◌≡◌, ◌≢◌, ℕ, zero, suc, ◌+◌, ◌*◌, ◌/◌, ◌<◌, ◌≤◌, ◌==◌, Bool, true, false, List, [], ◌∷◌, ◌++◌, length, decimal, find, Some, None, ap, inl, inr, refl, arith}
use Rattle.std.proofs.lemmas.Bool.{cases_lt}
use Rattle.std.proofs.lemmas.Bool.Decides.{nat_tests}
use Rattle.std.specs.Fmt.{digits}
use Rattle.std.specs.List.{range_with_len}
use Rattle.noc_topo.specs.Shape.{Grid, local_port, ports}
use Rattle.noc_topo.specs.Lists.{below}
use Rattle.std.specs.Str.{bytes_eq}
use Rattle.noc_files.specs.Ports.{name_of_port, port_named, sign_of}

pub digit_0 : decimal 0 ≡ 48 ∷ []
unfolding digits
digit_0 = refl

pub digit_1 : decimal 1 ≡ 49 ∷ []
unfolding digits
digit_1 = refl

pub digit_2 : decimal 2 ≡ 50 ∷ []
unfolding digits
digit_2 = refl

-- the name of a link
pub link_name : (g : Grid) (port n p : ℕ) (digit : List ℕ) → n ≡ length g.radix → port ≢ 2 * n → port ≡ p → decimal (p / 2) ≡ digit → sign_of p ++ digit ≡ name_of_port g port
link_name g port n p digit count other e text =
    let not_local : (p == local_port g) ≡ false = grind (arith, nat_tests) in
    rw (e, not_local, text)

-- the first number that passes is found
pub found_first : (test : ℕ → Bool) (a n p : ℕ) → a ≤ p → p < a + n → ((j : ℕ) → a ≤ j → j < p → test j ≡ false) → test p ≡ true → find test (range_with_len a n) ≡ Some p
found_first test a zero p from to none here = absurd (omega arith)
found_first test a (suc n) p from to none here =
    elim (cases_lt a p) [
      | inl later ↦ let skipped : test a ≡ false = none a (omega arith) later in
          rw skipped (found_first test (a + 1) n p (omega arith) (omega arith) (λ j low high. none j (omega arith) high) here)
      | inr first ↦ let same : a ≡ p = omega arith in
          let found : test a ≡ true = rw same here in
          rw found (ap (λ (q : ℕ). Some q) same)
    ]

pub found_none : (test : ℕ → Bool) (a n : ℕ) → ((j : ℕ) → a ≤ j → j < a + n → test j ≡ false) → find test (range_with_len a n) ≡ None
found_none test a zero none = refl
found_none test a (suc n) none =
    let skipped : test a ≡ false = none a (omega arith) (omega arith) in
    rw skipped (found_none test (a + 1) n (λ j low high. none j (omega arith) (omega arith)))

pub port_found : (g : Grid) (name : List ℕ) (p : ℕ) → p < ports g → ((j : ℕ) → j < p → bytes_eq name (name_of_port g j) ≡ false) → bytes_eq name (name_of_port g p) ≡ true → port_named g name ≡ Some p
unfolding port_named below
port_found g name p known none here =
    found_first (λ port. bytes_eq name (name_of_port g port)) 0 (ports g) p (omega arith) (omega arith) (λ j low high. none j high) here

pub port_none : (g : Grid) (name : List ℕ) → ((j : ℕ) → j < ports g → bytes_eq name (name_of_port g j) ≡ false) → port_named g name ≡ None
unfolding port_named below
port_none g name none = found_none (λ port. bytes_eq name (name_of_port g port)) 0 (ports g) (λ j low high. none j (omega arith))
