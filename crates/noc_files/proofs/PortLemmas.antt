-- A name is that of a port just where the shape has that port under that name.
use Rattle.std.proofs.Common.{◌≡◌, ◌≢◌, ℕ, zero, suc, ◌+◌, ◌/◌, ◌%◌, ◌^◌, ◌<◌, ◌==◌, Bool, true, false, List, ◌∷◌, ◌++◌, decimal, find, codes, Some, refl, sym, ◌∙◌, arith}
use Rattle.std.proofs.lemmas.Bool.{eqb-true, eqb-false}
use Rattle.std.proofs.lemmas.Fmt.{decimal_injective}
use Rattle.std.proofs.lemmas.Option.{none-some, same_Some}
use Rattle.std.specs.Cmp.Lexicographic.{same_text}
use Rattle.std.specs.List.{range_with_len}
use Rattle.std.specs.Str.{bytes_eq}
use Rattle.noc_topo.specs.Shape.{Grid, IsGrid, is_plus, local_port, ports}
use Rattle.noc_topo.specs.Lists.{Each, below}
use Rattle.noc_files.specs.Ports.{IsPortName, name_of_port, port_named, sign_of}
use Rattle.noc_files.specs.Plain.{IsPlain}
use Rattle.noc_files.proofs.NumeralLemmas.{plain_decimal}
use Rattle.noc_files.proofs.PlainLemmas.{byte_is_plain, bytes_are_plain}
use Rattle.noc_files.proofs.PortNameLemmas.{port_found}
use Rattle.noc_files.proofs.SheetLemmas.{bytes_eq-refl}

-- what is found is in the range and passes
found_passes : (test : ℕ → Bool) (a n p : ℕ) → find test (range_with_len a n) ≡ Some p → (p < a + n) × (test p ≡ true)
found_passes test a zero p e = absurd (none-some p e)
found_passes test a (suc n) p e = by (test a) refl (found_passes test (a + 1) n p)
  where
    by : (b : Bool) → test a ≡ b → (find test (range_with_len (a + 1) n) ≡ Some p → (p < a + 1 + n) × (test p ≡ true)) → (p < a + suc n) × (test p ≡ true)
    by true passes more = let one : a ≡ p = same_Some a p (rw passes at e) in (omega (arith, one), rw (← one) passes)
    by false fails more = let rest = more (rw fails at e) in (omega (arith, rest.0), rest.1)

tail_is : (x : ℕ) (xs ys : List ℕ) → x ∷ xs ≡ x ∷ ys → xs ≡ ys
tail_is x xs ys e = cc

other_head : (x y : ℕ) (xs ys : List ℕ) → x ≢ y → x ∷ xs ≡ y ∷ ys → ⊥
other_head x y xs ys other e = let same : x ≡ y = cc in other same

-- the name of a link is not `local`
not_local : (j : ℕ) (text : List ℕ) → codes "local" ≡ sign_of j ++ text → ⊥
not_local j text e = by (is_plus j) refl
  where
    by : (a : Bool) → is_plus j ≡ a → ⊥
    by true up = other_head 108 43 _ _ (λ same. omega arith) (rw up at e)
    by false down = other_head 108 45 _ _ (λ same. omega arith) (rw down at e)

-- two names of links are the same only where their ports are
same_link : (j p : ℕ) → j < 2 ^ 64 → p < 2 ^ 64 → sign_of j ++ decimal (j / 2) ≡ sign_of p ++ decimal (p / 2) → j ≡ p
same_link j p jb pb e = by (is_plus j) refl (is_plus p) refl
  where
    by : (a : Bool) → is_plus j ≡ a → (b : Bool) → is_plus p ≡ b → j ≡ p
    by true up true also =
        let text : decimal (j / 2) ≡ decimal (p / 2) = tail_is 43 _ _ (rw (up, also) at e) in
        let half : j / 2 ≡ p / 2 = decimal_injective (j / 2) (p / 2) (omega arith) (omega arith) text in
        omega (arith, eqb-true (j % 2) 0 up, eqb-true (p % 2) 0 also)
    by true up false down = absurd (other_head 43 45 _ _ (λ same. omega arith) (rw (up, down) at e))
    by false down true up = absurd (other_head 45 43 _ _ (λ same. omega arith) (rw (down, up) at e))
    by false down false also =
        let text : decimal (j / 2) ≡ decimal (p / 2) = tail_is 45 _ _ (rw (down, also) at e) in
        let half : j / 2 ≡ p / 2 = decimal_injective (j / 2) (p / 2) (omega arith) (omega arith) text in
        omega (arith, eqb-false (j % 2) 0 down, eqb-false (p % 2) 0 also)

same_name : (g : Grid) (j p : ℕ) → IsGrid g → j < ports g → p < ports g → name_of_port g j ≡ name_of_port g p → j ≡ p
same_name g j p grid jk pk e = by (j == local_port g) refl (p == local_port g) refl
  where
    by : (a : Bool) → (j == local_port g) ≡ a → (b : Bool) → (p == local_port g) ≡ b → j ≡ p
    by true here true also = eqb-true j (local_port g) here ∙ sym (eqb-true p (local_port g) also)
    by true here false other = absurd (not_local p (decimal (p / 2)) (rw (here, other) at e))
    by false other true here = absurd (not_local j (decimal (j / 2)) (sym (rw (other, here) at e)))
    by false other false also = same_link j p (omega (arith, grid.few_dimensions)) (omega (arith, grid.few_dimensions)) (rw (other, also) at e)

pub port_is : (g : Grid) (name : List ℕ) (p : ℕ) → port_named g name ≡ Some p → IsPortName g name p
unfolding port_named below
port_is g name p e =
    let found = found_passes (λ port. bytes_eq name (name_of_port g port)) 0 (ports g) p e in
    record { known = omega (arith, found.0); text = same_text name (name_of_port g p) (sym found.1) }

pub is_port : (g : Grid) (name : List ℕ) (p : ℕ) → IsGrid g → IsPortName g name p → port_named g name ≡ Some p
is_port g name p grid h =
    port_found g name p h.known (λ j less. others j less (bytes_eq name (name_of_port g j)) refl) (rw (← h.text) (bytes_eq-refl name))
  where
    others : (j : ℕ) → j < p → (b : Bool) → bytes_eq name (name_of_port g j) ≡ b → bytes_eq name (name_of_port g j) ≡ false
    others j less true same =
        let e : j ≡ p = same_name g j p grid (omega (arith, h.known)) h.known (sym (same_text name (name_of_port g j) (sym same)) ∙ h.text) in
        absurd (omega arith)
    others j less false other = other

-- the names of ports are plain
pub port_plain : (g : Grid) (port : ℕ) → IsGrid g → port < ports g → Each IsPlain (name_of_port g port)
port_plain g port grid known = by (port == local_port g) refl (is_plus port) refl
  where
    digits : Each IsPlain (decimal (port / 2))
    digits = plain_decimal (port / 2) (omega (arith, grid.few_dimensions))

    by : (a : Bool) → (port == local_port g) ≡ a → (b : Bool) → is_plus port ≡ b → Each IsPlain (name_of_port g port)
    by true here b way = rw here (bytes_are_plain (codes "local") refl)
    by false other true up = rw (other, up) (byte_is_plain 43 refl, digits)
    by false other false down = rw (other, down) (byte_is_plain 45 refl, digits)
