-- Bytes that a sink takes piece by piece.
use Rattle.std.proofs.Common.{◌≡◌, ℕ, ◌+◌, ◌<◌, ◌-◌, Bool, get_or, List, ◌∷◌, ◌++◌, length, take, drop, Option, Some, None, Err, sym, ap, subst, ◌∙◌, append_assoc, arith, length-append}
use Rattle.std.proofs.lemmas.List.{drop_more, length-drop, take-append-drop, take-append-le, take_all}
use Rattle.std.proofs.lemmas.Grind.{flat_map-append}
use Rattle.std.proofs.lemmas.List.Concat.{flat_map-cons}
use Rattle.std.proofs.Math.Seq.{take-add, take-append-add}
use Rattle.std.proofs.KnownBytes.{Appends-trans}
use Rattle.std.specs.Io.KnownBytes.{Appends, Keeps}
use Rattle.noc_bytes.specs.declared.writing.WriteFault.{WriteFault}
use Rattle.noc_bytes.specs.Writing.{Wrote}
use Rattle.std.specs.List.{flat_map}

-- bytes that stay as they were
pub Appends-keeps : (a b c : Option (List ℕ)) (bytes : List ℕ) → Appends a b bytes → Keeps b c → Appends a c bytes
Appends-keeps None b c bytes p q = p
Appends-keeps (Some x) None c bytes p q = absurd p
Appends-keeps (Some x) (Some y) None bytes p q = absurd q
Appends-keeps (Some x) (Some y) (Some z) bytes p q = q ∙ p

-- one put more
pub put_more : (a b c : Option (List ℕ)) (bytes : List ℕ) (at n : ℕ) → Appends a b (take at bytes) → Appends b c (take n (take (length bytes - at) (drop at bytes))) → Appends a c (take (at + n) bytes)
put_more a b c bytes at n p q =
    let rest : take (length bytes - at) (drop at bytes) ≡ drop at bytes = take_all (length bytes - at) (drop at bytes) (omega (arith, length-drop at bytes)) in
    subst (Appends a c) (sym (take-add at n bytes)) (Appends-trans a b c (take at bytes) (take n (drop at bytes)) p (subst (λ (t : List ℕ). Appends b c (take n t)) rest q))

module _ {S : Type 0} (contents : S → Option (List ℕ)) (failed : S → Bool) where
  -- a fault in a front of a text
  pub fault_front : (a b : S) (p q : List ℕ) (f : WriteFault) → Wrote contents failed a b p (Err f) → Wrote contents failed a b (p ++ q) (Err f)
  fault_front a b p q f h =
      let (short, took, down) = h in
      (omega (arith, length-append p q), subst (Appends (contents a) (contents b)) (sym (take-append-le f.written p q (omega (arith, short)))) took, down)

  -- a fault behind what was taken whole
  pub fault_after : (a m b : S) (p q : List ℕ) (e f : WriteFault) → Appends (contents a) (contents m) p → Wrote contents failed m b q (Err e) → f.written ≡ length p + e.written → Wrote contents failed a b (p ++ q) (Err f)
  fault_after a m b p q e f first next count =
      let (short, took, down) = next in
      let front : take f.written (p ++ q) ≡ p ++ take e.written q = ap (λ n. take n (p ++ q)) count ∙ take-append-add p q e.written in
      (omega (arith, count, length-append p q), subst (Appends (contents a) (contents b)) (sym front) (Appends-trans (contents a) (contents m) (contents b) p (take e.written q) first took), down)

  -- a fault within a text
  pub fault_within : (a m b : S) (p q r text : List ℕ) (e f : WriteFault) → text ≡ (p ++ q) ++ r → Appends (contents a) (contents m) p → Wrote contents failed m b q (Err e) → f.written ≡ length p + e.written → Wrote contents failed a b text (Err f)
  fault_within a m b p q r text e f parts first next count = rw parts (fault_front a b (p ++ q) r f (fault_after a m b p q e f first next count))

-- the parts of a text around one of its pieces
pub pieces_split : {X : Type 0} (f : X → List ℕ) (xs : List X) (i : ℕ) (d : X) → i < length xs → flat_map f xs ≡ (flat_map f (take i xs) ++ f (get_or xs i d)) ++ flat_map f (drop (i + 1) xs)
pieces_split {X} f xs i d h =
    let parts : xs ≡ take i xs ++ (get_or xs i d ∷ drop (i + 1) xs) = sym (ap (λ (t : List X). take i xs ++ t) (sym (drop_more xs i d h)) ∙ take-append-drop i xs) in
    ap (flat_map f) parts ∙ flat_map-append f (take i xs) (get_or xs i d ∷ drop (i + 1) xs) ∙ ap (λ (t : List ℕ). flat_map f (take i xs) ++ t) (flat_map-cons f (get_or xs i d) (drop (i + 1) xs)) ∙ sym (append_assoc (flat_map f (take i xs)) (f (get_or xs i d)) (flat_map f (drop (i + 1) xs)))

-- the piece at a place is within the length of all
pub piece_fits : {X : Type 0} (f : X → List ℕ) (xs : List X) (i written limit : ℕ) (d : X) → i < length xs → written ≡ length (flat_map f (take i xs)) → length (flat_map f xs) < limit → written + length (f (get_or xs i d)) < limit
piece_fits f xs i written limit d h so_far fits =
    omega (arith, so_far, fits, ap length (pieces_split f xs i d h), length-append (flat_map f (take i xs) ++ f (get_or xs i d)) (flat_map f (drop (i + 1) xs)), length-append (flat_map f (take i xs)) (f (get_or xs i d)))
