-- Comparing the fields of a row with names, from left to right.
use Rattle.std.proofs.Common.{◌≡◌, ℕ, zero, suc, ◌+◌, ◌<◌, Bool, true, false, not, List, [], ◌∷◌, length, get_or, drop, map, Some, None, Bor, refl, sym, ap, ◌∙◌, arith, ◌&&◌, add-one}
use Rattle.std.proofs.lemmas.List.{drop_more}
use Rattle.std.proofs.lemmas.Option.{none-some, same_Some}
use Rattle.std.specs.Cmp.Lexicographic.{pointwise}
use Rattle.std.specs.Str.{bytes_eq}
use Rattle.csv.specs.Records.{field_at}
use Rattle.noc_files.specs.Rows.{Fields}

field_drop : (fields : Fields) (i : ℕ) (f : List ℕ) → Some f ≡ field_at fields i → drop i fields ≡ f ∷ drop (suc i) fields
unfolding field_at
field_drop [] i f e = absurd (none-some f (sym e))
field_drop (g ∷ fields) zero f e = rw (same_Some f g e)
field_drop (g ∷ fields) (suc i) f e = field_drop fields i f e

pub field_there : (fields : Fields) (i : ℕ) → i < length fields → None ≡ field_at fields i → ⊥
unfolding field_at
field_there [] i h e = omega arith
field_there (g ∷ fields) zero h e = none-some g e
field_there (g ∷ fields) (suc i) h e = field_there fields i (omega arith) e

abbrev named : Fields → List (Bor (List ℕ)) → Bool
named fields names = pointwise bytes_eq fields (map (λ n. n.now) names)

turn : (fields : Fields) (names : List (Bor (List ℕ))) (i : ℕ) (d : Bor (List ℕ)) (f : List ℕ) → i < length names → Some f ≡ field_at fields i
    → named (drop i fields) (drop i names) ≡ (bytes_eq f (get_or names i d).now && named (drop (i + 1) fields) (drop (i + 1) names))
turn fields names i d f h e = rw (field_drop fields i f e, drop_more names i d h, add-one)

pub name_goes : (fields : Fields) (names : List (Bor (List ℕ))) (i : ℕ) (d : Bor (List ℕ)) (f t : List ℕ) (total b : Bool) → i < length names → Some f ≡ field_at fields i → t ≡ (get_or names i d).now
    → b ≡ not (bytes_eq f t) → b ≡ false → named (drop i fields) (drop i names) ≡ total → named (drop (i + 1) fields) (drop (i + 1) names) ≡ total
name_goes fields names i d f t total b h e at test said so_far = by (bytes_eq f t) refl (turn fields names i d f h e)
  where
    by : (a : Bool) → bytes_eq f t ≡ a → named (drop i fields) (drop i names) ≡ (bytes_eq f (get_or names i d).now && named (drop (i + 1) fields) (drop (i + 1) names)) → named (drop (i + 1) fields) (drop (i + 1) names) ≡ total
    by true same one = sym (one ∙ ap (λ n. bytes_eq f n && named (drop (i + 1) fields) (drop (i + 1) names)) (sym at) ∙ ap (λ v. v && named (drop (i + 1) fields) (drop (i + 1) names)) same) ∙ so_far
    by false same one = absurd (cc (sym said ∙ test ∙ ap not same))

pub name_stops : (fields : Fields) (names : List (Bor (List ℕ))) (i : ℕ) (d : Bor (List ℕ)) (f t : List ℕ) (total b : Bool) → i < length names → Some f ≡ field_at fields i → t ≡ (get_or names i d).now
    → b ≡ not (bytes_eq f t) → b ≡ true → named (drop i fields) (drop i names) ≡ total → false ≡ total
name_stops fields names i d f t total b h e at test said so_far = by (bytes_eq f t) refl (turn fields names i d f h e)
  where
    by : (a : Bool) → bytes_eq f t ≡ a → named (drop i fields) (drop i names) ≡ (bytes_eq f (get_or names i d).now && named (drop (i + 1) fields) (drop (i + 1) names)) → false ≡ total
    by true same one = absurd (cc (sym said ∙ test ∙ ap not same))
    by false same one = sym (one ∙ ap (λ n. bytes_eq f n && named (drop (i + 1) fields) (drop (i + 1) names)) (sym at) ∙ ap (λ v. v && named (drop (i + 1) fields) (drop (i + 1) names)) same) ∙ so_far
