-- The keys of a table and the members that it stands for; the values of an array and its items.
use Rattle.std.proofs.Common.{◌≡◌, ◌∙◌, ℕ, ◌+◌, ◌<◌, ℤ, List, [], ◌∷◌, ◌++◌, ◌&&◌, Option, Some, None, drop, get_or, length, option_map, string_bytes, refl, ap, sym, append_assoc}
use Rattle.std.specs.Prelude.{option_and_then}
use Rattle.std.proofs.lemmas.List.{drop_more}
use Rattle.std.proofs.lemmas.Option.{none-some}
use Rattle.std.specs.List.{list_all}
use Rattle.std.specs.Option.{is_some}
use Rattle.std.specs.Map.{keys_of}
use Rattle.toml.proofs.Views.{Entry}
use Rattle.toml.specs.Data.{Data, Items, as_integer, item}
use Rattle.toml.specs.View.{items_view, members_view, view}
use Rattle.toml.specs.declared.value.Value.{Value}
use Rattle.noc_files.specs.Configuration.{all_integers, all_known, is_key, lengths_of, within}

pub all_known_keys : (es : List Entry) → list_all (λ k. is_key (string_bytes k)) (keys_of es) ≡ all_known (members_view es)
all_known_keys [] = refl
all_known_keys (e ∷ es) = ap (λ b. is_key (string_bytes e.0) && b) (all_known_keys es)

pub all_integers_values : (vs : List Value) → list_all (λ v. is_some (as_integer (view v))) vs ≡ all_integers (items_view vs)
all_integers_values [] = refl
all_integers_values (v ∷ vs) = ap (λ b. is_some (as_integer (view v)) && b) (all_integers_values vs)

-- the lengths read before, and those still read
abbrev pub after : List ℕ → Option (List ℕ) → Option (List ℕ)
after before read = option_map (λ ns. before ++ ns) read

-- the length that a value is
abbrev pub length_of : Data → Option ℕ
length_of d = option_and_then (within 0 1000) (as_integer d)

regroup : (before : List ℕ) (n : ℕ) (read : Option (List ℕ)) → after before (option_map (λ ns. n ∷ ns) read) ≡ after (before ++ n ∷ []) read
regroup before n None = refl
regroup before n (Some ns) = ap (λ (t : List ℕ). Some t) (sym (append_assoc before (n ∷ []) ns))

first_length : (d : Data) (ds : Items) (n : ℕ) → length_of d ≡ Some n → lengths_of (item d ds) ≡ option_map (λ ns. n ∷ ns) (lengths_of ds)
first_length d ds n e = by (as_integer d) refl
  where
    by : (o : Option ℤ) → as_integer d ≡ o → lengths_of (item d ds) ≡ option_map (λ ns. n ∷ ns) (lengths_of ds)
    by None other = let one : None ≡ Some n = rw other at e in absurd (none-some n one)
    by (Some z) is = let one : within 0 1000 z ≡ Some n = rw is at e in rw (is, one)

no_length : (d : Data) (ds : Items) → length_of d ≡ None → lengths_of (item d ds) ≡ None
no_length d ds e = by (as_integer d) refl
  where
    by : (o : Option ℤ) → as_integer d ≡ o → lengths_of (item d ds) ≡ None
    by None other = rw other
    by (Some z) is = let one : within 0 1000 z ≡ None = rw is at e in rw (is, one)

-- one length more is read
pub next_length : (values : List Value) (i : ℕ) (d : Value) (before : List ℕ) (n : ℕ) → i < length values → length_of (view (get_or values i d)) ≡ Some n
    → after (before ++ n ∷ []) (lengths_of (items_view (drop (i + 1) values))) ≡ after before (lengths_of (items_view (drop i values)))
next_length values i d before n inside is =
    let rest = drop (i + 1) values in
    sym (ap (λ (t : List Value). after before (lengths_of (items_view t))) (drop_more values i d inside) ∙ ap (after before) (first_length (view (get_or values i d)) (items_view rest) n is) ∙ regroup before n (lengths_of (items_view rest)))

-- a value is no length
pub not_a_length : (values : List Value) (i : ℕ) (d : Value) (before : List ℕ) → i < length values → length_of (view (get_or values i d)) ≡ None → after before (lengths_of (items_view (drop i values))) ≡ None
not_a_length values i d before inside none =
    ap (λ (t : List Value). after before (lengths_of (items_view t))) (drop_more values i d inside) ∙ ap (after before) (no_length (view (get_or values i d)) (items_view (drop (i + 1) values)) none)
