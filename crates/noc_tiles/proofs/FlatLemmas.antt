-- Lists one after another, by index.
use Rattle.std.proofs.Common.{◌≡◌, ◌⊎◌, inl, inr, ℕ, zero, suc, ◌+◌, ◌-◌, ◌<◌, ◌≤◌, List, [], ◌∷◌, ◌++◌, map, length, get_or, take, refl, ap, sym, ◌∙◌, arith}
use Rattle.std.specs.List.{flat_map}
use Rattle.std.proofs.lemmas.List.{get_or_append_left, get_or-append-add, length-append, append_assoc, append-nil, length-map}
use Rattle.noc_tiles.specs.Ends.{WireEnd, end_after_beat}
use Rattle.noc_packet.specs.declared.packet.Beat.{Beat}
use Rattle.noc_route.specs.Routes.{Routes}
use Rattle.noc_view.specs.View.{View, idle_beat}
use Rattle.noc_tiles.specs.TileStep.{Layout, TileState, ends_after_beats, ends_after_rows, out_at, put_by, put_in, tile_after_cycle, after, beats_put}
use Rattle.noc_tiles.proofs.TileStepLemmas.{length-fed}

module _ {X Y : Type 0} (f : X → List Y) where
  abbrev pub offset : List X → ℕ → ℕ
  offset xs t = length (flat_map f (take t xs))

  pub flat-at : (xs : List X) (t j : ℕ) (d : X) (e : Y) → t < length xs → j < length (f (get_or xs t d)) → get_or (flat_map f xs) (offset xs t + j) e ≡ get_or (f (get_or xs t d)) j e
  flat-at [] t j d e l h = absurd (omega arith)
  flat-at (x ∷ xs) zero j d e l h = ap (λ n. get_or (f x ++ flat_map f xs) n e) (omega arith) ∙ get_or_append_left (f x) (flat_map f xs) e j h
  flat-at (x ∷ xs) (suc t) j d e l h =
      let q = length-append (f x) (flat_map f (take t xs)) in
      let n : length (f x ++ flat_map f (take t xs)) + j ≡ length (f x) + (offset xs t + j) = omega arith in
      ap (λ m. get_or (f x ++ flat_map f xs) m e) n
      ∙ (get_or-append-add (f x) (flat_map f xs) (offset xs t + j) e ∙ flat-at xs t j d e (omega arith) h)

  pub offset-lt : (xs : List X) (t j : ℕ) (d : X) → t < length xs → j < length (f (get_or xs t d)) → offset xs t + j < length (flat_map f xs)
  offset-lt [] t j d l h = absurd (omega arith)
  offset-lt (x ∷ xs) zero j d l h = let q = length-append (f x) (flat_map f xs) in omega arith
  offset-lt (x ∷ xs) (suc t) j d l h = let r = offset-lt xs t j d (omega arith) h in let p = length-append (f x) (flat_map f (take t xs)) in let q = length-append (f x) (flat_map f xs) in omega arith

  -- where an element stands
  pub record Found (xs : List X) (i : ℕ) (d : X) : Type 0 where
    pub t : ℕ
    pub j : ℕ
    pub in_list : t < length xs
    pub in_part : j < length (f (get_or xs t d))
    pub is : i ≡ offset xs t + j

  found-in : (x : X) (xs : List X) (i : ℕ) (d : X) → i < length (f x ++ flat_map f xs) → ((k : ℕ) → k < length (flat_map f xs) → Found xs k d) → (i < length (f x)) ⊎ (length (f x) ≤ i) → Found (x ∷ xs) i d
  found-in x xs i d l rec (inl h) = record { t = 0; j = i; in_list = omega arith; in_part = h; is = omega arith }
  found-in x xs i d l rec (inr h) =
      let q = length-append (f x) (flat_map f xs) in
      let r = rec (i - length (f x)) (omega arith) in
      let p = length-append (f x) (flat_map f (take r.t xs)) in
      record { t = suc r.t; j = r.j; in_list = (let z = r.in_list in omega arith); in_part = r.in_part; is = (let z = r.is in omega arith) }

  pub flat-find : (xs : List X) (i : ℕ) (d : X) → i < length (flat_map f xs) → Found xs i d
  flat-find [] i d l = absurd (omega arith)
  flat-find (x ∷ xs) i d l = found-in x xs i d l (λ k h. flat-find xs k d h) (grind arith)

  -- a list that stands before another one ends before it
  pub apart : (xs : List X) (t u : ℕ) (d : X) → t < u → u < length xs → offset xs t + length (f (get_or xs t d)) ≤ offset xs u
  apart [] t u d l h = absurd (omega arith)
  apart (x ∷ xs) t zero d l h = absurd (omega arith)
  apart (x ∷ xs) zero (suc u) d l h = let p = length-append (f x) (flat_map f (take u xs)) in omega arith
  apart (x ∷ xs) (suc t) (suc u) d l h =
      let r = apart xs t u d (omega arith) (omega arith) in
      let p = length-append (f x) (flat_map f (take t xs)) in
      let q = length-append (f x) (flat_map f (take u xs)) in
      omega arith

-- what went through end j
abbrev pub column : ℕ → List (List Beat) → List Beat
column j rows = map (λ row. get_or row j idle_beat) rows

module _ {A : Type 0} where
  pub fed-at : (ws : List (WireEnd A)) (row : List Beat) (j : ℕ) (e : WireEnd A) → j < length ws → length row ≡ length ws → get_or (ends_after_beats ws row) j e ≡ end_after_beat (get_or ws j e) (get_or row j idle_beat)
  fed-at [] row j e l s = absurd (omega arith)
  fed-at (w ∷ ws) [] j e l s = absurd (omega arith)
  fed-at (w ∷ ws) (x ∷ row) zero e l s = refl
  fed-at (w ∷ ws) (x ∷ row) (suc j) e l s = fed-at ws row j e (omega arith) (omega arith)

  pub fed_all-at : (ws : List (WireEnd A)) (rows : List (List Beat)) (j : ℕ) (e : WireEnd A) → j < length ws → ((i : ℕ) → i < length rows → length (get_or rows i []) ≡ length ws)
      → get_or (ends_after_rows ws rows) j e ≡ record { at = (get_or ws j e).at; ring = (get_or ws j e).ring; past = (get_or ws j e).past ++ column j rows }
  fed_all-at ws [] j e l s =
      let mk : List Beat → WireEnd A = λ p. record { at = (get_or ws j e).at; ring = (get_or ws j e).ring; past = p } in
      ap mk (sym (append-nil (get_or ws j e).past))
  fed_all-at ws (r ∷ rows) j e l s =
      let n = length-fed ws r in
      let mk : WireEnd A → List Beat → WireEnd A = λ w xs. record { at = w.at; ring = w.ring; past = w.past ++ xs } in
      let mk' : List Beat → WireEnd A = λ p. record { at = (get_or ws j e).at; ring = (get_or ws j e).ring; past = p } in
      fed_all-at (ends_after_beats ws r) rows j e (omega arith) (λ i h. s (suc i) (omega arith) ∙ sym n)
      ∙ (ap (λ w. mk w (column j rows)) (fed-at ws r j e l (s 0 (omega arith)))
      ∙ ap mk' (append_assoc (get_or ws j e).past (get_or r j idle_beat ∷ []) (column j rows)))

module _ (relation : Routes) (P : Layout) where
  pub length-puts : (n : ℕ) (T : TileState) (rows : List (List Beat)) → length (beats_put relation P n T rows) ≡ length rows
  length-puts n T [] = refl
  length-puts n T (r ∷ rows) = ap suc (length-puts (suc n) (tile_after_cycle relation P n T r) rows)

  pub length-put_by : (S : List (View × List Beat)) → length (put_by relation P S) ≡ length P.outs
  unfolding put_by
  length-put_by S = length-map P.outs (λ (p : ℕ × ℕ). out_at relation P S p.0 p.1)

  pub puts-at : (n : ℕ) (T : TileState) (rows : List (List Beat)) (i : ℕ) → i < length rows → get_or (beats_put relation P n T rows) i [] ≡ put_in relation P (n + i) (after relation P n T (take i rows)) (get_or rows i [])
  puts-at n T [] i l = absurd (omega arith)
  puts-at n T (r ∷ rows) zero l = ap (λ m. put_in relation P m T r) (omega arith)
  puts-at n T (r ∷ rows) (suc i) l =
      puts-at (suc n) (tile_after_cycle relation P n T r) rows i (omega arith)
      ∙ ap (λ m. put_in relation P m (after relation P (suc n) (tile_after_cycle relation P n T r) (take i rows)) (get_or rows i [])) (omega arith)
