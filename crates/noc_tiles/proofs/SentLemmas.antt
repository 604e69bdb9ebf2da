-- Which routers are those of a tile, and what they send.
use Rattle.std.proofs.Common.{◌≡◌, ◌≢◌, ◌⊎◌, inl, inr, ℕ, ◌+◌, ◌<◌, ◌≤◌, true, false, List, [], length, get_or, map, ap, sym, ◌∙◌, arith}
use Rattle.std.proofs.lemmas.Bool.{cases_lt}
use Rattle.std.proofs.lemmas.Bool.Decides.{nat_tests}
use Rattle.std.proofs.lemmas.List.{get_or_past}
use Rattle.noc_packet.specs.declared.packet.Beat.{Beat}
use Rattle.noc_view.specs.View.{View, idle_beat}
use Rattle.noc_theory.specs.Halves.{beat_at}
use Rattle.noc_tiles.specs.TileStep.{is_own}

pub own-true : (first count r : ℕ) → first ≤ r → r < first + count → is_own first count r ≡ true
own-true first count r l h = grind (arith, nat_tests)

pub own-false : (first count r : ℕ) → (r < first) ⊎ (first + count ≤ r) → is_own first count r ≡ false
own-false first count r h = grind (arith, nat_tests)

pub own-within : (first count r : ℕ) → is_own first count r ≡ true → (first ≤ r) × (r < first + count)
own-within first count r h = (grind (arith, nat_tests), grind (arith, nat_tests))

pub own-outside : (first count r : ℕ) → is_own first count r ≡ false → (r < first) ⊎ (first + count ≤ r)
own-outside first count r h = grind (arith, nat_tests)

pub own-same : (first i r : ℕ) → r ≢ first + i → is_own first (i + 1) r ≡ is_own first i r
own-same first i r n = at (cases_lt r first) (cases_lt r (first + i))
  where
    at : (r < first) ⊎ (first ≤ r) → (r < first + i) ⊎ (first + i ≤ r) → is_own first (i + 1) r ≡ is_own first i r
    at (inl l) h = own-false first (i + 1) r (inl l) ∙ sym (own-false first i r (inl l))
    at (inr l) (inl h) = own-true first (i + 1) r l (omega arith) ∙ sym (own-true first i r l h)
    at (inr l) (inr h) = own-false first (i + 1) r (inr (grind arith)) ∙ sym (own-false first i r (inr h))

abbrev pub sent_by : List View → List (List Beat)
sent_by xs = map (λ (v : View). v.to_put) xs

pub past-rows : (beats : List (List Beat)) (r q : ℕ) → length beats ≤ r → beat_at beats r q ≡ idle_beat
past-rows beats r q l = ap (λ (row : List Beat). get_or row q idle_beat) (get_or_past beats r [] l)
