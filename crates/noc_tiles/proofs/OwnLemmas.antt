-- The beats of a tile's own routers, one row after another.
use Rattle.std.proofs.Common.{◌≡◌, ℕ, ◌+◌, ◌-◌, ◌<◌, ◌≤◌, true, List, [], length, get_or, set, ap, sym, ◌∙◌, inl, inr, arith, get_or-set_same, get_or-set_other}
use Rattle.std.specs.Prelude.{◌⊎◌, ◌&&◌, nat_le, nat_lt, if◌then◌else◌}
use Rattle.std.proofs.lemmas.Bool.{cases_eq, cases_lt, le-leb, le-ltb, lt-ltb}
use Rattle.noc_packet.specs.declared.packet.Beat.{Beat}
use Rattle.noc_view.specs.View.{idle_beat}
use Rattle.noc_theory.specs.Halves.{beat_at}
use Rattle.noc_tiles.specs.Partition.{own_beat}
use Rattle.noc_tiles.specs.TileStep.{is_own}

-- with one more, the last one is one of them, and of the others those that were
own-here : (first r : ℕ) → first ≤ r → is_own first (r + 1 - first) r ≡ true
own-here first r low = ap (λ b. b && nat_lt r (first + (r + 1 - first))) (le-leb first r low) ∙ lt-ltb r (first + (r + 1 - first)) (omega arith)

own-other : (first r k : ℕ) → first ≤ r → (k ≡ r → ⊥) → is_own first (r - first) k ≡ is_own first (r + 1 - first) k
own-other first r k low other = ap (λ b. nat_le first k && b) (at (cases_lt k r))
  where
    at : (k < r) ⊎ (r ≤ k) → nat_lt k (first + (r - first)) ≡ nat_lt k (first + (r + 1 - first))
    at (inl l) = lt-ltb k (first + (r - first)) (omega arith) ∙ sym (lt-ltb k (first + (r + 1 - first)) (omega arith))
    at (inr u) = le-ltb k (first + (r - first)) (omega arith) ∙ sym (le-ltb k (first + (r + 1 - first)) (omega arith))

-- one row more
pub own-more : (first r : ℕ) (beats all : List (List Beat)) (row : List Beat) → first ≤ r → r < length all → row ≡ get_or beats r [] → ((k q : ℕ) → beat_at all k q ≡ own_beat first (r - first) beats k q)
    → (k q : ℕ) → beat_at (set all r row) k q ≡ own_beat first (r + 1 - first) beats k q
own-more first r beats all row low l is rows k q = at (cases_eq k r)
  where
    at : (k ≡ r) ⊎ (k ≡ r → ⊥) → beat_at (set all r row) k q ≡ own_beat first (r + 1 - first) beats k q
    at (inl e) =
        ap (λ j. beat_at (set all r row) j q) e ∙ ap (λ (xs : List Beat). get_or xs q idle_beat) (get_or-set_same all r row [] l ∙ is)
        ∙ sym (ap (λ j. own_beat first (r + 1 - first) beats j q) e ∙ ap (λ b. if b then beat_at beats r q else idle_beat) (own-here first r low))
    at (inr other) =
        ap (λ (xs : List Beat). get_or xs q idle_beat) (get_or-set_other all r k row [] other)
        ∙ rows k q ∙ ap (λ b. if b then beat_at beats k q else idle_beat) (own-other first r k low other)
