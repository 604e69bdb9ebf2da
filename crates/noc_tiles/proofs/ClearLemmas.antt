-- The beats that went to other tiles become idle, one after another.
use Rattle.std.proofs.Common.{◌≡◌, ◌≢◌, inl, inr, ℕ, ◌+◌, ◌<◌, Bool, List, map, length, get_or, ap, ap₂, sym, ◌∙◌, arith, subst, below_more}
use Rattle.std.specs.Prelude.{nat_eq, ◌&&◌, if◌then◌else◌}
use Rattle.std.proofs.lemmas.Bool.Decides.{eqb_tells}
use Rattle.std.proofs.lemmas.List.{length-map, get_or-map}
use Rattle.noc_packet.specs.declared.packet.Beat.{Beat}
use Rattle.noc_view.specs.View.{idle_beat}
use Rattle.noc_theory.specs.Halves.{beat_at}
use Rattle.noc_tiles.specs.Ends.{outlet, WireEnd}
use Rattle.noc_tiles.specs.Phases.{IsCleared}
use Rattle.noc_tiles.specs.TileStep.{arrival_ports, with_beat}
use Rattle.noc_tiles.specs.Tiles.{AreLinkPorts}
use Rattle.noc_tiles.specs.declared.ends.Outlet.{Outlet}
use Rattle.noc_tiles.proofs.TileStepLemmas.{Tells}

pub place-of : {X A : Type 0} (f : X → WireEnd A) (xs : List X) (i : ℕ) (d : X) (e : ℕ × ℕ) → i < length xs → get_or (arrival_ports (map f xs)) i e ≡ (f (get_or xs i d)).at
place-of {A = A} f xs i d e l =
    let l' : i < length (map f xs) = rw length-map l in
    get_or-map (λ (w : WireEnd A). w.at) (map f xs) i (f d) e l' ∙ ap (λ (w : WireEnd A). w.at) (get_or-map f xs i d (f d) l)

-- the place of an end of a tile is a link port
pub cleared-at : (ends : List Outlet) (rows k : ℕ) (end : Outlet) → AreLinkPorts rows 6 (arrival_ports (map outlet ends)) → k < length ends → end ≡ get_or ends k end
    → (get_or (arrival_ports (map outlet ends)) k (0, 0) ≡ (end.router, end.port)) × (end.router < rows) × (end.port < 6)
cleared-at ends rows k end within l is =
    let at : get_or (arrival_ports (map outlet ends)) k (0, 0) ≡ (end.router, end.port) = place-of outlet ends k end (0, 0) l ∙ ap (λ (o : Outlet). (outlet o).at) (sym is) in
    let P : ℕ × ℕ → Type 0 = λ p. (p.0 < rows) × (p.1 < 6) in
    let w = subst P at (within k (rw (length-map, length-map) l)) in
    (at, w.0, w.1)

-- as a pair
abbrev pub place_at : ℕ → ℕ → ℕ × ℕ
place_at r q = (r, q)

module _ (ps : List (ℕ × ℕ)) (bs0 bs new : List (List Beat)) (k a p : ℕ) (x : Beat) (idle : x ≡ idle_beat) (place : get_or ps k (0, 0) ≡ (a, p)) (now : (r q : ℕ) → beat_at new r q ≡ with_beat (beat_at bs) (a, p) x r q) where
  abbrev test : ℕ → ℕ → Bool → Bool → Beat
  test r q s t = if s && t then x else beat_at bs r q

  carried : (r q : ℕ) → beat_at new r q ≡ beat_at bs r q → place_at r q ≢ place_at a p → IsCleared ps bs0 bs k r q → IsCleared ps bs0 new (k + 1) r q
  carried r q same ne (inl h) = inl (h.0, (let z = h.1 in omega arith), h.2, same ∙ h.3)
  carried r q same ne (inr h) =
      inr ((λ o z. let Q : ℕ → Type 0 = λ o. get_or ps o (0, 0) ≢ (r, q) in below_more Q k h.0 (λ e. ne (sym e ∙ place)) o z), same ∙ h.1)

  pub cleared-more : (r q : ℕ) → IsCleared ps bs0 bs k r q → IsCleared ps bs0 new (k + 1) r q
  cleared-more r q = at (eqb_tells r a) (eqb_tells q p)
    where
      at : Tells r a → Tells q p → IsCleared ps bs0 bs k r q → IsCleared ps bs0 new (k + 1) r q
      at (inl e) (inl f) h = inl (k, omega arith, place ∙ ap₂ place_at (sym e.1) (sym f.1), now r q ∙ (ap₂ (test r q) e.0 f.0 ∙ idle))
      at (inl e) (inr f) h = carried r q (now r q ∙ ap₂ (test r q) e.0 f.0) (λ z. f.1 (ap (λ (w : ℕ × ℕ). w.1) z)) h
      at (inr e) f h = carried r q (now r q ∙ ap (λ s. test r q s (nat_eq q p)) e.0) (λ z. e.1 (ap (λ (w : ℕ × ℕ). w.0) z)) h
