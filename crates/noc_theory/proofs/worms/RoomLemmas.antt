-- Counts through the phases: wire, buffer and credits on their way are at
-- most the places of a buffer.
use Rattle.std.proofs.Common.{◌≡◌, ℕ, ◌+◌, ◌<◌, ◌≤◌, Bool, true, false, cond, List, [], ◌∷◌, map, length, refl, ap, sym, ◌∙◌, inl, inr, subst, arith, add-zero}
use Rattle.std.specs.Prelude.{filter, ◌⊎◌}
use Rattle.noc_theory.proofs.Common.{false≢true, Channel, Link, Inject, Eject, Setup, State, Located, Place, Source, On, In, Out, place_of_flit, is_in, is_on, count_on, count_in, landed_place, after_landing, Has, Pairs}
use Rattle.noc_theory.proofs.worms.BuiltRecordLemmas.{IsBuilt}
use Rattle.noc_theory.proofs.worms.BufferLemmas.{same_channel-true}
use Rattle.noc_theory.proofs.worms.MemberLemmas.{Has-filter, each-at}
use Rattle.noc_theory.proofs.worms.StateWordLemmas.{IsKeyed, IsSortedPair, IsPlaced}
use Rattle.noc_theory.proofs.worms.PlaceLemmas.{place-of-flit}
use Rattle.noc_theory.proofs.worms.WormRecordLemmas.{IsWorm}

-- ---- counting through a step

module _ (hit : Located → Bool) (step : Located → Located) where
  abbrev pub count : List Located → ℕ
  count fs = length (filter hit fs)

  abbrev pub after : List Located → ℕ
  after fs = length (filter hit (map step fs))

  abbrev pub Gains : Located → Type 0
  Gains f = (hit f ≡ false) × (hit (step f) ≡ true)

  -- where no flit comes, no more are there
  pub count-no_more : (fs : List Located) → ((f : Located) → Has f fs → hit f ≡ false → hit (step f) ≡ false) → after fs ≤ count fs
  count-no_more [] h = omega arith
  count-no_more (f ∷ fs) h = at (hit f) refl (hit (step f)) refl (count-no_more fs (λ g m. h g (inr m)))
    where
      at : (a : Bool) → hit f ≡ a → (b : Bool) → hit (step f) ≡ b → after fs ≤ count fs → after (f ∷ fs) ≤ count (f ∷ fs)
      at true e true k rest = rw (e, k) (omega arith)
      at true e false k rest = rw (e, k) (omega arith)
      at false e true k rest = absurd (false≢true (sym (h f (inl refl) e) ∙ k))
      at false e false k rest = rw (e, k) rest

  -- where at most one comes, at most one more is there
  pub count-one_more : (fs : List Located) → Pairs IsSortedPair fs → ((f g : Located) → Has f fs → Has g fs → Gains f → Gains g → (f.packet ≡ g.packet) × (f.index ≡ g.index)) → after fs ≤ count fs + 1
  count-one_more [] s one = omega arith
  count-one_more (f ∷ fs) s one = at (hit f) refl (hit (step f)) refl (count-one_more fs s.1 (λ a b m k. one a b (inr m) (inr k)))
    where
      alone : hit f ≡ false → hit (step f) ≡ true → (g : Located) → Has g fs → hit g ≡ false → (b : Bool) → hit (step g) ≡ b → b ≡ false
      alone e k g m u false t = refl
      alone e k g m u true t =
          let same = one f g (inl refl) (inr m) (e, k) (u, t) in
          let l : f.index < g.index = each-at (IsSortedPair f) fs g s.0 m same.0 in
          let i = same.1 in
          absurd (omega arith)

      at : (a : Bool) → hit f ≡ a → (b : Bool) → hit (step f) ≡ b → after fs ≤ count fs + 1 → after (f ∷ fs) ≤ count (f ∷ fs) + 1
      at true e true k rest = rw (e, k) (omega arith)
      at true e false k rest = rw (e, k) (omega arith)
      at false e true k rest = let more = count-no_more fs (λ g m u. alone e k g m u (hit (step g)) refl) in rw (e, k) (omega arith)
      at false e false k rest = rw (e, k) rest

-- a filter that leaves something has a member that passes
pub filter-some : (hit : Located → Bool) (fs : List Located) → (length (filter hit fs) ≡ 0) ⊎ ((f : Located) × Has f fs × (hit f ≡ true))
filter-some hit fs = at (filter hit fs) refl
  where
    at : (xs : List Located) → filter hit fs ≡ xs → (length (filter hit fs) ≡ 0) ⊎ ((f : Located) × Has f fs × (hit f ≡ true))
    at [] e = inl (ap length e)
    at (x ∷ xs) e = let r = Has-filter hit x fs (subst (λ (ys : List Located). Has x ys) (sym e) (inl refl)) in inr (x, r.0, r.1)

module _ (net : Setup) where
  -- ---- phase one

  cons-count : (hit : Located → Bool) (g : Located) (gs : List Located) → length (filter hit (g ∷ gs)) ≡ cond (hit g) 1 0 + length (filter hit gs)
  cons-count hit g gs = by (hit g)
    where
      by : (b : Bool) → length (cond b (g ∷ filter hit gs) (filter hit gs)) ≡ cond b 1 0 + length (filter hit gs)
      by true = omega arith
      by false = omega arith

  count-sum : (hit a b : Located → Bool) (step : Located → Located) → ((f : Located) → cond (hit (step f)) 1 0 ≡ cond (a f) 1 0 + cond (b f) 1 0) → (fs : List Located)
      → length (filter hit (map step fs)) ≡ length (filter a fs) + length (filter b fs)
  count-sum hit a b step h [] = refl
  count-sum hit a b step h (f ∷ fs) =
      let x = cons-count hit (step f) (map step fs) in
      let y = cons-count a f fs in
      let z = cons-count b f fs in
      let here = h f in
      let rest = count-sum hit a b step h fs in
      omega arith

  pub landed-count : (c : Channel) (S : State) → count_in net (after_landing net S) c ≡ count_on net S c + count_in net S c
  unfolding after_landing
  landed-count c S = count-sum (λ (f : Located). is_in c f.place) (λ (f : Located). is_on c f.place) (λ (f : Located). is_in c f.place) (λ (f : Located). record f { place = landed_place net f.place }) (λ f. at f.place) S.at
    where
      at : (x : Place) → cond (is_in c (landed_place net x)) 1 0 ≡ cond (is_on c x) 1 0 + cond (is_in c x) 1 0
      at Source = refl
      at (On d) = sym (add-zero _)
      at (In d) = omega arith
      at (Out n) = refl

  -- ---- phase three

  module _ (built : IsBuilt net) (S : State) (keyed : IsKeyed net S.at) (w : IsWorm net S.own (place_of_flit net S)) where
    -- a channel that nobody owns has an empty buffer
    pub unowned-empty : (c : Channel) → ((p : ℕ) → Has (c, p) S.own → ⊥) → count_in net S c ≡ 0
    unowned-empty c none = cases (filter-some (λ (f : Located). is_in c f.place) S.at)
      where
        in_placed : (p : ℕ) (x : Place) → IsPlaced net S.own p x → is_in c x ≡ true → Has (c, p) S.own
        in_placed p Source h e = absurd (false≢true e)
        in_placed p (On d) h e = absurd (false≢true e)
        in_placed p (In (Link r a v)) h e = subst (λ (d : Channel). Has (d, p) S.own) (sym (same_channel-true c (Link r a v) e)) h
        in_placed p (In (Inject n v)) h e = subst (λ (d : Channel). Has (d, p) S.own) (sym (same_channel-true c (Inject n v) e)) h
        in_placed p (In (Eject n v)) h e = elim h [ ]
        in_placed p (Out n) h e = absurd (false≢true e)

        cases : (count_in net S c ≡ 0) ⊎ ((f : Located) × Has f S.at × (is_in c f.place ≡ true)) → count_in net S c ≡ 0
        cases (inl e) = e
        cases (inr r) =
            let f : Located = r.0 in
            let here : IsPlaced net S.own f.packet f.place = subst (λ (x : Place). IsPlaced net S.own f.packet x) (place-of-flit net S keyed f r.1) (w.placed f.packet f.index (keyed.valid f r.1)) in
            absurd (none f.packet (in_placed f.packet f.place here r.2))
