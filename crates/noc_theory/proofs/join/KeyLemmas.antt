-- The flits of a packet, in order, and how many of them pass a test that only the first ones pass.
use Rattle.std.proofs.Common.{◌≡◌, ℕ, zero, suc, ◌+◌, ◌<◌, ◌≤◌, Bool, true, false, cond, List, [], ◌∷◌, map, length, refl, ap, sym, ◌∙◌, inl, inr, subst, arith, zero-add}
use Rattle.std.specs.Prelude.{count_by, nat_eq}
use Rattle.noc_theory.proofs.Common.{range_with_len, eqb-true, eq-eqb, below, Has, Pairs, Setup, State, Located, Place, flits_of, place_of_flit, packet_at}
use Rattle.noc_theory.proofs.worms.MemberLemmas.{each-at, Has-filter, Has-kept, Pairs-filter}
use Rattle.noc_theory.proofs.worms.StateWordLemmas.{IsSortedPair, IsKeyed}
use Rattle.noc_theory.proofs.worms.PlaceLemmas.{place-of-flit}
use Rattle.noc_theory.proofs.join.LockstepStepLemmas.{count-cons}

-- flits of one packet in order, just those with the n indices from a on
listed-from : (p : ℕ) (at : ℕ → Place) (n a : ℕ) (xs : List Located) → Pairs IsSortedPair xs → ((f : Located) → Has f xs → (f.packet ≡ p) × (f.place ≡ at f.index) × (a ≤ f.index) × (f.index < a + n))
    → ((i : ℕ) → a ≤ i → i < a + n → (f : Located) × Has f xs × (f.index ≡ i)) → xs ≡ map (λ i. record { packet = p; index = i; place = at i }) (range_with_len a n)
listed-from p at zero a [] s each all = refl
listed-from p at zero a (f ∷ fs) s each all = let e = each f (inl refl) in absurd (omega (arith, e.2, e.3))
listed-from p at (suc n) a [] s each all = let r = all a (omega arith) (omega arith) in elim r.1 [ ]
listed-from p at (suc n) a (f ∷ fs) s each all =
    let mine = each f (inl refl) in
    let e0 : f.packet ≡ p = mine.0 in
    let e1 : f.index ≡ a = first (all a (omega arith) (omega arith)) in
    let e2 : f.place ≡ at a = mine.1 ∙ ap at e1 in
    let head : record { packet = f.packet; index = f.index; place = f.place } ≡ record { packet = p; index = a; place = at a } = cc in
    let tail : fs ≡ map (λ i. record { packet = p; index = i; place = at i }) (range_with_len (a + 1) n) = listed-from p at n (a + 1) fs s.1 (λ g h. let k = each g (inr h) in let m = behind g h in (k.0, k.1, omega (arith, m, e1), omega (arith, k.3)))
    (λ i l u. other i l u (all i (omega arith) (omega arith))) in
    ap (λ (g : Located). g ∷ fs) head ∙ ap (λ (gs : List Located). record { packet = p; index = a; place = at a } ∷ gs) tail
  where
    behind : (g : Located) → Has g fs → f.index < g.index
    behind g h = each-at (IsSortedPair f) fs g s.0 h ((each f (inl refl)).0 ∙ sym (each g (inr h)).0)

    first : (g : Located) × Has g (f ∷ fs) × (g.index ≡ a) → f.index ≡ a
    first r = member r.0 r.1 r.2
      where
        member : (g : Located) → Has g (f ∷ fs) → g.index ≡ a → f.index ≡ a
        member g (inl e) i = ap (λ (y : Located). y.index) (sym e) ∙ i
        member g (inr h) i = let b = behind g h in let low = (each f (inl refl)).2 in absurd (omega (arith, b, low, i))

    other : (i : ℕ) → a + 1 ≤ i → i < a + 1 + n → (g : Located) × Has g (f ∷ fs) × (g.index ≡ i) → (g : Located) × Has g fs × (g.index ≡ i)
    other i l u r = member r.0 r.1 r.2
      where
        member : (g : Located) → Has g (f ∷ fs) → g.index ≡ i → (g : Located) × Has g fs × (g.index ≡ i)
        member g (inl e) k =
            let z : f.index ≡ i = ap (λ (y : Located). y.index) (sym e) ∙ k in
            let y : f.index ≡ a = first (all a (omega arith) (omega arith)) in absurd (omega (arith, z, y))
        member g (inr h) k = (g, h, k)

range-front : (t : ℕ → Bool) (k n a : ℕ) → k ≤ n → ((i : ℕ) → a ≤ i → i < a + k → t i ≡ true) → ((i : ℕ) → a + k ≤ i → i < a + n → t i ≡ false) → count_by t (range_with_len a n) ≡ k
range-front t zero zero a l pass none = refl
range-front t (suc k) zero a l pass none = absurd (omega arith)
range-front t zero (suc n) a l pass none =
    count-cons t a (range_with_len (a + 1) n) ∙ ap (λ b. cond b 1 0 + count_by t (range_with_len (a + 1) n)) (none a (omega arith) (omega arith))
    ∙ zero-add _ ∙ range-front t zero n (a + 1) (omega arith) (λ i u v. absurd (omega arith)) (λ i u v. none i (omega arith) (omega arith))
range-front t (suc k) (suc n) a l pass none =
    let rest = range-front t k n (a + 1) (omega arith) (λ i u v. pass i (omega arith) (omega arith)) (λ i u v. none i (omega arith) (omega arith)) in
    count-cons t a (range_with_len (a + 1) n) ∙ ap (λ b. cond b 1 0 + count_by t (range_with_len (a + 1) n)) (pass a (omega arith) (omega arith)) ∙ omega (arith, rest)

-- a test that the first k numbers below n pass, and no other
pub count-front : (t : ℕ → Bool) (k n : ℕ) → k ≤ n → ((i : ℕ) → i < k → t i ≡ true) → ((i : ℕ) → k ≤ i → i < n → t i ≡ false) → count_by t (below n) ≡ k
unfolding below
count-front t k n l pass none = range-front t k n 0 l (λ i _ u. pass i (omega arith)) (λ i u v. none i (omega arith) (omega arith))

count-map : {X : Type 0} (t : X → Bool) (f : ℕ → X) (is : List ℕ) → count_by t (map f is) ≡ count_by (λ i. t (f i)) is
count-map t f [] = refl
count-map t f (i ∷ is) = count-cons t (f i) (map f is) ∙ ap (λ k. cond (t (f i)) 1 0 + k) (count-map t f is) ∙ sym (count-cons (λ j. t (f j)) i is)

module _ (net : Setup) (S : State) (keyed : IsKeyed net S.at) where
  -- the flits of a packet are those with its indices, in order
  pub listed : (p : ℕ) → p < length net.packets → flits_of net S p ≡ map (λ i. record { packet = p; index = i; place = place_of_flit net S p i }) (below (packet_at net p).length)
  unfolding below
  listed p l =
      listed-from p (place_of_flit net S p) (packet_at net p).length 0 (flits_of net S p) (Pairs-filter IsSortedPair (λ (f : Located). nat_eq p f.packet) S.at keyed.sorted)
      (λ f h.
      let m = Has-filter (λ (g : Located). nat_eq p g.packet) f S.at h in
      let e : f.packet ≡ p = sym (eqb-true p f.packet m.1) in
      let v = keyed.valid f m.0 in
      let at : place_of_flit net S p f.index ≡ f.place = ap (λ q. place_of_flit net S q f.index) (sym e) ∙ place-of-flit net S keyed f m.0 in
      let low : f.index < (packet_at net p).length = subst (λ q. f.index < (packet_at net q).length) e v.1 in
      (e, sym at, omega arith, omega (arith, low)))
      (λ i u v.
      let r = keyed.whole p i (l, omega (arith, v)) in
      (r.0, Has-kept (λ (g : Located). nat_eq p g.packet) r.0 S.at r.1 (eq-eqb p r.0.packet (sym r.2)), r.3))

  -- how many flits of a packet pass, if just the first k do
  pub count-places : (t : Place → Bool) (p k : ℕ) → p < length net.packets → k ≤ (packet_at net p).length → ((i : ℕ) → i < k → t (place_of_flit net S p i) ≡ true)
      → ((i : ℕ) → k ≤ i → i < (packet_at net p).length → t (place_of_flit net S p i) ≡ false) → count_by (λ (f : Located). t f.place) (flits_of net S p) ≡ k
  count-places t p k l u pass none =
      ap (count_by (λ (f : Located). t f.place)) (listed p l)
      ∙ count-map (λ (f : Located). t f.place) (λ i. record { packet = p; index = i; place = place_of_flit net S p i }) (below (packet_at net p).length)
      ∙ count-front (λ i. t (place_of_flit net S p i)) k (packet_at net p).length u pass none
