-- The flits of a buffer: of the packet that owns the channel, in order, with none left out.
use Rattle.std.proofs.Common.{◌≡◌, ℕ, ◌+◌, ◌<◌, List, [], ◌∷◌, Some, refl, ap, sym, ◌∙◌, inl, inr, subst, arith}
use Rattle.std.specs.Prelude.{◌⊎◌}
use Rattle.noc_theory.proofs.Common.{cases_order, same_Some, Channel, Link, Inject, Eject, Setup, State, Located, Place, Source, On, In, Out, place_of_flit, is_in, buffer_of, owner_of, weight, Has, Pairs, IsValid}
use Rattle.noc_theory.proofs.worms.BuiltRecordLemmas.{IsBuilt}
use Rattle.noc_theory.specs.Worm.{IsRun}
use Rattle.noc_theory.proofs.worms.BufferLemmas.{same_channel-refl}
use Rattle.noc_theory.proofs.worms.MemberLemmas.{Has-filter, Has-kept, Pairs-filter, each-at}
use Rattle.noc_theory.proofs.worms.OwnedLemmas.{owner-is}
use Rattle.noc_theory.proofs.worms.StateWordLemmas.{IsKeyed, IsSortedPair, IsPlaced}
use Rattle.noc_theory.proofs.worms.PlaceLemmas.{place-of-flit, flit-there, is_in-is}
use Rattle.noc_theory.proofs.worms.WormRecordLemmas.{IsWorm, valid-below}
use Rattle.noc_theory.proofs.worms.InjectionPhaseLemmas.{two-injects}
use Rattle.noc_theory.proofs.worms.MoveLemmas.{same-far, placed-in}

-- flits of one packet in order, with none left out between them, are a run
run-from : (net : Setup) (p : ℕ) (x : Located) (xs : List Located) → Pairs IsSortedPair (x ∷ xs) → ((f : Located) → Has f (x ∷ xs) → f.packet ≡ p)
    → ((f g : Located) (k : ℕ) → Has f (x ∷ xs) → Has g (x ∷ xs) → f.index < k → k < g.index → (h : Located) × Has h (x ∷ xs) × (h.index ≡ k))
    → IsRun net p x.index (x ∷ xs)
run-from net p x [] s of_p full = (of_p x (inl refl), refl, tt)
run-from net p x (y ∷ ys) s of_p full = (of_p x (inl refl), refl, subst (λ (i : ℕ). IsRun net p i (y ∷ ys)) next (run-from net p y ys s.1 (λ f h. of_p f (inr h)) full_behind))
  where
    before : (f : Located) → Has f (y ∷ ys) → x.index < f.index
    before f h = each-at (IsSortedPair x) (y ∷ ys) f s.0 h (of_p x (inl refl) ∙ sym (of_p f (inr h)))

    behind-y : (f : Located) → Has f ys → y.index < f.index
    behind-y f h = each-at (IsSortedPair y) ys f s.1.0 h (of_p y (inr (inl refl)) ∙ sym (of_p f (inr (inr h))))

    no-gap : x.index + 1 < y.index → ⊥
    no-gap l = at (full x y (x.index + 1) (inl refl) (inr (inl refl)) (omega arith) l)
      where
        at : (h : Located) × Has h (x ∷ y ∷ ys) × (h.index ≡ x.index + 1) → ⊥
        at r = member r.0 r.1 r.2
          where
            member : (h : Located) → Has h (x ∷ y ∷ ys) → h.index ≡ x.index + 1 → ⊥
            member h (inl e) i = let z : h.index ≡ x.index = ap (λ (g : Located). g.index) e in omega arith
            member h (inr (inl e)) i = let z : h.index ≡ y.index = ap (λ (g : Located). g.index) e in omega arith
            member h (inr (inr m)) i = let z = behind-y h m in omega arith

    next : y.index ≡ x.index + 1
    next = at (cases_order y.index (x.index + 1)) (before y (inl refl))
      where
        at : (y.index ≡ x.index + 1) ⊎ ((y.index < x.index + 1) ⊎ (x.index + 1 < y.index)) → x.index < y.index → y.index ≡ x.index + 1
        at (inl e) l = e
        at (inr (inl u)) l = omega arith
        at (inr (inr u)) l = absurd (no-gap u)

    full_behind : (f g : Located) (k : ℕ) → Has f (y ∷ ys) → Has g (y ∷ ys) → f.index < k → k < g.index → (h : Located) × Has h (y ∷ ys) × (h.index ≡ k)
    full_behind f g k hf hg a b = at (full f g k (inr hf) (inr hg) a b)
      where
        at : (h : Located) × Has h (x ∷ y ∷ ys) × (h.index ≡ k) → (h : Located) × Has h (y ∷ ys) × (h.index ≡ k)
        at r = member r.0 r.1 r.2
          where
            member : (h : Located) → Has h (x ∷ y ∷ ys) → h.index ≡ k → (h : Located) × Has h (y ∷ ys) × (h.index ≡ k)
            member h (inl e) i =
                let z : h.index ≡ x.index = ap (λ (q : Located). q.index) e in
                let l = before f hf in absurd (omega arith)
            member h (inr m) i = (h, m, i)

module _ (net : Setup) (built : IsBuilt net) (S : State) (keyed : IsKeyed net S.at) (w : IsWorm net S.own (place_of_flit net S)) where
  -- the weight of a place in a buffer tells the place
  pub weight-tells : (p : ℕ) (x : Place) (c : Channel) → IsPlaced net S.own p x → IsPlaced net S.own p (In c) → weight net p x ≡ weight net p (In c) → x ≡ In c
  weight-tells p Source (Link r a v) h k e = let n = (w.near (Link r a v) p k).0 in absurd (omega arith)
  weight-tells p (On (Link s b u)) (Link r a v) h k e = absurd (omega arith)
  weight-tells p (On (Inject m u)) (Link r a v) h k e = elim h [ ]
  weight-tells p (On (Eject m u)) (Link r a v) h k e = elim h [ ]
  weight-tells p (In (Link s b u)) (Link r a v) h k e = ap In (same-far net built S keyed w p (Link s b u) (Link r a v) h k (λ z. z) (λ z. z) (omega arith))
  weight-tells p (In (Inject m u)) (Link r a v) h k e = absurd (omega arith)
  weight-tells p (In (Eject m u)) (Link r a v) h k e = elim h [ ]
  weight-tells p (Out n) (Link r a v) h k e = absurd (omega arith)
  weight-tells p Source (Inject m u) h k e = absurd (omega arith)
  weight-tells p (On (Link s b u)) (Inject m q) h k e = absurd (omega arith)
  weight-tells p (On (Inject m u)) (Inject r a) h k e = elim h [ ]
  weight-tells p (On (Eject m u)) (Inject r a) h k e = elim h [ ]
  weight-tells p (In (Link s b u)) (Inject r a) h k e = absurd (omega arith)
  weight-tells p (In (Inject m u)) (Inject r a) h k e = ap In (two-injects net built S.own (place_of_flit net S) w p m u r a h k)
  weight-tells p (In (Eject m u)) (Inject r a) h k e = elim h [ ]
  weight-tells p (Out n) (Inject r a) h k e = absurd (omega arith)
  weight-tells p x (Eject r a) h k e = elim k [ ]

  -- what is in the buffer of c
  pub record IsInBuffer (c : Channel) (f : Located) : Type 0 where
    pub valid : IsValid net f.packet f.index
    pub there : place_of_flit net S f.packet f.index ≡ In c
    pub holder : owner_of net S c ≡ Some f.packet
    pub placed : IsPlaced net S.own f.packet (In c)

  pub in-buffer : (c : Channel) (f : Located) → Has f (buffer_of net S c) → IsInBuffer c f
  in-buffer c f h =
      let m = Has-filter (λ (g : Located). is_in c g.place) f S.at h in
      let v = keyed.valid f m.0 in
      let there : place_of_flit net S f.packet f.index ≡ In c = place-of-flit net S keyed f m.0 ∙ is_in-is c f.place m.1 in
      let placed : IsPlaced net S.own f.packet (In c) = subst (λ (x : Place). IsPlaced net S.own f.packet x) there (w.placed f.packet f.index v) in
      record {
        valid = v;
        there = there;
        holder = owner-is net S c f.packet w.once (placed-in net built S keyed w f.packet c placed).0;
        placed = placed;
      }

  -- none between two is left out
  full-buffer : (c : Channel) (p : ℕ) → ((f : Located) → Has f (buffer_of net S c) → f.packet ≡ p) → (f g : Located) (k : ℕ) → Has f (buffer_of net S c) → Has g (buffer_of net S c) → f.index < k → k < g.index
      → (h : Located) × Has h (buffer_of net S c) × (h.index ≡ k)
  full-buffer c p of_p f g k hf hg a b =
      let x = in-buffer c f hf in
      let y = in-buffer c g hg in
      let fp : f.packet ≡ p = of_p f hf in
      let gp : g.packet ≡ p = of_p g hg in
      let vg : IsValid net p g.index = subst (λ (q : ℕ). IsValid net q g.index) gp y.valid in
      let vk : IsValid net p k = valid-below net built p k g.index vg (omega arith) in
      let lower = w.order p f.index k vk (omega arith) in
      let upper = w.order p k g.index vg (omega arith) in
      let wf : weight net p (place_of_flit net S p f.index) ≡ weight net p (In c) = ap (λ q. weight net p (place_of_flit net S q f.index)) (sym fp) ∙ ap (weight net p) x.there in
      let wg : weight net p (place_of_flit net S p g.index) ≡ weight net p (In c) = ap (λ q. weight net p (place_of_flit net S q g.index)) (sym gp) ∙ ap (weight net p) y.there in
      let same : weight net p (place_of_flit net S p k) ≡ weight net p (In c) = omega arith in
      let there : place_of_flit net S p k ≡ In c = weight-tells p (place_of_flit net S p k) c (w.placed p k vk) (subst (λ (q : ℕ). IsPlaced net S.own q (In c)) fp x.placed) same in
      let member = flit-there net S keyed p k vk in (
        record { packet = p; index = k; place = place_of_flit net S p k },
        Has-kept (λ (q : Located). is_in c q.place) (record { packet = p; index = k; place = place_of_flit net S p k }) S.at member (ap (is_in c) there ∙ same_channel-refl c),
        refl,
      )

  -- the flits of a buffer are of the packet that owns it, with consecutive indices
  pub unmixed-buffer : (c : Channel) → (buffer_of net S c ≡ []) ⊎ ((p : ℕ) × (i : ℕ) × (owner_of net S c ≡ Some p) × IsRun net p i (buffer_of net S c))
  unmixed-buffer c = at (buffer_of net S c) refl
    where
      at : (xs : List Located) → buffer_of net S c ≡ xs → (buffer_of net S c ≡ []) ⊎ ((p : ℕ) × (i : ℕ) × (owner_of net S c ≡ Some p) × IsRun net p i (buffer_of net S c))
      at [] e = inl e
      at (x ∷ xs) e =
          let first = in-buffer c x (subst (λ (ys : List Located). Has x ys) (sym e) (inl refl)) in
          let of_p : (f : Located) → Has f (buffer_of net S c) → f.packet ≡ x.packet
          = λ f h. same_Some f.packet x.packet (sym (in-buffer c f h).holder ∙ first.holder) in
          let sorted : Pairs IsSortedPair (x ∷ xs) = subst (λ (ys : List Located). Pairs IsSortedPair ys) e (Pairs-filter IsSortedPair (λ (f : Located). is_in c f.place) S.at keyed.sorted) in
          let run : IsRun net x.packet x.index (x ∷ xs) = run-from net x.packet x xs sorted (λ f h. of_p f (subst (λ (ys : List Located). Has f ys) (sym e) h))
          (λ f g k hf hg a b.
          let r = full-buffer c x.packet of_p f g k (subst (λ (ys : List Located). Has f ys) (sym e) hf) (subst (λ (ys : List Located). Has g ys) (sym e) hg) a b in
          (r.0, subst (λ (ys : List Located). Has r.0 ys) e r.1, r.2)) in
          inr (x.packet, x.index, first.holder, subst (λ (ys : List Located). IsRun net x.packet x.index ys) (sym e) run)
