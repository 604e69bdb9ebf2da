-- The inductive record: owners and places of one state. And phases one and two.
use Rattle.std.proofs.Common.{◌≡◌, ◌≢◌, ℕ, ◌+◌, ◌-◌, ◌*◌, ◌%◌, ◌<◌, ◌≤◌, Bool, true, false, List, length, refl, ap, sym, ◌∙◌, subst, arith}
use Rattle.std.specs.Prelude.{filter, not, IsTrue, ◌&&◌}
use Rattle.noc_theory.proofs.Common.{false≢true, true≢false, ltb-true, le-ltb, lt-ltb, distance, Channel, Link, Inject, Eject, is_link, permits, Setup, Place, Source, On, In, Out, packet_at, landed_place, is_past, weight, hops, IsPath, Has, IsValid}
use Rattle.noc_theory.proofs.worms.BuiltRecordLemmas.{IsBuilt}
use Rattle.noc_theory.proofs.worms.MemberLemmas.{Has-filter, Has-kept, Pairs-filter}
use Rattle.noc_theory.proofs.worms.OwnedLemmas.{IsOnce, of, of-filter, of-has}
use Rattle.noc_theory.proofs.worms.StateWordLemmas.{IsOtherChannel, IsEject, class_of, goal, last_of, far_of, IsNear, IsPlaced, IsEntering}
use Rattle.noc_theory.proofs.worms.PathLemmas.{path-filter, no-inject}

module _ (net : Setup) where
  -- who owns what, and where the flit of each packet and index is
  pub record IsWorm (own : List (Channel × ℕ)) (at : ℕ → ℕ → Place) : Type 0 where
    pub once : IsOnce own
    pub path : (p : ℕ) → IsPath net (class_of net p) (goal net p) (of p own)
    pub known : (c : Channel) (p : ℕ) → Has (c, p) own → p < length net.packets
    pub near : (c : Channel) (p : ℕ) → Has (c, p) own → IsNear net p c
    pub placed : (p i : ℕ) → IsValid net p i → IsPlaced net own p (at p i)
    pub order : (p i j : ℕ) → IsValid net p j → i ≤ j → weight net p (at p i) ≤ weight net p (at p j)
    -- an owned injection channel has its tail still to leave
    pub entering : (n v p : ℕ) → Has (Inject n v, p) own → IsEntering net (Inject n v) (at p (last_of net p))
    -- nothing is owned before the head has left its source
    pub begun : (c : Channel) (p : ℕ) → Has (c, p) own → at p 0 ≢ Source
    -- a packet with flits on both sides of its source owns an injection channel
    pub holds : (p : ℕ) → p < length net.packets → at p 0 ≢ Source → at p (last_of net p) ≡ Source → (v : ℕ) × Has (Inject (packet_at net p).source v, p) own

  module _ (built : IsBuilt net) where
    pub valid-last : (p : ℕ) → p < length net.packets → IsValid net p (last_of net p)
    valid-last p l = let s = built.some_flit p l in (l, omega arith)

    pub valid-first : (p : ℕ) → p < length net.packets → IsValid net p 0
    valid-first p l = let s = built.some_flit p l in (l, omega arith)

    pub valid-below : (p i j : ℕ) → IsValid net p j → i ≤ j → IsValid net p i
    valid-below p i j v l = let s = v.1 in (v.0, omega arith)

  -- ---- phase one

  placed-landed : (own : List (Channel × ℕ)) (p : ℕ) (x : Place) → IsPlaced net own p x → IsPlaced net own p (landed_place net x)
  placed-landed own p Source h = tt
  placed-landed own p (On (Link r a v)) h = h
  placed-landed own p (On (Inject n v)) h = elim h [ ]
  placed-landed own p (On (Eject n v)) h = elim h [ ]
  placed-landed own p (In c) h = h
  placed-landed own p (Out n) h = tt

  weight-landed : (own : List (Channel × ℕ)) (p : ℕ) (x : Place) → IsPlaced net own p x → weight net p (landed_place net x) ≡ weight net p x - (1 - weight net p x % 3)
  weight-landed own p Source h = omega arith
  weight-landed own p (On (Link r a v)) h = omega arith
  weight-landed own p (On (Inject n v)) h = elim h [ ]
  weight-landed own p (On (Eject n v)) h = elim h [ ]
  weight-landed own p (In (Link r a v)) h = omega arith
  weight-landed own p (In (Inject n v)) h = omega arith
  weight-landed own p (In (Eject n v)) h = refl
  weight-landed own p (Out n) h = refl

  pub source-landed : (x : Place) → landed_place net x ≡ Source → x ≡ Source
  source-landed Source e = refl
  source-landed (On c) e = absurd (cc e)
  source-landed (In c) e = absurd (cc e)
  source-landed (Out n) e = absurd (cc e)

  entering-landed : (c : Channel) (x : Place) → IsEntering net c x → IsEntering net c (landed_place net x)
  entering-landed c Source h = tt
  entering-landed c (On d) h = elim h [ ]
  entering-landed c (In d) h = h
  entering-landed c (Out n) h = elim h [ ]

  falls : (a b : ℕ) → a ≤ b → a - (1 - a % 3) ≤ b - (1 - b % 3)
  falls a b l = omega arith

  pub worm-landed : IsBuilt net → (own : List (Channel × ℕ)) (at to : ℕ → ℕ → Place) → IsWorm own at → ((p i : ℕ) → IsValid net p i → to p i ≡ landed_place net (at p i)) → IsWorm own to
  worm-landed built own at to w e = record {
    once = w.once;
    path = w.path;
    known = w.known;
    near = w.near;
    placed = λ p i v. subst (λ (x : Place). IsPlaced net own p x) (sym (e p i v)) (placed-landed own p (at p i) (w.placed p i v));
    order = λ p i j v l.
        let vi : IsValid net p i = valid-below built p i j v l in
        let wi : weight net p (to p i) ≡ weight net p (at p i) - (1 - weight net p (at p i) % 3) = ap (weight net p) (e p i vi) ∙ weight-landed own p (at p i) (w.placed p i vi) in
        let wj : weight net p (to p j) ≡ weight net p (at p j) - (1 - weight net p (at p j) % 3) = ap (weight net p) (e p j v) ∙ weight-landed own p (at p j) (w.placed p j v) in
        let m = falls (weight net p (at p i)) (weight net p (at p j)) (w.order p i j v l) in
        rw (wi, wj) m;
    entering = λ n v p h. subst (λ (x : Place). IsEntering net (Inject n v) x) (sym (e p (last_of net p) (valid-last built p (w.known _ p h)))) (entering-landed (Inject n v) (at p (last_of net p)) (w.entering n v p h));
    begun = λ c p h s. w.begun c p h (source-landed (at p 0) (sym (e p 0 (valid-first built p (w.known c p h))) ∙ s));
    holds = λ p l b s. w.holds p l
        (λ z. b (e p 0 (valid-first built p l) ∙ ap (landed_place net) z))
        (source-landed (at p (last_of net p)) (sym (e p (last_of net p) (valid-last built p l)) ∙ s));
  }

  -- ---- phase two

  abbrev pub freed : (ℕ → ℕ → Place) → Channel × ℕ → Bool
  freed at pair = is_link pair.0 && is_past net pair.0 (goal net pair.1) (at pair.1 (last_of net pair.1))

  -- a place that weighs at least as much as c's buffer is not past c
  pub heavy-not-past : (own : List (Channel × ℕ)) (p : ℕ) (c : Channel) (x : Place) → ((d : Channel) → Has (d, p) own → IsNear net p d) → far_of net p c < hops net p
      → IsPlaced net own p x → 3 * far_of net p c + 2 ≤ weight net p x → is_past net c (goal net p) x ≡ false
  heavy-not-past own p c Source near l h w = refl
  heavy-not-past own p c (On (Link r a v)) near l h w = le-ltb (far_of net p (Link r a v)) (far_of net p c) (omega arith)
  heavy-not-past own p c (On (Inject n v)) near l h w = elim h [ ]
  heavy-not-past own p c (On (Eject n v)) near l h w = elim h [ ]
  heavy-not-past own p c (In (Link r a v)) near l h w = le-ltb (far_of net p (Link r a v)) (far_of net p c) (omega arith)
  heavy-not-past own p c (In (Inject n v)) near l h w =
      let at_source : far_of net p (Inject n v) ≡ hops net p = ap (λ x. distance net.relation.grid x (goal net p)) (near (Inject n v) h) in
      le-ltb (far_of net p (Inject n v)) (far_of net p c) (omega arith)
  heavy-not-past own p c (In (Eject n v)) near l h w = elim h [ ]
  heavy-not-past own p c (Out n) near l h w = absurd (omega arith)

  -- what is past a channel is past each one before it
  past-before : (p : ℕ) (c o : Channel) (x : Place) → far_of net p o + 1 ≡ far_of net p c → is_past net o (goal net p) x ≡ true → is_past net c (goal net p) x ≡ true
  past-before p c o Source s e = absurd (false≢true e)
  past-before p c o (On d) s e = let l : far_of net p d < far_of net p o = ltb-true _ _ e in lt-ltb (far_of net p d) (far_of net p c) (omega arith)
  past-before p c o (In d) s e = let l : far_of net p d < far_of net p o = ltb-true _ _ e in lt-ltb (far_of net p d) (far_of net p c) (omega arith)
  past-before p c o (Out n) s e = refl

  entering-not-past : (p : ℕ) (c o : Channel) (x : Place) → far_of net p o + 1 ≡ far_of net p c → IsEntering net c x → is_past net o (goal net p) x ≡ false
  entering-not-past p c o Source s h = refl
  entering-not-past p c o (On d) s h = elim h [ ]
  entering-not-past p c o (In d) s h = let e : far_of net p d ≡ far_of net p c = ap (far_of net p) h in le-ltb (far_of net p d) (far_of net p o) (omega arith)
  entering-not-past p c o (Out n) s h = elim h [ ]

  module _ (built : IsBuilt net) (own : List (Channel × ℕ)) (at : ℕ → ℕ → Place) (w : IsWorm own at) where
    abbrev kept : List (Channel × ℕ)
    kept = filter (λ pair. not (freed at pair)) own

    freed-end : (p : ℕ) (c o : Channel) → Has (c, p) own → IsTrue (permits net.relation (class_of net p) c (goal net p) o) → not (freed at (c, p)) ≡ true → not (freed at (o, p)) ≡ false → IsEject o
    freed-end p c (Inject n v) h e k f = no-inject net built (class_of net p) (goal net p) c n v e
    freed-end p c (Eject n v) h e k f = tt
    freed-end p (Link r a v) (Link s b u) h e k f =
        let step = built.shorter (class_of net p) (goal net p) (Link r a v) s b u e in
        absurd (keep_both (is_past net (Link s b u) (goal net p) (at p (last_of net p))) refl (is_past net (Link r a v) (goal net p) (at p (last_of net p))) refl step)
      where
        keep_both : (x : Bool) → is_past net (Link s b u) (goal net p) (at p (last_of net p)) ≡ x → (y : Bool) → is_past net (Link r a v) (goal net p) (at p (last_of net p)) ≡ y
            → far_of net p (Link s b u) + 1 ≡ far_of net p (Link r a v) → ⊥
        keep_both false e1 y e2 st = true≢false (sym (ap not e1) ∙ f)
        keep_both true e1 true e2 st = false≢true (sym (ap not e2) ∙ k)
        keep_both true e1 false e2 st = false≢true (sym e2 ∙ past-before p (Link r a v) (Link s b u) (at p (last_of net p)) st e1)
    freed-end p (Inject n v) (Link s b u) h e k f =
        let step = built.shorter (class_of net p) (goal net p) (Inject n v) s b u e in
        let no_past : is_past net (Link s b u) (goal net p) (at p (last_of net p)) ≡ false = entering-not-past p (Inject n v) (Link s b u) (at p (last_of net p)) step (w.entering n v p h) in
        absurd (true≢false (sym (ap not no_past) ∙ f))
    freed-end p (Eject n v) (Link s b u) h e k f = false≢true (built.leads (class_of net p) (goal net p) (Eject n v) (Link s b u) e)

    -- where a flit of p is on or in a link channel, the tail is not past it
    pub link-kept : (p i : ℕ) (r a v : ℕ) → IsValid net p i → Has (Link r a v, p) own → 3 * far_of net p (Link r a v) + 2 ≤ weight net p (at p i)
        → not (freed at (Link r a v, p)) ≡ true
    link-kept p i r a v vi h heavy =
        let last = valid-last built p vi.0 in
        let l = vi.1 in
        let o = w.order p i (last_of net p) last (omega arith) in
        let np = heavy-not-past own p (Link r a v) (at p (last_of net p)) (λ d k. w.near d p k) (w.near (Link r a v) p h).0 (w.placed p (last_of net p) last) (omega arith) in
        ap not np

    placed-kept : (p i : ℕ) (x : Place) → IsValid net p i → at p i ≡ x → IsPlaced net own p x → IsPlaced net kept p x
    placed-kept p i Source vi e h = tt
    placed-kept p i (On (Link r a v)) vi e h =
        let we : weight net p (at p i) ≡ 3 * far_of net p (Link r a v) + 3 = ap (weight net p) e in
        Has-kept (λ pair. not (freed at pair)) (Link r a v, p) own h (link-kept p i r a v vi h (omega arith))
    placed-kept p i (On (Inject n v)) vi e h = elim h [ ]
    placed-kept p i (On (Eject n v)) vi e h = elim h [ ]
    placed-kept p i (In (Link r a v)) vi e h =
        let we : weight net p (at p i) ≡ 3 * far_of net p (Link r a v) + 2 = ap (weight net p) e in
        Has-kept (λ pair. not (freed at pair)) (Link r a v, p) own h (link-kept p i r a v vi h (omega arith))
    placed-kept p i (In (Inject n v)) vi e h = Has-kept (λ pair. not (freed at pair)) (Inject n v, p) own h refl
    placed-kept p i (In (Eject n v)) vi e h = elim h [ ]
    placed-kept p i (Out n) vi e h = tt

    pub worm-freed : IsWorm kept at
    worm-freed = record {
      once = Pairs-filter IsOtherChannel (λ pair. not (freed at pair)) own w.once;
      path = λ p. subst (λ (xs : List Channel). IsPath net (class_of net p) (goal net p) xs) (sym (of-filter p (λ pair. not (freed at pair)) own))
          (path-filter net built (class_of net p) (goal net p) (λ c. not (freed at (c, p))) (of p own) (w.path p)
          (λ c o h g e k f. freed-end p c o (of-has c p own h) e k f));
      known = λ c p h. w.known c p (Has-filter (λ pair. not (freed at pair)) (c, p) own h).0;
      near = λ c p h. w.near c p (Has-filter (λ pair. not (freed at pair)) (c, p) own h).0;
      placed = λ p i v. placed-kept p i (at p i) v refl (w.placed p i v);
      order = w.order;
      entering = λ n v p h. w.entering n v p (Has-filter (λ pair. not (freed at pair)) (Inject n v, p) own h).0;
      begun = λ c p h. w.begun c p (Has-filter (λ pair. not (freed at pair)) (c, p) own h).0;
      holds = λ p l b s. let r = w.holds p l b s in (r.0, Has-kept (λ pair. not (freed at pair)) (Inject (packet_at net p).source r.0, p) own r.1 refl);
    }
