-- What is routed, where heads and tails are, and the phases one and two.
use Rattle.std.proofs.Common.{◌≡◌, ℕ, ◌+◌, ◌<◌, Bool, true, false, length, refl, ap, sym, ◌∙◌, inl, inr, subst, arith}
use Rattle.std.specs.Prelude.{not}
use Rattle.noc_theory.proofs.Common.{false≢true, and_right, ltb-true, le-ltb, lt-ltb, not-true, Channel, Link, Inject, Eject, Setup, tail_place, State, Located, Place, Source, On, In, Out, place_of_flit, landed_place, is_past, leads_from, after_landing, after_credits, has_channel, head_place, Has, IsValid}
use Rattle.noc_theory.proofs.worms.BuiltRecordLemmas.{IsBuilt}
use Rattle.noc_theory.proofs.worms.MemberLemmas.{Has-filter, Has-kept}
use Rattle.noc_theory.proofs.worms.StateWordLemmas.{IsEject, IsKeyed, IsEntering, goal, last_of, far_of, Come, IsHeld, IsRoutedMid}
use Rattle.noc_theory.proofs.worms.PlaceLemmas.{place-stepped, out-landed}
use Rattle.noc_theory.proofs.worms.WormRecordLemmas.{IsWorm, valid-last, valid-first, freed}
use Rattle.noc_theory.proofs.worms.MoveLemmas.{far-link}

module _ (net : Setup) where
  -- the state at the start of a cycle: a channel is routed exactly where its owner's head has come
  -- and its tail is not past it
  pub record IsRoutedWell (S : State) : Type 0 where
    pub mid : IsRoutedMid net S
    pub come : (c : Channel) (p : ℕ) → IsHeld net S c p → Come net p c (head_place net S p) → is_past net c (goal net p) (tail_place net S p) ≡ false → has_channel S.routed c ≡ true

  -- the frozen state: no tail is past an owned channel, or out of an owned ejection channel
  pub record IsRoutedFrozen (S : State) : Type 0 where
    pub mid : IsRoutedMid net S
    pub behind : (c : Channel) (p : ℕ) → IsHeld net S c p → is_past net c (goal net p) (tail_place net S p) ≡ false

  module _ (built : IsBuilt net) where
    past-landed : (p : ℕ) (c : Channel) (x : Place) → is_past net c (goal net p) (landed_place net x) ≡ is_past net c (goal net p) x
    past-landed p c Source = refl
    past-landed p c (On d) = refl
    past-landed p c (In d) = refl
    past-landed p c (Out n) = refl

    come-landed : (p : ℕ) (c : Channel) (x : Place) → Come net p c x → Come net p c (landed_place net x)
    come-landed p c x (inl e) = inl (ap (landed_place net) e)
    come-landed p c x (inr e) = inr (past-landed p c x ∙ e)

    pub routed-landed : (S : State) → IsKeyed net S.at → IsWorm net S.own (place_of_flit net S) → IsRoutedMid net S → IsRoutedMid net (after_landing net S)
    unfolding after_landing
    routed-landed S keyed w m = record {
      only = λ c h. let r = m.only c h in
          let low = w.known c r.0 r.1.0 in
          (r.0, r.1, subst (λ (x : Place). Come net r.0 c x) (sym (head r.0 low)) (come-landed r.0 c (head_place net S r.0) r.2), tail-past c r.0 low ∙ r.3);
      passed = λ c p h a b. let low = w.known c p h.0 in m.passed c p h (sym (head-past c p low) ∙ a) (sym (tail-past c p low) ∙ b);
      leads = λ c p h a b. let low = w.known c p h.0 in m.leads c p h (sym (head-past c p low) ∙ a) (sym (tail-past c p low) ∙ b);
      granted = λ c p h x b. let low = w.known c p h.0 in m.granted c p h x (sym (tail-past c p low) ∙ b);
      eject = λ n v p k h e. m.eject n v p k h (out-landed net (tail_place net S p) k (sym (tail p (w.known (Eject n v) p h)) ∙ e));
    }
      where
        goes : (p i : ℕ) → IsValid net p i → place_of_flit net (after_landing net S) p i ≡ landed_place net (place_of_flit net S p i)
        goes p i v = place-stepped net (λ (f : Located). landed_place net f.place) S (after_landing net S) keyed refl p i v

        head : (p : ℕ) → p < length net.packets → head_place net (after_landing net S) p ≡ landed_place net (head_place net S p)
        head p low = goes p 0 (valid-first net built p low)

        tail : (p : ℕ) → p < length net.packets → tail_place net (after_landing net S) p ≡ landed_place net (tail_place net S p)
        tail p low = goes p (last_of net p) (valid-last net built p low)

        head-past : (c : Channel) (p : ℕ) → p < length net.packets → is_past net c (goal net p) (head_place net (after_landing net S) p) ≡ is_past net c (goal net p) (head_place net S p)
        head-past c p low = ap (is_past net c (goal net p)) (head p low) ∙ past-landed p c (head_place net S p)

        tail-past : (c : Channel) (p : ℕ) → p < length net.packets → is_past net c (goal net p) (tail_place net (after_landing net S) p) ≡ is_past net c (goal net p) (tail_place net S p)
        tail-past c p low = ap (is_past net c (goal net p)) (tail p low) ∙ past-landed p c (tail_place net S p)

    -- ---- phase two

    pub entering-behind : (p : ℕ) (c : Channel) (x : Place) → IsEntering net c x → is_past net c (goal net p) x ≡ false
    entering-behind p c Source h = refl
    entering-behind p c (On d) h = elim h [ ]
    entering-behind p c (In d) h = let e : far_of net p d ≡ far_of net p c = ap (far_of net p) h in le-ltb (far_of net p d) (far_of net p c) (omega arith)
    entering-behind p c (Out n) h = elim h [ ]

    pub past-earlier : (p : ℕ) (c o : Channel) (x : Place) → far_of net p c ≡ far_of net p o + 1 → is_past net o (goal net p) x ≡ true → is_past net c (goal net p) x ≡ true
    past-earlier p c o Source s e = absurd (false≢true e)
    past-earlier p c o (On d) s e = let l : far_of net p d < far_of net p o = ltb-true _ _ e in lt-ltb (far_of net p d) (far_of net p c) (omega arith)
    past-earlier p c o (In d) s e = let l : far_of net p d < far_of net p o = ltb-true _ _ e in lt-ltb (far_of net p d) (far_of net p c) (omega arith)
    past-earlier p c o (Out n) s e = refl

    pub routed-credits : (S : State) → IsKeyed net S.at → IsWorm net S.own (place_of_flit net S) → IsRoutedMid net S → IsRoutedFrozen (after_credits net S)
    unfolding after_credits
    routed-credits S keyed w m = record {
      mid = record {
        only = λ c h. let r = m.only c h in (r.0, (kept c r.0 r.1.0 r.3, r.1.1), r.2, r.3);
        passed = λ c p h a b. m.passed c p (was c p h.0, h.1) a b;
        leads = λ c p h a b. let r = m.leads c p (was c p h.0, h.1) a b in (r.0, next-kept c r.0 p r.1 r.2 b, r.2);
        granted = λ c p h x b. m.granted c p (was c p h.0, h.1) (x.0, was x.0 p x.1, x.2) b;
        eject = λ n v p k h e. m.eject n v p k (was (Eject n v) p h) e;
      };
      behind = λ c p h. behind-at c p h.0 h.1;
    }
      where
        keep : Channel × ℕ → Bool
        keep pair = not (freed net (place_of_flit net S) pair)

        was : (c : Channel) (p : ℕ) → Has (c, p) (after_credits net S).own → Has (c, p) S.own
        was c p h = (Has-filter (λ pair. not (freed net (place_of_flit net S) pair)) (c, p) S.own h).0

        kept : (c : Channel) (p : ℕ) → Has (c, p) S.own → is_past net c (goal net p) (tail_place net S p) ≡ false → Has (c, p) (after_credits net S).own
        kept c p h e = Has-kept (λ pair. not (freed net (place_of_flit net S) pair)) (c, p) S.own h (ap not (and_right _ _ e))

        next-kept : (c o : Channel) (p : ℕ) → Has (o, p) S.own → leads_from net c o ≡ true → is_past net c (goal net p) (tail_place net S p) ≡ false → Has (o, p) (after_credits net S).own
        next-kept c (Link r a v) p h l e = at (is_past net (Link r a v) (goal net p) (tail_place net S p)) refl
          where
            at : (b : Bool) → is_past net (Link r a v) (goal net p) (tail_place net S p) ≡ b → Has (Link r a v, p) (after_credits net S).own
            at false k = kept (Link r a v) p h k
            at true k =
                let far = far-link net built S keyed w p c r a v (record { owns = h; leads = l }) in
                absurd (false≢true (sym e ∙ past-earlier p c (Link r a v) (tail_place net S p) far k))
        next-kept c (Inject n v) p h l e = absurd (false≢true l)
        next-kept c (Eject n v) p h l e = Has-kept (λ pair. not (freed net (place_of_flit net S) pair)) (Eject n v, p) S.own h refl

        behind-at : (c : Channel) (p : ℕ) → Has (c, p) (after_credits net S).own → (IsEject c → ⊥) → is_past net c (goal net p) (tail_place net S p) ≡ false
        behind-at (Link r a v) p h e = not-true _ (Has-filter (λ pair. not (freed net (place_of_flit net S) pair)) (Link r a v, p) S.own h).1
        behind-at (Inject n v) p h e = entering-behind p (Inject n v) (tail_place net S p) (w.entering n v p (was (Inject n v) p h))
        behind-at (Eject n v) p h e = absurd (e tt)
