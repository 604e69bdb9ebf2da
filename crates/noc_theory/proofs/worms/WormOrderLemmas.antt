-- Worm order at the start of every cycle and in every frozen state, of
-- every network that was built.
use Rattle.std.proofs.Common.{◌≡◌, ℕ, ◌+◌, ◌-◌, ◌<◌, ◌≤◌, true, List, [], ◌∷◌, length, Some, refl, ap, sym, ◌∙◌, inl, inr, subst, arith}
use Rattle.std.specs.Prelude.{◌⊎◌, IsTrue, if◌then◌else◌}
use Rattle.noc_theory.proofs.Common.{false≢true, lt-ltb, Has, Channel, Link, Inject, Eject, is_link, Setup, State, Located, Place, Source, On, In, Out, place_of_flit, tail_place, count_in, count_on, credit_of, has_channel, owner_of, owned_by, is_past, packet_at, all_inputs, buffer_of, is_in, state_at, frozen_at, IsPath, IsWellFormedSetup, slots_taken}
use Rattle.noc_theory.specs.Worm.{IsWormOrder, IsRear}
use Rattle.noc_theory.proofs.worms.BuiltRecordLemmas.{IsBuilt}
use Rattle.noc_theory.proofs.worms.BuiltLemmas.{good-built, good-wired, good-covering}
use Rattle.noc_theory.proofs.worms.OwnedLemmas.{of-has, has-of, owner-is}
use Rattle.noc_theory.proofs.worms.StateWordLemmas.{IsEject, IsKeyed, IsPlaced, IsEntering, class_of, goal, last_of, far_of, IsHeld}
use Rattle.noc_theory.proofs.worms.PathLemmas.{IsBehind, path-behind, ends-at-eject}
use Rattle.noc_theory.proofs.worms.MemberLemmas.{Has-filter}
use Rattle.noc_theory.proofs.worms.PlaceLemmas.{is_in-is, place-of-flit}
use Rattle.noc_theory.proofs.worms.WormRecordLemmas.{IsWorm, valid-last}
use Rattle.noc_theory.proofs.worms.MoveLemmas.{placed-in}
use Rattle.noc_theory.proofs.worms.UnmixedLemmas.{unmixed-buffer}
use Rattle.noc_theory.proofs.worms.RoutedStateLemmas.{IsCovered, IsWhole, IsWholeFrozen, whole-state, whole-frozen_state}

module _ (net : Setup) (built : IsBuilt net) (S : State) (keyed : IsKeyed net S.at) (w : IsWorm net S.own (place_of_flit net S)) where
  -- a flit on a wire is on a link channel that its packet owns
  pub on-own : (f : Located) (c : Channel) → Has f S.at → f.place ≡ On c → IsTrue (is_link c) × (owner_of net S c ≡ Some f.packet)
  on-own f c h e =
      let v = keyed.valid f h in
      let there : place_of_flit net S f.packet f.index ≡ On c = place-of-flit net S keyed f h ∙ e in
      owned c (subst (λ (x : Place). IsPlaced net S.own f.packet x) there (w.placed f.packet f.index v))
    where
      owned : (d : Channel) → IsPlaced net S.own f.packet (On d) → IsTrue (is_link d) × (owner_of net S d ≡ Some f.packet)
      owned (Link r a v) p = (refl, owner-is net S (Link r a v) f.packet w.once p)
      owned (Inject n v) p = elim p [ ]
      owned (Eject n v) p = elim p [ ]

  placed-on : (p : ℕ) (d : Channel) → IsPlaced net S.own p (On d) → Has (d, p) S.own × (IsEject d → ⊥)
  placed-on p (Link r a v) k = (k, (λ z. z))
  placed-on p (Inject n v) k = elim k [ ]
  placed-on p (Eject n v) k = elim k [ ]

  module _ (past : (c : Channel) (p : ℕ) → IsHeld net S c p → is_link c ≡ true → is_past net c (goal net p) (tail_place net S p) ≡ true → has_channel S.back c ≡ true)
      (eject : (n v p k : ℕ) → Has (Eject n v, p) S.own → tail_place net S p ≡ Out k → ⊥) (covered : IsCovered net S) where
    -- the tail of a packet stands at the rear of its path
    pub rear-of : (p : ℕ) (c : Channel) (rest : List Channel) → p < length net.packets → owned_by net S p ≡ c ∷ rest → IsRear net S p c (tail_place net S p)
    rear-of p c rest low e = cases c (tail_place net S p) path e refl (w.placed p (last_of net p) (valid-last net built p low))
      where
        path : IsPath net (class_of net p) (goal net p) (c ∷ rest)
        path = subst (λ (xs : List Channel). IsPath net (class_of net p) (goal net p) xs) e (w.path p)

        member : (d : Channel) → owned_by net S p ≡ d ∷ rest → (x : Channel) → Has (x, p) S.own → Has x (d ∷ rest)
        member d f x h = subst (λ (xs : List Channel). Has x xs) f (has-of x p S.own h)

        first : (d : Channel) → owned_by net S p ≡ d ∷ rest → Has (d, p) S.own
        first d f = of-has d p S.own (subst (λ (xs : List Channel). Has d xs) (sym f) (inl refl))

        -- an owned channel is the first, or nearer to the destination
        nearer : (d x : Channel) → IsPath net (class_of net p) (goal net p) (d ∷ rest) → owned_by net S p ≡ d ∷ rest → Has (x, p) S.own × (IsEject x → ⊥) → (x ≡ d) ⊎ (far_of net p x < far_of net p d)
        nearer d x q f h = at (member d f x h.0)
          where
            link : (y : Channel) → (IsEject y → ⊥) → IsBehind net built (class_of net p) (goal net p) d y → far_of net p y < far_of net p d
            link (Link r a v) n b = b
            link (Inject m v) n b = elim b [ ]
            link (Eject m v) n b = absurd (n tt)

            at : Has x (d ∷ rest) → (x ≡ d) ⊎ (far_of net p x < far_of net p d)
            at (inl s) = inl s
            at (inr k) = inr (link x h.1 (path-behind net built (class_of net p) (goal net p) d rest q x k))

        -- no injection channel is behind another
        inject-first : (d : Channel) (n v : ℕ) → IsPath net (class_of net p) (goal net p) (d ∷ rest) → owned_by net S p ≡ d ∷ rest → Has (Inject n v, p) S.own → Inject n v ≡ d
        inject-first d n v q f h = at (member d f (Inject n v) h)
          where
            at : Has (Inject n v) (d ∷ rest) → Inject n v ≡ d
            at (inl s) = s
            at (inr k) = absurd (path-behind net built (class_of net p) (goal net p) d rest q (Inject n v) k)

        -- an ejection channel that is the first is the only one
        alone : (n v : ℕ) (x : Channel) → IsPath net (class_of net p) (goal net p) (Eject n v ∷ rest) → owned_by net S p ≡ Eject n v ∷ rest → Has (x, p) S.own → x ≡ Eject n v
        alone n v x q f h = at (member (Eject n v) f x h)
          where
            after : (ys : List Channel) → IsPath net (class_of net p) (goal net p) (Eject n v ∷ ys) → Has x ys → x ≡ Eject n v
            after [] r k = elim k [ ]
            after (y ∷ ys) r k = absurd (ends-at-eject net built (class_of net p) (goal net p) (Eject n v) y tt r.0)

            at : Has x (Eject n v ∷ rest) → x ≡ Eject n v
            at (inl s) = s
            at (inr k) = after rest q k

        source : (d : Channel) → owned_by net S p ≡ d ∷ rest → tail_place net S p ≡ Source → (v : ℕ) × Has (Inject (packet_at net p).source v, p) S.own
        source d f s = w.holds p low (w.begun d p (first d f)) s

        gone : (r a v : ℕ) (x : Place) → owned_by net S p ≡ Link r a v ∷ rest → tail_place net S p ≡ x → is_past net (Link r a v) (goal net p) x ≡ true → IsRear net S p (Link r a v) x
        gone r a v x f s e =
            let back : has_channel S.back (Link r a v) ≡ true = past (Link r a v) p (first (Link r a v) f, (λ z. z)) refl (ap (is_past net (Link r a v) (goal net p)) s ∙ e) in
            inr (inr (e, back))

        no_eject : (n v : ℕ) (x : Channel) → IsPath net (class_of net p) (goal net p) (Eject n v ∷ rest) → owned_by net S p ≡ Eject n v ∷ rest → Has (x, p) S.own × (IsEject x → ⊥) → ⊥
        no_eject n v x q f h = h.1 (subst (λ (y : Channel). IsEject y) (sym (alone n v x q f h.0)) tt)

        cases : (d : Channel) (x : Place) → IsPath net (class_of net p) (goal net p) (d ∷ rest) → owned_by net S p ≡ d ∷ rest → tail_place net S p ≡ x → IsPlaced net S.own p x → IsRear net S p d x
        cases (Inject n v) Source q f s k = tt
        cases (Inject n v) (On d) q f s k = absurd (subst (λ (x : Place). IsEntering net (Inject n v) x) s (w.entering n v p (first (Inject n v) f)))
        cases (Inject n v) (In d) q f s k = inl (ap In (subst (λ (x : Place). IsEntering net (Inject n v) x) s (w.entering n v p (first (Inject n v) f))))
        cases (Inject n v) (Out m) q f s k = absurd (subst (λ (x : Place). IsEntering net (Inject n v) x) s (w.entering n v p (first (Inject n v) f)))
        cases (Link r a v) Source q f s k =
            let b = source (Link r a v) f s in
            let z = inject-first (Link r a v) (packet_at net p).source b.0 q f b.1 in
            absurd (cc z)
        cases (Link r a v) (On d) q f s k = at (nearer (Link r a v) d q f (placed-on p d k))
          where
            at : (d ≡ Link r a v) ⊎ (far_of net p d < far_of net p (Link r a v)) → IsRear net S p (Link r a v) (On d)
            at (inl e) = inr (inl (ap On e))
            at (inr l) = gone r a v (On d) f s (lt-ltb _ _ l)
        cases (Link r a v) (In d) q f s k = at (nearer (Link r a v) d q f (placed-in net built S keyed w p d k))
          where
            at : (d ≡ Link r a v) ⊎ (far_of net p d < far_of net p (Link r a v)) → IsRear net S p (Link r a v) (In d)
            at (inl e) = inl (ap In e)
            at (inr l) = gone r a v (In d) f s (lt-ltb _ _ l)
        cases (Link r a v) (Out m) q f s k = gone r a v (Out m) f s refl
        cases (Eject n v) Source q f s k =
            let b = source (Eject n v) f s in
            let z = alone n v (Inject (packet_at net p).source b.0) q f b.1 in
            absurd (cc z)
        cases (Eject n v) (On d) q f s k = absurd (no_eject n v d q f (placed-on p d k))
        cases (Eject n v) (In d) q f s k = absurd (no_eject n v d q f (placed-in net built S keyed w p d k))
        cases (Eject n v) (Out m) q f s k = absurd (eject n v p m (first (Eject n v) f) s)

    -- a flit in a buffer is in that of an input channel, since its packet owns it
    in-input : (c : Channel) → (buffer_of net S c ≡ []) ⊎ Has c (all_inputs net)
    in-input c = at (buffer_of net S c) refl
      where
        at : (fs : List Located) → buffer_of net S c ≡ fs → (buffer_of net S c ≡ []) ⊎ Has c (all_inputs net)
        at [] e = inl e
        at (f ∷ fs) e =
            let m = Has-filter (λ (g : Located). is_in c g.place) f S.at (subst (λ (gs : List Located). Has f gs) (sym e) (inl refl)) in
            let there : place_of_flit net S f.packet f.index ≡ In c = place-of-flit net S keyed f m.0 ∙ is_in-is c f.place m.1 in
            let placed = subst (λ (x : Place). IsPlaced net S.own f.packet x) there (w.placed f.packet f.index (keyed.valid f m.0)) in
            inr (covered c f.packet (placed-in net built S keyed w f.packet c placed))

    pub worm_order-from : ((c : Channel) → count_in net S c ≤ net.depth) → IsWormOrder net S
    worm_order-from room = record {
      path = λ p l. w.path p;
      one_owner = w.once;
      rear = rear-of;
      in_order = λ p i j l le v. w.order p i j (l, v) le;
      on_own = on-own;
      in_depth = room;
      in_input = in-input;
      unmixed = unmixed-buffer net built S keyed w;
    }

module _ (net : Setup) (good : IsWellFormedSetup net) where
  -- the whole invariant at the start of each cycle
  pub whole-at : (n : ℕ) → IsWhole net (state_at net n)
  whole-at n = whole-state net (good-built net good) (good-wired net good) (good-covering net good) n

  -- and in each frozen state
  pub whole-frozen_at : (n : ℕ) → IsWholeFrozen net (frozen_at net n)
  whole-frozen_at n = whole-frozen_state net (good-built net good) (good-wired net good) (good-covering net good) n

  pub worm_order-at : (n : ℕ) → IsWormOrder net (state_at net n)
  worm_order-at n =
      let x = whole-at n in
      worm_order-from net (good-built net good) (state_at net n) x.sound.keyed x.sound.worm x.backed x.routed.mid.eject x.covered (λ c. let r = x.sound.room c in omega arith)

  pub worm_order-frozen_at : (n : ℕ) → IsWormOrder net (frozen_at net n)
  worm_order-frozen_at n =
      let x = whole-frozen_at n in
      worm_order-from net (good-built net good) (frozen_at net n) x.sound.keyed x.sound.worm
      (λ c p h l e. absurd (false≢true (sym (x.routed.behind c p h) ∙ e))) x.routed.mid.eject x.covered x.sound.room

  -- what is on the wire, in the buffer and on its way back is never more than the slots of a
  -- buffer, at the start of each cycle
  pub held-at : (n : ℕ) (c : Channel) → slots_taken net (state_at net n) c ≤ net.depth
  held-at n c = (whole-at n).sound.room c

  -- and the credits are all that is left
  pub credit-at : (n : ℕ) (c : Channel) → credit_of net (state_at net n) c + slots_taken net (state_at net n) c ≡ net.depth
  credit-at n c =
      rest (count_on net (state_at net n) c) (count_in net (state_at net n) c) (if has_channel (state_at net n).back c then 1 else 0) (held-at n c)
    where
      rest : (a b k : ℕ) → a + b + k ≤ net.depth → (net.depth - a - b - k) + (a + b + k) ≡ net.depth
      rest a b k l = omega arith
