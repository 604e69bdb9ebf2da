-- Which flits of a packet have come to the buffer of a channel that it holds: the first ones, as
-- the weights of their places tell.
use Rattle.std.proofs.Common.{◌≡◌, ℕ, ◌+◌, ◌*◌, ◌<◌, ◌≤◌, Bool, true, false, refl, ap, sym, ◌∙◌, inl, inr, arith}
use Rattle.std.specs.Prelude.{◌⊎◌, nat_eq, nat_lt, nat_le, ◌||◌}
use Rattle.std.proofs.lemmas.Bool.{lt-leb}
use Rattle.noc_route.proofs.BoolLemmas.{same_test}
use Rattle.noc_theory.proofs.Common.{false≢true, ltb-true, lt-ltb, le-ltb, leb-true, le-leb, cases_eq, or_right, or_left, or_cases, eq-eqb, Has, distance, Channel, Link, Inject, Eject, same_channel, Setup, State, Located, Place, Source, On, In, Out, packet_at, place_of_flit, flits_of, tail_place, has_come, come_count, weight, hops, head_place, IsValid}
use Rattle.noc_theory.proofs.worms.BuiltRecordLemmas.{IsBuilt}
use Rattle.noc_theory.proofs.worms.BufferLemmas.{same_channel-refl, same_channel-true}
use Rattle.noc_theory.proofs.worms.InjectionPhaseLemmas.{two-injects}
use Rattle.noc_theory.proofs.worms.MoveLemmas.{same-far}
use Rattle.noc_theory.proofs.worms.StateWordLemmas.{IsEject, IsKeyed, IsPlaced, goal, last_of, far_of}
use Rattle.noc_theory.proofs.worms.PlaceLemmas.{flit-there}
use Rattle.noc_theory.proofs.worms.MemberLemmas.{Has-kept}
use Rattle.noc_theory.proofs.join.LockstepStepLemmas.{count-zero}
use Rattle.noc_theory.proofs.worms.WormRecordLemmas.{IsWorm, valid-last, valid-first}
use Rattle.noc_theory.proofs.join.KeyLemmas.{count-places}

module _ (net : Setup) (built : IsBuilt net) (S : State) (keyed : IsKeyed net S.at) (w : IsWorm net S.own (place_of_flit net S)) where
  abbrev pub Holds : Channel → ℕ → Type 0
  Holds c p = Has (c, p) S.own × (IsEject c → ⊥)

  -- the greatest weight of a place in the buffer of c or past it
  abbrev pub level : ℕ → Channel → ℕ
  level p (Link r a v) = 3 * far_of net p (Link r a v) + 2
  level p (Inject m v) = 3 * hops net p + 1
  level p (Eject m v) = 0

  far-inject : (p m v : ℕ) → Has (Inject m v, p) S.own → far_of net p (Inject m v) ≡ hops net p
  far-inject p m v h = ap (λ q. distance net.relation.grid q (goal net p)) (w.near (Inject m v) p h)

  abbrev Come : ℕ → Channel → Place → Type 0
  Come p c x = has_come net c (goal net p) x ≡ nat_le (weight net p x) (level p c)

  in-link : (p r a v s b u : ℕ) → Has (Link r a v, p) S.own → Has (Link s b u, p) S.own → Come p (Link r a v) (In (Link s b u))
  in-link p r a v s b u h k =
      same_test _ _ (λ e. by (or_cases (same_channel (Link r a v) (Link s b u)) (nat_lt (far_of net p (Link s b u)) (far_of net p (Link r a v))) e))
      (λ e. let l = leb-true _ _ e in back (cases_eq (far_of net p (Link s b u)) (far_of net p (Link r a v))) l)
    where
      by : (same_channel (Link r a v) (Link s b u) ≡ true) ⊎ (nat_lt (far_of net p (Link s b u)) (far_of net p (Link r a v)) ≡ true) → nat_le (3 * far_of net p (Link s b u) + 2) (3 * far_of net p (Link r a v) + 2) ≡ true
      by (inl e) = let f : far_of net p (Link r a v) ≡ far_of net p (Link s b u) = ap (far_of net p) (same_channel-true (Link r a v) (Link s b u) e) in le-leb _ _ (omega arith)
      by (inr e) = let l = ltb-true _ _ e in le-leb _ _ (omega arith)

      back : (far_of net p (Link s b u) ≡ far_of net p (Link r a v)) ⊎ (far_of net p (Link s b u) ≡ far_of net p (Link r a v) → ⊥) → 3 * far_of net p (Link s b u) + 2 ≤ 3 * far_of net p (Link r a v) + 2
          → (same_channel (Link r a v) (Link s b u) || nat_lt (far_of net p (Link s b u)) (far_of net p (Link r a v))) ≡ true
      back (inl e) l =
          let same : Link r a v ≡ Link s b u = same-far net built S keyed w p (Link r a v) (Link s b u) h k (λ z. z) (λ z. z) (sym e) in
          or_left _ _ (ap (same_channel (Link r a v)) (sym same) ∙ same_channel-refl (Link r a v))
      back (inr e) l = or_right (same_channel (Link r a v) (Link s b u)) _ (lt-ltb _ _ (omega arith))

  pub come-level : (p : ℕ) (c : Channel) (x : Place) → Holds c p → IsPlaced net S.own p x → has_come net c (goal net p) x ≡ nat_le (weight net p x) (level p c)
  come-level p (Eject m v) x h k = absurd (h.1 tt)
  come-level p (Link r a v) Source h k = let n = (w.near (Link r a v) p h.0).0 in sym (lt-leb _ _ (omega arith))
  come-level p (Link r a v) (On (Link s b u)) h k = same_test _ _ (λ e. let l = ltb-true _ _ e in le-leb _ _ (omega arith)) (λ e. let l = leb-true _ _ e in lt-ltb _ _ (omega arith))
  come-level p (Link r a v) (On (Inject m u)) h k = elim k [ ]
  come-level p (Link r a v) (On (Eject m u)) h k = elim k [ ]
  come-level p (Link r a v) (In (Link s b u)) h k = in-link p r a v s b u h.0 k
  come-level p (Link r a v) (In (Inject m u)) h k =
      let n = (w.near (Link r a v) p h.0).0 in
      let f = far-inject p m u k in
      le-ltb _ _ (omega (arith, n, f)) ∙ sym (lt-leb _ _ (omega (arith, n)))
  come-level p (Link r a v) (In (Eject m u)) h k = elim k [ ]
  come-level p (Link r a v) (Out m) h k = sym (le-leb _ _ (omega arith))
  come-level p (Inject r v) Source h k = sym (lt-leb _ _ (omega arith))
  come-level p (Inject r v) (On (Link s b u)) h k =
      let f = far-inject p r v h.0 in
      same_test _ _ (λ e. let l = ltb-true _ _ e in le-leb _ _ (omega (arith, l, f))) (λ e. let l = leb-true _ _ e in lt-ltb _ _ (omega (arith, l, f)))
  come-level p (Inject r v) (On (Inject m u)) h k = elim k [ ]
  come-level p (Inject r v) (On (Eject m u)) h k = elim k [ ]
  come-level p (Inject r v) (In (Link s b u)) h k =
      let f = far-inject p r v h.0 in
      let n = (w.near (Link s b u) p k).0 in
      lt-ltb _ _ (omega (arith, f, n)) ∙ sym (le-leb _ _ (omega (arith, n)))
  come-level p (Inject r v) (In (Inject m u)) h k =
      let same : Inject r v ≡ Inject m u = two-injects net built S.own (place_of_flit net S) w p r v m u h.0 k in
      or_left _ _ (ap (same_channel (Inject r v)) (sym same) ∙ same_channel-refl (Inject r v)) ∙ sym (le-leb _ _ (omega arith))
  come-level p (Inject r v) (In (Eject m u)) h k = elim k [ ]
  come-level p (Inject r v) (Out m) h k = sym (le-leb _ _ (omega arith))

  -- ---- so those that have come are the first ones

  come-at : (p i : ℕ) (c : Channel) → Holds c p → IsValid net p i → has_come net c (goal net p) (place_of_flit net S p i) ≡ nat_le (weight net p (place_of_flit net S p i)) (level p c)
  come-at p i c h v = come-level p c (place_of_flit net S p i) h (w.placed p i v)

  pub come-before : (p i j : ℕ) (c : Channel) → Holds c p → IsValid net p j → i ≤ j → has_come net c (goal net p) (place_of_flit net S p j) ≡ true → has_come net c (goal net p) (place_of_flit net S p i) ≡ true
  come-before p i j c h v l e =
      let u = v.1 in
      let o = w.order p i j v l in
      let m = leb-true _ _ (sym (come-at p j c h v) ∙ e) in
      come-at p i c h (v.0, omega arith) ∙ le-leb _ _ (omega arith)

  pub come-behind : (p i j : ℕ) (c : Channel) → Holds c p → IsValid net p j → i ≤ j → has_come net c (goal net p) (place_of_flit net S p i) ≡ false → has_come net c (goal net p) (place_of_flit net S p j) ≡ false
  come-behind p i j c h v l e = at (has_come net c (goal net p) (place_of_flit net S p j)) refl
    where
      at : (b : Bool) → has_come net c (goal net p) (place_of_flit net S p j) ≡ b → has_come net c (goal net p) (place_of_flit net S p j) ≡ false
      at false k = k
      at true k = absurd (false≢true (sym e ∙ come-before p i j c h v l k))

  -- as many as there are before the first that has not come
  pub count-to : (p k : ℕ) (c : Channel) → Holds c p → IsValid net p k → ((i : ℕ) → i < k → has_come net c (goal net p) (place_of_flit net S p i) ≡ true) → has_come net c (goal net p) (place_of_flit net S p k) ≡ false
      → come_count net S c p ≡ k
  count-to p k c h v front e = let u = v.1 in count-places net S keyed (has_come net c (goal net p)) p k v.0 (omega arith) front (λ i l m. come-behind p k i c h (v.0, m) l e)

  pub count-none : (p : ℕ) (c : Channel) → Holds c p → has_come net c (goal net p) (head_place net S p) ≡ false → come_count net S c p ≡ 0
  count-none p c h e = count-to p 0 c h (valid-first net built p (w.known c p h.0)) (λ i l. absurd (omega arith)) e

  pub count-all : (p : ℕ) (c : Channel) → Holds c p → has_come net c (goal net p) (tail_place net S p) ≡ true → come_count net S c p ≡ (packet_at net p).length
  count-all p c h e =
      let low = w.known c p h.0 in
      let some = built.some_flit p low in
      count-places net S keyed (has_come net c (goal net p)) p (packet_at net p).length low (omega arith) (λ i l. come-before p i (last_of net p) c h (valid-last net built p low) (omega arith) e)
      (λ i l m. absurd (omega arith))

  -- some have come where the head has
  pub count-some : (p : ℕ) (c : Channel) → Holds c p → has_come net c (goal net p) (head_place net S p) ≡ true → (come_count net S c p ≡ 0 → ⊥)
  count-some p c h e z =
      let low = w.known c p h.0 in
      let f : Located = record { packet = p; index = 0; place = head_place net S p } in
      let m : Has f (flits_of net S p) = Has-kept (λ (g : Located). nat_eq p g.packet) f S.at (flit-there net S keyed p 0 (valid-first net built p low)) (eq-eqb p p refl) in
      false≢true (sym (count-zero (λ (g : Located). has_come net c (goal net p) g.place) (flits_of net S p) f z m) ∙ e)
