-- Phase five: the record holds after the verdicts.
use Rattle.std.proofs.Common.{◌≡◌, ◌≢◌, ℕ, ◌+◌, ◌*◌, ◌<◌, ◌≤◌, Bool, true, false, List, length, Option, Some, None, refl, ap, sym, ◌∙◌, inl, inr, subst, arith}
use Rattle.std.specs.Prelude.{filter, ◌⊎◌, not, IsTrue}
use Rattle.noc_theory.proofs.Common.{filter_map, false≢true, cases_eq, eqb-true, eq-eqb, and_parts, and_from, not-true, none-some, same_Some, distance, Channel, Link, Inject, Eject, sending_router, inputs, permits, Setup, State, Located, Place, Source, On, In, Out, packet_at, place_of_flit, front_in, verdict_in, gone_to, is_tail_of_packet, tail_leaves, is_released, granted_pair, end_of, moved_place, after_verdicts, is_moved, weight, hops, Moved, is_moved-true, Has, IsValid}
use Rattle.noc_theory.proofs.worms.BuiltRecordLemmas.{IsBuilt}
use Rattle.noc_theory.proofs.worms.MemberLemmas.{Has-append, Has-left, Has-filter, Has-kept, Has-filter_map}
use Rattle.noc_theory.proofs.worms.OwnedLemmas.{owner-has, once-same}
use Rattle.noc_theory.proofs.worms.StateWordLemmas.{IsEject, IsKeyed, IsPlaced, IsNear, IsEntering, class_of, goal, last_of, far_of}
use Rattle.noc_theory.proofs.worms.PathLemmas.{no-inject}
use Rattle.noc_theory.proofs.worms.PlaceLemmas.{keyed-stepped}
use Rattle.noc_theory.proofs.worms.GrantLemmas.{IsWired, IsGrant, granted-is, once-after_verdicts, path-after_verdicts}
use Rattle.noc_theory.proofs.worms.WormRecordLemmas.{IsWorm, valid-last, valid-first, valid-below}
use Rattle.noc_theory.proofs.worms.InjectionPhaseLemmas.{light}
use Rattle.noc_theory.proofs.worms.MoveLemmas.{IsFirst, IsMoving, IsStaying, IsMoved, moved-or-not, first-is, weight-gone, weight-in, placed-in, same-far, next-no-eject, leads-end, end-far, no-end-eject}

module _ (net : Setup) (built : IsBuilt net) (wired : IsWired net) (F : State) (keyed : IsKeyed net F.at) (w : IsWorm net F.own (place_of_flit net F))
    (n : ℕ) (still : (p i : ℕ) → IsValid net p i → (c : Channel) → place_of_flit net F p i ≢ On c) where
  abbrev pub T : State
  T = after_verdicts net n F

  abbrev pub at : ℕ → ℕ → Place
  at p i = place_of_flit net F p i

  abbrev pub to : ℕ → ℕ → Place
  to p i = place_of_flit net T p i

  abbrev pub kept : List (Channel × ℕ)
  kept = filter (λ pair. not (is_released net F pair)) F.own

  abbrev pub grants : List (Channel × ℕ)
  grants = filter_map (granted_pair net F) (inputs net.relation.grid net.relation.vcs)

  abbrev pub Moving : ℕ → ℕ → Channel → Channel → Type 0
  Moving p i c o = IsMoving net built F keyed w n still p i c o

  abbrev pub Staying : ℕ → ℕ → Type 0
  Staying p i = IsStaying net built F keyed w n still p i

  abbrev pub Goes : ℕ → ℕ → Type 0
  Goes p i = IsMoved net built F keyed w n still p i

  pub goes : (p i : ℕ) → IsValid net p i → Goes p i
  goes p i v = moved-or-not net built F keyed w n still p i v

  -- ---- order

  pub weight-moving : (p i : ℕ) (c o : Channel) → Moving p i c o → weight net p (to p i) ≡ 3 * far_of net p c
  weight-moving p i c o m = ap (weight net p) m.now ∙ weight-gone net built F keyed w n p c o m.next

  pub weight-was : (p i : ℕ) (c o : Channel) → IsValid net p i → Moving p i c o → (3 * far_of net p c + 1 ≤ weight net p (at p i)) × (weight net p (at p i) ≤ 3 * far_of net p c + 2)
  weight-was p i c o v m = subst (λ (x : Place). (3 * far_of net p c + 1 ≤ weight net p x) × (weight net p x ≤ 3 * far_of net p c + 2)) (sym m.was) (weight-in net built F keyed w p c (subst (λ (x : Place). IsPlaced net F.own p x) m.was (w.placed p i v)))

  -- a flit that stays before one that moves from c is past c
  ahead : (p i j : ℕ) (c o : Channel) → IsValid net p j → i < j → Moving p j c o → (x : Place) → at p i ≡ x → weight net p x ≤ 3 * far_of net p c
  ahead p i j c o v l m x e = cases x e
    where
      vi : IsValid net p i
      vi = let vj = v.1 in (v.0, omega arith)

      wj : (3 * far_of net p c + 1 ≤ weight net p (at p j)) × (weight net p (at p j) ≤ 3 * far_of net p c + 2)
      wj = weight-was p j c o v m

      below : weight net p (at p i) ≤ weight net p (at p j)
      below = w.order p i j v (omega arith)

      placed : (x : Place) → at p i ≡ x → IsPlaced net F.own p x
      placed x e = subst (λ (y : Place). IsPlaced net F.own p y) e (w.placed p i vi)

      cases : (x : Place) → at p i ≡ x → weight net p x ≤ 3 * far_of net p c
      cases Source e =
          let wi : weight net p (at p i) ≡ 3 * hops net p + 2 = ap (weight net p) e in
          let lj = light net built F.own (place_of_flit net F) w p (at p j) (w.placed p j v) (λ s. let z : In c ≡ Source = sym m.was ∙ s in cc z) in
          let b = below in
          absurd (omega arith)
      cases (On d) e = absurd (still p i vi d e)
      cases (Out k) e = omega arith
      cases (In d) e =
          let wi : weight net p (at p i) ≡ weight net p (In d) = ap (weight net p) e in
          let wd = weight-in net built F keyed w p d (placed (In d) e) in
          let lower : (3 * far_of net p d + 1 ≤ weight net p (In d)) = wd.0 in
          let upper : (weight net p (In d) ≤ 3 * far_of net p d + 2) = wd.1 in
          let top : (weight net p (at p j) ≤ 3 * far_of net p c + 2) = wj.1 in
          let mine = placed-in net built F keyed w p d (placed (In d) e) in
          let apart : far_of net p d ≡ far_of net p c → ⊥
          = λ f. let same : d ≡ c = same-far net built F keyed w p d c mine.0 m.owns mine.1 (next-no-eject net built F keyed w p c o m.next) f in
          let least = m.first.least i vi (e ∙ ap In same) in omega arith in
          nearer (cases_eq (far_of net p d) (far_of net p c)) apart lower upper top wi
        where
          nearer : (far_of net p d ≡ far_of net p c) ⊎ (far_of net p d ≡ far_of net p c → ⊥) → (far_of net p d ≡ far_of net p c → ⊥)
              → 3 * far_of net p d + 1 ≤ weight net p (In d) → weight net p (In d) ≤ 3 * far_of net p d + 2 → weight net p (at p j) ≤ 3 * far_of net p c + 2
              → weight net p (at p i) ≡ weight net p (In d) → weight net p (In d) ≤ 3 * far_of net p c
          nearer (inl f) apart lower upper top wi = absurd (apart f)
          nearer (inr f) apart lower upper top wi = let b = below in omega arith

  order-moved : (p i j : ℕ) → IsValid net p j → i ≤ j → weight net p (to p i) ≤ weight net p (to p j)
  order-moved p i j v l = cases (goes p i vi) (goes p j v)
    where
      vi : IsValid net p i
      vi = valid-below net built p i j v l

      below : weight net p (at p i) ≤ weight net p (at p j)
      below = w.order p i j v l

      stays_before : (c o : Channel) → Moving p j c o → Staying p i → (i ≡ j) ⊎ (i ≡ j → ⊥) → weight net p (to p i) ≤ weight net p (to p j)
      stays_before c o m s (inl e) = let same : weight net p (to p i) ≡ weight net p (to p j) = ap (λ x. weight net p (to p x)) e in omega arith
      stays_before c o m s (inr e) =
          let wi : weight net p (to p i) ≡ weight net p (at p i) = ap (weight net p) s.now in
          let wj = weight-moving p j c o m in
          let a = ahead p i j c o v (omega arith) m (at p i) refl in
          omega arith

      cases : Goes p i → Goes p j → weight net p (to p i) ≤ weight net p (to p j)
      cases (inl s) (inl t) =
          let wi : weight net p (to p i) ≡ weight net p (at p i) = ap (weight net p) s.now in
          let wj : weight net p (to p j) ≡ weight net p (at p j) = ap (weight net p) t.now in
          let b = below in omega arith
      cases (inl s) (inr r) = stays_before r.0 r.1 r.2 s (cases_eq i j)
      cases (inr r) (inl t) =
          let wi = weight-moving p i r.0 r.1 r.2 in
          let wa = (weight-was p i r.0 r.1 vi r.2).0 in
          let wj : weight net p (to p j) ≡ weight net p (at p j) = ap (weight net p) t.now in
          let b = below in omega arith
      cases (inr r) (inr u) =
          let wi = weight-moving p i r.0 r.1 r.2 in
          let wj = weight-moving p j u.0 u.1 u.2 in
          let wa = (weight-was p i r.0 r.1 vi r.2).0 in
          let wb = (weight-was p j u.0 u.1 v u.2).1 in
          let b = below in omega arith

  -- ---- owners

  -- a tail leaves the buffer of a channel of p exactly where it is that of p
  pub tail-of : (c : Channel) (p : ℕ) → Has (c, p) F.own → tail_leaves net F c ≡ true → (verdict_in net F c ≡ Moved) × IsFirst net built F keyed w c p (last_of net p)
  tail-of c p h e =
      let parts = and_parts (is_moved (verdict_in net F c)) (is_tail_of_packet net (front_in net F c)) e in
      (is_moved-true _ parts.0, named (front_in net F c) refl parts.1)
    where
      named : (o : Option Located) → front_in net F c ≡ o → is_tail_of_packet net o ≡ true → IsFirst net built F keyed w c p (last_of net p)
      named None f t = absurd (false≢true t)
      named (Some g) f t =
          let x = first-is net built F keyed w c g f in
          let owns : Has (c, g.packet) F.own = (placed-in net built F keyed w g.packet c (subst (λ (y : Place). IsPlaced net F.own g.packet y) x.there (w.placed g.packet g.index x.valid))).0 in
          let same : ◌≡◌ {A = Channel × ℕ} (c, g.packet) (c, p) = once-same (c, g.packet) (c, p) F.own w.once owns h refl in
          let is_p : g.packet ≡ p = ap (λ (y : Channel × ℕ). y.1) same in
          let len : g.index + 1 ≡ (packet_at net g.packet).length = eqb-true _ _ t in
          let len' : g.index + 1 ≡ (packet_at net p).length = len ∙ ap (λ y. (packet_at net y).length) is_p in
          let is_last : g.index ≡ last_of net p = omega arith in
          subst (λ (y : ℕ). IsFirst net built F keyed w c p y) is_last (subst (λ (y : ℕ). IsFirst net built F keyed w c y g.index) is_p x)

  pub leaves-tail : (c : Channel) (p : ℕ) → p < length net.packets → verdict_in net F c ≡ Moved → IsFirst net built F keyed w c p (last_of net p) → tail_leaves net F c ≡ true
  leaves-tail c p low m f =
      let v = (valid-last net built p low).1 in
      let len : last_of net p + 1 ≡ (packet_at net p).length = omega arith in
      let len' : f.flit.index + 1 ≡ (packet_at net f.flit.packet).length = ap (λ x. x + 1) f.index_is ∙ len ∙ ap (λ x. (packet_at net x).length) (sym f.packet_is) in
      and_from _ _ (ap is_moved m) (ap (is_tail_of_packet net) f.found ∙ eq-eqb _ _ len')

  pub kept-left : (c : Channel) (p : ℕ) → Has (c, p) F.own → not (is_released net F (c, p)) ≡ true → Has (c, p) T.own
  unfolding after_verdicts
  kept-left c p h k = Has-left (c, p) kept grants (Has-kept (λ pair. not (is_released net F pair)) (c, p) F.own h k)

  -- an injection channel is kept while its tail does not leave
  pub inject-kept : (m v p : ℕ) → Has (Inject m v, p) F.own → (tail_leaves net F (Inject m v) ≡ true → ⊥) → Has (Inject m v, p) T.own
  inject-kept m v p h none = kept-left (Inject m v) p h (stays (tail_leaves net F (Inject m v)) none)
    where
      stays : (b : Bool) → (b ≡ true → ⊥) → not b ≡ true
      stays true k = absurd (k refl)
      stays false k = refl

  -- what T owns is of F, or granted
  pub owned-before : (c : Channel) (p : ℕ) → Has (c, p) T.own
      → (Has (c, p) F.own × (not (is_released net F (c, p)) ≡ true)) ⊎ ((d : Channel) × IsGrant net F d c p)
  unfolding after_verdicts
  owned-before c p h = cases (Has-append (c, p) kept grants h)
    where
      cases : Has (c, p) kept ⊎ Has (c, p) grants → (Has (c, p) F.own × (not (is_released net F (c, p)) ≡ true)) ⊎ ((d : Channel) × IsGrant net F d c p)
      cases (inl k) = inl (Has-filter (λ pair. not (is_released net F pair)) (c, p) F.own k)
      cases (inr k) = let r = Has-filter_map (granted_pair net F) (c, p) (inputs net.relation.grid net.relation.vcs) k in inr (r.0, granted-is net F r.0 c p r.2)

  pub known-after : (c : Channel) (p : ℕ) → Has (c, p) T.own → p < length net.packets
  known-after c p h = cases (owned-before c p h)
    where
      cases : (Has (c, p) F.own × (not (is_released net F (c, p)) ≡ true)) ⊎ ((d : Channel) × IsGrant net F d c p) → p < length net.packets
      cases (inl k) = w.known c p k.0
      cases (inr r) = w.known r.0 p (owner-has net F r.0 p r.1.holder)

  -- how far a channel that waits is
  waiting-far : (c : Channel) (p : ℕ) → Has (c, p) F.own → (IsEject c → ⊥) → far_of net p c ≤ hops net p
  waiting-far (Link r a v) p h e = let k = (w.near (Link r a v) p h).0 in omega arith
  waiting-far (Inject m v) p h e = let k : far_of net p (Inject m v) ≡ hops net p = ap (λ x. distance net.relation.grid x (goal net p)) (w.near (Inject m v) p h) in omega arith
  waiting-far (Eject m v) p h e = absurd (e tt)

  near-granted : (c o : Channel) (p : ℕ) → IsGrant net F c o p → IsNear net p o
  near-granted c o p g = named o refl (leads-end net c o (built.leads _ _ c o g.allowed))
    where
      owns : Has (c, p) F.own
      owns = owner-has net F c p g.holder

      arrives : IsEject c → ⊥
      arrives = no-end-eject net c (leads-end net c o (built.leads _ _ c o g.allowed)).0 (leads-end net c o (built.leads _ _ c o g.allowed)).2

      named : (x : Channel) → x ≡ o → ((r : ℕ) × (sending_router o ≡ Some r) × (end_of net.relation c ≡ Some r)) → IsNear net p o
      named (Link r a v) e l =
          let same : l.0 ≡ r = same_Some l.0 r (sym l.1 ∙ ap sending_router (sym e)) in
          let far : far_of net p c ≡ distance net.relation.grid r (goal net p) = end-far net c l.0 (goal net p) l.2 ∙ ap (λ y. distance net.relation.grid y (goal net p)) same in
          let step = built.shorter (class_of net p) (goal net p) c r a v (subst (λ (y : Channel). IsTrue (permits net.relation (class_of net p) c (goal net p) y)) (sym e) g.allowed) in
          let top = waiting-far c p owns arrives in
          subst (λ (y : Channel). IsNear net p y) e (omega arith, omega arith)
      named (Inject m v) e l = absurd (none-some l.0 (ap sending_router e ∙ l.1))
      named (Eject m v) e l =
          let same : l.0 ≡ m = same_Some l.0 m (sym l.1 ∙ ap sending_router (sym e)) in
          let far : far_of net p c ≡ distance net.relation.grid m (goal net p) = end-far net c l.0 (goal net p) l.2 ∙ ap (λ y. distance net.relation.grid y (goal net p)) same in
          let home = built.home (class_of net p) (goal net p) c m v (subst (λ (y : Channel). IsTrue (permits net.relation (class_of net p) c (goal net p) y)) (sym e) g.allowed) in
          subst (λ (y : Channel). IsNear net p y) e (sym far ∙ home)

  pub near-after : (c : Channel) (p : ℕ) → Has (c, p) T.own → IsNear net p c
  near-after c p h = cases (owned-before c p h)
    where
      cases : (Has (c, p) F.own × (not (is_released net F (c, p)) ≡ true)) ⊎ ((d : Channel) × IsGrant net F d c p) → IsNear net p c
      cases (inl k) = w.near c p k.0
      cases (inr r) = near-granted r.0 c p r.1

  -- an injection channel is not granted
  pub inject-before : (m v p : ℕ) → Has (Inject m v, p) T.own → Has (Inject m v, p) F.own × (tail_leaves net F (Inject m v) ≡ false)
  inject-before m v p h = cases (owned-before (Inject m v) p h)
    where
      cases : (Has (Inject m v, p) F.own × (not (is_released net F (Inject m v, p)) ≡ true)) ⊎ ((d : Channel) × IsGrant net F d (Inject m v) p) → Has (Inject m v, p) F.own × (tail_leaves net F (Inject m v) ≡ false)
      cases (inl k) = (k.0, not-true _ k.1)
      cases (inr r) = absurd (no-inject net built (class_of net p) (goal net p) r.0 m v r.1.allowed)

  -- ---- places

  placed-to : (p i : ℕ) (c o : Channel) → Moving p i c o → IsPlaced net T.own p (gone_to net n c (Some o))
  placed-to p i c (Link r a v) m = kept-left (Link r a v) p m.next.owns refl
  placed-to p i c (Inject k v) m = absurd (false≢true m.next.leads)
  placed-to p i c (Eject k v) m = tt

  placed-stays : (p i : ℕ) (x : Place) → IsValid net p i → at p i ≡ x → Staying p i → IsPlaced net F.own p x → IsPlaced net T.own p x
  placed-stays p i Source v e s h = tt
  placed-stays p i (On c) v e s h = absurd (still p i v c e)
  placed-stays p i (In (Link r a u)) v e s h = kept-left (Link r a u) p h refl
  placed-stays p i (In (Inject k u)) v e s h =
      inject-kept k u p h (λ t.
      let x = tail-of (Inject k u) p h t in
      let l = v.1 in
      let least = x.1.least i v e in
      let same : last_of net p ≡ i = omega arith in
      s.not_first (Inject k u) x.0 (subst (λ (y : ℕ). IsFirst net built F keyed w (Inject k u) p y) same x.1))
  placed-stays p i (In (Eject k u)) v e s h = elim h [ ]
  placed-stays p i (Out k) v e s h = tt

  placed-after : (p i : ℕ) → IsValid net p i → IsPlaced net T.own p (to p i)
  placed-after p i v = cases (goes p i v)
    where
      cases : Goes p i → IsPlaced net T.own p (to p i)
      cases (inl s) = subst (λ (x : Place). IsPlaced net T.own p x) (sym s.now) (placed-stays p i (at p i) v refl s (w.placed p i v))
      cases (inr r) = subst (λ (x : Place). IsPlaced net T.own p x) (sym r.2.now) (placed-to p i r.0 r.1 r.2)

  entering-after : (m v p : ℕ) → Has (Inject m v, p) T.own → IsEntering net (Inject m v) (to p (last_of net p))
  entering-after m v p h = cases (goes p (last_of net p) last)
    where
      before : Has (Inject m v, p) F.own × (tail_leaves net F (Inject m v) ≡ false)
      before = inject-before m v p h

      low : p < length net.packets
      low = w.known (Inject m v) p before.0

      last : IsValid net p (last_of net p)
      last = valid-last net built p low

      leaves : (c o : Channel) → Moving p (last_of net p) c o → IsEntering net (Inject m v) (at p (last_of net p)) → ⊥
      leaves c o x e =
          let same : c ≡ Inject m v = subst (λ (y : Place). IsEntering net (Inject m v) y) x.was e in
          let t : tail_leaves net F c ≡ true = leaves-tail c p low x.moves x.first in
          false≢true (sym before.1 ∙ ap (tail_leaves net F) (sym same) ∙ t)

      cases : Goes p (last_of net p) → IsEntering net (Inject m v) (to p (last_of net p))
      cases (inl s) = subst (λ (x : Place). IsEntering net (Inject m v) x) (sym s.now) (w.entering m v p before.0)
      cases (inr r) = absurd (leaves r.0 r.1 r.2 (w.entering m v p before.0))

  -- what is at its source was there
  pub source-before : (p i : ℕ) → IsValid net p i → to p i ≡ Source → at p i ≡ Source
  source-before p i v e = cases (goes p i v)
    where
      no_source : (c o : Channel) → gone_to net n c (Some o) ≡ Source → ⊥
      no_source c (Link r a u) z = cc z
      no_source c (Inject k u) z = cc z
      no_source c (Eject k u) z = cc z

      cases : Goes p i → at p i ≡ Source
      cases (inl s) = sym s.now ∙ e
      cases (inr r) = absurd (no_source r.0 r.1 (sym r.2.now ∙ e))

  pub source-after : (p i : ℕ) → IsValid net p i → at p i ≡ Source → to p i ≡ Source
  source-after p i v e = cases (goes p i v)
    where
      cases : Goes p i → to p i ≡ Source
      cases (inl s) = s.now ∙ e
      cases (inr r) = let z : In r.0 ≡ Source = sym r.2.was ∙ e in absurd (cc z)

  begun-after : (c : Channel) (p : ℕ) → Has (c, p) T.own → to p 0 ≢ Source
  begun-after c p h e = cases (owned-before c p h)
    where
      head : at p 0 ≡ Source
      head = source-before p 0 (valid-first net built p (known-after c p h)) e

      cases : (Has (c, p) F.own × (not (is_released net F (c, p)) ≡ true)) ⊎ ((d : Channel) × IsGrant net F d c p) → ⊥
      cases (inl k) = w.begun c p k.0 head
      cases (inr r) = w.begun r.0 p (owner-has net F r.0 p r.1.holder) head

  holds-after : (p : ℕ) → p < length net.packets → to p 0 ≢ Source → to p (last_of net p) ≡ Source → (v : ℕ) × Has (Inject (packet_at net p).source v, p) T.own
  holds-after p low b s =
      let tail : at p (last_of net p) ≡ Source = source-before p (last_of net p) (valid-last net built p low) s in
      let r = w.holds p low (λ z. b (source-after p 0 (valid-first net built p low) z)) tail in (
        r.0,
        inject-kept (packet_at net p).source r.0 p r.1 (λ t.
            let x = tail-of (Inject (packet_at net p).source r.0) p r.1 t in
            let z : In (Inject (packet_at net p).source r.0) ≡ Source = sym x.1.there ∙ tail in cc z),
      )

  pub worm-after_verdicts : IsWorm net T.own (place_of_flit net T)
  worm-after_verdicts = record {
    once = once-after_verdicts net wired F n w.once;
    path = λ p. path-after_verdicts net wired F built w.once p (w.path p) n;
    known = known-after;
    near = near-after;
    placed = placed-after;
    order = order-moved;
    entering = entering-after;
    begun = begun-after;
    holds = holds-after;
  }

  pub keyed-after_verdicts : IsKeyed net T.at
  unfolding after_verdicts
  keyed-after_verdicts = keyed-stepped net (λ (f : Located). moved_place net F n f f.place) F.at keyed
