-- Heads, tails and owners through phase five.
use Rattle.std.proofs.Common.{◌≡◌, ◌≢◌, ℕ, ◌+◌, ◌<◌, ◌≤◌, Bool, true, false, length, Some, None, refl, ap, sym, ◌∙◌, inl, inr, subst, arith}
use Rattle.std.specs.Prelude.{find, option_and_then, ◌⊎◌}
use Rattle.noc_theory.proofs.Common.{false≢true, cases_lt, and_left, true≢false, cases_eq, ltb-true, lt-ltb, le-ltb, ltb-false, same_Some, Channel, Link, Inject, Eject, Setup, tail_place, State, Place, On, In, place_of_flit, is_past, leads_from, owned_by, has_channel, verdict_in, tail_leaves, gone_to, after_verdicts, is_moved, head_place, Granted, Moved, Has, IsValid}
use Rattle.noc_theory.proofs.worms.BuiltRecordLemmas.{IsBuilt}
use Rattle.noc_theory.proofs.worms.MemberLemmas.{find-fails}
use Rattle.noc_theory.proofs.worms.OwnedLemmas.{has-of, owner-has, owner-is}
use Rattle.noc_theory.proofs.worms.StateWordLemmas.{IsEject, IsKeyed, class_of, goal, last_of, far_of, Come, IsHeld, HasNext}
use Rattle.noc_theory.proofs.worms.PathLemmas.{no-inject}
use Rattle.noc_theory.proofs.worms.GrantLemmas.{IsWired, IsGrant}
use Rattle.noc_theory.proofs.worms.WormRecordLemmas.{IsWorm, valid-last, valid-first}
use Rattle.noc_theory.proofs.worms.MoveLemmas.{IsNext, IsFirst, IsMoving, IsMoved, leads-end, no-end-eject, same-far, far-link, far-eject}
use Rattle.noc_theory.proofs.worms.VerdictPhaseLemmas.{goes, tail-of, leaves-tail, kept-left, inject-kept, worm-after_verdicts}
use Rattle.noc_theory.proofs.worms.RoutedRecordLemmas.{IsRoutedFrozen}

module _ (net : Setup) (built : IsBuilt net) (wired : IsWired net) (F : State) (keyed : IsKeyed net F.at) (w : IsWorm net F.own (place_of_flit net F))
    (n : ℕ) (still : (p i : ℕ) → IsValid net p i → (c : Channel) → place_of_flit net F p i ≢ On c) (r : IsRoutedFrozen net F) where
  abbrev pub T : State
  T = after_verdicts net n F

  pub worm : IsWorm net T.own (place_of_flit net T)
  worm = worm-after_verdicts net built wired F keyed w n still

  abbrev pub Moves : ℕ → ℕ → Channel → Channel → Type 0
  Moves p i c o = IsMoving net built F keyed w n still p i c o

  pub step : (p i : ℕ) → IsValid net p i → IsMoved net built F keyed w n still p i
  step p i v = goes net built wired F keyed w n still p i v

  -- what leaves d is past each channel that is as far
  pub past-gone : (c d o : Channel) (p : ℕ) → IsNext net built F keyed w p d o → far_of net p d ≤ far_of net p c → is_past net c (goal net p) (gone_to net n d (Some o)) ≡ true
  past-gone c d (Link a b u) p x l = let f = far-link net built F keyed w p d a b u x in lt-ltb (far_of net p (Link a b u)) (far_of net p c) (omega arith)
  past-gone c d (Inject m u) p x l = absurd (false≢true x.leads)
  past-gone c d (Eject m u) p x l = refl

  -- and past no nearer one
  pub not-past-gone : (c d o : Channel) (p : ℕ) → IsNext net built F keyed w p d o → far_of net p c < far_of net p d → is_past net c (goal net p) (gone_to net n d (Some o)) ≡ false
  not-past-gone c d (Link a b u) p x l = let f = far-link net built F keyed w p d a b u x in le-ltb (far_of net p (Link a b u)) (far_of net p c) (omega arith)
  not-past-gone c d (Inject m u) p x l = absurd (false≢true x.leads)
  not-past-gone c d (Eject m u) p x l = let f = far-eject net built F keyed w p d m u x in absurd (omega arith)

  pub not-in-gone : (c d o : Channel) (p : ℕ) → IsNext net built F keyed w p d o → gone_to net n d (Some o) ≡ In c → ⊥
  not-in-gone c d (Link a b u) p x e = cc e
  not-in-gone c d (Inject m u) p x e = false≢true x.leads
  not-in-gone c d (Eject m u) p x e = cc e

  pub held-moving : (p i : ℕ) (d o : Channel) → Moves p i d o → IsHeld net F d p
  held-moving p i d o m = (m.owns, (let l = leads-end net d o m.next.leads in no-end-eject net d l.0 l.2))

  pub same-held : (c d : Channel) (p : ℕ) → IsHeld net F c p → IsHeld net F d p → far_of net p c ≡ far_of net p d → c ≡ d
  same-held c d p h k e = same-far net built F keyed w p c d h.0 k.0 h.1 k.1 e

  -- ---- heads

  pub come-after : (c : Channel) (p : ℕ) → IsHeld net F c p → Come net p c (head_place net F p) → Come net p c (head_place net T p)
  come-after c p h come = at (step p 0 (valid-first net built p (w.known c p h.0)))
    where
      moving : (d o : Channel) → Moves p 0 d o → Come net p c (In d) → Come net p c (gone_to net n d (Some o))
      moving d o m (inl e) = let s : d ≡ c = cc in let f : far_of net p d ≡ far_of net p c = ap (far_of net p) s in inr (past-gone c d o p m.next (omega arith))
      moving d o m (inr e) = let l : far_of net p d < far_of net p c = ltb-true _ _ e in inr (past-gone c d o p m.next (omega arith))

      at : IsMoved net built F keyed w n still p 0 → Come net p c (head_place net T p)
      at (inl s) = subst (λ (x : Place). Come net p c x) (sym s.now) come
      at (inr m) = subst (λ (x : Place). Come net p c x) (sym m.2.now) (moving m.0 m.1 m.2 (subst (λ (x : Place). Come net p c x) m.2.was come))

  pub come-before : (c : Channel) (p : ℕ) → IsHeld net F c p → Come net p c (head_place net T p) → Come net p c (head_place net F p)
  come-before c p h come = at (step p 0 (valid-first net built p (w.known c p h.0)))
    where
      by_far : (d o : Channel) → Moves p 0 d o → is_past net c (goal net p) (gone_to net n d (Some o)) ≡ true → (far_of net p d ≡ far_of net p c) ⊎ (far_of net p d ≡ far_of net p c → ⊥) → Come net p c (In d)
      by_far d o m e (inl f) = inl (ap In (same-held d c p (held-moving p 0 d o m) h f))
      by_far d o m e (inr f) = nearer (cases_lt (far_of net p c) (far_of net p d))
        where
          nearer : (far_of net p c < far_of net p d) ⊎ (far_of net p d ≤ far_of net p c) → Come net p c (In d)
          nearer (inl l) = absurd (false≢true (sym (not-past-gone c d o p m.next l) ∙ e))
          nearer (inr l) = inr (lt-ltb (far_of net p d) (far_of net p c) (omega arith))

      moving : (d o : Channel) → Moves p 0 d o → Come net p c (gone_to net n d (Some o)) → Come net p c (In d)
      moving d o m (inl e) = absurd (not-in-gone c d o p m.next e)
      moving d o m (inr e) = by_far d o m e (cases_eq (far_of net p d) (far_of net p c))

      at : IsMoved net built F keyed w n still p 0 → Come net p c (head_place net F p)
      at (inl s) = subst (λ (x : Place). Come net p c x) s.now come
      at (inr m) = subst (λ (x : Place). Come net p c x) (sym m.2.was) (moving m.0 m.1 m.2 (subst (λ (x : Place). Come net p c x) m.2.now come))

  -- ---- tails

  -- a tail that does not leave c stays behind its end
  pub behind-after : (c : Channel) (p : ℕ) → IsHeld net F c p → tail_leaves net F c ≡ false → is_past net c (goal net p) (tail_place net T p) ≡ false
  behind-after c p h none = at (step p (last_of net p) last)
    where
      low : p < length net.packets
      low = w.known c p h.0

      last : IsValid net p (last_of net p)
      last = valid-last net built p low

      moving : (d o : Channel) → Moves p (last_of net p) d o → is_past net c (goal net p) (In d) ≡ false → is_past net c (goal net p) (gone_to net n d (Some o)) ≡ false
      moving d o m e = by_far (cases_eq (far_of net p c) (far_of net p d))
        where
          l : far_of net p c ≤ far_of net p d
          l = ltb-false _ _ e

          by_far : (far_of net p c ≡ far_of net p d) ⊎ (far_of net p c ≡ far_of net p d → ⊥) → is_past net c (goal net p) (gone_to net n d (Some o)) ≡ false
          by_far (inl f) =
              let same : c ≡ d = same-held c d p h (held-moving p (last_of net p) d o m) f in
              let t : tail_leaves net F d ≡ true = leaves-tail net built wired F keyed w n still d p low m.moves m.first in
              absurd (false≢true (sym none ∙ ap (tail_leaves net F) same ∙ t))
          by_far (inr f) = let k = l in not-past-gone c d o p m.next (omega arith)

      at : IsMoved net built F keyed w n still p (last_of net p) → is_past net c (goal net p) (tail_place net T p) ≡ false
      at (inl s) = ap (is_past net c (goal net p)) s.now ∙ r.behind c p h
      at (inr m) = ap (is_past net c (goal net p)) m.2.now ∙ moving m.0 m.1 m.2 (ap (is_past net c (goal net p)) (sym m.2.was) ∙ r.behind c p h)

  -- and one that leaves c is past it
  pub past-after : (c : Channel) (p : ℕ) → IsHeld net F c p → tail_leaves net F c ≡ true → is_past net c (goal net p) (tail_place net T p) ≡ true
  past-after c p h e = at (step p (last_of net p) (valid-last net built p (w.known c p h.0)))
    where
      x : (verdict_in net F c ≡ Moved) × IsFirst net built F keyed w c p (last_of net p)
      x = tail-of net built wired F keyed w n still c p h.0 e

      at : IsMoved net built F keyed w n still p (last_of net p) → is_past net c (goal net p) (tail_place net T p) ≡ true
      at (inl s) = absurd (s.not_first c x.0 x.1)
      at (inr m) =
          let z : In m.0 ≡ In c = sym m.2.was ∙ x.1.there in
          let s : m.0 ≡ c = cc in
          let f : far_of net p m.0 ≡ far_of net p c = ap (far_of net p) s in
          ap (is_past net c (goal net p)) m.2.now ∙ past-gone c m.0 m.1 p m.2.next (omega arith)

  pub stays-if : (c : Channel) (p : ℕ) → IsHeld net F c p → is_past net c (goal net p) (tail_place net T p) ≡ false → tail_leaves net F c ≡ false
  stays-if c p h e = at (tail_leaves net F c) refl
    where
      at : (b : Bool) → tail_leaves net F c ≡ b → tail_leaves net F c ≡ false
      at false k = k
      at true k = absurd (false≢true (sym e ∙ past-after c p h k))

  -- ---- owners

  pub kept-held : (c : Channel) (p : ℕ) → IsHeld net F c p → tail_leaves net F c ≡ false → Has (c, p) T.own
  kept-held (Link a b u) p h e = kept-left net built wired F keyed w n still (Link a b u) p h.0 refl
  kept-held (Inject m u) p h e = inject-kept net built wired F keyed w n still m u p h.0 (λ t. true≢false (sym t ∙ e))
  kept-held (Eject m u) p h e = absurd (h.1 tt)

  -- a channel that is granted to p goes on from where its head stands, which stays
  pub record IsGiven (d c : Channel) (p : ℕ) : Type 0 where
    pub held : IsHeld net F d p
    pub here : head_place net T p ≡ In d
    pub routed : has_channel F.routed d ≡ true
    pub stays : tail_leaves net F d ≡ false
    pub leads : leads_from net d c ≡ true

  pub given : (d c : Channel) (p : ℕ) → IsGrant net F d c p → IsGiven d c p
  given d c p g = record { held = held; here = at (step p 0 (valid-first net built p low)); routed = g.routed; stays = and_left _ _ (ap is_moved g.is_verdict); leads = lead }
    where
      lead : leads_from net d c ≡ true
      lead = built.leads (class_of net p) (goal net p) d c g.allowed

      held : IsHeld net F d p
      held = (owner-has net F d p g.holder, (let l = leads-end net d c lead in no-end-eject net d l.0 l.2))

      low : p < length net.packets
      low = w.known d p held.0

      only : (q : ℕ) × IsHeld net F d q × Come net q d (head_place net F q) × (is_past net d (goal net q) (tail_place net F q) ≡ false)
      only = r.mid.only d g.routed

      no_more : HasNext net F d p → ⊥
      no_more x =
          let none : find (leads_from net d) (owned_by net F p) ≡ None = sym (ap (option_and_then (λ q. find (leads_from net d) (owned_by net F q))) g.holder) ∙ g.no_next in
          false≢true (sym (find-fails (leads_from net d) (owned_by net F p) x.0 none (has-of x.0 p F.own x.1)) ∙ x.2)

      head : head_place net F p ≡ In d
      head = of_come (subst (λ (q : ℕ). Come net q d (head_place net F q)) same only.2)
        where
          same : only.0 ≡ p
          same = same_Some only.0 p (sym (owner-is net F d only.0 w.once only.1.0) ∙ g.holder)

          of_come : Come net p d (head_place net F p) → head_place net F p ≡ In d
          of_come (inl e) = e
          of_come (inr e) = absurd (no_more (r.mid.leads d p held e (r.behind d p held)))

      at : IsMoved net built F keyed w n still p 0 → head_place net T p ≡ In d
      at (inl s) = s.now ∙ head
      at (inr m) =
          let z : In m.0 ≡ In d = sym m.2.was ∙ head in
          let s : m.0 ≡ d = cc in
          let v : Moved ≡ Granted = sym m.2.moves ∙ ap (verdict_in net F) s ∙ g.is_verdict in
          absurd (cc v)

  -- the head has not come to what was granted
  pub far-given : (d c : Channel) (p : ℕ) → IsGrant net F d c p → (IsEject c → ⊥) → far_of net p d ≡ far_of net p c + 1
  far-given d (Link a b u) p g e = sym (built.shorter (class_of net p) (goal net p) d a b u g.allowed)
  far-given d (Inject m u) p g e = absurd (no-inject net built (class_of net p) (goal net p) d m u g.allowed)
  far-given d (Eject m u) p g e = absurd (e tt)

  pub not-come : (d c : Channel) (p : ℕ) → IsGrant net F d c p → (IsEject c → ⊥) → Come net p c (head_place net T p) → ⊥
  not-come d c p g e come = at (subst (λ (x : Place). Come net p c x) (given d c p g).here come)
    where
      at : Come net p c (In d) → ⊥
      at (inl s) = let z : d ≡ c = cc in let f : far_of net p d ≡ far_of net p c = ap (far_of net p) z in let k = far-given d c p g e in omega arith
      at (inr s) = let l : far_of net p d < far_of net p c = ltb-true _ _ s in let k = far-given d c p g e in omega arith
