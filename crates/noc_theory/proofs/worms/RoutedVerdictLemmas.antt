-- What is routed through phase five.
use Rattle.std.proofs.Common.{◌≡◌, ◌≢◌, ℕ, ◌+◌, ◌*◌, ◌<◌, ◌≤◌, Bool, true, false, cond, List, [], ◌∷◌, length, Option, Some, None, refl, ap, sym, ◌∙◌, inl, inr, subst, arith}
use Rattle.std.specs.Prelude.{filter, ◌⊎◌, not, nat_lt, ◌&&◌, option_map, unwrap_or, get_or}
use Rattle.noc_theory.proofs.Common.{false≢true, and_left, cases_eq, ltb-true, lt-ltb, not-true, and_from, and_parts, Channel, Link, Inject, Eject, inputs, same_channel, is_link, arrival_of, channel_vc, Claim, Unrouted, verdict_of, Holds, Waits, Round, is_moved, is_routed, Setup, front_in, is_tail_of_packet, tail_place, State, Located, Place, Source, On, In, Out, place_of_flit, is_past, is_in, leads_from, owned_by, next_channel, has_channel, verdict_in, verdict_at, tail_leaves, tail_leaves_to, is_released, gone_to, count_in, claim_of, round_at, after_verdicts, head_place, weight, hops, IsPath, Verdict, Empty, Routed, Granted, LostChannel, Has, is_some_of, IsValid}
use Rattle.noc_theory.proofs.worms.BuiltRecordLemmas.{IsBuilt}
use Rattle.noc_theory.proofs.worms.BufferLemmas.{same_channel-refl, same_channel-true}
use Rattle.noc_theory.proofs.worms.MemberLemmas.{Has-append, Has-left, Has-right, Has-filter, Has-kept, list_any-has, list_any-from}
use Rattle.noc_theory.proofs.worms.OwnedLemmas.{of, of-has, has-of}
use Rattle.noc_theory.proofs.worms.StateWordLemmas.{IsEject, IsKeyed, IsPlaced, IsNear, class_of, goal, last_of, far_of, Come, IsHeld, HasNext}
use Rattle.noc_theory.proofs.worms.PathLemmas.{IsLast, IsBehind, path-behind, no-inject}
use Rattle.noc_theory.proofs.worms.GrantLemmas.{IsWired, IsGrant, grant-last, last-same}
use Rattle.noc_theory.proofs.worms.PlaceLemmas.{flit-there, place-of-flit, is_in-is}
use Rattle.noc_theory.proofs.worms.WormRecordLemmas.{IsWorm, valid-last, valid-first, heavy-not-past}
use Rattle.noc_theory.proofs.worms.MoveLemmas.{IsMoving, IsMoved, far-link, next-once, next-is, placed-in, weight-in}
use Rattle.noc_theory.proofs.worms.VerdictPhaseLemmas.{leaves-tail, kept-left, owned-before, known-after}
use Rattle.noc_theory.proofs.worms.RoomLemmas.{filter-some}
use Rattle.noc_theory.proofs.worms.RoutedRecordLemmas.{IsRoutedFrozen, IsRoutedWell}
use Rattle.noc_theory.proofs.worms.NextLemmas.{leads-far, two-ejects}
use Rattle.noc_theory.proofs.worms.RoutedMoveLemmas.{worm, step, same-held, come-after, come-before, behind-after, stays-if, kept-held, given, far-given, not-come}
use Rattle.noc_theory.proofs.worms.InjectionPhaseLemmas.{light as lighter}

pub is_routed-true : (v : Verdict) → is_routed v ≡ true → v ≡ Routed
is_routed-true Routed e = refl
is_routed-true _ e = absurd (false≢true e)

pub channel-has : (c : Channel) (xs : List Channel) → has_channel xs c ≡ true → Has c xs
channel-has c xs e = let r = list_any-has (same_channel c) xs e in subst (λ (d : Channel). Has d xs) (sym (same_channel-true c r.0 r.2)) r.1

pub has-channel : (c : Channel) (xs : List Channel) → Has c xs → has_channel xs c ≡ true
has-channel c xs h = list_any-from (same_channel c) xs c h (same_channel-refl c)

module _ (net : Setup) (built : IsBuilt net) (wired : IsWired net) (F : State) (keyed : IsKeyed net F.at) (w : IsWorm net F.own (place_of_flit net F))
    (n : ℕ) (still : (p i : ℕ) → IsValid net p i → (c : Channel) → place_of_flit net F p i ≢ On c)
    (r : IsRoutedFrozen net F)
    (covered : (c : Channel) (p : ℕ) → IsHeld net F c p → Has c (inputs net.relation.grid net.relation.vcs))
    (arrives : (c : Channel) → Has c (inputs net.relation.grid net.relation.vcs) → (place : ℕ × ℕ) × (arrival_of net.relation.grid c ≡ Some place)) where
  abbrev T : State
  T = after_verdicts net n F

  abbrev Moves : ℕ → ℕ → Channel → Channel → Type 0
  Moves p i c o = IsMoving net built F keyed w n still p i c o

  -- ---- routed

  routed-kept : (c : Channel) → has_channel F.routed c ≡ true → tail_leaves net F c ≡ false → has_channel T.routed c ≡ true
  unfolding after_verdicts
  routed-kept c h e = has-channel c T.routed (Has-left c (filter (λ d. not (tail_leaves net F d)) F.routed) (filter (λ d. is_routed (verdict_in net F d)) (inputs net.relation.grid net.relation.vcs))
      (Has-kept (λ d. not (tail_leaves net F d)) c F.routed (channel-has c F.routed h) (ap not e)))

  routed-new : (c : Channel) → Has c (inputs net.relation.grid net.relation.vcs) → verdict_in net F c ≡ Routed → has_channel T.routed c ≡ true
  unfolding after_verdicts
  routed-new c h v = has-channel c T.routed (Has-right c (filter (λ d. not (tail_leaves net F d)) F.routed) (filter (λ d. is_routed (verdict_in net F d)) (inputs net.relation.grid net.relation.vcs))
      (Has-kept (λ d. is_routed (verdict_in net F d)) c (inputs net.relation.grid net.relation.vcs) h (ap (is_routed) v)))

  -- a head in the buffer of an unrouted channel is routed
  head-routed : (c : Channel) (p : ℕ) → IsHeld net F c p → has_channel F.routed c ≡ false → head_place net F p ≡ In c → verdict_in net F c ≡ Routed
  head-routed c p h e here =
      let a = arrives c (covered c p h) in
      let some : nat_lt 0 (count_in net F c) ≡ true = lt-ltb 0 (count_in net F c) holds-one in
      let unrouted : claim_of net F a.0.0 c ≡ Unrouted = rw e in
      ap (verdict_at net F c) a.1 ∙ ap (λ (x : Claim). verdict_of net.relation.vcs (round_at net F a.0.0) (a.0.1 * net.relation.vcs + channel_vc c) x (nat_lt 0 (count_in net F c))) unrouted
      ∙ ap (λ (b : Bool). verdict_of net.relation.vcs (round_at net F a.0.0) (a.0.1 * net.relation.vcs + channel_vc c) Unrouted b) some
    where
      holds-one : 0 < count_in net F c
      holds-one = at (filter-some (λ (f : Located). is_in c f.place) F.at)
        where
          member : Has (record { packet = p; index = 0; place = head_place net F p }) F.at
          member = flit-there net F keyed p 0 (valid-first net built p (w.known c p h.0))

          positive : (xs : List Located) (f : Located) → Has f xs → 0 < length xs
          positive [] f k = elim k [ ]
          positive (x ∷ xs) f k = omega arith

          at : (length (filter (λ (f : Located). is_in c f.place) F.at) ≡ 0) ⊎ ((f : Located) × Has f F.at × (is_in c f.place ≡ true)) → 0 < count_in net F c
          at x = positive (filter (λ (f : Located). is_in c f.place) F.at) (record { packet = p; index = 0; place = head_place net F p })
              (Has-kept (λ (f : Located). is_in c f.place) (record { packet = p; index = 0; place = head_place net F p }) F.at member (ap (is_in c) here ∙ same_channel-refl c))

  -- a held channel to which the head has come is routed afterwards, unless the tail leaves it
  routed-after : (c : Channel) (p : ℕ) → IsHeld net F c p → Come net p c (head_place net F p) → tail_leaves net F c ≡ false → has_channel T.routed c ≡ true
  routed-after c p h (inr e) t = routed-kept c (r.mid.passed c p h e (r.behind c p h)) t
  routed-after c p h (inl e) t = at (has_channel F.routed c) refl
    where
      at : (b : Bool) → has_channel F.routed c ≡ b → has_channel T.routed c ≡ true
      at true k = routed-kept c k t
      at false k = routed-new c (covered c p h) (head-routed c p h k e)

  pub come-routed : (c : Channel) (p : ℕ) → IsHeld net T c p → Come net p c (head_place net T p) → is_past net c (goal net p) (tail_place net T p) ≡ false → has_channel T.routed c ≡ true
  come-routed c p h come b = at (owned-before net built wired F keyed w n still c p h.0)
    where
      at : (Has (c, p) F.own × (not (is_released net F (c, p)) ≡ true)) ⊎ ((d : Channel) × IsGrant net F d c p) → has_channel T.routed c ≡ true
      at (inl k) = routed-after c p (k.0, h.1) (come-before net built wired F keyed w n still r c p (k.0, h.1) come) (stays-if net built wired F keyed w n still r c p (k.0, h.1) b)
      at (inr g) = absurd (not-come net built wired F keyed w n still r g.0 c p g.1 h.1 come)

  -- ---- who is routed afterwards

  -- a verdict Routed is of a channel with a flit in its buffer
  routed-holds : (vcs : ℕ) (rd : Round) (i : ℕ) (claim : Claim) (flit : Bool) → verdict_of vcs rd i claim flit ≡ Routed → flit ≡ true
  routed-holds vcs rd i Unrouted true e = refl
  routed-holds vcs rd i Unrouted false e = absurd (cc e)
  routed-holds vcs rd i (Waits None) flit e = absurd (cc e)
  routed-holds vcs rd i (Waits (Some o)) flit e = at (is_some_of (get_or rd.grants o None) i) e
    where
      at : (b : Bool) → cond b Granted LostChannel ≡ Routed → flit ≡ true
      at true k = absurd (cc k)
      at false k = absurd (cc k)
  routed-holds vcs rd i (Holds o c) true e = refl
  routed-holds vcs rd i (Holds o true) false e = absurd (cc e)
  routed-holds vcs rd i (Holds o false) false e = absurd (cc e)

  routed-flit : (c : Channel) → verdict_in net F c ≡ Routed → nat_lt 0 (count_in net F c) ≡ true
  routed-flit c e = at (arrival_of net.relation.grid c) refl
    where
      at : (a : Option (ℕ × ℕ)) → arrival_of net.relation.grid c ≡ a → nat_lt 0 (count_in net F c) ≡ true
      at None h = let g : Empty ≡ Routed = sym (ap (verdict_at net F c) h) ∙ e in absurd (cc g)
      at (Some place) h = routed-holds net.relation.vcs (round_at net F place.0) (place.1 * net.relation.vcs + channel_vc c) (claim_of net F place.0 c) (nat_lt 0 (count_in net F c)) (sym (ap (verdict_at net F c) h) ∙ e)

  -- where a flit is in the buffer of c, the head has come to it
  head-come : (c : Channel) (p i : ℕ) → IsValid net p i → place_of_flit net F p i ≡ In c → IsHeld net F c p → Come net p c (head_place net F p)
  head-come c p i v e h = at (head_place net F p) refl
    where
      first : IsValid net p 0
      first = valid-first net built p v.0

      light : weight net p (head_place net F p) ≤ weight net p (In c)
      light = let o = w.order p 0 i v (omega arith) in let k : weight net p (place_of_flit net F p i) ≡ weight net p (In c) = ap (weight net p) e in omega arith

      here : IsPlaced net F.own p (In c)
      here = subst (λ (x : Place). IsPlaced net F.own p x) e (w.placed p i v)

      top : weight net p (In c) ≤ 3 * far_of net p c + 2
      top = (weight-in net built F keyed w p c here).1

      in_channel : (d : Channel) → head_place net F p ≡ In d → (far_of net p d ≡ far_of net p c) ⊎ (far_of net p d ≡ far_of net p c → ⊥) → Come net p c (In d)
      in_channel d s (inl f) =
          let k = placed-in net built F keyed w p d (subst (λ (x : Place). IsPlaced net F.own p x) s (w.placed p 0 first)) in
          inl (ap In (same-held net built wired F keyed w n still r d c p k h f))
      in_channel d s (inr f) =
          let k = (weight-in net built F keyed w p d (subst (λ (x : Place). IsPlaced net F.own p x) s (w.placed p 0 first))).0 in
          let l = light in let t = top in
          let ws : weight net p (head_place net F p) ≡ weight net p (In d) = ap (weight net p) s in
          inr (lt-ltb (far_of net p d) (far_of net p c) (omega arith))

      at : (x : Place) → head_place net F p ≡ x → Come net p c x
      at Source s =
          let l = light in
          let ws : weight net p (head_place net F p) ≡ 3 * hops net p + 2 = ap (weight net p) s in
          let k = lighter net built F.own (place_of_flit net F) w p (In c) here (λ z. cc z) in absurd (omega arith)
      at (On d) s = absurd (still p 0 first d s)
      at (In d) s = in_channel d s (cases_eq (far_of net p d) (far_of net p c))
      at (Out k) s = inr refl

  only-after : (c : Channel) → has_channel T.routed c ≡ true → (p : ℕ) × IsHeld net T c p × Come net p c (head_place net T p) × (is_past net c (goal net p) (tail_place net T p) ≡ false)
  unfolding after_verdicts
  only-after c e = at (Has-append c (filter (λ d. not (tail_leaves net F d)) F.routed) (filter (λ d. is_routed (verdict_in net F d)) (inputs net.relation.grid net.relation.vcs)) (channel-has c T.routed e))
    where
      whole : (p : ℕ) → IsHeld net F c p → Come net p c (head_place net F p) → tail_leaves net F c ≡ false → (p : ℕ) × IsHeld net T c p × Come net p c (head_place net T p) × (is_past net c (goal net p) (tail_place net T p) ≡ false)
      whole p h come t = (p, (kept-held net built wired F keyed w n still r c p h t, h.1), come-after net built wired F keyed w n still r c p h come, behind-after net built wired F keyed w n still r c p h t)

      new : verdict_in net F c ≡ Routed → (p : ℕ) × IsHeld net T c p × Come net p c (head_place net T p) × (is_past net c (goal net p) (tail_place net T p) ≡ false)
      new v = from (filter-some (λ (f : Located). is_in c f.place) F.at)
        where
          from : (count_in net F c ≡ 0) ⊎ ((f : Located) × Has f F.at × (is_in c f.place ≡ true)) → (p : ℕ) × IsHeld net T c p × Come net p c (head_place net T p) × (is_past net c (goal net p) (tail_place net T p) ≡ false)
          from (inl z) = let l : 0 < count_in net F c = ltb-true _ _ (routed-flit c v) in absurd (omega arith)
          from (inr x) =
              let f : Located = x.0 in
              let there : place_of_flit net F f.packet f.index ≡ In c = place-of-flit net F keyed f x.1 ∙ is_in-is c f.place x.2 in
              let valid = keyed.valid f x.1 in
              let h = placed-in net built F keyed w f.packet c (subst (λ (y : Place). IsPlaced net F.own f.packet y) there (w.placed f.packet f.index valid)) in
              whole f.packet h (head-come c f.packet f.index valid there h) (and_left _ _ (ap is_moved v))

      at : Has c (filter (λ d. not (tail_leaves net F d)) F.routed) ⊎ Has c (filter (λ d. is_routed (verdict_in net F d)) (inputs net.relation.grid net.relation.vcs))
          → (p : ℕ) × IsHeld net T c p × Come net p c (head_place net T p) × (is_past net c (goal net p) (tail_place net T p) ≡ false)
      at (inl k) =
          let f = Has-filter (λ d. not (tail_leaves net F d)) c F.routed k in
          let x = r.mid.only c (has-channel c F.routed f.0) in
          whole x.0 x.1 x.2 (not-true _ f.1)
      at (inr k) = new (is_routed-true _ (Has-filter (λ d. is_routed (verdict_in net F d)) c (inputs net.relation.grid net.relation.vcs) k).1)

  -- ---- next channels

  -- an ejection channel stays its packet's while the tail does not leave the channel before it
  next-stays : (c o : Channel) (p : ℕ) → IsHeld net F c p → Has (o, p) F.own → leads_from net c o ≡ true → tail_leaves net F c ≡ false → Has (o, p) T.own
  next-stays c (Link a b u) p h k l t = kept-left net built wired F keyed w n still (Link a b u) p k refl
  next-stays c (Inject m u) p h k l t = absurd (false≢true l)
  next-stays c (Eject m u) p h k l t = kept-left net built wired F keyed w n still (Eject m u) p k (stays (is_released net F (Eject m u, p)) refl)
    where
      stays : (b : Bool) → is_released net F (Eject m u, p) ≡ b → not b ≡ true
      stays false e = refl
      stays true e =
          let x = list_any-has (tail_leaves_to net F (Eject m u)) (owned_by net F p) e in
          let parts = and_parts (tail_leaves net F x.0) (unwrap_or (option_map (same_channel (Eject m u)) (next_channel net F x.0)) false) x.2 in
          let d_owns : Has (x.0, p) F.own = of-has x.0 p F.own x.1 in
          let nx : next_channel net F x.0 ≡ Some (Eject m u) = named (next_channel net F x.0) parts.1 in
          let same : c ≡ x.0 = next-once net built F keyed w p c x.0 (Eject m u) h.0 d_owns (record { owns = k; leads = l }) (next-is net built F keyed w p x.0 (Eject m u) d_owns nx) in
          absurd (false≢true (sym t ∙ ap (tail_leaves net F) same ∙ parts.0))
        where
          named : (o : Option Channel) → unwrap_or (option_map (same_channel (Eject m u)) o) false ≡ true → o ≡ Some (Eject m u)
          named None z = absurd (false≢true z)
          named (Some y) z = ap Some (sym (same_channel-true (Eject m u) y z))

  leads-after : (c : Channel) (p : ℕ) → IsHeld net T c p → is_past net c (goal net p) (head_place net T p) ≡ true → is_past net c (goal net p) (tail_place net T p) ≡ false → HasNext net T c p
  leads-after c p h a b = at (owned-before net built wired F keyed w n still c p h.0)
    where
      next_of : IsHeld net F c p → tail_leaves net F c ≡ false → HasNext net F c p → HasNext net T c p
      next_of k t x = (x.0, next-stays c x.0 p k x.1 x.2 t, x.2)

      in_here : (k : IsHeld net F c p) → head_place net F p ≡ In c → IsMoved net built F keyed w n still p 0 → HasNext net F c p
      in_here k e (inl s) =
          let z : is_past net c (goal net p) (In c) ≡ true = ap (is_past net c (goal net p)) (sym (s.now ∙ e)) ∙ a in
          let l : far_of net p c < far_of net p c = ltb-true _ _ z in absurd (omega arith)
      in_here k e (inr m) =
          let z : In m.0 ≡ In c = sym m.2.was ∙ e in
          let s : m.0 ≡ c = cc in
          (m.1, m.2.next.owns, subst (λ (d : Channel). leads_from net d m.1 ≡ true) s m.2.next.leads)

      by_come : (k : IsHeld net F c p) → Come net p c (head_place net F p) → HasNext net F c p
      by_come k (inl e) = in_here k e (step net built wired F keyed w n still r p 0 (valid-first net built p (w.known c p k.0)))
      by_come k (inr e) = r.mid.leads c p k e (r.behind c p k)

      at : (Has (c, p) F.own × (not (is_released net F (c, p)) ≡ true)) ⊎ ((d : Channel) × IsGrant net F d c p) → HasNext net T c p
      at (inl k) = next_of (k.0, h.1) (stays-if net built wired F keyed w n still r c p (k.0, h.1) b) (by_come (k.0, h.1) (come-before net built wired F keyed w n still r c p (k.0, h.1) (inr a)))
      at (inr g) = absurd (not-come net built wired F keyed w n still r g.0 c p g.1 h.1 (inr a))

  last-behind : (p : ℕ) (d o : Channel) (xs : List Channel) → IsPath net (class_of net p) (goal net p) xs → IsLast net built (class_of net p) (goal net p) d xs → Has o xs
      → (o ≡ d) ⊎ IsBehind net built (class_of net p) (goal net p) o d
  last-behind p d o [] path last h = elim h [ ]
  last-behind p d o (x ∷ []) path last (inl e) = inl (e ∙ last)
  last-behind p d o (x ∷ []) path last (inr h) = elim h [ ]
  last-behind p d o (x ∷ y ∷ xs) path last (inl e) =
      inr (subst (λ (z : Channel). IsBehind net built (class_of net p) (goal net p) z d) (sym e) (path-behind net built (class_of net p) (goal net p) x (y ∷ xs) path d (last-member (y ∷ xs) last)))
    where
      last-member : (ys : List Channel) → IsLast net built (class_of net p) (goal net p) d ys → Has d ys
      last-member [] k = k
      last-member (a ∷ []) k = inl (sym k)
      last-member (a ∷ b ∷ ys) k = inr (last-member (b ∷ ys) k)
  last-behind p d o (x ∷ y ∷ xs) path last (inr h) = last-behind p d o (y ∷ xs) path.1 last h

  behind-far : (p : ℕ) (o d : Channel) → (IsEject d → ⊥) → IsBehind net built (class_of net p) (goal net p) o d → far_of net p d < far_of net p o
  behind-far p o (Link a b u) e k = k
  behind-far p o (Inject m u) e k = elim k [ ]
  behind-far p o (Eject m u) e k = absurd (e tt)

  -- nothing that p owned begins where a granted channel ends
  no-lead : (d c o : Channel) (p : ℕ) → IsGrant net F d c p → (IsEject c → ⊥) → Has (o, p) F.own → leads_from net c o ≡ true → ⊥
  no-lead d c o p g e k l = at o refl (last-behind p d o (of p F.own) (w.path p) (grant-last net wired F built w.once p (w.path p) d c g) (has-of o p F.own k))
    where
      far : far_of net p d ≡ far_of net p c + 1
      far = far-given net built wired F keyed w n still r d c p g e

      at : (x : Channel) → x ≡ o → (o ≡ d) ⊎ IsBehind net built (class_of net p) (goal net p) o d → ⊥
      at (Link a b u) s (inl z) =
          let f = far-link net built F keyed w p c a b u (record { owns = subst (λ (y : Channel). Has (y, p) F.own) (sym s) k; leads = ap (leads_from net c) s ∙ l }) in
          let q : far_of net p (Link a b u) ≡ far_of net p d = ap (far_of net p) (s ∙ z) in
          let v = far in omega arith
      at (Link a b u) s (inr z) =
          let f = far-link net built F keyed w p c a b u (record { owns = subst (λ (y : Channel). Has (y, p) F.own) (sym s) k; leads = ap (leads_from net c) s ∙ l }) in
          let q : far_of net p (Link a b u) ≡ far_of net p o = ap (far_of net p) s in
          let y = behind-far p o d (given net built wired F keyed w n still r d c p g).held.1 z in
          let v = far in omega arith
      at (Inject m u) s z = false≢true (ap (leads_from net c) s ∙ l)
      at (Eject m u) s (inl z) = (given net built wired F keyed w n still r d c p g).held.1 (subst (λ (y : Channel). IsEject y) (s ∙ z) tt)
      at (Eject m u) s (inr z) =
          let q : far_of net p (Eject m u) ≡ far_of net p o = ap (far_of net p) s in
          let y = behind-far p o d (given net built wired F keyed w n still r d c p g).held.1 z in omega arith

  granted-after : (c : Channel) (p : ℕ) → IsHeld net T c p → HasNext net T c p → is_past net c (goal net p) (tail_place net T p) ≡ false → has_channel T.routed c ≡ true
  granted-after c p h x b = at (owned-before net built wired F keyed w n still c p h.0) (owned-before net built wired F keyed w n still x.0 p x.1)
    where
      at : (Has (c, p) F.own × (not (is_released net F (c, p)) ≡ true)) ⊎ ((d : Channel) × IsGrant net F d c p)
          → (Has (x.0, p) F.own × (not (is_released net F (x.0, p)) ≡ true)) ⊎ ((d : Channel) × IsGrant net F d x.0 p) → has_channel T.routed c ≡ true
      at (inl k) (inl j) = routed-kept c (r.mid.granted c p (k.0, h.1) (x.0, j.0, x.2) (r.behind c p (k.0, h.1))) (stays-if net built wired F keyed w n still r c p (k.0, h.1) b)
      at (inl k) (inr g) =
          let d = given net built wired F keyed w n still r g.0 x.0 p g.1 in
          let same : g.0 ≡ c = same-held net built wired F keyed w n still r g.0 c p d.held (k.0, h.1) (leads-far net built F keyed w p g.0 c x.0 d.leads x.2) in
          subst (λ (y : Channel). has_channel T.routed y ≡ true) same (routed-kept g.0 d.routed d.stays)
      at (inr g) (inl j) = absurd (no-lead g.0 c x.0 p g.1 h.1 j.0 x.2)
      at (inr g) (inr k) =
          let same : g.0 ≡ k.0 = last-same net wired F built w.once p (w.path p) g.0 k.0 (of p F.own)
          (grant-last net wired F built w.once p (w.path p) g.0 c g.1) (grant-last net wired F built w.once p (w.path p) k.0 x.0 k.1) in
          let f = far-given net built wired F keyed w n still r g.0 c p g.1 h.1 in
          let e = leads-far net built F keyed w p c k.0 x.0 x.2 (given net built wired F keyed w n still r k.0 x.0 p k.1).leads in
          let q : far_of net p g.0 ≡ far_of net p k.0 = ap (far_of net p) same in
          absurd (omega arith)

  -- ---- ejection channels

  -- where the tail goes out, its ejection channel is free
  out-frees : (m u p : ℕ) → Has (Eject m u, p) F.own → (d o : Channel) → Moves p (last_of net p) d o → (k : ℕ) → gone_to net n d (Some o) ≡ Out k → is_released net F (Eject m u, p) ≡ true
  out-frees m u p h d (Link a b v) x k e = absurd (cc e)
  out-frees m u p h d (Inject a v) x k e = absurd (false≢true x.next.leads)
  out-frees m u p h d (Eject a v) x k e =
      let same : Eject m u ≡ Eject a v = two-ejects net built F keyed w p m u a v (of p F.own) (w.path p) (has-of (Eject m u) p F.own h) (has-of (Eject a v) p F.own x.next.owns) in
      let t : tail_leaves net F d ≡ true = leaves-tail net built wired F keyed w n still d p (w.known d p x.owns) x.moves x.first in
      let nx : unwrap_or (option_map (same_channel (Eject m u)) (next_channel net F d)) false ≡ true = ap (λ (y : Option Channel). unwrap_or (option_map (same_channel (Eject m u)) y) false) x.goes ∙ ap (same_channel (Eject m u)) (sym same) ∙ same_channel-refl (Eject m u) in
      list_any-from (tail_leaves_to net F (Eject m u)) (owned_by net F p) d (has-of d p F.own x.owns) (and_from _ _ t nx)

  eject-after : (m u p k : ℕ) → Has (Eject m u, p) T.own → tail_place net T p ≡ Out k → ⊥
  eject-after m u p k h e = at (owned-before net built wired F keyed w n still (Eject m u) p h)
    where
      low : p < length net.packets
      low = known-after net built wired F keyed w n still (Eject m u) p h

      still_out : Has (Eject m u, p) F.own → not (is_released net F (Eject m u, p)) ≡ true → IsMoved net built F keyed w n still p (last_of net p) → ⊥
      still_out o f (inl s) = r.mid.eject m u p k o (sym s.now ∙ e)
      still_out o f (inr x) = false≢true (ap not (sym (out-frees m u p o x.0 x.1 x.2 k (sym x.2.now ∙ e))) ∙ f)

      at : (Has (Eject m u, p) F.own × (not (is_released net F (Eject m u, p)) ≡ true)) ⊎ ((d : Channel) × IsGrant net F d (Eject m u) p) → ⊥
      at (inl o) = still_out o.0 o.1 (step net built wired F keyed w n still r p (last_of net p) (valid-last net built p low))
      at (inr g) =
          let d = given net built wired F keyed w n still r g.0 (Eject m u) p g.1 in
          let o = (worm net built wired F keyed w n still r).order p 0 (last_of net p) (valid-last net built p low) (omega arith) in
          let wt : weight net p (tail_place net T p) ≡ 0 = ap (weight net p) e in
          let wh : weight net p (head_place net T p) ≡ weight net p (In g.0) = ap (weight net p) d.here in
          let heavy = (weight-in net built F keyed w p g.0 (placed_here g.0 d.held)).0 in
          omega arith
        where
          placed_here : (c : Channel) → IsHeld net F c p → IsPlaced net F.own p (In c)
          placed_here (Link a b v) q = q.0
          placed_here (Inject a v) q = q.0
          placed_here (Eject a v) q = absurd (q.1 tt)

  pub routed-verdicts : IsRoutedWell net T
  routed-verdicts = record {
    mid = record {
      only = only-after;
      passed = λ c p h a b. come-routed c p h (inr a) b;
      leads = leads-after;
      granted = granted-after;
      eject = eject-after;
    };
    come = come-routed;
  }

  -- an owned link channel whose tail is past it has its credit on the way
  pub backed : (c : Channel) (p : ℕ) → IsHeld net F c p → is_link c ≡ true → is_past net c (goal net p) (tail_place net T p) ≡ true → has_channel T.back c ≡ true
  unfolding after_verdicts inputs
  backed c p h l e = at (tail_leaves net F c) refl
    where
      at : (b : Bool) → tail_leaves net F c ≡ b → has_channel T.back c ≡ true
      at false k = absurd (false≢true (sym (behind-after net built wired F keyed w n still r c p h k) ∙ e))
      at true k =
          has-channel c T.back (Has-kept (λ d. is_link d && is_moved (verdict_in net F d)) c (inputs net.relation.grid net.relation.vcs) (covered c p h)
          (and_from _ _ l (and_parts (is_moved (verdict_in net F c)) (is_tail_of_packet net (front_in net F c)) k).0))

  -- a channel that was granted has its tail behind it
  given-behind : (d c : Channel) (p : ℕ) → IsGrant net F d c p → (IsEject c → ⊥) → Has (c, p) T.own → is_past net c (goal net p) (tail_place net T p) ≡ false
  given-behind d c p g e h =
      let low = known-after net built wired F keyed w n still c p h in
      let x = given net built wired F keyed w n still r d c p g in
      let last = valid-last net built p low in
      let o = (worm net built wired F keyed w n still r).order p 0 (last_of net p) last (omega arith) in
      let wh : weight net p (head_place net T p) ≡ weight net p (In d) = ap (weight net p) x.here in
      let heavy = (weight-in net built F keyed w p d (placed_here d x.held)).0 in
      let far = far-given net built wired F keyed w n still r d c p g e in
      heavy-not-past net T.own p c (tail_place net T p) (λ a k. (worm net built wired F keyed w n still r).near a p k) (nearer c g e ((worm net built wired F keyed w n still r).near c p h)) ((worm net built wired F keyed w n still r).placed p (last_of net p) last) (omega arith)
    where
      placed_here : (a : Channel) → IsHeld net F a p → IsPlaced net F.own p (In a)
      placed_here (Link a b v) q = q.0
      placed_here (Inject a v) q = q.0
      placed_here (Eject a v) q = absurd (q.1 tt)

      nearer : (a : Channel) → IsGrant net F d a p → (IsEject a → ⊥) → IsNear net p a → far_of net p a < hops net p
      nearer (Link a b v) k q y = y.0
      nearer (Inject a v) k q y = absurd (no-inject net built (class_of net p) (goal net p) d a v k.allowed)
      nearer (Eject a v) k q y = absurd (q tt)

  pub backed-after : (c : Channel) (p : ℕ) → IsHeld net T c p → is_link c ≡ true → is_past net c (goal net p) (tail_place net T p) ≡ true → has_channel T.back c ≡ true
  backed-after c p h l e = at (owned-before net built wired F keyed w n still c p h.0)
    where
      at : (Has (c, p) F.own × (not (is_released net F (c, p)) ≡ true)) ⊎ ((d : Channel) × IsGrant net F d c p) → has_channel T.back c ≡ true
      at (inl k) = backed c p (k.0, h.1) l e
      at (inr g) = absurd (false≢true (sym (given-behind g.0 c p g.1 h.1 h.0) ∙ e))
