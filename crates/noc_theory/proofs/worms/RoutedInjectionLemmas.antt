-- What is routed through phase three.
use Rattle.std.proofs.Common.{◌≡◌, ℕ, ◌<◌, true, false, List, length, ap, sym, ◌∙◌, inl, inr, subst, arith}
use Rattle.std.specs.Prelude.{◌⊎◌}
use Rattle.noc_theory.proofs.Common.{false≢true, cases_eq, le-ltb, distance, Channel, Link, Inject, Eject, Setup, tail_place, Injection, State, Place, Source, In, Out, packet_at, place_of_flit, is_past, leads_from, after_injection, has_channel, head_place, hops, Has}
use Rattle.noc_theory.proofs.worms.BuiltRecordLemmas.{IsBuilt}
use Rattle.noc_theory.proofs.worms.MemberLemmas.{Has-append, Has-left, Has-right}
use Rattle.noc_theory.proofs.worms.StateWordLemmas.{IsEject, IsKeyed, IsNear, goal, last_of, far_of, Come, IsHeld, HasNext}
use Rattle.noc_theory.proofs.worms.WormRecordLemmas.{IsWorm, valid-last, valid-first}
use Rattle.noc_theory.proofs.worms.InjectionPhaseLemmas.{apart-same, IsEnteredBy, IsInjected, news, new-entry, new-fresh}
use Rattle.noc_theory.proofs.worms.InjectionStateLemmas.{entries-move, entries-are, entries-apart, all_entries, worm-after_injection}
use Rattle.noc_theory.proofs.worms.RoutedRecordLemmas.{IsRoutedFrozen, entering-behind}

module _ (net : Setup) (built : IsBuilt net) (S : State) (keyed : IsKeyed net S.at) (w : IsWorm net S.own (place_of_flit net S)) (n : ℕ) (r : IsRoutedFrozen net S) where
  abbrev pub T : State
  T = after_injection net n S

  abbrev Moves : ℕ → Type 0
  Moves p = IsInjected net built S.own (place_of_flit net S) w (all_entries net built S keyed w n) (entries-are net built S keyed w n) (entries-apart net built S keyed w n) (place_of_flit net T) p

  abbrev Enters : ℕ → Injection net → Type 0
  Enters p one = IsEnteredBy net built S.own (place_of_flit net S) w (all_entries net built S keyed w n) (entries-are net built S keyed w n) (entries-apart net built S keyed w n) (place_of_flit net T) p one

  after : IsWorm net T.own (place_of_flit net T)
  after = worm-after_injection net built S keyed w n

  abbrev pub added : List (Channel × ℕ)
  added = news net built S.own (place_of_flit net S) w (all_entries net built S keyed w n) (entries-are net built S keyed w n) (entries-apart net built S keyed w n) (place_of_flit net T)

  pub is-new : (c : Channel) (p : ℕ) → Has (c, p) added → (one : Injection net) × Has one (all_entries net built S keyed w n) × (one.begins ≡ true) × (one.channel ≡ c) × (one.packet ≡ p)
  is-new c p h = new-entry net built S.own (place_of_flit net S) w (all_entries net built S keyed w n) (entries-are net built S keyed w n) (entries-apart net built S keyed w n) (place_of_flit net T) c p h

  fresh : (c : Channel) (p : ℕ) → Has (c, p) added → (d : Channel) → Has (d, p) S.own → ⊥
  fresh c p h = (new-fresh net built S.own (place_of_flit net S) w (all_entries net built S keyed w n) (entries-are net built S keyed w n) (entries-apart net built S keyed w n) (place_of_flit net T) c p h).1

  -- what is new is an injection channel
  is-inject : (c : Channel) (p : ℕ) → Has (c, p) added → (m : ℕ) × (v : ℕ) × (c ≡ Inject m v)
  is-inject c p h =
      let x = is-new c p h in
      let e = entries-are net built S keyed w n x.0 x.1 in
      (e.0, e.1.vc, sym x.3 ∙ e.1.channel)

  left : (c : Channel) (p : ℕ) → Has (c, p) S.own → Has (c, p) T.own
  unfolding after_injection
  left c p h = Has-left (c, p) S.own added h

  -- the head of a packet that owned a channel is where it was
  head-same : (c : Channel) (p : ℕ) → Has (c, p) S.own → head_place net T p ≡ head_place net S p
  head-same c p h = at (entries-move net built S keyed w n p low)
    where
      low : p < length net.packets
      low = w.known c p h

      entered : (one : Injection net) → (e : Enters p one) → (0 ≡ e.flit) ⊎ (0 ≡ e.flit → ⊥) → head_place net T p ≡ head_place net S p
      entered one e (inl s) = absurd (w.begun c p h (ap (place_of_flit net S p) s ∙ e.was))
      entered one e (inr s) = e.others 0 (valid-first net built p low) s

      at : Moves p → head_place net T p ≡ head_place net S p
      at (inl s) = s.0 0 (valid-first net built p low)
      at (inr x) = entered x.0 x.3 (cases_eq 0 x.3.flit)

  -- the head of a packet that is new stands on its channel
  head-new : (c : Channel) (p : ℕ) → Has (c, p) added → head_place net T p ≡ In c
  unfolding after_injection
  head-new c p h = at (entries-move net built S keyed w n p low)
    where
      low : p < length net.packets
      low = after.known c p (Has-right (c, p) S.own added h)

      x : (one : Injection net) × Has one (all_entries net built S keyed w n) × (one.begins ≡ true) × (one.channel ≡ c) × (one.packet ≡ p)
      x = is-new c p h

      waits : place_of_flit net S p (last_of net p) ≡ Source
      waits = ap (λ y. place_of_flit net S y (last_of net y)) (sym x.4) ∙ (entries-are net built S keyed w n x.0 x.1).1.waits

      entered : (one : Injection net) → Has one (all_entries net built S keyed w n) → one.packet ≡ p → (e : Enters p one) → (0 ≡ e.flit) ⊎ (0 ≡ e.flit → ⊥) → head_place net T p ≡ In c
      entered one m q e (inl s) =
          let same : one ≡ x.0 = apart-same net one x.0 (all_entries net built S keyed w n) (entries-apart net built S keyed w n) m x.1 (q ∙ sym x.4) in
          ap (place_of_flit net T p) s ∙ e.now ∙ ap In (ap (λ (y : Injection net). y.channel) same ∙ x.3)
      entered one m q e (inr s) =
          let y = w.holds p low (e.first 0 (omega arith)) waits in
          absurd (fresh c p h (Inject (packet_at net p).source y.0) y.1)

      at : Moves p → head_place net T p ≡ In c
      at (inl s) = absurd (s.1 x.0 x.1 x.4)
      at (inr y) = entered y.0 y.1 y.2 y.3 (cases_eq 0 y.3.flit)

  -- a tail is where it was, or in an injection channel of its source
  tail-same : (p : ℕ) → p < length net.packets → (tail_place net T p ≡ tail_place net S p) ⊎ ((v : ℕ) × (tail_place net T p ≡ In (Inject (packet_at net p).source v)))
  tail-same p low = at (entries-move net built S keyed w n p low)
    where
      entered : (one : Injection net) → Has one (all_entries net built S keyed w n) → one.packet ≡ p → (e : Enters p one) → (last_of net p ≡ e.flit) ⊎ (last_of net p ≡ e.flit → ⊥)
          → (tail_place net T p ≡ tail_place net S p) ⊎ ((v : ℕ) × (tail_place net T p ≡ In (Inject (packet_at net p).source v)))
      entered one m q e (inl s) =
          let x = entries-are net built S keyed w n one m in
          inr (x.1.vc, ap (place_of_flit net T p) s ∙ e.now ∙ ap In (x.1.channel ∙ ap (λ y. Inject y x.1.vc) (x.1.from ∙ ap (λ y. (packet_at net y).source) q)))
      entered one m q e (inr s) = inl (e.others (last_of net p) (valid-last net built p low) s)

      at : Moves p → (tail_place net T p ≡ tail_place net S p) ⊎ ((v : ℕ) × (tail_place net T p ≡ In (Inject (packet_at net p).source v)))
      at (inl s) = inl (s.0 (last_of net p) (valid-last net built p low))
      at (inr x) = entered x.0 x.1 x.2 x.3 (cases_eq (last_of net p) x.3.flit)

  -- a place in an injection channel of the source is not past a channel of the packet
  inject-behind : (c : Channel) (p v : ℕ) → IsNear net p c → (IsEject c → ⊥) → is_past net c (goal net p) (In (Inject (packet_at net p).source v)) ≡ false
  inject-behind (Link a b u) p v near e = let l = near.0 in le-ltb (hops net p) (far_of net p (Link a b u)) (omega arith)
  inject-behind (Inject m u) p v near e =
      let f : far_of net p (Inject m u) ≡ hops net p = ap (λ x. distance net.relation.grid x (goal net p)) near in
      le-ltb (hops net p) (far_of net p (Inject m u)) (omega arith)
  inject-behind (Eject m u) p v near e = absurd (e tt)

  behind-kept : (c : Channel) (p : ℕ) → IsHeld net S c p → is_past net c (goal net p) (tail_place net T p) ≡ false
  behind-kept c p h = at (tail-same p (w.known c p h.0))
    where
      at : (tail_place net T p ≡ tail_place net S p) ⊎ ((v : ℕ) × (tail_place net T p ≡ In (Inject (packet_at net p).source v))) → is_past net c (goal net p) (tail_place net T p) ≡ false
      at (inl e) = ap (is_past net c (goal net p)) e ∙ r.behind c p h
      at (inr e) = ap (is_past net c (goal net p)) e.1 ∙ inject-behind c p e.0 (w.near c p h.0) h.1

  -- a new channel is not passed
  not-passed : (c : Channel) (p : ℕ) → Has (c, p) added → is_past net c (goal net p) (head_place net T p) ≡ false
  not-passed c p h = ap (is_past net c (goal net p)) (head-new c p h) ∙ le-ltb (far_of net p c) (far_of net p c) (omega arith)

  pub split : (c : Channel) (p : ℕ) → Has (c, p) T.own → Has (c, p) S.own ⊎ Has (c, p) added
  unfolding after_injection
  split c p h = Has-append (c, p) S.own added h

  pub routed-injection : IsRoutedFrozen net T
  unfolding after_injection
  routed-injection = record {
    mid = record {
      only = λ c h.
          let x = r.mid.only c h in
          (x.0, (left c x.0 x.1.0, x.1.1), subst (λ (y : Place). Come net x.0 c y) (sym (head-same c x.0 x.1.0)) x.2, behind-kept c x.0 x.1);
      passed = λ c p h a b. passed-at c p h.1 a (split c p h.0);
      leads = λ c p h a b. leads-at c p h.1 a (split c p h.0);
      granted = λ c p h x b. granted-at c p h.1 x.0 x.2 (split c p h.0) (split x.0 p x.1);
      eject = λ m v p k h e. eject-at m v p k e (split (Eject m v) p h);
    };
    behind = λ c p h. behind-at c p h.1 (split c p h.0);
  }
    where
      passed-at : (c : Channel) (p : ℕ) → (IsEject c → ⊥) → is_past net c (goal net p) (head_place net T p) ≡ true → Has (c, p) S.own ⊎ Has (c, p) added → has_channel S.routed c ≡ true
      passed-at c p e a (inl h) = r.mid.passed c p (h, e) (ap (is_past net c (goal net p)) (sym (head-same c p h)) ∙ a) (r.behind c p (h, e))
      passed-at c p e a (inr h) = absurd (false≢true (sym (not-passed c p h) ∙ a))

      leads-at : (c : Channel) (p : ℕ) → (IsEject c → ⊥) → is_past net c (goal net p) (head_place net T p) ≡ true → Has (c, p) S.own ⊎ Has (c, p) added → HasNext net T c p
      leads-at c p e a (inl h) = let x = r.mid.leads c p (h, e) (ap (is_past net c (goal net p)) (sym (head-same c p h)) ∙ a) (r.behind c p (h, e)) in (x.0, left x.0 p x.1, x.2)
      leads-at c p e a (inr h) = absurd (false≢true (sym (not-passed c p h) ∙ a))

      granted-at : (c : Channel) (p : ℕ) → (IsEject c → ⊥) → (o : Channel) → leads_from net c o ≡ true → Has (c, p) S.own ⊎ Has (c, p) added → Has (o, p) S.own ⊎ Has (o, p) added → has_channel S.routed c ≡ true
      granted-at c p e o l (inl h) (inl k) = r.mid.granted c p (h, e) (o, k, l) (r.behind c p (h, e))
      granted-at c p e o l (inr h) (inl k) = absurd (fresh c p h o k)
      granted-at c p e o l x (inr k) = let i = is-inject o p k in absurd (false≢true (sym (ap (leads_from net c) i.2) ∙ l))

      eject-at : (m v p k : ℕ) → tail_place net T p ≡ Out k → Has (Eject m v, p) S.own ⊎ Has (Eject m v, p) added → ⊥
      eject-at m v p k e (inr h) = let i = is-inject (Eject m v) p h in let z : Eject m v ≡ Inject i.0 i.1 = i.2 in cc z
      eject-at m v p k e (inl h) = at (tail-same p (w.known (Eject m v) p h))
        where
          at : (tail_place net T p ≡ tail_place net S p) ⊎ ((u : ℕ) × (tail_place net T p ≡ In (Inject (packet_at net p).source u))) → ⊥
          at (inl s) = r.mid.eject m v p k h (sym s ∙ e)
          at (inr s) = let z : In (Inject (packet_at net p).source s.0) ≡ Out k = sym s.1 ∙ e in cc z

      behind-at : (c : Channel) (p : ℕ) → (IsEject c → ⊥) → Has (c, p) S.own ⊎ Has (c, p) added → is_past net c (goal net p) (tail_place net T p) ≡ false
      behind-at c p e (inl h) = behind-kept c p (h, e)
      behind-at c p e (inr h) =
          let i = is-inject c p h in
          let owns : Has (Inject i.0 i.1, p) T.own = subst (λ (d : Channel). Has (d, p) T.own) i.2 (Has-right (c, p) S.own added h) in
          subst (λ (d : Channel). is_past net d (goal net p) (tail_place net T p) ≡ false) (sym i.2) (entering-behind net built p (Inject i.0 i.1) (tail_place net T p) (after.entering i.0 i.1 p owns))
