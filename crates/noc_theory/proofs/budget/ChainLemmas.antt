-- The worms of a frozen state are chains along which flits can follow: who owns what, where flits
-- are and what is routed gives it.
use Rattle.std.proofs.Common.{false, ◌≡◌, [], ℕ, ◌+◌, ◌*◌, ◌<◌, ◌≤◌, Bool, true, List, ◌∷◌, length, Some, refl, ap, sym, ◌∙◌, arith, inl, inr, subst}
use Rattle.std.specs.Prelude.{filter, find, nat_eq, ◌&&◌, IsTrue}
use Rattle.noc_theory.proofs.Common.{list_any, false≢true, and_from, and_parts, eq-eqb, eqb-true, le-ltb, Has, below, Channel, Link, Inject, Eject, end_distance, Setup, State, Located, Place, Source, On, In, Out, packet_at, place_of_flit, tail_place, owner_of, owned_by, next_channel, leads_from, has_channel, first_waiting, flits_of, is_at_source, is_past, count_in, is_in, is_injection_of, weight, hops, IsPath, IsValid, permits, distance}
use Rattle.noc_theory.proofs.worms.BuiltRecordLemmas.{IsBuilt}
use Rattle.noc_theory.proofs.worms.MemberLemmas.{Pairs-filter, Has-filter, Has-kept, list_any-from, list_any-has, find-some}
use Rattle.noc_theory.proofs.worms.OwnedLemmas.{of, of-has, has-of, once-same, owner-is, owner-has}
use Rattle.noc_theory.proofs.worms.StateWordLemmas.{far_of, IsEject, IsKeyed, IsPlaced, class_of, goal, last_of, Precedes, IsEntering}
use Rattle.noc_theory.proofs.worms.PathLemmas.{IsBehind, path-behind, path-tail, no-inject}
use Rattle.noc_theory.proofs.worms.PlaceLemmas.{place-of-flit, flit-there, at_source-is}
use Rattle.noc_theory.proofs.worms.WormRecordLemmas.{IsWorm, valid-last}
use Rattle.noc_theory.proofs.worms.MoveLemmas.{next-is, next-no-eject, placed-in, far-link, same-far}
use Rattle.noc_theory.proofs.worms.OpeningLemmas.{below-rises, below-has}
use Rattle.noc_theory.proofs.worms.FirstOfNodeLemmas.{IsQueued, least_by-first}
use Rattle.noc_theory.proofs.worms.RoutedStateLemmas.{IsWholeFrozen}
use Rattle.noc_theory.proofs.worms.GrantLemmas.{IsWired}
use Rattle.noc_theory.proofs.worms.CameLemmas.{IsLed}
use Rattle.noc_theory.proofs.worms.OptionLemmas.{and_then-some}
use Rattle.noc_theory.proofs.worms.GrantLemmas.{Has-below}
use Rattle.noc_theory.proofs.budget.HasLemmas.{least-some, find-has}
use Rattle.noc_theory.proofs.budget.WormLemmas.{is_input}
use Rattle.noc_theory.proofs.budget.WormChainLemmas.{Came, IsChain}
use Rattle.noc_theory.proofs.worms.NextLemmas.{next-from}
use Rattle.noc_theory.proofs.worms.SourceOfLemmas.{has-source}
use Rattle.noc_theory.proofs.worms.BufferLemmas.{same_channel-refl}
use Rattle.noc_theory.proofs.worms.InjectionStateLemmas.{least_by-has}

pub input-of : (c : Channel) → (IsEject c → ⊥) → is_input c ≡ true
input-of (Link r q v) n = refl
input-of (Inject m v) n = refl
input-of (Eject m v) n = absurd (n tt)

-- of two that precede each other, both are one
precedes-same : (key : ℕ → ℕ) (x y : ℕ) → Precedes key x y → Precedes key y x → x ≡ y
precedes-same key x y (inl a) (inl b) = absurd (omega arith)
precedes-same key x y (inl a) (inr b) = let e = b.0 in absurd (omega arith)
precedes-same key x y (inr a) (inl b) = let e = a.0 in absurd (omega arith)
precedes-same key x y (inr a) (inr b) = let l = a.1 in let k = b.1 in omega arith

-- a place that weighs as much as the source is the source
source-heavy : (net : Setup) (own : List (Channel × ℕ)) (at : ℕ → ℕ → Place) → IsWorm net own at → (p : ℕ) (x : Place) → IsPlaced net own p x → 3 * hops net p + 2 ≤ weight net p x → x ≡ Source
source-heavy net own at w p Source k l = refl
source-heavy net own at w p (On (Link r a v)) k l = let n = (w.near (Link r a v) p k).0 in absurd (omega arith)
source-heavy net own at w p (On (Inject m v)) k l = absurd k
source-heavy net own at w p (On (Eject m v)) k l = absurd k
source-heavy net own at w p (In (Link r a v)) k l = let n = (w.near (Link r a v) p k).0 in absurd (omega arith)
source-heavy net own at w p (In (Inject m v)) k l = absurd (omega arith)
source-heavy net own at w p (In (Eject m v)) k l = absurd k
source-heavy net own at w p (Out m) k l = absurd (omega arith)

module _ (net : Setup) (built : IsBuilt net) (F : State) (whole : IsWholeFrozen net F) where
  abbrev worm : IsWorm net F.own (place_of_flit net F)
  worm = whole.sound.worm

  abbrev keyed : IsKeyed net F.at
  keyed = whole.sound.keyed

  pub one-owner : (c : Channel) (p q : ℕ) → Has (c, p) F.own → Has (c, q) F.own → p ≡ q
  one-owner c p q h k = ap (λ (pair : Channel × ℕ). pair.1) (once-same (c, p) (c, q) F.own worm.once h k refl)

  -- a channel with a next one is routed
  pub next-routed : (c o : Channel) → next_channel net F c ≡ Some o → has_channel F.routed c ≡ true
  next-routed c o e =
      let a = and_then-some (λ p. find (leads_from net c) (owned_by net F p)) (owner_of net F c) o e in
      let h = owner-has net F c a.0 a.1 in
      let next = next-is net built F keyed worm a.0 c o h e in
      let no_end = next-no-eject net built F keyed worm a.0 c o next in
      whole.routed.mid.granted c a.0 (h, no_end) (o, next.owns, next.leads) (whole.routed.behind c a.0 (h, no_end))

  -- a flit in a buffer is of the packet that owns the channel
  pub in-owned : (f : Located) (c : Channel) → Has f F.at → f.place ≡ In c → Has (c, f.packet) F.own × (IsEject c → ⊥)
  in-owned f c h e =
      placed-in net built F keyed worm f.packet c
      (subst (λ (x : Place). IsPlaced net F.own f.packet x) (place-of-flit net F keyed f h ∙ e) (worm.placed f.packet f.index (keyed.valid f h)))

  -- ---- what comes before a channel

  -- of two channels of a path, where one ends the other begins only if that is the step
  step-in : (p : ℕ) (c : Channel) (r q v : ℕ) (xs : List Channel) → IsPath net (class_of net p) (goal net p) xs → Has c xs → Has (Link r q v) xs → (IsEject c → ⊥)
      → far_of net p c ≡ far_of net p (Link r q v) + 1 → IsTrue (permits net.relation (class_of net p) c (goal net p) (Link r q v))
  step-in p c r q v [] path h k no_end far = absurd h
  step-in p c r q v (x ∷ rest) path (inl s) (inl u) no_end far = let e : far_of net p c ≡ far_of net p (Link r q v) = ap (far_of net p) (s ∙ sym u) in absurd (omega arith)
  step-in p c r q v (x ∷ rest) path (inr h) (inl u) no_end far =
      absurd (behind c no_end far (subst (λ (y : Channel). IsBehind net built (class_of net p) (goal net p) y c) (sym u) (path-behind net built (class_of net p) (goal net p) x rest path c h)))
    where
      behind : (c : Channel) → (IsEject c → ⊥) → far_of net p c ≡ far_of net p (Link r q v) + 1 → IsBehind net built (class_of net p) (goal net p) (Link r q v) c → ⊥
      behind (Link a b w) n e l = omega arith
      behind (Inject m w) n e l = l
      behind (Eject m w) n e l = n tt
  step-in p c r q v (x ∷ []) path (inl s) (inr k) no_end far = absurd k
  step-in p c r q v (x ∷ y ∷ rest) path (inl s) (inr (inl u)) no_end far =
      subst (λ (z : Channel). IsTrue (permits net.relation (class_of net p) z (goal net p) (Link r q v))) (sym s)
      (subst (λ (z : Channel). IsTrue (permits net.relation (class_of net p) x (goal net p) z)) (sym u) path.0)
  step-in p c r q v (x ∷ y ∷ rest) path (inl s) (inr (inr k)) no_end far = absurd (between y path.0 (path-behind net built (class_of net p) (goal net p) y rest path.1 (Link r q v) k))
    where
      between : (y : Channel) → IsTrue (permits net.relation (class_of net p) x (goal net p) y) → IsBehind net built (class_of net p) (goal net p) y (Link r q v) → ⊥
      between (Link a b w) e l =
          let one = built.shorter (class_of net p) (goal net p) x a b w e in
          let same : far_of net p c ≡ far_of net p x = ap (far_of net p) s in
          omega arith
      between (Inject m w) e l = no-inject net built (class_of net p) (goal net p) x m w e
      between (Eject m w) e l = omega (arith, l)
  step-in p c r q v (x ∷ rest) path (inr h) (inr k) no_end far = step-in p c r q v rest (path-tail net built (class_of net p) (goal net p) x rest path) h k no_end far

  -- where a flit is in its buffer, a channel is not empty
  not-empty : (f : Located) (c : Channel) → Has f F.at → f.place ≡ In c → count_in net F c ≡ 0 → ⊥
  not-empty f c h e z = at (filter (λ (g : Located). is_in c g.place) F.at) (Has-kept (λ (g : Located). is_in c g.place) f F.at h (ap (is_in c) e ∙ same_channel-refl c)) z
    where
      at : (gs : List Located) → Has f gs → length gs ≡ 0 → ⊥
      at [] k l = k
      at (g ∷ gs) k l = omega arith

  -- the tail is not in an empty buffer
  tail-elsewhere : (p : ℕ) (c : Channel) → p < length net.packets → count_in net F c ≡ 0 → tail_place net F p ≡ In c → ⊥
  tail-elsewhere p c l z e = not-empty (record { packet = p; index = last_of net p; place = place_of_flit net F p (last_of net p) }) c (flit-there net F keyed p (last_of net p) (valid-last net built p l)) e z

  -- a channel that the tail of its packet has not reached is the next channel of one
  fed : (o : Channel) (p : ℕ) → Has (o, p) F.own → ((n v : ℕ) → o ≡ Inject n v → ⊥) → (tail_place net F p ≡ In o → ⊥) → is_past net o (goal net p) (tail_place net F p) ≡ false
      → (d : Channel) × (next_channel net F d ≡ Some o)
  fed o p h apart not_in behind =
      let l = worm.known o p h in
      let d = has-source net built F.own (place_of_flit net F) worm o p h apart (whole.sound.still p (last_of net p) (valid-last net built p l) o) not_in behind in
      (d.0, next-from net built F keyed worm p d.0 o d.1 (record { owns = h; leads = d.2 }))

  -- no tail is past an owned ejection channel
  end-ahead : (n v p : ℕ) → Has (Eject n v, p) F.own → is_past net (Eject n v) (goal net p) (tail_place net F p) ≡ false
  end-ahead n v p h = at (tail_place net F p) refl
    where
      at : (x : Place) → tail_place net F p ≡ x → is_past net (Eject n v) (goal net p) (tail_place net F p) ≡ false
      at Source e = ap (is_past net (Eject n v) (goal net p)) e
      at (On d) e = ap (is_past net (Eject n v) (goal net p)) e ∙ le-ltb (end_distance net.relation d (goal net p)) 0 (omega arith)
      at (In d) e = ap (is_past net (Eject n v) (goal net p)) e ∙ le-ltb (end_distance net.relation d (goal net p)) 0 (omega arith)
      at (Out k) e = absurd (whole.routed.mid.eject n v p k h e)

  module _ (queued : IsQueued net F) where
    -- who owns an injection channel while its tail waits is the first of its node
    pub first-is : (n v p : ℕ) → Has (Inject n v, p) F.own → tail_place net F p ≡ Source → first_waiting net F n ≡ Some p
    first-is n v p h g =
        let low = worm.known (Inject n v) p h in
        let here : n ≡ (packet_at net p).source = worm.near (Inject n v) p h in
        let f : Located = record { packet = p; index = last_of net p; place = place_of_flit net F p (last_of net p) } in
        let mine : Has f (flits_of net F p) = Has-kept (λ (x : Located). nat_eq p x.packet) f F.at (flit-there net F keyed p (last_of net p) (valid-last net built p low)) (eq-eqb p p refl) in
        let any : list_any (λ (x : Located). is_at_source x.place) (flits_of net F p) ≡ true = list_any-from (λ (x : Located). is_at_source x.place) (flits_of net F p) f mine (ap is_at_source g) in
        let waits : Has p (filter (waits_at n) (below (length net.packets)))
        = Has-kept (waits_at n) p (below (length net.packets)) (below-has p (length net.packets) low) (and_from _ _ (eq-eqb _ n (sym here)) any) in
        let first = least-some (λ q. (packet_at net q).due) (filter (waits_at n) (below (length net.packets))) p waits in
        let before : Precedes (λ q. (packet_at net q).due) first.0 p
        = least_by-first (λ q. (packet_at net q).due) (filter (waits_at n) (below (length net.packets))) first.0 p
        (Pairs-filter (λ (a b : ℕ). a < b) (waits_at n) (below (length net.packets)) (below-rises (length net.packets))) first.1 waits in
        first.1 ∙ ap Some (precedes-same (λ q. (packet_at net q).due) first.0 p before (behind first.0 here low (least-in first.0 first.1)))
      where
        waits_at : ℕ → ℕ → Bool
        waits_at m q = nat_eq (packet_at net q).source m && list_any (λ (x : Located). is_at_source x.place) (flits_of net F q)

        least-in : (q : ℕ) → first_waiting net F n ≡ Some q → Has q (filter (waits_at n) (below (length net.packets)))
        least-in q e = least_by-has (λ q. (packet_at net q).due) (filter (waits_at n) (below (length net.packets))) q e

        behind : (q : ℕ) → n ≡ (packet_at net p).source → p < length net.packets → Has q (filter (waits_at n) (below (length net.packets))) → Precedes (λ q. (packet_at net q).due) p q
        behind q here low k =
            let a = Has-filter (waits_at n) q (below (length net.packets)) k in
            let l = Has-below q (length net.packets) a.0 in
            let b = and_parts (nat_eq (packet_at net q).source n) (list_any (λ (x : Located). is_at_source x.place) (flits_of net F q)) a.1 in
            let some = list_any-has (λ (x : Located). is_at_source x.place) (flits_of net F q) b.1 in
            let of_q = Has-filter (λ (x : Located). nat_eq q x.packet) some.0 F.at some.1 in
            queued.first p low (worm.begun (Inject n v) p h) g q l (eqb-true _ _ b.0 ∙ here) (waiting-tail q l some.0 of_q.0 (eqb-true q some.0.packet of_q.1) some.2)
          where
            -- where one flit of a packet is at the source, its tail is
            waiting-tail : (q : ℕ) → q < length net.packets → (f : Located) → Has f F.at → q ≡ f.packet → is_at_source f.place ≡ true → place_of_flit net F q (last_of net q) ≡ Source
            waiting-tail q l f k own e =
                let valid : IsValid net q f.index = subst (λ (x : ℕ). IsValid net x f.index) (sym own) (keyed.valid f k) in
                let there : place_of_flit net F q f.index ≡ Source = ap (λ (x : ℕ). place_of_flit net F x f.index) own ∙ place-of-flit net F keyed f k ∙ at_source-is f.place e in
                let last : f.index ≤ last_of net q = let s = valid.1 in omega arith in
                let heavy = worm.order q f.index (last_of net q) (valid-last net built q l) last in
                let here : weight net q (place_of_flit net F q f.index) ≡ 3 * hops net q + 2 = ap (weight net q) there in
                source-heavy net F.own (place_of_flit net F) worm q (place_of_flit net F q (last_of net q)) (worm.placed q (last_of net q) (valid-last net built q l)) (omega arith)

    pub chain-whole : IsLed net F → IsWired net → IsChain net F
    chain-whole led wired = record {
      owners = λ c p h. (worm.known c p h, came c p h);
      one_owner = one-owner;
      steps = λ c p r q v own e.
          let h = owner-has net F c p own in
          let x = next-is net built F keyed worm p c (Link r q v) h e in
          step-in p c r q v (of p F.own) (worm.path p) (has-of c p F.own h) (has-of (Link r q v) p F.own x.owns) (next-no-eject net built F keyed worm p c (Link r q v) x) (far-link net built F keyed worm p c r q v x);
      routed = next-routed;
      links_fed = λ r q v p own z.
          let h = owner-has net F (Link r q v) p own in
          fed (Link r q v) p h (λ n w e. absurd (cc e)) (tail-elsewhere p (Link r q v) (worm.known (Link r q v) p h) z) (whole.routed.behind (Link r q v) p (h, λ x. x));
      ends_fed = λ n v p own.
          let h = owner-has net F (Eject n v) p own in
          fed (Eject n v) p h (λ m w e. absurd (cc e)) (not_in n v p (worm.known (Eject n v) p h)) (end-ahead n v p h);
      starts_fed = λ n v p own z. let h = owner-has net F (Inject n v) p own in (first-is n v p h (at-source n v p h z), one-injection n v p h);
      tails = λ p l. keyed.whole p (last_of net p) (valid-last net built p l);
      kept = λ f c h e. let k = in-owned f c h e in (f.packet, owner-is net F c f.packet worm.once k.0);
    }
      where
        -- each owner began on its channel or was let go on to it
        came : (c : Channel) (p : ℕ) → Has (c, p) F.own → Came net p c
        came (Link r q v) p h = led.came (Link r q v) p h
        came (Inject m v) p h = (worm.near (Inject m v) p h, wired.low (Inject m v) (whole.covered (Inject m v) p (h, λ x. x)))
        came (Eject m v) p h = led.came (Eject m v) p h

        not_in : (n v p : ℕ) → p < length net.packets → tail_place net F p ≡ In (Eject n v) → ⊥
        not_in n v p l e = subst (λ (x : Place). IsPlaced net F.own p x) e (worm.placed p (last_of net p) (valid-last net built p l))

        -- with an empty injection channel the tail is at its source
        at-source : (n v p : ℕ) → Has (Inject n v, p) F.own → count_in net F (Inject n v) ≡ 0 → tail_place net F p ≡ Source
        at-source n v p h z = at (tail_place net F p) refl (worm.entering n v p h)
          where
            at : (x : Place) → tail_place net F p ≡ x → IsEntering net (Inject n v) x → tail_place net F p ≡ Source
            at Source e k = e
            at (On d) e k = absurd k
            at (In d) e k = absurd (tail-elsewhere p (Inject n v) (worm.known (Inject n v) p h) z (e ∙ ap In k))
            at (Out m) e k = absurd k

        -- a packet owns one injection channel
        one-injection : (n v p : ℕ) → Has (Inject n v, p) F.own → find (is_injection_of net n) (owned_by net F p) ≡ Some (Inject n v)
        one-injection n v p h =
            let f = find-some (is_injection_of net n) (owned_by net F p) (Inject n v) (has-of (Inject n v) p F.own h) (eq-eqb n n refl) in
            let k = find-has (is_injection_of net n) (owned_by net F p) f.0 f.1 in
            f.1 ∙ ap Some (at f.0 k.1 (of-has f.0 p F.own k.0))
          where
            at : (y : Channel) → is_injection_of net n y ≡ true → Has (y, p) F.own → y ≡ Inject n v
            at (Link a q w) e k = absurd (false≢true e)
            at (Eject m w) e k = absurd (false≢true e)
            at (Inject m w) e k =
                same-far net built F keyed worm p (Inject m w) (Inject n v) k h (λ x. x) (λ x. x)
                (ap (λ (x : ℕ). distance net.relation.grid x (goal net p)) (eqb-true m n e))
