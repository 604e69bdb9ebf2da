-- A node takes one flit in a cycle, and a packet that is partly out holds one of its channels.
use Rattle.std.proofs.Common.{◌≡◌, ℕ, zero, suc, ◌+◌, ◌<◌, ◌≤◌, true, false, length, refl, ap, sym, ◌∙◌, inl, inr, subst, arith}
use Rattle.std.specs.Prelude.{◌⊎◌}
use Rattle.noc_theory.proofs.Common.{false≢true, true≢false, le-ltb, ltb-false, Has, local_port, Channel, Link, Inject, Eject, Setup, State, Place, Source, On, In, Out, place_of_flit, tail_place, packet_at, is_past, leads_from, network_cycle, frozen_at, state_at, weight, head_place, IsWellFormedSetup, IsValid}
use Rattle.noc_theory.proofs.worms.BuiltLemmas.{good-built, good-wired}
use Rattle.noc_theory.proofs.worms.MoveLemmas.{far-link}
use Rattle.noc_theory.proofs.worms.NetworkLemmas.{ejects-at_goal, ejects-low, led-at, led-frozen_at, out-at}
use Rattle.noc_theory.proofs.worms.OneOnLinkLemmas.{IsOutput, eject-output, one-mover}
use Rattle.noc_theory.proofs.worms.OpeningLemmas.{at-source}
use Rattle.noc_theory.proofs.worms.OutOrderLemmas.{IsLeaving, out-before, out-cases}
use Rattle.noc_theory.proofs.worms.RoutedStateLemmas.{IsWhole}
use Rattle.noc_theory.proofs.worms.StateWordLemmas.{IsHeld, IsPlaced, far_of, goal, last_of}
use Rattle.noc_theory.proofs.worms.WormOrderLemmas.{whole-at, whole-frozen_at}
use Rattle.noc_theory.proofs.worms.WormRecordLemmas.{valid-below, valid-last}

module _ (net : Setup) (good : IsWellFormedSetup net) where
  abbrev Leaving : ℕ → ℕ → ℕ → Type 0
  Leaving n p i = IsLeaving net (good-built net good) (good-wired net good) n (frozen_at net n) (whole-frozen_at net good n).sound p i

  -- what is out after a cycle was out before it, or leaves in it
  pub out-then : (n p i k : ℕ) → IsValid net p i → place_of_flit net (state_at net (suc n)) p i ≡ Out k → (place_of_flit net (state_at net n) p i ≡ Out k) ⊎ ((k ≡ n) × Leaving n p i)
  unfolding state_at network_cycle
  out-then n p i k v e = at (out-cases net (good-built net good) (good-wired net good) n (frozen_at net n) (whole-frozen_at net good n).sound p i k v e)
    where
      at : (place_of_flit net (frozen_at net n) p i ≡ Out k) ⊎ ((k ≡ n) × Leaving n p i) → (place_of_flit net (state_at net n) p i ≡ Out k) ⊎ ((k ≡ n) × Leaving n p i)
      at (inl h) = inl (out-before net (good-built net good) (good-wired net good) n (state_at net n) (whole-at net good n).sound p i k v h)
      at (inr h) = inr h

  -- two flits to one node that leave in one cycle are one
  leaving-same : (n p i q j : ℕ) → goal net p ≡ goal net q → Leaving n p i → Leaving n q j → (p ≡ q) × (i ≡ j)
  leaving-same n p i q j same s t =
      let led = led-frozen_at net good n in
      let home : t.router ≡ s.router = ejects-at_goal net good (frozen_at net n) led t.router t.vc q t.moving.next.owns ∙ sym same ∙ sym (ejects-at_goal net good (frozen_at net n) led s.router s.vc p s.moving.next.owns) in
      let low_s = ejects-low net good (frozen_at net n) led s.router s.vc p s.moving.next.owns in
      let low_t = ejects-low net good (frozen_at net n) led t.router t.vc q t.moving.next.owns in
      let there = subst (λ (r : ℕ). Output n (Eject t.router t.vc) r) home (eject-output net (good-built net good) (good-wired net good) (frozen_at net n) (whole-frozen_at net good n) n t.router t.vc low_t) in
      one-mover net (good-built net good) (good-wired net good) (frozen_at net n) (whole-frozen_at net good n) n p i q j s.router (local_port net.relation.grid) s.channel (Eject s.router s.vc) t.channel (Eject t.router t.vc) s.moving t.moving
      (eject-output net (good-built net good) (good-wired net good) (frozen_at net n) (whole-frozen_at net good n) n s.router s.vc low_s) there
    where
      Output : ℕ → Channel → ℕ → Type 0
      Output n o r = IsOutput net (good-built net good) (good-wired net good) (frozen_at net n) (whole-frozen_at net good n) n o r (local_port net.relation.grid)

  -- so two flits to one node that went out in one cycle are one
  pub one-out : (n p i q j k : ℕ) → IsValid net p i → IsValid net q j → goal net p ≡ goal net q → place_of_flit net (state_at net n) p i ≡ Out k → place_of_flit net (state_at net n) q j ≡ Out k → (p ≡ q) × (i ≡ j)
  unfolding state_at
  one-out zero p i q j k v w same e f = let z : Source ≡ Out k = sym (at-source net p i v) ∙ e in absurd (cc z)
  one-out (suc n) p i q j k v w same e f = at (out-then n p i k v e) (out-then n q j k w f) (one-out n p i q j k v w same)
    where
      Out_by : ℕ → ℕ → Type 0
      Out_by p i = place_of_flit net (state_at net n) p i ≡ Out k

      at : Out_by p i ⊎ ((k ≡ n) × Leaving n p i) → Out_by q j ⊎ ((k ≡ n) × Leaving n q j) → (Out_by p i → Out_by q j → (p ≡ q) × (i ≡ j)) → (p ≡ q) × (i ≡ j)
      at (inl x) (inl y) before = before x y
      at (inl x) (inr y) before = let l = (out-at net good n).before p i k v x in let z = y.0 in absurd (omega arith)
      at (inr x) (inl y) before = let l = (out-at net good n).before q j k w y in let z = x.0 in absurd (omega arith)
      at (inr x) (inr y) before = leaving-same n p i q j same x.1 y.1

  add-zero' : (n : ℕ) → n ≡ n + 0
  add-zero' n = omega arith

  add-suc' : (n m : ℕ) → suc (n + m) ≡ n + suc m
  add-suc' n m = omega arith

  -- what is out later was out, or went out since
  pub out-since : (m n p i k : ℕ) → IsValid net p i → place_of_flit net (state_at net (n + m)) p i ≡ Out k → (place_of_flit net (state_at net n) p i ≡ Out k) ⊎ (n ≤ k)
  out-since zero n p i k v e = inl (ap (λ t. place_of_flit net (state_at net t) p i) (add-zero' n) ∙ e)
  out-since (suc m) n p i k v e = at (out-then (n + m) p i k v (ap (λ t. place_of_flit net (state_at net t) p i) (add-suc' n m) ∙ e)) (out-since m n p i k v)
    where
      at : (place_of_flit net (state_at net (n + m)) p i ≡ Out k) ⊎ ((k ≡ n + m) × Leaving (n + m) p i)
          → (place_of_flit net (state_at net (n + m)) p i ≡ Out k → (place_of_flit net (state_at net n) p i ≡ Out k) ⊎ (n ≤ k))
          → (place_of_flit net (state_at net n) p i ≡ Out k) ⊎ (n ≤ k)
      at (inl h) before = before h
      at (inr h) before = let z = h.0 in inr (omega arith)

  -- ---- a packet of which a flit is out, and the tail is not

  module _ (n p : ℕ) (low : p < length net.packets) where
    abbrev S : State
    S = state_at net n

    abbrev whole : IsWhole net S
    whole = whole-at net good n

    -- where a flit is out all before it are
    light : (x : Place) → IsPlaced net S.own p x → weight net p x ≡ 0 → (a : ℕ) × (x ≡ Out a)
    light Source k w = absurd (omega arith)
    light (On c) k w = absurd (omega arith)
    light (In (Link r a u)) k w = absurd (omega arith)
    light (In (Inject r u)) k w = absurd (omega arith)
    light (In (Eject r u)) k w = absurd k
    light (Out a) k w = (a, refl)

    pub out-ahead : (i j k : ℕ) → i ≤ j → IsValid net p j → place_of_flit net S p j ≡ Out k → (a : ℕ) × (place_of_flit net S p i ≡ Out a)
    out-ahead i j k l v e =
        let order = whole.sound.worm.order p i j v l in
        let none : weight net p (place_of_flit net S p j) ≡ 0 = ap (weight net p) e in
        light (place_of_flit net S p i) (whole.sound.worm.placed p i (valid-below net (good-built net good) p i j v l)) (omega arith)

    -- from a channel that the tail is not past, the packet goes on to the end
    abbrev pub Ejects : Type 0
    Ejects = (v : ℕ) × (v < net.relation.vcs) × Has (Eject (goal net p) v, p) S.own

    module _ (a : ℕ) (head : head_place net S p ≡ Out a) where
      abbrev IsBehind : Channel → Type 0
      IsBehind c = IsHeld net S c p × (is_past net c (goal net p) (tail_place net S p) ≡ false)

      -- a channel that the tail is not past leads on, to the end or to one nearer to it
      leads-on : (c : Channel) → IsBehind c → Ejects ⊎ ((o : Channel) × IsBehind o × (far_of net p o < far_of net p c))
      leads-on c h =
          let next = whole.routed.mid.leads c p h.0 (ap (is_past net c (goal net p)) head) h.1 in
          at next.0 next.1 next.2
        where
          at : (o : Channel) → Has (o, p) S.own → leads_from net c o ≡ true → Ejects ⊎ ((o : Channel) × IsBehind o × (far_of net p o < far_of net p c))
          at (Eject r v) own leads =
              let led = led-at net good n in
              inl (v, ejects-low net good S led r v p own, subst (λ (x : ℕ). Has (Eject x v, p) S.own) (ejects-at_goal net good S led r v p own) own)
          at (Inject r v) own leads = absurd (false≢true leads)
          at (Link r b v) own leads = inr (Link r b v, ((own, (λ z. z)), still (tail_place net S p) h.1), omega (arith, far))
            where
              far : far_of net p c ≡ far_of net p (Link r b v) + 1
              far = far-link net (good-built net good) S whole.sound.keyed whole.sound.worm p c r b v (record { owns = own; leads = leads })

              still : (x : Place) → is_past net c (goal net p) x ≡ false → is_past net (Link r b v) (goal net p) x ≡ false
              still Source e = refl
              still (On d) e = let l = ltb-false (far_of net p d) (far_of net p c) e in le-ltb (far_of net p d) (far_of net p (Link r b v)) (omega (arith, far, l))
              still (In d) e = let l = ltb-false (far_of net p d) (far_of net p c) e in le-ltb (far_of net p d) (far_of net p (Link r b v)) (omega (arith, far, l))
              still (Out m) e = absurd (true≢false e)

      ejects-on : (fuel : ℕ) (c : Channel) → far_of net p c ≤ fuel → IsBehind c → Ejects
      ejects-on zero c near h = at (leads-on c h)
        where
          at : Ejects ⊎ ((o : Channel) × IsBehind o × (far_of net p o < far_of net p c)) → Ejects
          at (inl e) = e
          at (inr x) = absurd (omega (arith, near, x.2))
      ejects-on (suc fuel) c near h = at (leads-on c h) (ejects-on fuel)
        where
          at : Ejects ⊎ ((o : Channel) × IsBehind o × (far_of net p o < far_of net p c)) → ((o : Channel) → far_of net p o ≤ fuel → IsBehind o → Ejects) → Ejects
          at (inl e) on = e
          at (inr x) on = on x.0 (omega (arith, near, x.2)) x.1

      -- the tail stands on a channel of the packet
      ejects-from : (x : Place) → tail_place net S p ≡ x → ((m : ℕ) → x ≡ Out m → ⊥) → IsPlaced net S.own p x → Ejects
      ejects-from Source e inside placed =
          let begun : head_place net S p ≡ Source → ⊥ = λ s. let z : Source ≡ Out a = sym s ∙ head in cc z in
          let own = whole.sound.worm.holds p low begun e in
          let c : Channel = Inject (packet_at net p).source own.0 in
          ejects-on (far_of net p c) c (omega arith) ((own.1, (λ z. z)), ap (is_past net c (goal net p)) e)
      ejects-from (On (Link r b v)) e inside placed = ejects-on (far_of net p (Link r b v)) (Link r b v) (omega arith) ((placed, (λ z. z)), ap (is_past net (Link r b v) (goal net p)) e ∙ le-ltb (far_of net p (Link r b v)) (far_of net p (Link r b v)) (omega arith))
      ejects-from (On (Inject r v)) e inside placed = absurd placed
      ejects-from (On (Eject r v)) e inside placed = absurd placed
      ejects-from (In (Link r b v)) e inside placed = ejects-on (far_of net p (Link r b v)) (Link r b v) (omega arith) ((placed, (λ z. z)), ap (is_past net (Link r b v) (goal net p)) e ∙ le-ltb (far_of net p (Link r b v)) (far_of net p (Link r b v)) (omega arith))
      ejects-from (In (Inject r v)) e inside placed = ejects-on (far_of net p (Inject r v)) (Inject r v) (omega arith) ((placed, (λ z. z)), ap (is_past net (Inject r v) (goal net p)) e ∙ le-ltb (far_of net p (Inject r v)) (far_of net p (Inject r v)) (omega arith))
      ejects-from (In (Eject r v)) e inside placed = absurd placed
      ejects-from (Out m) e inside placed = absurd (inside m refl)

    -- it holds an ejection channel of its destination
    pub ejects : (i k : ℕ) → IsValid net p i → place_of_flit net S p i ≡ Out k → ((m : ℕ) → tail_place net S p ≡ Out m → ⊥) → Ejects
    ejects i k v e inside =
        let head = out-ahead 0 i k (omega arith) v e in
        ejects-from head.0 head.1 (tail_place net S p) refl inside (whole.sound.worm.placed p (last_of net p) (valid-last net (good-built net good) p low))
