-- The cycles of a run are countable: who owns what, where flits are, and what is routed, give what
-- the count of events needs.
use Rattle.std.proofs.Common.{◌≡◌, ℕ, ◌+◌, ◌*◌, ◌<◌, ◌≤◌, Bool, true, false, cond, List, [], ◌∷◌, length, Option, Some, None, refl, ap, sym, ◌∙◌, arith, inl, inr, subst}
use Rattle.std.specs.Prelude.{find, nat_eq, nat_le, nat_lt, option_map}
use Rattle.noc_theory.proofs.Common.{AllByRecursion, ltb-true, and_parts, eqb-true, false_from_ne_true, Has, Pairs, Each, below, Channel, Link, Inject, Eject, is_link, is_none-none, Setup, State, Located, Place, Source, On, In, Injection, packet_at, place_of_flit, tail_place, owner_of, owned_by, leads_from, is_past, is_freed, is_idle, count_in, injection_at, injection_with, is_injection_of, first_waiting, after_landing, after_credits, weight, head_place}
use Rattle.noc_theory.proofs.worms.BuiltRecordLemmas.{IsBuilt}
use Rattle.noc_theory.proofs.worms.OwnedLemmas.{of-has, once-same, owner-is, owner-has, idle-none}
use Rattle.noc_theory.proofs.worms.StateWordLemmas.{IsEject, IsSortedPair, IsKeyed, IsPlaced, goal, last_of, far_of, Come, IsHeld}
use Rattle.noc_theory.proofs.worms.PlaceLemmas.{place-of-flit}
use Rattle.noc_theory.proofs.worms.WormRecordLemmas.{IsWorm, valid-last, valid-first, heavy-not-past}
use Rattle.noc_theory.proofs.worms.GrantLemmas.{IsWired}
use Rattle.noc_theory.proofs.worms.SoundLemmas.{IsSoundFrozen, sound-landed, sound-credits}
use Rattle.noc_theory.proofs.worms.MoveLemmas.{placed-in, far-link, weight-in}
use Rattle.noc_theory.proofs.worms.RoutedRecordLemmas.{IsRoutedFrozen, routed-landed, routed-credits}
use Rattle.noc_theory.proofs.worms.RoutedStateLemmas.{IsWhole}
use Rattle.noc_theory.proofs.worms.BufferLemmas.{same_flit, IsDistinct}
use Rattle.noc_theory.proofs.worms.OptionLemmas.{and_then-some}
use Rattle.noc_theory.proofs.budget.HasLemmas.{find-has}
use Rattle.noc_theory.proofs.budget.RemainderPhaseLemmas.{FliesRight, FreesBehind}
use Rattle.noc_theory.proofs.budget.InjectionProgressLemmas.{StartsFresh}

-- flits that are sorted are all different
pub distinct-sorted : (fs : List Located) → Pairs IsSortedPair fs → IsDistinct same_flit fs
distinct-sorted [] s = tt
distinct-sorted (f ∷ fs) s = (each fs s.0, distinct-sorted fs s.1)
  where
    each : (gs : List Located) → Each (IsSortedPair f) gs → AllByRecursion (λ g. same_flit g f ≡ false) gs
    each [] e = tt
    each (g ∷ gs) e = (
      false_from_ne_true _ (λ k.
          let b = and_parts (nat_eq g.packet f.packet) (nat_eq g.index f.index) k in
          let later = e.0 (sym (eqb-true _ _ b.0)) in
          let same = eqb-true _ _ b.1 in
          omega arith),
      each gs e.1,
    )

-- what is owned where flits and heads are, in any state between the phases
module _ (net : Setup) (built : IsBuilt net) (T : State) (keyed : IsKeyed net T.at) (worm : IsWorm net T.own (place_of_flit net T)) where
  -- a head in a buffer is of the packet that owns the channel
  pub head-owned : (p : ℕ) (c : Channel) → p < length net.packets → head_place net T p ≡ In c → Has (c, p) T.own × (IsEject c → ⊥)
  head-owned p c l e = placed-in net built T keyed worm p c (subst (λ (x : Place). IsPlaced net T.own p x) e (worm.placed p 0 (valid-first net built p l)))

  pub owner-same : (c : Channel) (p q : ℕ) → Has (c, p) T.own → Has (c, q) T.own → p ≡ q
  owner-same c p q h k = ap (λ (pair : Channel × ℕ). pair.1) (once-same (c, p) (c, q) T.own worm.once h k refl)

  -- the tail of a packet is not past a link channel that its head has not passed
  pub tail-behind : (p r a v : ℕ) (x : Place) → p < length net.packets → Has (Link r a v, p) T.own → head_place net T p ≡ x → 3 * far_of net p (Link r a v) + 2 ≤ weight net p x
      → is_past net (Link r a v) (goal net p) (tail_place net T p) ≡ false
  tail-behind p r a v x l h e w =
      let heavy = worm.order p 0 (last_of net p) (valid-last net built p l) (omega arith) in
      let here : weight net p (place_of_flit net T p 0) ≡ weight net p x = ap (weight net p) e in
      heavy-not-past net T.own p (Link r a v) (tail_place net T p) (λ d k. worm.near d p k) (worm.near (Link r a v) p h).0 (worm.placed p (last_of net p) (valid-last net built p l)) (omega arith)

module _ (net : Setup) (built : IsBuilt net) (wired : IsWired net) (S : State) (whole : IsWhole net S) where
  -- what flies, flies on a link channel of its packet
  pub flies : FliesRight net S
  flies = record {
    on_links = λ f c h e. link c f.packet (subst (λ (x : Place). IsPlaced net S.own f.packet x) (place-of-flit net S whole.sound.keyed f h ∙ e) (whole.sound.worm.placed f.packet f.index (whole.sound.keyed.valid f h)));
    to_unrouted = λ p c l e. false_from_ne_true _ (λ r. unrouted p c l e (owned p c (subst (λ (x : Place). IsPlaced net S.own p x) e (whole.sound.worm.placed p 0 (valid-first net built p l)))) (whole.routed.mid.only c r));
  }
    where
      link : (c : Channel) (p : ℕ) → IsPlaced net S.own p (On c) → is_link c ≡ true
      link (Link r q v) p k = refl
      link (Inject m v) p k = absurd k
      link (Eject m v) p k = absurd k

      owned : (p : ℕ) (c : Channel) → IsPlaced net S.own p (On c) → Has (c, p) S.own
      owned p (Link r q v) k = k
      owned p (Inject m v) k = absurd k
      owned p (Eject m v) k = absurd k

      unrouted : (p : ℕ) (c : Channel) → p < length net.packets → head_place net S p ≡ On c → Has (c, p) S.own
          → (q : ℕ) × IsHeld net S c q × Come net q c (head_place net S q) × (is_past net c (goal net q) (tail_place net S q) ≡ false) → ⊥
      unrouted p c l e h r =
          let same : r.0 ≡ p = owner-same net built S whole.sound.keyed whole.sound.worm c r.0 p r.1.0 h in
          come (subst (λ (q : ℕ). Come net q c (head_place net S q)) same r.2)
        where
          come : Come net p c (head_place net S p) → ⊥
          come (inl k) = let z : In c ≡ On c = sym k ∙ e in cc z
          come (inr k) = let l : far_of net p c < far_of net p c = ltb-true _ _ (sym (ap (is_past net c (goal net p)) e) ∙ k) in omega arith

  landed_sound : IsSoundFrozen net (after_landing net S)
  landed_sound = sound-landed net built wired S whole.sound

  -- no channel is freed where the head is, nor the next
  pub frees : FreesBehind net (after_landing net S)
  frees = record {
    here = λ p c q l e h.
        let m = head-owned net built (after_landing net S) landed_sound.keyed landed_sound.worm p c l e in
        subst (λ (x : ℕ). is_freed net (after_landing net S) (c, x) ≡ false) (owner-same net built (after_landing net S) landed_sound.keyed landed_sound.worm c p q m.0 h) (here c p l e m.0);
    beyond = λ p c q o l e own h leads.
        let m = head-owned net built (after_landing net S) landed_sound.keyed landed_sound.worm p c l e in
        let same : p ≡ q = owner-same net built (after_landing net S) landed_sound.keyed landed_sound.worm c p q m.0 (owner-has net (after_landing net S) c q own) in
        subst (λ (x : ℕ). is_freed net (after_landing net S) (o, x) ≡ false) same (beyond o c p l e m.0 m.1 (subst (λ (x : ℕ). Has (o, x) (after_landing net S).own) (sym same) h) leads);
  }
    where
      here : (c : Channel) (p : ℕ) → p < length net.packets → head_place net (after_landing net S) p ≡ In c → Has (c, p) (after_landing net S).own → is_freed net (after_landing net S) (c, p) ≡ false
      here (Link r a v) p l e h = tail-behind net built (after_landing net S) landed_sound.keyed landed_sound.worm p r a v (In (Link r a v)) l h e (omega arith)
      here (Inject m v) p l e h = refl
      here (Eject m v) p l e h = refl

      beyond : (o c : Channel) (p : ℕ) → p < length net.packets → head_place net (after_landing net S) p ≡ In c → Has (c, p) (after_landing net S).own → (IsEject c → ⊥) → Has (o, p) (after_landing net S).own
          → leads_from net c o ≡ true → is_freed net (after_landing net S) (o, p) ≡ false
      beyond (Link r a v) c p l e k no_end h leads =
          let far = far-link net built (after_landing net S) landed_sound.keyed landed_sound.worm p c r a v (record { owns = h; leads = leads }) in
          let heavy = (weight-in net built (after_landing net S) landed_sound.keyed landed_sound.worm p c (subst (λ (x : Place). IsPlaced net (after_landing net S).own p x) e (landed_sound.worm.placed p 0 (valid-first net built p l)))).0 in
          tail-behind net built (after_landing net S) landed_sound.keyed landed_sound.worm p r a v (In c) l h e (omega arith)
      beyond (Inject m v) c p l e k no_end h leads = refl
      beyond (Eject m v) c p l e k no_end h leads = refl

  credited_sound : IsSoundFrozen net (after_credits net (after_landing net S))
  credited_sound = sound-credits net built wired (after_landing net S) landed_sound

  credited_routed : IsRoutedFrozen net (after_credits net (after_landing net S))
  credited_routed = routed-credits net built (after_landing net S) landed_sound.keyed landed_sound.worm (routed-landed net built S whole.sound.keyed whole.sound.worm whole.routed.mid)

  module _ (n : ℕ) where
    abbrev credited : State
    credited = after_credits net (after_landing net S)

    -- a head enters a channel that is not routed
    pub starts : StartsFresh net n (after_credits net (after_landing net S))
    starts = record {
      held = λ p c l e.
          let m = head-owned net built credited credited_sound.keyed credited_sound.worm p c l e in
          (p, owner-is net credited c p credited_sound.worm.once m.0);
      unrouted = λ node one e src. false_from_ne_true _ (λ r. let o = credited_routed.mid.only one.channel r in entered node one e src o.0 o.1.0);
    }
      where
        fresh : (node q : ℕ) (one : Injection net) (w : ℕ) (o : Option ℕ) → find (λ v. is_idle net credited (Inject node v)) (below net.relation.vcs) ≡ o
            → option_map (λ v. (record { packet = q; channel = Inject node v; begins = true })) o ≡ Some one → Has (one.channel, w) credited.own → ⊥
        fresh node q one w None f g h = cc g
        fresh node q one w (Some v) f g h =
            let same : ◌≡◌ {A = Injection net} (record { packet = q; channel = Inject node v; begins = true }) one = cc in
            let free = (find-has (λ v. is_idle net credited (Inject node v)) (below net.relation.vcs) v f).1 in
            idle-none net credited (Inject node v) w (is_none-none (owner_of net credited (Inject node v)) free) (subst (λ (c : Channel). Has (c, w) credited.own) (sym (ap (λ (x : Injection net). x.channel) same)) h)

        begins : (node q : ℕ) (one : Injection net) (w : ℕ) (b : Bool)
            → cond b (option_map (λ v. (record { packet = q; channel = Inject node v; begins = true })) (find (λ v. is_idle net credited (Inject node v)) (below net.relation.vcs))) None ≡ Some one → Has (one.channel, w) credited.own → ⊥
        begins node q one w false g h = cc g
        begins node q one w true g h = fresh node q one w (find (λ v. is_idle net credited (Inject node v)) (below net.relation.vcs)) refl g h

        goes : (node q : ℕ) (one : Injection net) (j : Channel) → Has (j, q) credited.own → (b : Bool)
            → ◌≡◌ {A = Option (Injection net)} (cond b (Some (record { packet = q; channel = j; begins = false })) None) (Some one) → head_place net credited one.packet ≡ Source → ⊥
        goes node q one j h false g src = cc g
        goes node q one j h true g src =
            let same : ◌≡◌ {A = Injection net} (record { packet = q; channel = j; begins = false }) one = cc in
            credited_sound.worm.begun j q h (ap (λ (x : Injection net). place_of_flit net credited x.packet 0) same ∙ src)

        entered : (node : ℕ) (one : Injection net) → injection_at net credited n node ≡ Some one → head_place net credited one.packet ≡ Source → (w : ℕ) → Has (one.channel, w) credited.own → ⊥
        entered node one e src w h =
            let a = and_then-some (λ q. injection_with net credited n node q (find (is_injection_of net node) (owned_by net credited q))) (first_waiting net credited node) one e in
            at a.0 (find (is_injection_of net node) (owned_by net credited a.0)) refl a.2
          where
            at : (q : ℕ) (j : Option Channel) → find (is_injection_of net node) (owned_by net credited q) ≡ j → injection_with net credited n node q (find (is_injection_of net node) (owned_by net credited q)) ≡ Some one → ⊥
            at q None k g = begins node q one w (nat_le (packet_at net q).due n) (sym (ap (injection_with net credited n node q) k) ∙ g) h
            at q (Some j) k g =
                let in_own = find-has (is_injection_of net node) (owned_by net credited q) j k in
                goes node q one j (of-has j q credited.own in_own.0) (nat_lt (count_in net credited j) net.depth) (sym (ap (injection_with net credited n node q) k) ∙ g) src
