-- Heads and moves in a frozen state: each stands where its packet owns the channel, and
-- what moves comes nearer.
use Rattle.std.proofs.Common.{◌≡◌, ◌≢◌, ℕ, ◌+◌, ◌*◌, ◌<◌, ◌≤◌, Bool, true, false, List, [], ◌∷◌, length, Option, Some, None, refl, ap, sym, ◌∙◌, arith, inl, subst, ⊎_elim}
use Rattle.std.specs.Prelude.{filter, find, nat_eq, nat_lt, ◌&&◌, option_and_then, option_map, unwrap_or}
use Rattle.noc_theory.proofs.Common.{AllByRecursion, false≢true, true≢false, ltb-true, ltb-false, and_from, and_parts, eq-eqb, eqb-true, false_from_ne_true, Has, Pairs, Each, distance, Channel, Link, Inject, Eject, same_channel, Claim, Round, Unrouted, Waits, Holds, is_moved, verdict_of, Routed, Granted, Setup, State, Located, Place, Source, On, In, Out, packet_at, place_of_flit, tail_place, owner_of, owned_by, next_channel, leads_from, has_channel, is_past, is_in, is_tail_of_packet, tail_leaves, tail_leaves_to, is_released, is_the_flit, front_in, count_in, gone_to, all_inputs, verdict_in, round_at, claim_of, weight, hops, head_place, IsValid}
use Rattle.noc_theory.proofs.worms.BuiltRecordLemmas.{IsBuilt}
use Rattle.noc_theory.proofs.worms.OwnedLemmas.{of-has, has-of, owner-is, owner-has}
use Rattle.noc_theory.proofs.worms.StateWordLemmas.{IsEject, IsKeyed, IsPlaced, goal, last_of, far_of, IsHeld}
use Rattle.noc_theory.proofs.worms.PlaceLemmas.{place-of-flit, is_in-is}
use Rattle.noc_theory.proofs.worms.WormRecordLemmas.{IsWorm, valid-first}
use Rattle.noc_theory.proofs.worms.GrantLemmas.{IsWired}
use Rattle.noc_theory.proofs.worms.MoveLemmas.{IsNext, next-is, next-no-eject, placed-in, same-far, far-link, far-eject, weight-gone, weight-in, first-is}
use Rattle.noc_theory.proofs.worms.RoutedStateLemmas.{IsWholeFrozen}
use Rattle.noc_theory.proofs.worms.BufferLemmas.{same_channel-true, same_channel-refl}
use Rattle.noc_theory.proofs.worms.OptionLemmas.{and_then-some}
use Rattle.noc_theory.proofs.worms.MemberLemmas.{Has-filter, find-some, list_any-has}
use Rattle.noc_theory.proofs.budget.HasLemmas.{find-has}
use Rattle.noc_theory.proofs.budget.InjectionProgressLemmas.{IsApart}
use Rattle.noc_theory.proofs.budget.MovePhaseLemmas.{gone, MovesNear, loss}
use Rattle.noc_theory.proofs.budget.AllocationPhaseLemmas.{claimed, routed-claims, routed-before, granted-before, moved-before}
use Rattle.noc_theory.proofs.budget.NextPhaseLemmas.{HeadsHold}
use Rattle.noc_theory.proofs.budget.CycleRemainderLemmas.{HeadsRight}
use Rattle.noc_theory.proofs.budget.ChainLemmas.{next-routed, one-owner, in-owned}
use Rattle.noc_theory.proofs.budget.CountableLemmas.{head-owned}

-- a head is routed where it is, in a buffer that holds a flit
routed-flit : (vcs : ℕ) (round : Round) (i : ℕ) (claim : Claim) (flit : Bool) → claim ≡ Unrouted → verdict_of vcs round i claim flit ≡ Routed → flit ≡ true
routed-flit vcs round i Unrouted true u e = refl
routed-flit vcs round i Unrouted false u e = absurd (cc e)
routed-flit vcs round i (Waits a) flit u e = absurd (cc u)
routed-flit vcs round i (Holds o k) flit u e = absurd (cc u)

-- a filter that keeps something has a member
some-kept : (t : Located → Bool) (fs : List Located) → 0 < length (filter t fs) → (f : Located) × Has f fs × (t f ≡ true)
some-kept t fs l = at (filter t fs) refl
  where
    at : (gs : List Located) → filter t fs ≡ gs → (f : Located) × Has f fs × (t f ≡ true)
    at [] e = absurd (let z : length (filter t fs) ≡ 0 = ap (length {A = Located}) e in omega arith)
    at (g ∷ gs) e = let k = Has-filter t g fs (subst (λ (xs : List Located). Has g xs) (sym e) (inl refl)) in (g, k.0, k.1)

apart-each : (x : Channel) (xs : List Channel) → Each (λ y. x ≢ y) xs → AllByRecursion (λ y. same_channel y x ≡ false) xs
apart-each x [] e = tt
apart-each x (y ∷ ys) e = (false_from_ne_true _ (λ k. e.0 (sym (same_channel-true y x k))), apart-each x ys e.1)

apart-pairs : (xs : List Channel) → Pairs (λ (a b : Channel). a ≢ b) xs → IsApart same_channel xs
apart-pairs [] p = tt
apart-pairs (x ∷ xs) p = (apart-each x xs p.0, apart-pairs xs p.1)

module _ (net : Setup) (built : IsBuilt net) (wired : IsWired net) (F : State) (whole : IsWholeFrozen net F) where
  abbrev worm : IsWorm net F.own (place_of_flit net F)
  worm = whole.sound.worm

  abbrev keyed : IsKeyed net F.at
  keyed = whole.sound.keyed

  abbrev HeadIn : Channel → Type 0
  HeadIn c = (p : ℕ) × (p < length net.packets) × (head_place net F p ≡ In c)

  -- what p owns
  owned : (p : ℕ) (c : Channel) → p < length net.packets → head_place net F p ≡ In c → Has (c, p) F.own × (IsEject c → ⊥)
  owned p c l e = head-owned net built F keyed worm p c l e

  -- the next channel, of a channel that p owns
  next-of : (p : ℕ) (c o : Channel) → Has (c, p) F.own → next_channel net F c ≡ Some o → IsNext net built F keyed worm p c o
  next-of p c o h e = next-is net built F keyed worm p c o h e

  -- where a channel has a next one, it is the first of its packet's that leads on
  pub has-next : (p : ℕ) (c o : Channel) → Has (c, p) F.own → Has (o, p) F.own → leads_from net c o ≡ true → next_channel net F c ≡ None → ⊥
  has-next p c o h k leads e =
      let f = find-some (leads_from net c) (owned_by net F p) o (has-of o p F.own k) leads in
      let s : next_channel net F c ≡ Some f.0 = ap (option_and_then (λ q. find (leads_from net c) (owned_by net F q))) (owner-is net F c p worm.once h) ∙ f.1 in
      let z : None ≡ Some f.0 = sym e ∙ s in cc z

  -- a head that is not past c, though a flit of its packet is in c, is in c
  head-in : (p i : ℕ) (c : Channel) → IsValid net p i → place_of_flit net F p i ≡ In c → Has (c, p) F.own → (IsEject c → ⊥) → is_past net c (goal net p) (head_place net F p) ≡ false → head_place net F p ≡ In c
  head-in p i c valid e h no_end behind = at (head_place net F p) refl (worm.placed p 0 (valid-first net built p valid.0))
    where
      weighs : weight net p (head_place net F p) ≤ weight net p (In c)
      weighs = let o = worm.order p 0 i valid (omega arith) in let w : weight net p (place_of_flit net F p i) ≡ weight net p (In c) = ap (weight net p) e in omega arith

      light : weight net p (In c) ≤ 3 * far_of net p c + 2
      light = (weight-in net built F keyed worm p c (subst (λ (x : Place). IsPlaced net F.own p x) e (worm.placed p i valid))).1

      at : (x : Place) → head_place net F p ≡ x → IsPlaced net F.own p x → head_place net F p ≡ In c
      at Source g k = absurd (worm.begun c p h g)
      at (On d) g k = absurd (whole.sound.still p 0 (valid-first net built p valid.0) d g)
      at (Out n) g k = absurd (true≢false (sym (ap (is_past net c (goal net p)) g) ∙ behind))
      at (In d) g k =
          let m = placed-in net built F keyed worm p d k in
          let not_nearer : far_of net p c ≤ far_of net p d = ltb-false _ _ (sym (ap (is_past net c (goal net p)) g) ∙ behind) in
          let heavy = (weight-in net built F keyed worm p d k).0 in
          let w : weight net p (head_place net F p) ≡ weight net p (In d) = ap (weight net p) g in
          let low = weighs in
          let top = light in
          g ∙ ap In (same-far net built F keyed worm p d c m.0 h m.1 no_end (omega arith))

  holds : (n : ℕ) → HeadsHold net n F
  holds n = record {
    held = λ p c l e. owner-is net F c p worm.once (owned p c l e).0;
    at_grants = λ c h g. granted c g;
    listed = λ p c l e. let m = owned p c l e in whole.covered c p (m.0, m.1);
    alone = λ c p q l e h. one-owner net built F whole c p q (owned p c l e).0 h;
    routed = next-routed net built F whole;
    ends_wait = λ p c m v l e waits. false_from_ne_true _ (λ r. released p c m v l e waits r);
  }
    where
      granted : (c : Channel) → verdict_in net F c ≡ Granted → HeadIn c
      granted c g =
          let b = granted-before net F c g in
          let r = whole.routed.mid.only c b.0 in
          (r.0, worm.known c r.0 r.1.0, ⊎_elim (λ e. e) (λ past. absurd (passed r.0 r.1 past r.3 b.1)) r.2)
        where
          passed : (p : ℕ) → IsHeld net F c p → is_past net c (goal net p) (head_place net F p) ≡ true → is_past net c (goal net p) (tail_place net F p) ≡ false → next_channel net F c ≡ None → ⊥
          passed p h past behind none = let o = whole.routed.mid.leads c p h past behind in has-next p c o.0 h.0 o.1 o.2 none

      released : (p : ℕ) (c : Channel) (m v : ℕ) → p < length net.packets → head_place net F p ≡ In c → is_moved (verdict_in net F c) ≡ false → is_released net F (Eject m v, p) ≡ true → ⊥
      released p c m v l e waits r =
          let a = list_any-has (tail_leaves_to net F (Eject m v)) (owned_by net F p) r in
          let b = and_parts (tail_leaves net F a.0) (unwrap_or (option_map (same_channel (Eject m v)) (next_channel net F a.0)) false) a.2 in
          let t = and_parts (is_moved (verdict_in net F a.0)) (is_tail_of_packet net (front_in net F a.0)) b.0 in
          goes a.0 (of-has a.0 p F.own a.1) t.0 (next_channel net F a.0) refl b.1 (front_in net F a.0) refl t.1
        where
          goes : (d : Channel) → Has (d, p) F.own → is_moved (verdict_in net F d) ≡ true → (next : Option Channel) → next_channel net F d ≡ next → unwrap_or (option_map (same_channel (Eject m v)) next) false ≡ true
              → (first : Option Located) → front_in net F d ≡ first → is_tail_of_packet net first ≡ true → ⊥
          goes d h moves None k s first f t = false≢true s
          goes d h moves (Some o) k s None f t = false≢true t
          goes d h moves (Some o) k s (Some g) f t =
              let out : Eject m v ≡ o = same_channel-true (Eject m v) o s in
              let next = next-of p d (Eject m v) h (k ∙ ap Some (sym out)) in
              let none : far_of net p d ≡ 0 = far-eject net built F keyed worm p d m v next in
              let it = first-is net built F keyed worm d g f in
              let of_g = placed-in net built F keyed worm g.packet d (subst (λ (x : Place). IsPlaced net F.own g.packet x) it.there (worm.placed g.packet g.index it.valid)) in
              let same : g.packet ≡ p = one-owner net built F whole d g.packet p of_g.0 h in
              let long : g.index + 1 ≡ (packet_at net g.packet).length = eqb-true _ _ t in
              let last : g.index ≡ last_of net g.packet = omega arith in
              let tail : tail_place net F p ≡ In d = ap (λ (x : ℕ). place_of_flit net F x (last_of net x)) (sym same) ∙ ap (place_of_flit net F g.packet) (sym last) ∙ it.there in
              let c_held = owned p c l e in
              let not_past : far_of net p c ≤ far_of net p d = ltb-false _ _ (sym (ap (is_past net c (goal net p)) tail) ∙ whole.routed.behind c p c_held) in
              let cd : c ≡ d = same-far net built F keyed worm p c d c_held.0 h c_held.1 (next-no-eject net built F keyed worm p d (Eject m v) next) (omega arith) in
              false≢true (sym waits ∙ ap (λ (x : Channel). is_moved (verdict_in net F x)) cd ∙ moves)

  -- where a head is routed, it stands
  routes : (c : Channel) → verdict_in net F c ≡ Routed → HeadIn c
  routes c e =
      let v = claimed net F Routed (λ s. cc) c e in
      let unrouted = routed-before net F c e in
      let u : claim_of net F v.0 c ≡ Unrouted = routed-claims net.relation.vcs (round_at net F v.0) v.1 (claim_of net F v.0 c) (nat_lt 0 (count_in net F c)) v.2 in
      let flit = routed-flit net.relation.vcs (round_at net F v.0) v.1 (claim_of net F v.0 c) (nat_lt 0 (count_in net F c)) u v.2 in
      let some = some-kept (λ (f : Located). is_in c f.place) F.at (ltb-true 0 (count_in net F c) flit) in
      at some.0 some.1 (is_in-is c some.0.place some.2) unrouted
    where
      at : (f : Located) → Has f F.at → f.place ≡ In c → has_channel F.routed c ≡ false → HeadIn c
      at f h g unrouted =
          let m = in-owned net built F whole f c h g in
          let valid = keyed.valid f h in
          (f.packet, valid.0, head-in f.packet f.index c valid (place-of-flit net F keyed f h ∙ g) m.0 m.1 (false_from_ne_true _ (λ past. false≢true (sym unrouted ∙ whole.routed.mid.passed c f.packet m past (whole.routed.behind c f.packet m)))))

  -- the head is the first of its buffer
  goes-first : (p : ℕ) (c : Channel) (f : Located) → p < length net.packets → f.place ≡ In c → find (λ (g : Located). nat_eq p g.packet && nat_eq 0 g.index) F.at ≡ Some f → is_the_flit net f (front_in net F c) ≡ true
  goes-first p c f l e found =
      let k = find-has (λ (g : Located). nat_eq p g.packet && nat_eq 0 g.index) F.at f found in
      let b = and_parts (nat_eq p f.packet) (nat_eq 0 f.index) k.1 in
      let some = find-some (λ (g : Located). is_in c g.place) F.at f k.0 (ap (is_in c) e ∙ same_channel-refl c) in
      ap (is_the_flit net f) some.1 ∙ at f some.0 some.1 k.0 e (eqb-true 0 f.index b.1)
    where
      at : (f g : Located) → front_in net F c ≡ Some g → Has f F.at → f.place ≡ In c → 0 ≡ f.index → (nat_eq f.packet g.packet && nat_eq f.index g.index) ≡ true
      at f g first h e zero_is =
          let it = first-is net built F keyed worm c g first in
          let m = in-owned net built F whole f c h e in
          let of_g = placed-in net built F keyed worm g.packet c (subst (λ (x : Place). IsPlaced net F.own g.packet x) it.there (worm.placed g.packet g.index it.valid)) in
          let same : f.packet ≡ g.packet = one-owner net built F whole c f.packet g.packet m.0 of_g.0 in
          let there : place_of_flit net F g.packet f.index ≡ In c = ap (λ (x : ℕ). place_of_flit net F x f.index) (sym same) ∙ place-of-flit net F keyed f h ∙ e in
          let least = it.least f.index (subst (λ (x : ℕ). IsValid net x f.index) same (keyed.valid f h)) there in
          and_from _ _ (eq-eqb _ _ same) (eq-eqb f.index g.index (omega arith))

  module _ (n : ℕ) where
    pub heads-whole : HeadsRight net n F
    heads-whole = record {
      holds = holds n;
      once = apart-pairs (all_inputs net) wired.apart;
      goes_first = goes-first;
      at_routes = λ c h e. routes c e;
      near = λ p c r q v l e next. sym (far-link net built F keyed worm p c r q v (next-of p c (Link r q v) (owned p c l e).0 next));
      near_end = λ p c m v l e next. far-eject net built F keyed worm p c m v (next-of p c (Eject m v) (owned p c l e).0 next);
    }

    pub moves-whole : MovesNear net n F
    moves-whole = record {
      listed = λ c e. let b = moved-before net F c e in listed c b.1 b.2;
      nearer = λ c f e first. let b = moved-before net F c e in nearer c f first b.1 b.2;
    }
      where
        listed : (c o : Channel) → next_channel net F c ≡ Some o → Has c (all_inputs net)
        listed c o e =
            let a = and_then-some (λ p. find (leads_from net c) (owned_by net F p)) (owner_of net F c) o e in
            let h = owner-has net F c a.0 a.1 in
            whole.covered c a.0 (h, next-no-eject net built F keyed worm a.0 c o (next-of a.0 c o h e))

        lost : (c : Channel) (p : ℕ) → Has (c, p) F.own → (IsEject c → ⊥) → 3 * far_of net p c + loss net n F c ≡ weight net p (In c)
        lost (Link r q v) p h no_end = refl
        lost (Inject m v) p h no_end = let s : distance net.relation.grid m (goal net p) ≡ hops net p = ap (λ (x : ℕ). distance net.relation.grid x (goal net p)) (worm.near (Inject m v) p h) in omega arith
        lost (Eject m v) p h no_end = absurd (no_end tt)

        nearer : (c : Channel) (f : Located) → front_in net F c ≡ Some f → (o : Channel) → next_channel net F c ≡ Some o → weight net f.packet (gone net F n c) + loss net n F c ≡ weight net f.packet (In c)
        nearer c f first o next =
            let it = first-is net built F keyed worm c f first in
            let m = placed-in net built F keyed worm f.packet c (subst (λ (x : Place). IsPlaced net F.own f.packet x) it.there (worm.placed f.packet f.index it.valid)) in
            let to : weight net f.packet (gone net F n c) ≡ weight net f.packet (gone_to net n c (Some o)) = ap (λ (x : Option Channel). weight net f.packet (gone_to net n c x)) next in
            let far = weight-gone net built F keyed worm n f.packet c o (next-of f.packet c o m.0 next) in
            let l = lost c f.packet m.0 m.1 in
            omega arith
