-- The next channel of a head's channel after the verdicts: there where it was
-- granted one, else as before.
use Rattle.std.proofs.Common.{◌≡◌, ◌≢◌, ℕ, ◌+◌, ◌<◌, Bool, true, false, cond, List, [], ◌∷◌, ◌++◌, map, length, Option, Some, None, refl, ap, sym, ◌∙◌, inl, inr, subst}
use Rattle.std.specs.Prelude.{filter, find, nat_eq, nat_lt, ◌*◌, ◌/◌, ◌%◌, not, option_map, option_and_then, unwrap_or, filter_map}
use Rattle.noc_theory.proofs.Common.{false≢true, eqb-true, eq-eqb, and_left, end_of, In, Setup, State, after_verdicts, all_inputs, ask, claim_of, claim_with, count_in, front_in, grant_to_owner, granted_pair, has_channel, is_released, is_tail_of_packet, leads_from, leaving, next_channel, owned_by, owner_of, round_at, tail_leaves, verdict_at, verdict_in, head_place, Channel, Eject, Inject, Link, arrival_of, sending_router, channel_vc, same_channel, Unrouted, Waits, is_granted, is_moved, verdict_of, Verdict, Empty, Granted, NoIdleChannel, local_port, Has, is_some_of, is_some_of-some}
use Rattle.noc_theory.proofs.runs.PostLemmas.{some_of_map}
use Rattle.noc_theory.proofs.worms.BufferLemmas.{same_channel-true}
use Rattle.noc_theory.proofs.worms.OptionLemmas.{and_then-some}
use Rattle.noc_theory.proofs.worms.MemberLemmas.{Has-filter_map, Has-kept, Has-mapped, Has-right, find-some, Has-filter_mapped}
use Rattle.noc_theory.proofs.budget.InjectionProgressLemmas.{find-stays}
use Rattle.noc_theory.proofs.budget.RemainderPhaseLemmas.{find-kept, find-kept_through}
use Rattle.noc_theory.proofs.budget.AllocationPhaseLemmas.{granted-before}

-- what is not found among the added
find-unadded_of : {X Y : Type 0} (t : Y → Bool) (f : X → Y) (a : X → Bool) (xs ys : List X) → ((y : X) → Has y ys → a y ≡ true → t (f y) ≡ false)
    → find t (map f (filter a (xs ++ ys))) ≡ find t (map f (filter a xs))
find-unadded_of t f a [] [] h = refl
find-unadded_of t f a [] (y ∷ ys) h = at (a y) refl (find-unadded_of t f a [] ys (λ z k. h z (inr k)))
  where
    at : (b : Bool) → a y ≡ b → find t (map f (filter a ys)) ≡ None → find t (map f (cond (a y) (y ∷ filter a ys) (filter a ys))) ≡ None
    at true e rest = rw e (rw (h y (inl refl) e) rest)
    at false e rest = rw e rest
find-unadded_of t f a (x ∷ xs) ys h = at (a x) (t (f x)) refl (find-unadded_of t f a xs ys h)
  where
    at : (b : Bool) (d : Bool) → t (f x) ≡ d → find t (map f (filter a (xs ++ ys))) ≡ find t (map f (filter a xs))
        → find t (map f (cond b (x ∷ filter a (xs ++ ys)) (filter a (xs ++ ys)))) ≡ find t (map f (cond b (x ∷ filter a xs) (filter a xs)))
    at true true k rest = rw k refl
    at true false k rest = rw k rest
    at false d k rest = rest

pub output-leads : (net : Setup) (c : Channel) (r i : ℕ) → end_of net.relation c ≡ Some r → leads_from net c (leaving net r i) ≡ true
output-leads net c r i e = at (leaving net r i) (begins (nat_eq (i / net.relation.vcs) (local_port net.relation.grid)))
  where
    begins : (b : Bool) → sending_router (cond b (Eject r (i % net.relation.vcs)) (Link r (i / net.relation.vcs) (i % net.relation.vcs))) ≡ Some r
    begins true = refl
    begins false = refl

    at : (o : Channel) → sending_router o ≡ Some r → leads_from net c o ≡ true
    at o b = ap (λ (x : Option ℕ). unwrap_or (option_map (is_some_of (end_of net.relation c)) x) false) b ∙ is_some_of-some (end_of net.relation c) r e

module _ (net : Setup) (n : ℕ) (F : State) where
  abbrev after : State
  after = after_verdicts net n F

  -- what is owned, at and by heads
  pub record HeadsHold : Type 0 where
    -- a head stands in a channel that its packet owns, and is the head there
    -- where another is granted
    pub held : (p : ℕ) (c : Channel) → p < length net.packets → head_place net F p ≡ In c → owner_of net F c ≡ Some p
    pub at_grants : (c : Channel) → Has c (all_inputs net) → verdict_in net F c ≡ Granted → (p : ℕ) × (p < length net.packets) × (head_place net F p ≡ In c)
    pub listed : (p : ℕ) (c : Channel) → p < length net.packets → head_place net F p ≡ In c → Has c (all_inputs net)
    pub alone : (c : Channel) (p q : ℕ) → p < length net.packets → head_place net F p ≡ In c → Has (c, q) F.own → p ≡ q
    -- with a next channel a channel is routed, and no tail goes out while its head stands
    pub routed : (c o : Channel) → next_channel net F c ≡ Some o → has_channel F.routed c ≡ true
    pub ends_wait : (p : ℕ) (c : Channel) (m v : ℕ) → p < length net.packets → head_place net F p ≡ In c → is_moved (verdict_in net F c) ≡ false → is_released net F (Eject m v, p) ≡ false

  module _ (holds : HeadsHold) (p : ℕ) (l : p < length net.packets) (c : Channel) (here : head_place net F p ≡ In c) (waits : is_moved (verdict_in net F c) ≡ false) where
    own : owner_of net F c ≡ Some p
    own = holds.held p c l here

    unleft : tail_leaves net F c ≡ false
    unleft = and_left (is_moved (verdict_in net F c)) (is_tail_of_packet net (front_in net F c)) waits

    -- c stays owned
    kept-own : (pair : Channel × ℕ) → Has pair F.own → same_channel c pair.0 ≡ true → not (is_released net F pair) ≡ true
    kept-own (o, q) h e = at o (same_channel-true c o e)
      where
        at : (o : Channel) → c ≡ o → not (is_released net F (o, q)) ≡ true
        at (Link r k v) s = refl
        at (Inject m v) s = ap not (subst (λ (x : Channel). tail_leaves net F x ≡ false) s unleft)
        at (Eject m v) s = subst (λ (w : ℕ). not (is_released net F (Eject m v, w)) ≡ true) (mine s) (ap not (holds.ends_wait p c m v l here waits))
          where
            mine : c ≡ Eject m v → p ≡ q
            mine k = holds.alone c p q l here (subst (λ (x : Channel). Has (x, q) F.own) (sym (same_channel-true c o e)) h)

    owner-after : owner_of net after c ≡ Some p
    unfolding after_verdicts
    owner-after =
        let m = some_of_map (λ (pair : Channel × ℕ). pair.1) (find (λ (pair : Channel × ℕ). same_channel c pair.0) F.own) p own in
        ap (option_map (λ (pair : Channel × ℕ). pair.1))
        (find-stays (λ (pair : Channel × ℕ). same_channel c pair.0) (filter (λ pair. not (is_released net F pair)) F.own) (filter_map (granted_pair net F) (all_inputs net)) m.0
        (find-kept (λ (pair : Channel × ℕ). same_channel c pair.0) (λ pair. not (is_released net F pair)) F.own kept-own ∙ m.1))
        ∙ ap Some m.2

    -- a grant to the packet is one at c
    grant-here : verdict_in net F c ≢ Granted → (pair : Channel × ℕ) → Has pair (filter_map (granted_pair net F) (all_inputs net)) → nat_eq p pair.1 ≡ true → leads_from net c pair.0 ≡ false
    grant-here other pair h e = absurd (at (verdict_in net F d) refl m.2)
      where
        m : (d : Channel) × Has d (all_inputs net) × (granted_pair net F d ≡ Some pair)
        m = Has-filter_map (granted_pair net F) pair (all_inputs net) h

        d : Channel
        d = m.0

        packet-of : (o : Option ℕ) → option_and_then (λ r. option_and_then (grant_to_owner net F d r) (owner_of net F d)) o ≡ Some pair → owner_of net F d ≡ Some pair.1
        packet-of None g = absurd (cc g)
        packet-of (Some r) g =
            let a = and_then-some (grant_to_owner net F d r) (owner_of net F d) pair g in
            let i = some_of_map (λ i. (leaving net r i, a.0)) (ask net F r d) pair a.2 in
            a.1 ∙ ap (λ (x : Channel × ℕ). Some x.1) i.2

        same : verdict_in net F d ≡ Granted → owner_of net F d ≡ Some pair.1 → c ≡ d
        same g o =
            let q = holds.at_grants d m.1 g in
            let s1 : Some q.0 ≡ Some pair.1 = sym (holds.held q.0 d q.1 q.2) ∙ o in
            let s2 : q.0 ≡ pair.1 = cc in
            let s3 : p ≡ pair.1 = eqb-true p pair.1 e in
            let s4 : In c ≡ In d = sym here ∙ ap (head_place net F) (s3 ∙ sym s2) ∙ q.2 in
            cc

        at : (v : Verdict) → verdict_in net F d ≡ v → granted_pair net F d ≡ Some pair → ⊥
        at Granted g k =
            let o = packet-of (end_of net.relation d) (sym (ap (λ v. cond (is_granted v) (option_and_then (λ r. option_and_then (grant_to_owner net F d r) (owner_of net F d)) (end_of net.relation d)) None) g) ∙ k) in
            other (subst (λ (x : Channel). verdict_in net F x ≡ Granted) (sym (same g o)) g)
        at _ g k =
            let z : None ≡ Some pair = sym (ap (λ v. cond (is_granted v) (option_and_then (λ r. option_and_then (grant_to_owner net F d r) (owner_of net F d)) (end_of net.relation d)) None) g) ∙ k in
            absurd (cc z)

    kept-next : (pair : Channel × ℕ) → Has pair F.own → nat_eq p pair.1 ≡ true → leads_from net c pair.0 ≡ true → not (is_released net F pair) ≡ true
    kept-next (Link r k v, q) h e leads = refl
    kept-next (Inject m v, q) h e leads = absurd (false≢true leads)
    kept-next (Eject m v, q) h e leads = subst (λ (w : ℕ). not (is_released net F (Eject m v, w)) ≡ true) (eqb-true p q e) (ap not (holds.ends_wait p c m v l here waits))

    -- where c is granted nothing its next channel stays
    pub next-stays : verdict_in net F c ≢ Granted → next_channel net after c ≡ next_channel net F c
    unfolding after_verdicts
    next-stays other =
        ap (option_and_then (λ q. find (leads_from net c) (owned_by net after q))) owner-after
        ∙ find-unadded_of (leads_from net c) (λ (pair : Channel × ℕ). pair.0) (λ (pair : Channel × ℕ). nat_eq p pair.1) (filter (λ pair. not (is_released net F pair)) F.own) (filter_map (granted_pair net F) (all_inputs net)) (grant-here other)
        ∙ find-kept_through (leads_from net c) (λ (pair : Channel × ℕ). pair.0) (λ (pair : Channel × ℕ). nat_eq p pair.1) (λ pair. not (is_released net F pair)) F.own kept-next
        ∙ sym (ap (option_and_then (λ q. find (leads_from net c) (owned_by net F q))) own)

    -- where it is granted one it has one
    pub next-given : verdict_in net F c ≡ Granted → (o : Channel) × (next_channel net after c ≡ Some o)
    unfolding after_verdicts
    next-given g = at (arrival_of net.relation.grid c) refl
      where
        at : (a : Option (ℕ × ℕ)) → arrival_of net.relation.grid c ≡ a → (o : Channel) × (next_channel net after c ≡ Some o)
        at None k = absurd (unheard (ap (verdict_at net F c) k))
          where
            unheard : verdict_in net F c ≡ Empty → ⊥
            unheard e = let z : Granted ≡ Empty = sym g ∙ e in cc
        at (Some place) k = asked (ask net F place.0 c) refl
          where
            ends : end_of net.relation c ≡ Some place.0
            ends = ap (option_map (λ (x : ℕ × ℕ). x.0)) k

            asked : (i : Option ℕ) → ask net F place.0 c ≡ i → (o : Channel) × (next_channel net after c ≡ Some o)
            asked None e = absurd (unasked (sym (ap (verdict_at net F c) k) ∙ g))
              where
                b : (has_channel F.routed c ≡ true) × (next_channel net F c ≡ None)
                b = granted-before net F c g

                claim : claim_of net F place.0 c ≡ Waits None
                claim = ap (λ x. cond x (claim_with net F place.0 c (next_channel net F c)) Unrouted) b.0 ∙ ap (claim_with net F place.0 c) b.1 ∙ ap Waits e

                unasked : verdict_of net.relation.vcs (round_at net F place.0) (place.1 * net.relation.vcs + channel_vc c) (claim_of net F place.0 c) (nat_lt 0 (count_in net F c)) ≡ Granted → ⊥
                unasked z = let y : NoIdleChannel ≡ Granted = sym (ap (λ x. verdict_of net.relation.vcs (round_at net F place.0) (place.1 * net.relation.vcs + channel_vc c) x (nat_lt 0 (count_in net F c))) claim) ∙ z in cc
            asked (Some i) e =
                let o : Channel = leaving net place.0 i in
                let given : granted_pair net F c ≡ Some (leaving net place.0 i, p)
                = ap (λ v. cond (is_granted v) (option_and_then (λ r. option_and_then (grant_to_owner net F c r) (owner_of net F c)) (end_of net.relation c)) None) g
                ∙ ap (option_and_then (λ r. option_and_then (grant_to_owner net F c r) (owner_of net F c))) ends
                ∙ ap (option_and_then (grant_to_owner net F c place.0)) own
                ∙ ap (option_map (λ j. (leaving net place.0 j, p))) e in
                let h : Has (leaving net place.0 i, p) after.own
                = Has-right (leaving net place.0 i, p) (filter (λ pair. not (is_released net F pair)) F.own) (filter_map (granted_pair net F) (all_inputs net))
                (Has-filter_mapped (granted_pair net F) c (leaving net place.0 i, p) (all_inputs net) (holds.listed p c l here) given) in
                let w : Has (leaving net place.0 i) (owned_by net after p)
                = Has-mapped (λ (pair : Channel × ℕ). pair.0) (leaving net place.0 i, p) (filter (λ (pair : Channel × ℕ). nat_eq p pair.1) after.own)
                (Has-kept (λ (pair : Channel × ℕ). nat_eq p pair.1) (leaving net place.0 i, p) after.own h (eq-eqb p p refl)) in
                let s = find-some (leads_from net c) (owned_by net after p) (leaving net place.0 i) w (output-leads net c place.0 i ends) in
                (s.0, ap (option_and_then (λ q. find (leads_from net c) (owned_by net after q))) owner-after ∙ s.1)
