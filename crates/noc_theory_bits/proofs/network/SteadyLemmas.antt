-- What a state of a network has at the start of a cycle and in the middle of one, and which channel
-- of a router owns which.
use Rattle.std.proofs.Common.{◌≡◌, ℕ, zero, suc, ◌+◌, ◌*◌, ◌/◌, ◌<◌, ◌≤◌, Bool, true, false, cond, Option, Some, None, refl, ap, sym, ◌∙◌, subst, arith}
use Rattle.std.specs.Prelude.{option_map, ◌&&◌, ◌||◌, nat_lt}
use Rattle.std.proofs.lemmas.Bool.{ltb-false}
use Rattle.noc_topo.specs.Shape.{distance}
use Rattle.noc_route.specs.Channel.{sending_router, same_channel, output_index}
use Rattle.noc_route.proofs.BuiltLemmas.{linked-port}
use Rattle.noc_theory.specs.Good.{slots_taken}
use Rattle.noc_theory.specs.Lockstep.{seen_phase, seen_set}
use Rattle.noc_theory.specs.Network.{leads_from, verdict_in, is_released, all_inputs, Source}
use Rattle.noc_theory.specs.Progress.{hops}
use Rattle.noc_theory.proofs.worms.BufferLemmas.{same_channel-true}
use Rattle.noc_theory.proofs.worms.MoveLemmas.{IsNext, leads-end, far-link, far-eject, same-far}
use Rattle.noc_theory.proofs.worms.NextLemmas.{next-from}
use Rattle.noc_theory.proofs.worms.StateWordLemmas.{IsKeyed, IsHeld, IsRoutedMid, far_of}
use Rattle.noc_theory.proofs.worms.RoutedStateLemmas.{IsCovered}
use Rattle.noc_theory.proofs.worms.RoutedVerdictLemmas.{channel-has}
use Rattle.noc_theory.proofs.worms.SourceOfLemmas.{has-source}
use Rattle.noc_theory.proofs.worms.VerdictRoomLemmas.{none-on}
use Rattle.noc_theory.proofs.worms.WormRecordLemmas.{IsWorm}
use Rattle.noc_theory.proofs.verdicts.AfterHolderLemmas.{unowned-verdict}
use Rattle.noc_theory.proofs.verdicts.AfterLemmas.{owned-kept}
use Rattle.noc_theory.proofs.join.OrderedLemmas.{IsOrdered, IsOrderedFrozen}
use Rattle.noc_theory.proofs.join.PlaceViewLemmas.{IsAt, IsFrom, input-at, eject-from, link-from, mod-below}
use Rattle.noc_theory.proofs.injection.SourceLemmas.{same-owner, next-owner, at-router, sender-is, not-end}
use Rattle.noc_theory_bits.proofs.Common.{false≢true, true≢false, and_parts, le-ltb, same_Some, Has, one_if, nodes, local_port, Channel, Link, Inject, Eject, is_link, Idle, Waiting, Active, Owned, Draining, is_moved, has_come, seen_phase_with, seen_holder, seen_sender, Setup, State, Place, On, In, Out, leaving, place_of_flit, tail_place, is_on, is_in, is_past, owner_of, next_channel, after_verdicts, has_channel, opening_state, network_cycle, state_at, frozen_at, same_channel-refl, Has-filter, owner-has, owner-is, IsPlaced, goal, last_of, valid-last, IsGood, ordered-frozen}

-- equal where each follows from the other
pub same-truth : (a b : Bool) → (a ≡ true → b ≡ true) → (b ≡ true → a ≡ true) → a ≡ b
same-truth true b f g = sym (f refl)
same-truth false true f g = g refl
same-truth false false f g = refl

module _ (net : Setup) (good : IsGood net) where
  -- a state in which flits stand along paths, and channels hold what they have room for
  pub record IsSteady (S : State) : Type 0 where
    pub keyed : IsKeyed net S.at
    pub worm : IsWorm net S.own (place_of_flit net S)
    pub routed : IsRoutedMid net S
    pub covered : IsCovered net S
    pub room : (c : Channel) → slots_taken net S c ≤ net.depth
    pub low : (a u p : ℕ) → Has (Eject a u, p) S.own → u < net.relation.vcs
    -- the tail is past an owned link channel only while its last credit is on the way
    pub backed : (c : Channel) (p : ℕ) → IsHeld net S c p → is_link c ≡ true → is_past net c (goal net p) (tail_place net S p) ≡ true → has_channel S.back c ≡ true
    -- a credit that is on its way is one of an owned channel
    pub owed : (c : Channel) → has_channel S.back c ≡ true → (p : ℕ) × Has (c, p) S.own

  -- ---- the states of a run

  back-from : (F : State) (n : ℕ) (c : Channel) → has_channel (after_verdicts net n F).back c ≡ true → Has c (all_inputs net) × ((is_link c && is_moved (verdict_in net F c)) ≡ true)
  unfolding after_verdicts
  back-from F n c e = Has-filter (λ d. is_link d && is_moved (verdict_in net F d)) c (all_inputs net) (channel-has c (after_verdicts net n F).back e)

  owed-verdicts : (F : State) → IsOrderedFrozen net F → (n : ℕ) (c : Channel) → has_channel (after_verdicts net n F).back c ≡ true → (p : ℕ) × Has (c, p) (after_verdicts net n F).own
  owed-verdicts F x n c e = at (owner_of net F c) refl
    where
      found : Has c (all_inputs net) × ((is_link c && is_moved (verdict_in net F c)) ≡ true)
      found = back-from F n c e

      both : (is_link c ≡ true) × (is_moved (verdict_in net F c) ≡ true)
      both = and_parts (is_link c) (is_moved (verdict_in net F c)) found.1

      stays : (d : Channel) (p : ℕ) → is_link d ≡ true → is_released net F (d, p) ≡ false
      stays (Link a b w) p k = refl
      stays (Inject a w) p k = absurd (false≢true k)
      stays (Eject a w) p k = absurd (false≢true k)

      at : (o : Option ℕ) → owner_of net F c ≡ o → (p : ℕ) × Has (c, p) (after_verdicts net n F).own
      at None k = let z = unowned-verdict net good F x n c k found.0 in absurd (false≢true (sym (ap is_moved z.0) ∙ both.1))
      at (Some p) k = (p, owned-kept net good F x n c p (owner-has net F c p k) (stays c p both.0))

  pub owed-at : (n : ℕ) (c : Channel) → has_channel (state_at net n).back c ≡ true → (p : ℕ) × Has (c, p) (state_at net n).own
  unfolding state_at network_cycle opening_state
  owed-at zero c e = absurd (false≢true e)
  owed-at (suc n) c e = owed-verdicts (frozen_at net n) (ordered-frozen net good n) n c e

  -- at the start of a cycle
  pub steady-start : (S : State) → IsOrdered net S → ((c : Channel) → has_channel S.back c ≡ true → (p : ℕ) × Has (c, p) S.own) → IsSteady S
  steady-start S x owed = record {
    keyed = x.whole.sound.keyed;
    worm = x.whole.sound.worm;
    routed = x.whole.routed.mid;
    covered = x.whole.covered;
    room = x.whole.sound.room;
    low = x.more.low;
    backed = x.whole.backed;
    owed = owed;
  }

  -- in the middle of one
  pub steady-frozen : (F : State) → IsOrderedFrozen net F → IsSteady F
  steady-frozen F x = record {
    keyed = x.whole.sound.keyed;
    worm = x.whole.sound.worm;
    routed = x.whole.routed.mid;
    covered = x.whole.covered;
    room = room;
    low = x.more.low;
    backed = λ c p h k e. absurd (false≢true (sym (x.whole.routed.behind c p h) ∙ e));
    owed = λ c e. absurd (false≢true (sym (x.no_credit c) ∙ e));
  }
    where
      room : (c : Channel) → slots_taken net F c ≤ net.depth
      room c =
          let on = none-on net good.built F x.whole.sound.keyed x.whole.sound.worm 0 x.whole.sound.still c in
          let back : one_if (has_channel F.back c) ≡ 0 = ap one_if (x.no_credit c) in
          let k = x.whole.sound.room c in
          omega (arith, on, back, k)

  -- ---- who owns what, in one router

  module _ (S : State) (x : IsSteady S) where
    abbrev sent : Channel → ℕ → Bool
    sent c p = is_on c (tail_place net S p) || has_come net c (goal net p) (tail_place net S p)

    abbrev Next : ℕ → Channel → Channel → Type 0
    Next p c o = IsNext net good.built S x.keyed x.worm p c o

    tail-placed : (p : ℕ) (c : Channel) → Has (c, p) S.own → IsPlaced net S.own p (tail_place net S p)
    tail-placed p c h = x.worm.placed p (last_of net p) (valid-last net good.built p (x.worm.known c p h))

    -- a tail that was not sent on a link channel is not past the channel before it
    unpast-link : (p : ℕ) (c : Channel) (a b w : ℕ) → Next p c (Link a b w) → sent (Link a b w) p ≡ false → is_past net c (goal net p) (tail_place net S p) ≡ false
    unpast-link p c a b w m unsent = at (tail_place net S p) (tail-placed p (Link a b w) m.owns) unsent
      where
        far : far_of net p c ≡ far_of net p (Link a b w) + 1
        far = far-link net good.built S x.keyed x.worm p c a b w m

        near : far_of net p (Link a b w) < hops net p
        near = (x.worm.near (Link a b w) p m.owns).0

        parts : (y z k : Bool) → (y || (z || k)) ≡ false → (y ≡ false) × (z ≡ false) × (k ≡ false)
        parts false false false e = (refl, refl, refl)
        parts true z k e = absurd (true≢false e)
        parts false true k e = absurd (true≢false e)
        parts false false true e = absurd (true≢false e)

        farther : (s u j : ℕ) → Has (Link s u j, p) S.own → same_channel (Link a b w) (Link s u j) ≡ false → nat_lt (far_of net p (Link s u j)) (far_of net p (Link a b w)) ≡ false
            → nat_lt (far_of net p (Link s u j)) (far_of net p c) ≡ false
        farther s u j h other behind =
            let l : far_of net p (Link a b w) ≤ far_of net p (Link s u j) = ltb-false (far_of net p (Link s u j)) (far_of net p (Link a b w)) behind in
            let apart : far_of net p (Link a b w) ≡ far_of net p (Link s u j) → ⊥
            = λ e. let same = same-far net good.built S x.keyed x.worm p (Link a b w) (Link s u j) m.owns h (λ z. z) (λ z. z) e in
            true≢false (sym (same_channel-refl (Link a b w)) ∙ ap (same_channel (Link a b w)) same ∙ other) in
            le-ltb (far_of net p (Link s u j)) (far_of net p c) (strict (far_of net p (Link a b w)) (far_of net p (Link s u j)) (far_of net p c) l apart far)
          where
            strict : (d e f : ℕ) → d ≤ e → (d ≡ e → ⊥) → f ≡ d + 1 → f ≤ e
            strict d e f l n k = omega arith

        at : (y : Place) → IsPlaced net S.own p y → (is_on (Link a b w) y || has_come net (Link a b w) (goal net p) y) ≡ false → is_past net c (goal net p) y ≡ false
        at Source k e = refl
        at (On (Link s u j)) k e = let z = parts (same_channel (Link a b w) (Link s u j)) false (nat_lt (far_of net p (Link s u j)) (far_of net p (Link a b w))) e in farther s u j k z.0 z.2
        at (On (Inject s j)) k e = elim k [ ]
        at (On (Eject s j)) k e = elim k [ ]
        at (In (Link s u j)) k e = let z = parts false (same_channel (Link a b w) (Link s u j)) (nat_lt (far_of net p (Link s u j)) (far_of net p (Link a b w))) e in farther s u j k z.1 z.2
        at (In (Inject s j)) k e =
            let q : far_of net p (Inject s j) ≡ hops net p = ap (λ v. distance net.relation.grid v (goal net p)) (x.worm.near (Inject s j) p k) in
            let f = far in
            let l = near in
            le-ltb (far_of net p (Inject s j)) (far_of net p c) (omega (arith, q, f, l))
        at (In (Eject s j)) k e = elim k [ ]
        at (Out k') k e = absurd (true≢false e)

    -- nor is one past the channel before an ejection channel
    unpast-eject : (p : ℕ) (c : Channel) (a w : ℕ) → Next p c (Eject a w) → is_past net c (goal net p) (tail_place net S p) ≡ false
    unpast-eject p c a w m = at (tail_place net S p) refl
      where
        far : far_of net p c ≡ 0
        far = far-eject net good.built S x.keyed x.worm p c a w m

        at : (y : Place) → tail_place net S p ≡ y → is_past net c (goal net p) y ≡ false
        at Source e = refl
        at (On d) e = let f = far in le-ltb (far_of net p d) (far_of net p c) (omega (arith, f))
        at (In d) e = let f = far in le-ltb (far_of net p d) (far_of net p c) (omega (arith, f))
        at (Out k) e = absurd (x.routed.eject a w p k m.owns e)

    -- a tail that is not past a channel was not sent on the one behind it
    unsent : (p : ℕ) (c : Channel) (a b w : ℕ) → Next p c (Link a b w) → is_past net c (goal net p) (tail_place net S p) ≡ false → sent (Link a b w) p ≡ false
    unsent p c a b w m behind = at (tail_place net S p) behind
      where
        far : far_of net p c ≡ far_of net p (Link a b w) + 1
        far = far-link net good.built S x.keyed x.worm p c a b w m

        none : (d : Channel) → nat_lt (far_of net p d) (far_of net p c) ≡ false → (same_channel (Link a b w) d ≡ false) × (nat_lt (far_of net p d) (far_of net p (Link a b w)) ≡ false)
        none d e = (other (same_channel (Link a b w) d) refl, le-ltb (far_of net p d) (far_of net p (Link a b w)) (let f = far in omega (arith, f, l)))
          where
            l : far_of net p c ≤ far_of net p d
            l = ltb-false (far_of net p d) (far_of net p c) e

            other : (t : Bool) → same_channel (Link a b w) d ≡ t → same_channel (Link a b w) d ≡ false
            other false t = t
            other true t = let q : far_of net p (Link a b w) ≡ far_of net p d = ap (far_of net p) (same_channel-true (Link a b w) d t) in let f = far in absurd (omega (arith, q, f, l))

        at : (y : Place) → is_past net c (goal net p) y ≡ false → (is_on (Link a b w) y || has_come net (Link a b w) (goal net p) y) ≡ false
        at Source e = refl
        at (On d) e = let z = none d e in ap (λ t. t || nat_lt (far_of net p d) (far_of net p (Link a b w))) z.0 ∙ z.1
        at (In d) e = let z = none d e in ap (λ t. t || nat_lt (far_of net p d) (far_of net p (Link a b w))) z.0 ∙ z.1
        at (Out k) e = absurd (true≢false e)

    -- ---- router r

    module _ (r : ℕ) (l : r < nodes net.relation.grid) where
      -- the next channel of an input channel of this router is one of its output channels
      pub next-here : (i p : ℕ) (c o : Channel) → IsAt net good r i c → Next p c o → (j : ℕ) × IsFrom net good r j o
      next-here i p c o at n = by o n
        where
          end : (o : Channel) → leads_from net c o ≡ true → (s : ℕ) → sending_router o ≡ Some s → s ≡ r
          end o leads s b =
              let q = leads-end net c o leads in
              let a : q.0 ≡ s = same_Some q.0 s (sym q.1 ∙ b) in
              let z : q.0 ≡ r = same_Some q.0 r (sym q.2 ∙ ap (option_map (λ (place : ℕ × ℕ). place.0)) at.arrives) in
              sym a ∙ z

          by : (o : Channel) → Next p c o → (j : ℕ) × IsFrom net good r j o
          by (Link a b w) n =
              let s : a ≡ r = end (Link a b w) n.leads a refl in
              let at_o = input-at net good (Link a b w) (x.covered (Link a b w) p (n.owns, (λ z. z))) in
              let port : b < local_port net.relation.grid = linked-port net.relation.grid a b (at_o.0, at_o.1 / net.relation.vcs) at_o.2.arrives in
              let low : w < net.relation.vcs = subst (λ k. k < net.relation.vcs) (sym at_o.2.vc) (mod-below net good at_o.1) in
              (b * net.relation.vcs + w, subst (λ k. IsFrom net good r (b * net.relation.vcs + w) (Link k b w)) (sym s) (link-from net good r b w port low))
          by (Inject a w) n = absurd (false≢true n.leads)
          by (Eject a w) n =
              let s : a ≡ r = end (Eject a w) n.leads a refl in
              let low : w < net.relation.vcs = x.low a w p n.owns in
              (local_port net.relation.grid * net.relation.vcs + w, subst (λ k. IsFrom net good r (local_port net.relation.grid * net.relation.vcs + w) (Eject k w)) (sym s) (eject-from net good r w low))

      -- an input channel that is active, and the output channel that its packet owns
      pub record Sends (i o : ℕ) : Type 0 where
        pub packet : ℕ
        pub from : Channel
        pub to : Channel
        pub here : IsAt net good r i from
        pub there : IsFrom net good r o to
        pub owned : Has (from, packet) S.own
        pub routed : has_channel S.routed from ≡ true
        pub next : Next packet from to
        pub behind : is_past net from (goal net packet) (tail_place net S packet) ≡ false

      -- what an active phase says
      pub sends-active : (i o : ℕ) (c : Channel) → IsAt net good r i c → seen_phase net S r i c ≡ Active o → Sends i o
      sends-active i o c at e = by (has_channel S.routed c) refl e
        where
          with : (d : Option Channel) → next_channel net S c ≡ d → has_channel S.routed c ≡ true → seen_phase_with net S r i c d ≡ Active o → Sends i o
          with None k h f = let z : Waiting (seen_set net S r i (owner_of net S c)) ≡ Active o = f in absurd (cc z)
          with (Some d) k h f =
              let own = next-owner net good S x.keyed x.worm c d k in
              let only = x.routed.only c h in
              let same : only.0 ≡ own.0 = same-owner net good S x.keyed x.worm c only.0 own.0 only.1.0 own.1 in
              let from = next-here i own.0 c d at own.2 in
              let z : Active (output_index net.relation.grid net.relation.vcs d) ≡ Active o = f in
              let index : output_index net.relation.grid net.relation.vcs d ≡ o = cc z in
              record {
                packet = own.0;
                from = c;
                to = d;
                here = at;
                there = subst (λ j. IsFrom net good r j d) (sym from.1.is_index ∙ index) from.1;
                owned = own.1;
                routed = h;
                next = own.2;
                behind = subst (λ p. is_past net c (goal net p) (tail_place net S p) ≡ false) same only.3;
              }

          by : (b : Bool) → has_channel S.routed c ≡ b → cond b (seen_phase_with net S r i c (next_channel net S c)) Idle ≡ Active o → Sends i o
          by true h f = with (next_channel net S c) refl h f
          by false h f = absurd (cc f)

      -- the output channel of one that sends is owned from it
      pub holder-sends : (i o : ℕ) (s : Sends i o) → seen_holder net S r s.to (owner_of net S s.to) ≡ Owned i s.packet
      holder-sends i o s =
          ap (seen_holder net S r s.to) (owner-is net S s.to s.packet x.worm.once s.next.owns)
          ∙ ap (λ b. cond b Draining (Owned (seen_sender net S r s.to) s.packet)) (free s.to s.next)
          ∙ ap (λ k. Owned k s.packet) (sender-is net good S x.keyed x.worm r i s.packet s.from s.to s.here s.owned s.next)
        where
          free : (d : Channel) → Next s.packet s.from d → (is_link d && sent d s.packet) ≡ false
          free (Link a b w) m = unsent s.packet s.from a b w m s.behind
          free (Inject a w) m = refl
          free (Eject a w) m = refl

      -- an input channel that sends is active
      pub active-sends : (i o : ℕ) (s : Sends i o) → seen_phase net S r i s.from ≡ Active o
      active-sends i o s =
          ap (λ b. cond b (seen_phase_with net S r i s.from (next_channel net S s.from)) Idle) s.routed
          ∙ ap (seen_phase_with net S r i s.from) (next-from net good.built S x.keyed x.worm s.packet s.from s.to s.owned s.next)
          ∙ ap Active s.there.is_index

      -- what an owned output channel says
      pub sends-owned : (i o p : ℕ) (c : Channel) → IsFrom net good r o c → seen_holder net S r c (owner_of net S c) ≡ Owned i p → Sends i o
      sends-owned i o p c from e = at (owner_of net S c) refl e
        where
          -- the channel of q before c, where the tail of q is not on c, in it or past it
          with : (q : ℕ) → owner_of net S c ≡ Some q → ((a u : ℕ) → c ≡ Inject a u → ⊥) → (tail_place net S q ≡ On c → ⊥) → (tail_place net S q ≡ In c → ⊥) → is_past net c (goal net q) (tail_place net S q) ≡ false
              → ((d : Channel) → Next q d c → is_past net d (goal net q) (tail_place net S q) ≡ false) → seen_sender net S r c ≡ i → Sends i o
          with q k none not_on not_in behind unpast source =
              let own : Has (c, q) S.own = owner-has net S c q k in
              let s = has-source net good.built S.own (place_of_flit net S) x.worm c q own none not_on not_in behind in
              let d : Channel = s.0 in
              let leads : leads_from net d (leaving net r o) ≡ true = subst (λ (y : Channel). leads_from net d y ≡ true) (sym from.found) s.2 in
              let h : IsHeld net S d q = (s.1, not-end net good S x.keyed x.worm d c s.2) in
              let place = at-router net good S x.keyed x.worm r o d (x.covered d q h) leads in
              let next : Next q d c = record { owns = own; leads = s.2 } in
              let past = unpast d next in
              let same : place.0 ≡ i = sym (sender-is net good S x.keyed x.worm r place.0 q d c place.1 s.1 next) ∙ source in
              record {
                packet = q;
                from = d;
                to = c;
                here = subst (λ j. IsAt net good r j d) same place.1;
                there = from;
                owned = s.1;
                routed = x.routed.granted d q h (c, own, s.2) past;
                next = next;
                behind = past;
              }

          parts : (y z k : Bool) → (y || (z || k)) ≡ false → (y ≡ false) × (z ≡ false) × (k ≡ false)
          parts false false false e = (refl, refl, refl)
          parts true z k e = absurd (true≢false e)
          parts false true k e = absurd (true≢false e)
          parts false false true e = absurd (true≢false e)

          sender-of : (q : ℕ) → Owned (seen_sender net S r c) q ≡ Owned i p → seen_sender net S r c ≡ i
          sender-of q f = cc f

          tell : (q : ℕ) → owner_of net S c ≡ Some q → (d : Channel) → d ≡ c → (b : Bool) → (is_link d && sent d q) ≡ b → cond b Draining (Owned (seen_sender net S r c) q) ≡ Owned i p → Sends i o
          tell q k d g true t f = absurd (cc f)
          tell q k (Link a b w) g false t f =
              let z = parts (is_on (Link a b w) (tail_place net S q)) (is_in (Link a b w) (tail_place net S q)) (is_past net (Link a b w) (goal net q) (tail_place net S q)) t in
              with q k (λ s u y. cc (g ∙ y))
              (λ y. true≢false (sym (ap (is_on (Link a b w)) (y ∙ ap On (sym g)) ∙ same_channel-refl (Link a b w)) ∙ z.0))
              (λ y. true≢false (sym (ap (is_in (Link a b w)) (y ∙ ap In (sym g)) ∙ same_channel-refl (Link a b w)) ∙ z.1))
              (subst (λ (y : Channel). is_past net y (goal net q) (tail_place net S q) ≡ false) g z.2)
              (λ e' m. unpast-link q e' a b w (subst (λ (y : Channel). Next q e' y) (sym g) m) t) (sender-of q f)
          tell q k (Inject a w) g false t f =
              let b : Some r ≡ None = sym (Rattle.noc_theory.proofs.join.PlaceViewLemmas.begins-at net good r o) ∙ ap sending_router (from.found ∙ sym g) in absurd (cc b)
          tell q k (Eject a w) g false t f =
              let own : Has (Eject a w, q) S.own = subst (λ (y : Channel). Has (y, q) S.own) (sym g) (owner-has net S c q k) in
              let placed = tail-placed q (Eject a w) own in
              with q k (λ s u y. cc (g ∙ y))
              (λ y. subst (λ (z : Place). IsPlaced net S.own q z) (y ∙ ap On (sym g)) placed)
              (λ y. subst (λ (z : Place). IsPlaced net S.own q z) (y ∙ ap In (sym g)) placed)
              (subst (λ (y : Channel). is_past net y (goal net q) (tail_place net S q) ≡ false) g (behind (tail_place net S q) refl))
              (λ e' m. unpast-eject q e' a w (subst (λ (y : Channel). Next q e' y) (sym g) m)) (sender-of q f)
            where
              behind : (y : Place) → tail_place net S q ≡ y → is_past net (Eject a w) (goal net q) y ≡ false
              behind Source h = refl
              behind (On d) h = le-ltb (far_of net q d) 0 (omega arith)
              behind (In d) h = le-ltb (far_of net q d) 0 (omega arith)
              behind (Out n) h = absurd (x.routed.eject a w q n (subst (λ (y : Channel). Has (y, q) S.own) (sym g) (owner-has net S c q k)) h)

          at : (q : Option ℕ) → owner_of net S c ≡ q → seen_holder net S r c q ≡ Owned i p → Sends i o
          at None k f = absurd (cc f)
          at (Some q) k f = tell q k c refl (is_link c && sent c q) refl f
