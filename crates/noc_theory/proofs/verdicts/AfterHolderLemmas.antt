-- After the verdicts: the holder of an output channel.
use Rattle.std.proofs.Common.{◌≡◌, ℕ, ◌+◌, ◌*◌, ◌/◌, ◌<◌, Bool, true, false, cond, length, Some, None, refl, ap, sym, ◌∙◌, inl, inr, subst, arith}
use Rattle.std.specs.Prelude.{◌&&◌, ◌||◌, not, nat_lt}
use Rattle.noc_theory.proofs.Common.{false≢true, true≢false, le-ltb, Has, Channel, Link, Inject, Eject, is_link, same_channel, channel_vc, has_come, come_count, seen_sender, Setup, State, Located, Place, Source, On, In, Out, size, leaving, place_of_flit, tail_place, is_on, is_in, is_past, owner_of, leads_from, verdict_in, tail_leaves, is_released, after_verdicts, all_inputs, has_channel, count_in, count_on, next_channel, verdict_at, round_at, claim_with, IsValid, Unrouted, is_routed, is_moved, verdict_of, Empty, Moved}
use Rattle.noc_theory.proofs.worms.BufferLemmas.{same_channel-refl, same_channel-true}
use Rattle.noc_theory.proofs.worms.MoveLemmas.{IsFirst, IsMoved, moved-or-not}
use Rattle.noc_theory.proofs.worms.StateWordLemmas.{IsEject, IsHeld, IsPlaced, goal, last_of, far_of}
use Rattle.noc_theory.proofs.worms.PlaceLemmas.{flit-there, is_on-is}
use Rattle.noc_theory.proofs.worms.SourceOfLemmas.{has-source}
use Rattle.noc_theory.proofs.worms.WormRecordLemmas.{valid-last}
use Rattle.noc_theory.proofs.verdicts.AfterLemmas.{whole, wormT, Moves, Next, held-kept, come-gone}
use Rattle.noc_theory.proofs.worms.InjectionRoomLemmas.{filter-none}
use Rattle.noc_theory.proofs.worms.OwnedLemmas.{idle-none}
use Rattle.noc_theory.proofs.worms.RoomLemmas.{unowned-empty}
use Rattle.noc_theory.proofs.worms.VerdictPhaseLemmas.{tail-of}
use Rattle.noc_theory.proofs.worms.NextLemmas.{one-next}
use Rattle.noc_theory.proofs.verdicts.AfterInputLemmas.{given-empty}
use Rattle.noc_theory.proofs.verdicts.AfterNextLemmas.{next-owned, routed-after}
use Rattle.noc_theory.proofs.verdicts.AfterOutputLemmas.{on-none}
use Rattle.noc_theory.proofs.landing.ComeLemmas.{count-all}
use Rattle.noc_theory.proofs.join.OrderedLemmas.{IsGood, IsOrderedFrozen}
use Rattle.noc_theory.proofs.join.PlaceViewLemmas.{input-at}
use Rattle.noc_theory.proofs.injection.SourceLemmas.{at-router, sender-is, not-end}

module _ (net : Setup) (good : IsGood net) (F : State) (x : IsOrderedFrozen net F) (n : ℕ) where
  abbrev T : State
  T = after_verdicts net n F

  -- whether the tail has been sent on o
  abbrev pub is_sent_on : State → Channel → ℕ → Bool
  is_sent_on S o p = is_on o (tail_place net S p) || has_come net o (goal net p) (tail_place net S p)

  last : (p : ℕ) → p < length net.packets → IsValid net p (last_of net p)
  last p l = valid-last net good.built p l

  not-on : (p : ℕ) (o : Channel) → p < length net.packets → is_on o (tail_place net F p) ≡ false
  not-on p o l = at (is_on o (tail_place net F p)) refl
    where
      at : (b : Bool) → is_on o (tail_place net F p) ≡ b → is_on o (tail_place net F p) ≡ false
      at false e = e
      at true e = absurd (x.whole.sound.still p (last_of net p) (last p l) o (is_on-is o (tail_place net F p) e))

  -- where the tail does not move to o now, it has been sent on o as before
  pub sent-kept : (p : ℕ) (o : Channel) → IsHeld net F o p → ((d : Channel) → Moves net good F x n p (last_of net p) d o → ⊥) → is_sent_on T o p ≡ is_sent_on F o p
  unfolding after_verdicts
  sent-kept p o h never = by (moved-or-not net good.built F x.whole.sound.keyed x.whole.sound.worm n x.whole.sound.still p (last_of net p) (last p low))
    where
      low : p < length net.packets
      low = x.whole.sound.worm.known o p h.0

      wire : (a b : Channel) → (b ≡ o → ⊥) → is_on o (Rattle.noc_theory.specs.Network.gone_to net n a (Some b)) ≡ false
      wire a (Link s u t) k = at (same_channel o (Link s u t)) refl
        where
          at : (y : Bool) → same_channel o (Link s u t) ≡ y → same_channel o (Link s u t) ≡ false
          at false e = e
          at true e = absurd (k (sym (same_channel-true o (Link s u t) e)))
      wire a (Inject s u) k = refl
      wire a (Eject s u) k = refl

      by : IsMoved net good.built F x.whole.sound.keyed x.whole.sound.worm n x.whole.sound.still p (last_of net p) → is_sent_on T o p ≡ is_sent_on F o p
      by (inl s) = ap (λ (y : Place). is_on o y || has_come net o (goal net p) y) s.now
      by (inr m) =
          let other : m.1 ≡ o → ⊥ = λ e. never m.0 (subst (λ (y : Channel). Moves net good F x n p (last_of net p) m.0 y) e m.2) in
          ap (λ (y : Place). is_on o y || has_come net o (goal net p) y) m.2.now
          ∙ ap (λ b. b || has_come net o (goal net p) (Rattle.noc_theory.specs.Network.gone_to net n m.0 (Some m.1))) (wire m.0 m.1 other)
          ∙ come-gone net good F x n p o m.0 m.1 h m.2.owns m.2.next
          ∙ sym (ap (λ b. b || has_come net o (goal net p) (tail_place net F p)) (not-on p o low) ∙ ap (has_come net o (goal net p)) m.2.was)

  -- the source of an output channel on which the tail has not been sent stays
  pub record KeepsSource (r : ℕ) (o : Channel) (p : ℕ) : Type 0 where
    pub owned : Has (o, p) T.own
    pub same : seen_sender net T r o ≡ seen_sender net F r o

  -- the source of an output channel stays where its tail does not leave the channel before it
  pub source-kept : (r j p : ℕ) (o : Channel) → leaving net r j ≡ o → Has (o, p) F.own → ((a u : ℕ) → o ≡ Inject a u → ⊥) → (tail_place net F p ≡ In o → ⊥) → is_past net o (goal net p) (tail_place net F p) ≡ false
      → ((c : Channel) → Next net good F x n p c o → Has (c, p) F.own → tail_leaves net F c ≡ false) → KeepsSource r o p
  source-kept r j p o from own none not_in behind stays =
      let low = x.whole.sound.worm.known o p own in
      let s = has-source net good.built F.own (place_of_flit net F) x.whole.sound.worm o p own none (x.whole.sound.still p (last_of net p) (last p low) o) not_in behind in
      let c : Channel = s.0 in
      let leads : leads_from net c (leaving net r j) ≡ true = subst (λ (y : Channel). leads_from net c y ≡ true) (sym from) s.2 in
      let h : IsHeld net F c p = (s.1, not-end net good F x.whole.sound.keyed x.whole.sound.worm c o s.2) in
      let at = at-router net good F x.whole.sound.keyed x.whole.sound.worm r j c (x.whole.covered c p h) leads in
      let next : Next net good F x n p c o = record { owns = own; leads = s.2 } in
      let still = stays c next s.1 in
      let ownT : Has (o, p) T.own = next-owned net good F x n p c o s.1 next still in
      record {
        owned = ownT;
        same =
            sender-is net good T (whole net good F x n).sound.keyed (wormT net good F x n) r at.0 p c o at.1 (held-kept net good F x n c p h still) (record { owns = ownT; leads = s.2 })
            ∙ sym (sender-is net good F x.whole.sound.keyed x.whole.sound.worm r at.0 p c o at.1 s.1 next);
      }

  -- a link channel on which the tail was not sent
  pub link-kept : (r j p a b u : ℕ) → leaving net r j ≡ Link a b u → Has (Link a b u, p) F.own → is_sent_on F (Link a b u) p ≡ false
      → ((c : Channel) → Next net good F x n p c (Link a b u) → Has (c, p) F.own → tail_leaves net F c ≡ false) → KeepsSource r (Link a b u) p
  link-kept r j p a b u from own unsent stays =
      source-kept r j p (Link a b u) from own (λ s t e. cc e)
      (λ e. true≢false (sym (ap (λ (y : Place). is_on (Link a b u) y || has_come net (Link a b u) (goal net p) y) e ∙ ap (λ z. z || is_past net (Link a b u) (goal net p) (In (Link a b u))) (same_channel-refl (Link a b u))) ∙ unsent))
      (second (is_on (Link a b u) (tail_place net F p)) (is_in (Link a b u) (tail_place net F p)) (is_past net (Link a b u) (goal net p) (tail_place net F p)) unsent) stays
    where
      second : (y z w : Bool) → (y || (z || w)) ≡ false → w ≡ false
      second true z w e = absurd (true≢false e)
      second false true w e = absurd (true≢false e)
      second false false w e = e

  -- an ejection channel
  pub eject-kept : (r j p a u : ℕ) → leaving net r j ≡ Eject a u → Has (Eject a u, p) F.own
      → ((c : Channel) → Next net good F x n p c (Eject a u) → Has (c, p) F.own → tail_leaves net F c ≡ false) → KeepsSource r (Eject a u) p
  eject-kept r j p a u from own stays =
      source-kept r j p (Eject a u) from own (λ s t e. cc e) (λ e. not_in e) (behind (tail_place net F p) refl) stays
    where
      low : p < length net.packets
      low = x.whole.sound.worm.known (Eject a u) p own

      not_in : tail_place net F p ≡ In (Eject a u) → ⊥
      not_in e = subst (λ (y : Place). IsPlaced net F.own p y) e (x.whole.sound.worm.placed p (last_of net p) (last p low))

      behind : (y : Place) → tail_place net F p ≡ y → is_past net (Eject a u) (goal net p) (tail_place net F p) ≡ false
      behind Source e = ap (is_past net (Eject a u) (goal net p)) e
      behind (On c) e = absurd (x.whole.sound.still p (last_of net p) (last p low) c e)
      behind (In c) e = ap (is_past net (Eject a u) (goal net p)) e ∙ le-ltb (far_of net p c) 0 (omega arith)
      behind (Out k) e = absurd (x.whole.routed.mid.eject a u p k own e)

  -- a tail that leaves a channel moves to its next channel
  pub tail-moves : (d c : Channel) (p : ℕ) → Has (d, p) F.own → tail_leaves net F d ≡ true → Next net good F x n p d c → Moves net good F x n p (last_of net p) d c
  tail-moves d c p h e m = by (moved-or-not net good.built F x.whole.sound.keyed x.whole.sound.worm n x.whole.sound.still p (last_of net p) (last p (x.whole.sound.worm.known d p h)))
    where
      t : (verdict_in net F d ≡ Moved) × IsFirst net good.built F x.whole.sound.keyed x.whole.sound.worm d p (last_of net p)
      t = tail-of net good.built good.wired F x.whole.sound.keyed x.whole.sound.worm n x.whole.sound.still d p h e

      by : IsMoved net good.built F x.whole.sound.keyed x.whole.sound.worm n x.whole.sound.still p (last_of net p) → Moves net good F x n p (last_of net p) d c
      by (inl s) = absurd (s.not_first d t.0 t.1)
      by (inr k) =
          let z : In k.0 ≡ In d = sym k.2.was ∙ t.1.there in
          let same : k.0 ≡ d = cc in
          let k' : Moves net good F x n p (last_of net p) d k.1 = subst (λ (y : Channel). Moves net good F x n p (last_of net p) y k.1) same k.2 in
          subst (λ (y : Channel). Moves net good F x n p (last_of net p) d y) (one-next net good.built F x.whole.sound.keyed x.whole.sound.worm d k.1 c p k'.next m) k'

  -- a channel that nobody owns holds nothing
  pub unowned-verdict : (c : Channel) → owner_of net F c ≡ None → Has c (all_inputs net) → (verdict_in net F c ≡ Empty) × (has_channel F.routed c ≡ false)
  unowned-verdict c idle member =
      let never : (p : ℕ) → Has (c, p) F.own → ⊥ = λ p h. idle-none net F c p idle h in
      let unrouted = no_route (has_channel F.routed c) refl never in
      let empty : count_in net F c ≡ 0 = unowned-empty net good.built F x.whole.sound.keyed x.whole.sound.worm c never in
      let a = input-at net good c member in (
        ap (verdict_at net F c) a.2.arrives
            ∙ ap (λ b. verdict_of net.relation.vcs (round_at net F a.0) (a.1 / net.relation.vcs * net.relation.vcs + channel_vc c) (cond b (claim_with net F a.0 c (next_channel net F c)) Unrouted) (nat_lt 0 (count_in net F c))) unrouted
            ∙ ap (λ k. verdict_of net.relation.vcs (round_at net F a.0) (a.1 / net.relation.vcs * net.relation.vcs + channel_vc c) Unrouted (nat_lt 0 k)) empty,
        unrouted,
      )
    where
      no_route : (b : Bool) → has_channel F.routed c ≡ b → ((p : ℕ) → Has (c, p) F.own → ⊥) → has_channel F.routed c ≡ false
      no_route false k never = k
      no_route true k never = let o = x.whole.routed.mid.only c k in absurd (never o.0 o.1.0)

  -- the tail has not been sent on a link channel that was just granted
  pub given-unsent : (o : Channel) (p : ℕ) → is_link o ≡ true → (IsEject o → ⊥) → owner_of net F o ≡ None → Has (o, p) T.own → is_sent_on T o p ≡ false
  given-unsent o p link eject idle own = both (is_on o (tail_place net T p)) refl (has_come net o (goal net p) (tail_place net T p)) refl
    where
      member : Has o (all_inputs net)
      member = (whole net good F x n).covered o p (own, eject)

      verdict : (verdict_in net F o ≡ Empty) × (has_channel F.routed o ≡ false)
      verdict = unowned-verdict o idle member

      unrouted : has_channel T.routed o ≡ false
      unrouted = routed-after net good F x n o member ∙ ap (λ b. (b && not (tail_leaves net F o)) || is_routed (verdict_in net F o)) verdict.1 ∙ ap is_routed verdict.0

      empty : come_count net T o p ≡ 0
      empty = given-empty net good F x n o p member eject own idle unrouted (ap is_moved verdict.0) link

      low : p < length net.packets
      low = (wormT net good F x n).known o p own

      wire : count_on net T o ≡ 0
      wire = on-none net good F x n o (λ c q i m. idle-none net F o q idle m.next.owns)

      both : (a : Bool) → is_on o (tail_place net T p) ≡ a → (b : Bool) → has_come net o (goal net p) (tail_place net T p) ≡ b → is_sent_on T o p ≡ false
      both true e b k =
          absurd (false≢true (sym (filter-none (λ (f : Located). is_on o f.place) T.at (record { packet = p; index = last_of net p; place = tail_place net T p }) wire (flit-there net T (whole net good F x n).sound.keyed p (last_of net p) (last p low))) ∙ e))
      both false e true k =
          let all = count-all net good.built T (whole net good F x n).sound.keyed (wormT net good F x n) p o (own, eject) k in
          let some = good.built.some_flit p low in
          absurd (omega (arith, all, some, empty))
      both false e false k = ap (λ b. b || has_come net o (goal net p) (tail_place net T p)) e ∙ k
