-- A grant takes effect on the output channel that is granted, and with it all output
-- channels are those of the state.
use Rattle.std.proofs.Common.{◌≡◌, ℕ, ◌<◌, true, false, cond, Option, Some, None, get_or, refl, ap, sym, ◌∙◌, inl, inr, subst, arith}
use Rattle.std.specs.Prelude.{◌&&◌, not, nat_lt, unwrap_or, if◌then◌else◌}
use Rattle.noc_vc.specs.Output.{output_after_hold}
use Rattle.noc_theory.proofs.Common.{lt-ltb, or_left, or_right, Has, nodes, Channel, Link, Inject, Eject, is_link, sending_router, Input, Owned, Draining, View, Decisions, view_input, view_output, decisions_of, mover_to, output_after, seen_input, seen_output, seen_holder, seen_sender, is_present, come_count, has_come, Setup, State, Place, size, leaving, owner_of, is_in, is_past, credit_of, tail_place, after_verdicts, head_place, IsSeen}
use Rattle.noc_theory.proofs.worms.BufferLemmas.{same_channel-refl}
use Rattle.noc_theory.proofs.worms.StateWordLemmas.{IsHeld, Come, goal}
use Rattle.noc_theory.proofs.verdicts.AfterHolderLemmas.{is_sent_on, given-unsent}
use Rattle.noc_theory.proofs.verdicts.AfterInputLemmas.{seen-held}
use Rattle.noc_theory.proofs.verdicts.AfterLemmas.{whole, wormT, owned-given}
use Rattle.noc_theory.proofs.verdicts.AfterNextLemmas.{giver-kept}
use Rattle.noc_theory.proofs.verdicts.CommitOutputLemmas.{after-is, no-mover, credit-idle, idle-out, stays-out, moved-out, link_out, eject_out, holder-at}
use Rattle.noc_theory.proofs.landing.ComeLemmas.{count-some}
use Rattle.noc_theory.proofs.verdicts.MoverLemmas.{GivenTo, grant-given}
use Rattle.noc_theory.proofs.verdicts.NextViewLemmas.{owner-at}
use Rattle.noc_theory.proofs.join.OrderedLemmas.{IsGood, IsOrderedFrozen}
use Rattle.noc_theory.proofs.join.PlaceViewLemmas.{arrives-in, not-eject, begins-at}
use Rattle.noc_theory.proofs.injection.SourceLemmas.{sender-is}

-- what has come to the buffer of c, by its place
pub come-true : (net : Setup) (S : State) (p : ℕ) (c : Channel) (y : Place) → Come net p c y → has_come net c (goal net p) y ≡ true
come-true net S p c y (inl e) = or_left (is_in c y) (is_past net c (goal net p) y) (ap (is_in c) e ∙ same_channel-refl c)
come-true net S p c y (inr e) = or_right (is_in c y) (is_past net c (goal net p) y) e

module _ (net : Setup) (good : IsGood net) (F : State) (x : IsOrderedFrozen net F) where
  -- the packet of a routed channel is there
  pub packet-there : (r i p : ℕ) (c : Channel) → IsHeld net F c p → Come net p c (head_place net F p) → (seen_input net F r i (Some c)).packet ≡ Some p
  packet-there r i p c h come =
      let none = count-some net good.built F x.whole.sound.keyed x.whole.sound.worm p c h (come-true net F p c (head_place net F p) come) in
      let some : nat_lt 0 (come_count net F c p) ≡ true = lt-ltb _ _ (positive (come_count net F c p) none) in
      let there : is_present net F c p ≡ true
      = ap (λ b. b && not (is_past net c (goal net p) (tail_place net F p))) some ∙ ap not (x.whole.routed.behind c p h) in
      ap (λ (y : Input). y.packet) (seen-held net F r i p c (owner-at net good.built F x.whole.sound.keyed x.whole.sound.worm c p h.0)) ∙ ap (λ b. if b then Some p else None) there
    where
      positive : (k : ℕ) → (k ≡ 0 → ⊥) → 0 < k
      positive k none = omega arith

module _ (net : Setup) (good : IsGood net) (F : State) (x : IsOrderedFrozen net F) (n r : ℕ) (l : r < nodes net.relation.grid) (v : View) (seen : IsSeen net F r v) where
  abbrev T : State
  T = after_verdicts net n F

  abbrev D : Decisions
  D = decisions_of net.relation v

  module _ (o : ℕ) (u : o < size net) where
    module _ (i : ℕ) (e : get_or D.round.grants o None ≡ Some i) where
      g : GivenTo net good F x n r l v seen o i
      g = grant-given net good F x n r l v seen o i u e

      abbrev p : ℕ
      p = g.packet

      idle : owner_of net F (leaving net r o) ≡ None
      idle = g.grant.idle

      ownT : Has (leaving net r o, g.packet) T.own
      ownT = owned-given net good F x n g.channel (leaving net r o) g.packet (arrives-in net good g.at) g.pair

      ownerT : owner_of net T (leaving net r o) ≡ Some g.packet
      ownerT = owner-at net good.built T (whole net good F x n).sound.keyed (wormT net good F x n) (leaving net r o) g.packet ownT

      source : seen_sender net T r (leaving net r o) ≡ i
      source =
          let t = giver-kept net good F x n g.channel (leaving net r o) g.packet g.grant in
          sender-is net good T (whole net good F x n).sound.keyed (wormT net good F x n) r i g.packet g.channel (leaving net r o) g.at t.0 (record { owns = ownT; leads = t.1 })

      packet-is : (view_input v i).packet ≡ Some g.packet
      packet-is =
          let h : IsHeld net F g.channel g.packet = (Rattle.noc_theory.proofs.worms.OwnedLemmas.owner-has net F g.channel g.packet g.own, not-eject net good g.at) in
          let k = x.whole.routed.mid.only g.channel g.grant.routed in
          let same : k.0 ≡ g.packet = Rattle.noc_theory.proofs.injection.SourceLemmas.same-owner net good F x.whole.sound.keyed x.whole.sound.worm g.channel k.0 g.packet k.1.0 h.0 in
          ap (λ (y : Input). y.packet) (seen.input i g.within ∙ ap (seen_input net F r i) g.found)
          ∙ packet-there net good F x r i g.packet g.channel h (subst (λ (q : ℕ). Come net q g.channel (head_place net F q)) same k.2)

      -- the holder of the channel that was granted
      holder : (c : Channel) → leaving net r o ≡ c → (is_link c && is_sent_on net good F x n T c g.packet) ≡ false → seen_holder net T r c (owner_of net T c) ≡ Owned i g.packet
      holder c is unsent =
          holder-at net good F x n r l v seen T c (Some g.packet) (ap (owner_of net T) (sym is) ∙ ownerT)
          ∙ ap (λ b. cond b Draining (Owned (seen_sender net T r c) g.packet)) unsent
          ∙ ap (λ k. Owned k g.packet) (ap (seen_sender net T r) (sym is) ∙ source)

      granted : (c : Channel) → leaving net r o ≡ c → output_after_hold (seen_output net F r c) i g.packet ≡ seen_output net T r c
      granted (Link a b w) is =
          let unsent = given-unsent net good F x n (Link a b w) g.packet refl (λ z. z) (ap (owner_of net F) (sym is) ∙ idle) (subst (λ (y : Channel). Has (y, g.packet) T.own) is ownT) in
          let credit = credit-idle net good F x n r l v seen o u (Link a b w) is refl (no-mover net good F x n r l v seen o u idle) in
          ap (link_out net good F x n r l v seen (Owned i g.packet)) (sym credit) ∙ sym (ap (λ h. link_out net good F x n r l v seen h (credit_of net T (Link a b w))) (holder (Link a b w) is unsent))
      granted (Inject a w) is = let b : Some r ≡ None = sym (begins-at net good r o) ∙ ap sending_router is in absurd (cc b)
      granted (Eject a w) is = sym (ap (eject_out net good F x n r l v seen) (holder (Eject a w) is refl))

      granted-out : output_after v D.round o (view_output v o) ≡ seen_output net T r (leaving net r o)
      granted-out =
          after-is net good F x n r l v seen o u (Some i) None e (no-mover net good F x n r l v seen o u idle)
          ∙ ap (λ (k : Option ℕ). output_after_hold (seen_output net F r (leaving net r o)) i (unwrap_or k 0)) packet-is
          ∙ granted (leaving net r o) refl

    pub output-commit : output_after v D.round o (view_output v o) ≡ seen_output net T r (leaving net r o)
    output-commit = by (get_or D.round.grants o None) refl
      where
        moving : (p : ℕ) → owner_of net F (leaving net r o) ≡ Some p → (m : Option ℕ) → mover_to v D.round o ≡ m → output_after v D.round o (view_output v o) ≡ seen_output net T r (leaving net r o)
        moving p own None k = stays-out net good F x n r l v seen o u p own k
        moving p own (Some i) k = moved-out net good F x n r l v seen o u p own i k

        owned : (q : Option ℕ) → owner_of net F (leaving net r o) ≡ q → get_or D.round.grants o None ≡ None → output_after v D.round o (view_output v o) ≡ seen_output net T r (leaving net r o)
        owned None e k = idle-out net good F x n r l v seen o u e k
        owned (Some p) e k = moving p e (mover_to v D.round o) refl

        by : (k : Option ℕ) → get_or D.round.grants o None ≡ k → output_after v D.round o (view_output v o) ≡ seen_output net T r (leaving net r o)
        by None e = owned (owner_of net F (leaving net r o)) refl e
        by (Some i) e = granted-out i e
