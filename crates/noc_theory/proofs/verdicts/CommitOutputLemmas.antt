-- The verdicts take effect on the output channels of a view.
use Rattle.std.proofs.Common.{◌≡◌, ℕ, ◌<◌, Bool, true, false, cond, get_or, Option, Some, None, refl, ap, sym, ◌∙◌, subst}
use Rattle.std.specs.Prelude.{option_map, unwrap_or, ◌&&◌, ◌||◌}
use Rattle.noc_vc.specs.Output.{output_after_spend}
use Rattle.noc_vc.specs.declared.output.OutputState.{OutputState}
use Rattle.noc_vc.specs.declared.output.OutputState.TheVariants.{Idle as Free}
use Rattle.noc_view.specs.View.{held_by, spent_by, is_tail as is_tail_flit}
use Rattle.noc_theory.proofs.Common.{true≢false, and_from, none-some, Has, nodes, Channel, Link, Inject, Eject, is_link, same_channel, sending_router, Output, Owned, Draining, is_moved, View, Decisions, view_output, decisions_of, first_flit, mover_to, output_after, Verdict, seen_output, seen_holder, seen_sender, has_come, Setup, State, Located, Place, On, size, leaving, place_of_flit, owner_of, owned_by, has_channel, verdict_in, tail_leaves, tail_leaves_to, is_tail_of_packet, is_released, is_on, is_past, front_in, credit_of, count_on, tail_place, after_verdicts, all_inputs, next_channel, IsSeen}
use Rattle.noc_theory.proofs.worms.BufferLemmas.{same_channel-refl}
use Rattle.noc_theory.proofs.worms.MemberLemmas.{list_any-from}
use Rattle.noc_theory.proofs.worms.MoveLemmas.{next-once}
use Rattle.noc_theory.proofs.worms.OwnedLemmas.{owner-has, has-of, idle-none}
use Rattle.noc_theory.proofs.worms.VerdictPhaseLemmas.{leaves-tail}
use Rattle.noc_theory.proofs.worms.StateWordLemmas.{goal, last_of}
use Rattle.noc_theory.proofs.verdicts.AfterHolderLemmas.{is_sent_on, sent-kept, link-kept, eject-kept, tail-moves}
use Rattle.noc_theory.proofs.verdicts.AfterLemmas.{whole, wormT, Moves, Next, owned-kept, was-owned, WasOwned, kept, given}
use Rattle.noc_theory.proofs.verdicts.AfterOutputLemmas.{on-none, on-one, credit-stays, credit-spent}
use Rattle.noc_theory.proofs.verdicts.CommitInputLemmas.{first-is}
use Rattle.noc_theory.proofs.verdicts.MoverLemmas.{MoverTo, mover-moves, nothing-moves, grant-given, given-grant}
use Rattle.noc_theory.proofs.verdicts.NextViewLemmas.{owner-at, owner-none}
use Rattle.noc_theory.proofs.join.OrderedLemmas.{IsGood, IsOrderedFrozen}
use Rattle.noc_theory.proofs.join.PlaceViewLemmas.{begins-at}
use Rattle.noc_theory.proofs.injection.SourceLemmas.{same-owner}

module _ (net : Setup) (good : IsGood net) (F : State) (x : IsOrderedFrozen net F) (n r : ℕ) (l : r < nodes net.relation.grid) (v : View) (seen : IsSeen net F r v) where
  abbrev T : State
  T = after_verdicts net n F

  abbrev D : Decisions
  D = decisions_of net.relation v

  -- an output channel of a state, by its owner
  pub holder-at : (S : State) (c : Channel) (o : Option ℕ) → owner_of net S c ≡ o → seen_holder net S r c (owner_of net S c) ≡ seen_holder net S r c o
  holder-at S c o e = ap (seen_holder net S r c) e

  abbrev pub link_out : OutputState → ℕ → Output
  link_out holder credit = record { holder = holder; credit = Some credit; depth = net.depth }

  abbrev pub eject_out : OutputState → Output
  eject_out holder = record { holder = holder; credit = None; depth = 0 }

  -- ---- one output channel o, which is the channel c

  module _ (o : ℕ) (u : o < size net) where
    -- it was granted to nobody
    not-granted : (p : ℕ) → owner_of net F (leaving net r o) ≡ Some p → get_or D.round.grants o None ≡ None
    not-granted p e = at (get_or D.round.grants o None) refl
      where
        at : (g : Option ℕ) → get_or D.round.grants o None ≡ g → get_or D.round.grants o None ≡ None
        at None k = k
        at (Some i) k = let g = grant-given net good F x n r l v seen o i u k in absurd (none-some p (sym g.grant.idle ∙ e))

    -- nothing moves through a channel that nobody owns
    pub no-mover : owner_of net F (leaving net r o) ≡ None → mover_to v D.round o ≡ None
    no-mover e = at (mover_to v D.round o) refl
      where
        at : (m : Option ℕ) → mover_to v D.round o ≡ m → mover_to v D.round o ≡ None
        at None k = k
        at (Some i) k = let m = mover-moves net good F x n r l v seen o i u k in absurd (idle-none net F (leaving net r o) m.flit.packet e m.goes.next.owns)

    pub after-is : (g m : Option ℕ) → get_or D.round.grants o None ≡ g → mover_to v D.round o ≡ m → output_after v D.round o (view_output v o) ≡ spent_by v (held_by v (seen_output net F r (leaving net r o)) g) m
    after-is g m e k =
        ap (λ (y : Output). output_after v D.round o y) (seen.output o u)
        ∙ ap (λ (y : Option ℕ). spent_by v (held_by v (seen_output net F r (leaving net r o)) y) (mover_to v D.round o)) e
        ∙ ap (spent_by v (held_by v (seen_output net F r (leaving net r o)) g)) k

    -- ---- nobody owned it

    idle-after : owner_of net F (leaving net r o) ≡ None → get_or D.round.grants o None ≡ None → owner_of net T (leaving net r o) ≡ None
    idle-after e k = owner-none net good.built T (whole net good F x n).sound.keyed (wormT net good F x n) (leaving net r o) (λ p h. by p (was-owned net good F x n (leaving net r o) p h))
      where
        by : (p : ℕ) → WasOwned net good F x n (leaving net r o) p → ⊥
        by p (kept own rel) = idle-none net F (leaving net r o) p e own
        by p (given c member pair g) = let z = given-grant net good F x n r l v seen o p c u g in none-some z.0 (sym k ∙ z.1)

    -- nothing is on its wire then, and its credits stay
    pub credit-idle : (c : Channel) → leaving net r o ≡ c → is_link c ≡ true → mover_to v D.round o ≡ None → credit_of net T c ≡ credit_of net F c
    credit-idle c e link k =
        credit-stays net good F x n c link (on-none net good F x n c (λ d p i m. nothing-moves net good F x n r l v seen o u k d p i (subst (λ (y : Channel). Moves net good F x n p i d y) (sym e) m)))

    pub idle-out : owner_of net F (leaving net r o) ≡ None → get_or D.round.grants o None ≡ None → output_after v D.round o (view_output v o) ≡ seen_output net T r (leaving net r o)
    idle-out e k = after-is None None k (no-mover e) ∙ by (leaving net r o) refl
      where
        by : (c : Channel) → leaving net r o ≡ c → seen_output net F r c ≡ seen_output net T r c
        by (Link a b w) is =
            let before : owner_of net F (Link a b w) ≡ None = ap (owner_of net F) (sym is) ∙ e in
            let after : owner_of net T (Link a b w) ≡ None = ap (owner_of net T) (sym is) ∙ idle-after e k in
            let credit = credit-idle (Link a b w) is refl (no-mover e) in
            ap (λ h. link_out h (credit_of net F (Link a b w))) (holder-at F (Link a b w) None before)
            ∙ sym (ap (λ h. link_out h (credit_of net T (Link a b w))) (holder-at T (Link a b w) None after) ∙ ap (link_out Free) credit)
        by (Inject a w) is = absurd (not-inject a w is)
          where
            not-inject : (a w : ℕ) → leaving net r o ≡ Inject a w → ⊥
            not-inject a w is = let b : Some r ≡ None = sym (Rattle.noc_theory.proofs.join.PlaceViewLemmas.begins-at net good r o) ∙ ap Rattle.noc_route.specs.Channel.sending_router is in cc b
        by (Eject a w) is =
            let before : owner_of net F (Eject a w) ≡ None = ap (owner_of net F) (sym is) ∙ e in
            let after : owner_of net T (Eject a w) ≡ None = ap (owner_of net T) (sym is) ∙ idle-after e k in
            ap eject_out (holder-at F (Eject a w) None before) ∙ sym (ap eject_out (holder-at T (Eject a w) None after))

    -- ---- a packet owns it and no flit moves by it

    module _ (p : ℕ) (own : owner_of net F (leaving net r o) ≡ Some p) where
      holds : (c : Channel) → leaving net r o ≡ c → Has (c, p) F.own
      holds c e = owner-has net F c p (ap (owner_of net F) (sym e) ∙ own)

      -- no tail leaves for it where none moves to it
      none-leaves : (c : Channel) → leaving net r o ≡ c → mover_to v D.round o ≡ None → (d : Channel) → Next net good F x n p d c → Has (d, p) F.own → tail_leaves net F d ≡ false
      none-leaves c e k d m h = at (tail_leaves net F d) refl
        where
          at : (b : Bool) → tail_leaves net F d ≡ b → tail_leaves net F d ≡ false
          at false t = t
          at true t =
              let moving = tail-moves net good F x n d c p h t m in
              absurd (nothing-moves net good F x n r l v seen o u k d p (last_of net p) (subst (λ (y : Channel). Moves net good F x n p (last_of net p) d y) (sym e) moving))

      holder-kept : (c : Channel) → owner_of net F c ≡ Some p → owner_of net T c ≡ Some p → (is_link c && is_sent_on net good F x n T c p) ≡ (is_link c && is_sent_on net good F x n F c p)
          → ((is_link c && is_sent_on net good F x n F c p) ≡ false → seen_sender net T r c ≡ seen_sender net F r c) → seen_holder net T r c (owner_of net T c) ≡ seen_holder net F r c (owner_of net F c)
      holder-kept c before after same source =
          holder-at T c (Some p) after
          ∙ ap (λ b. cond b Draining (Owned (seen_sender net T r c) p)) same
          ∙ at (is_link c && is_sent_on net good F x n F c p) refl
          ∙ sym (holder-at F c (Some p) before)
        where
          at : (b : Bool) → (is_link c && is_sent_on net good F x n F c p) ≡ b → cond b Draining (Owned (seen_sender net T r c) p) ≡ cond b Draining (Owned (seen_sender net F r c) p)
          at true e = refl
          at false e = ap (λ k. Owned k p) (source e)

      not-inject : (a w : ℕ) → leaving net r o ≡ Inject a w → ⊥
      not-inject a w is = let b : Some r ≡ None = sym (begins-at net good r o) ∙ ap sending_router is in cc b

      owner-link : (a b w : ℕ) → leaving net r o ≡ Link a b w → owner_of net T (Link a b w) ≡ Some p
      owner-link a b w is = owner-at net good.built T (whole net good F x n).sound.keyed (wormT net good F x n) (Link a b w) p (owned-kept net good F x n (Link a b w) p (holds (Link a b w) is) refl)

      pub stays-out : mover_to v D.round o ≡ None → output_after v D.round o (view_output v o) ≡ seen_output net T r (leaving net r o)
      stays-out k = after-is None None (not-granted p own) k ∙ sym (by (leaving net r o) refl)
        where
          by : (c : Channel) → leaving net r o ≡ c → seen_output net T r c ≡ seen_output net F r c
          by (Link a b w) is =
              let before : owner_of net F (Link a b w) ≡ Some p = ap (owner_of net F) (sym is) ∙ own in
              let sent = sent-kept net good F x n p (Link a b w) (holds (Link a b w) is, (λ z. z))
              (λ d m. nothing-moves net good F x n r l v seen o u k d p (last_of net p) (subst (λ (y : Channel). Moves net good F x n p (last_of net p) d y) (sym is) m)) in
              let holder = holder-kept (Link a b w) before (owner-link a b w is) sent (λ z. (link-kept net good F x n r o p a b w is (holds (Link a b w) is) z (none-leaves (Link a b w) is k)).same) in
              ap (λ h. link_out h (credit_of net T (Link a b w))) holder ∙ ap (link_out (seen_holder net F r (Link a b w) (owner_of net F (Link a b w)))) (credit-idle (Link a b w) is refl k)
          by (Inject a w) is = absurd (not-inject a w is)
          by (Eject a w) is =
              let before : owner_of net F (Eject a w) ≡ Some p = ap (owner_of net F) (sym is) ∙ own in
              let keeps = eject-kept net good F x n r o p a w is (holds (Eject a w) is) (none-leaves (Eject a w) is k) in
              let after : owner_of net T (Eject a w) ≡ Some p = owner-at net good.built T (whole net good F x n).sound.keyed (wormT net good F x n) (Eject a w) p keeps.owned in
              ap eject_out (holder-kept (Eject a w) before after refl (λ z. keeps.same))

      -- ---- a flit moves by it

      module _ (i : ℕ) (k : mover_to v D.round o ≡ Some i) where
        m : MoverTo net good F x n r l v seen o i
        m = mover-moves net good F x n r l v seen o i u k

        is_p : m.flit.packet ≡ p
        is_p = same-owner net good F x.whole.sound.keyed x.whole.sound.worm (leaving net r o) m.flit.packet p m.goes.next.owns (holds (leaving net r o) refl)

        goes : Moves net good F x n p m.flit.index m.channel (leaving net r o)
        goes = subst (λ (q : ℕ). Moves net good F x n q m.flit.index m.channel (leaving net r o)) is_p m.goes

        last-is : is_tail_flit (first_flit v i) ≡ tail_leaves net F m.channel
        last-is =
            ap is_tail_flit (first-is net good F x n r l v seen i m.channel m.within m.found ∙ ap (option_map _) m.first)
            ∙ sym (ap (λ (y : Verdict). is_moved y && is_tail_of_packet net (front_in net F m.channel)) m.verdict ∙ ap (is_tail_of_packet net) m.first)

        -- the channel before it
        before-is : (c d : Channel) → leaving net r o ≡ c → Next net good F x n p d c → Has (d, p) F.own → d ≡ m.channel
        before-is c d is q h =
            next-once net good.built F x.whole.sound.keyed x.whole.sound.worm p d m.channel c h goes.owns q
            (record { owns = subst (λ (y : Channel). Has (y, p) F.own) is goes.next.owns; leads = subst (λ (y : Channel). Rattle.noc_theory.specs.Network.leads_from net m.channel y ≡ true) is goes.next.leads })

        one-on : (a b w : ℕ) → leaving net r o ≡ Link a b w → count_on net T (Link a b w) ≡ 1
        one-on a b w is =
            on-one net good F x n (Link a b w) m.flit m.member
            (ap (is_on (Link a b w)) m.to ∙ ap (λ (y : Channel). is_on (Link a b w) (Rattle.noc_theory.specs.Network.gone_to net n m.channel (Some y))) is ∙ same_channel-refl (Link a b w))

        -- it is the tail
        tail-out : tail_leaves net F m.channel ≡ true → (c : Channel) → leaving net r o ≡ c → output_after_spend true (seen_output net F r c) ≡ seen_output net T r c
        tail-out t (Link a b w) is =
            let q : Next net good F x n p m.channel (Link a b w) = subst (λ (y : Channel). Next net good F x n p m.channel y) is goes.next in
            let tail = tail-moves net good F x n m.channel (Link a b w) p goes.owns t q in
            let on : is_on (Link a b w) (tail_place net T p) ≡ true = ap (is_on (Link a b w)) tail.now ∙ same_channel-refl (Link a b w) in
            let holder : seen_holder net T r (Link a b w) (owner_of net T (Link a b w)) ≡ Draining
            = holder-at T (Link a b w) (Some p) (owner-link a b w is) ∙ ap (λ z. cond (z || has_come net (Link a b w) (goal net p) (tail_place net T p)) Draining (Owned (seen_sender net T r (Link a b w)) p)) on in
            ap (link_out Draining) (sym (credit-spent net good F x n (Link a b w) refl (one-on a b w is))) ∙ sym (ap (λ h. link_out h (credit_of net T (Link a b w))) holder)
        tail-out t (Inject a w) is = absurd (not-inject a w is)
        tail-out t (Eject a w) is = sym (ap eject_out (holder-at T (Eject a w) None gone))
          where
            released : is_released net F (Eject a w, p) ≡ true
            released =
                list_any-from (tail_leaves_to net F (Eject a w)) (owned_by net F p) m.channel (has-of m.channel p F.own goes.owns)
                (and_from _ _ t (ap (λ (y : Option Channel). unwrap_or (option_map (same_channel (Eject a w)) y) false) (m.next ∙ ap Some is) ∙ same_channel-refl (Eject a w)))

            by : (q : ℕ) → WasOwned net good F x n (Eject a w) q → ⊥
            by q (kept h rel) =
                let same : q ≡ p = same-owner net good F x.whole.sound.keyed x.whole.sound.worm (Eject a w) q p h (holds (Eject a w) is) in
                true≢false (sym released ∙ ap (λ y. is_released net F (Eject a w, y)) (sym same) ∙ rel)
            by q (given d member pair g) = idle-none net F (Eject a w) p g.idle (holds (Eject a w) is)

            gone : owner_of net T (Eject a w) ≡ None
            gone = owner-none net good.built T (whole net good F x n).sound.keyed (wormT net good F x n) (Eject a w) (λ q h. by q (was-owned net good F x n (Eject a w) q h))

        -- it is no tail
        more-out : tail_leaves net F m.channel ≡ false → (c : Channel) → leaving net r o ≡ c → output_after_spend false (seen_output net F r c) ≡ seen_output net T r c
        more-out t c is = by c is
          where
            stays : (c : Channel) → leaving net r o ≡ c → (d : Channel) → Next net good F x n p d c → Has (d, p) F.own → tail_leaves net F d ≡ false
            stays c is d q h = ap (tail_leaves net F) (before-is c d is q h) ∙ t

            never : (c d : Channel) → leaving net r o ≡ c → Moves net good F x n p (last_of net p) d c → ⊥
            never c d is q =
                let same : d ≡ m.channel = before-is c d is q.next q.owns in
                let low = x.whole.sound.worm.known d p q.owns in
                let leaves : tail_leaves net F d ≡ true = leaves-tail net good.built good.wired F x.whole.sound.keyed x.whole.sound.worm n x.whole.sound.still d p low q.moves q.first in
                true≢false (sym leaves ∙ ap (tail_leaves net F) same ∙ t)

            by : (c : Channel) → leaving net r o ≡ c → output_after_spend false (seen_output net F r c) ≡ seen_output net T r c
            by (Link a b w) is =
                let before : owner_of net F (Link a b w) ≡ Some p = ap (owner_of net F) (sym is) ∙ own in
                let sent = sent-kept net good F x n p (Link a b w) (holds (Link a b w) is, (λ z. z)) (λ d q. never (Link a b w) d is q) in
                let holder = holder-kept (Link a b w) before (owner-link a b w is) sent (λ z. (link-kept net good F x n r o p a b w is (holds (Link a b w) is) z (stays (Link a b w) is)).same) in
                ap (link_out (seen_holder net F r (Link a b w) (owner_of net F (Link a b w)))) (sym (credit-spent net good F x n (Link a b w) refl (one-on a b w is)))
                ∙ sym (ap (λ h. link_out h (credit_of net T (Link a b w))) holder)
            by (Inject a w) is = absurd (not-inject a w is)
            by (Eject a w) is =
                let before : owner_of net F (Eject a w) ≡ Some p = ap (owner_of net F) (sym is) ∙ own in
                let keeps = eject-kept net good F x n r o p a w is (holds (Eject a w) is) (stays (Eject a w) is) in
                let after : owner_of net T (Eject a w) ≡ Some p = owner-at net good.built T (whole net good F x n).sound.keyed (wormT net good F x n) (Eject a w) p keeps.owned in
                sym (ap eject_out (holder-kept (Eject a w) before after refl (λ z. keeps.same)))

        pub moved-out : output_after v D.round o (view_output v o) ≡ seen_output net T r (leaving net r o)
        moved-out = after-is None (Some i) (not-granted p own) k ∙ ap (λ b. output_after_spend b (seen_output net F r (leaving net r o))) last-is ∙ at (tail_leaves net F m.channel) refl
          where
            at : (b : Bool) → tail_leaves net F m.channel ≡ b → output_after_spend b (seen_output net F r (leaving net r o)) ≡ seen_output net T r (leaving net r o)
            at true t = tail-out t (leaving net r o) refl
            at false t = more-out t (leaving net r o) refl
