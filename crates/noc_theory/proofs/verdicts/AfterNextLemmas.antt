-- After the verdicts: what is routed, and the next channel of each channel.
use Rattle.std.proofs.Common.{◌≡◌, ℕ, Bool, true, false, Option, Some, None, refl, ap, sym, ◌∙◌}
use Rattle.std.specs.Prelude.{filter, option_map, unwrap_or, not, ◌&&◌, ◌||◌}
use Rattle.noc_theory.proofs.Common.{false≢true, and_parts, Has, Channel, Link, Inject, Eject, same_channel, is_routed, is_granted, is_moved, Verdict, Granted, Setup, State, place_of_flit, owner_of, owned_by, next_channel, leads_from, has_channel, verdict_in, tail_leaves, tail_leaves_to, is_released, after_verdicts, all_inputs, granted_pair}
use Rattle.noc_theory.proofs.worms.BufferLemmas.{same_channel-true}
use Rattle.noc_theory.proofs.worms.GrantLemmas.{IsGrant}
use Rattle.noc_theory.proofs.worms.MemberLemmas.{list_any-has}
use Rattle.noc_theory.proofs.worms.MoveLemmas.{IsNext, next-is, next-once, leads-end, no-end-eject}
use Rattle.noc_theory.proofs.worms.OwnedLemmas.{owner-has, of-has}
use Rattle.noc_theory.proofs.worms.StateWordLemmas.{IsHeld, class_of, goal}
use Rattle.noc_theory.proofs.worms.RoutedVerdictLemmas.{has-channel}
use Rattle.noc_theory.proofs.worms.NextLemmas.{next-from}
use Rattle.noc_theory.proofs.verdicts.AfterLemmas.{whole, wormT, Next, WasOwned, was-owned, kept, given, owned-kept, owned-given, held-kept}
use Rattle.noc_theory.proofs.verdicts.NextViewLemmas.{channel-filter, channel-append, next-none, no-next}
use Rattle.noc_theory.proofs.join.OrderedLemmas.{IsGood, IsOrderedFrozen}

module _ (net : Setup) (good : IsGood net) (F : State) (x : IsOrderedFrozen net F) (n : ℕ) where
  -- what is routed after the verdicts
  pub routed-after : (c : Channel) → Has c (all_inputs net) → has_channel (after_verdicts net n F).routed c ≡ ((has_channel F.routed c && not (tail_leaves net F c)) || is_routed (verdict_in net F c))
  unfolding after_verdicts
  routed-after c h =
      channel-append c (filter (λ d. not (tail_leaves net F d)) F.routed) (filter (λ d. is_routed (verdict_in net F d)) (all_inputs net))
      ∙ ap (λ b. b || has_channel (filter (λ d. is_routed (verdict_in net F d)) (all_inputs net)) c) (channel-filter (λ d. not (tail_leaves net F d)) c F.routed)
      ∙ ap (λ b. (has_channel F.routed c && not (tail_leaves net F c)) || b)
      (channel-filter (λ d. is_routed (verdict_in net F d)) c (all_inputs net) ∙ ap (λ b. b && is_routed (verdict_in net F c)) (has-channel c (all_inputs net) h))

  held-by : (p : ℕ) (c o : Channel) → Has (c, p) F.own → leads_from net c o ≡ true → IsHeld net F c p
  held-by p c o h e = (h, (let l = leads-end net c o e in no-end-eject net c l.0 l.2))

  -- the next channel of a channel that the tail does not leave stays owned
  pub next-owned : (p : ℕ) (c o : Channel) → Has (c, p) F.own → Next net good F x n p c o → tail_leaves net F c ≡ false → Has (o, p) (after_verdicts net n F).own
  next-owned p c (Link a b u) h m e = owned-kept net good F x n (Link a b u) p m.owns refl
  next-owned p c (Inject a u) h m e = absurd (false≢true m.leads)
  next-owned p c (Eject a u) h m e = owned-kept net good F x n (Eject a u) p m.owns (at (is_released net F (Eject a u, p)) refl)
    where
      same : (d : Channel) (o : Option Channel) → next_channel net F d ≡ o → unwrap_or (option_map (same_channel (Eject a u)) o) false ≡ true → next_channel net F d ≡ Some (Eject a u)
      same d None k t = absurd (false≢true t)
      same d (Some q) k t = k ∙ ap Some (sym (same_channel-true (Eject a u) q t))

      at : (b : Bool) → is_released net F (Eject a u, p) ≡ b → is_released net F (Eject a u, p) ≡ false
      at false k = k
      at true k =
          let r = list_any-has (tail_leaves_to net F (Eject a u)) (owned_by net F p) k in
          let d : Channel = r.0 in
          let parts = and_parts (tail_leaves net F d) (unwrap_or (option_map (same_channel (Eject a u)) (next_channel net F d)) false) r.2 in
          let own : Has (d, p) F.own = of-has d p F.own r.1 in
          let goes : next_channel net F d ≡ Some (Eject a u) = same d (next_channel net F d) refl parts.1 in
          let next = next-is net good.built F x.whole.sound.keyed x.whole.sound.worm p d (Eject a u) own goes in
          let is_c : c ≡ d = next-once net good.built F x.whole.sound.keyed x.whole.sound.worm p c d (Eject a u) h own m next in
          absurd (false≢true (sym e ∙ ap (tail_leaves net F) is_c ∙ parts.0))

  not-left : (d : Channel) → verdict_in net F d ≡ Granted → tail_leaves net F d ≡ false
  not-left d e = ap (λ (v : Verdict). is_moved v && Rattle.noc_theory.specs.Network.is_tail_of_packet net (Rattle.noc_theory.specs.Network.front_in net F d)) e

  -- the channel from which o was granted, as it is after the verdicts
  pub giver-kept : (d o : Channel) (p : ℕ) → IsGrant net F d o p → Has (d, p) (after_verdicts net n F).own × (leads_from net d o ≡ true)
  giver-kept d o p g =
      let leads : leads_from net d o ≡ true = good.built.leads (class_of net p) (goal net p) d o g.allowed in
      let own : Has (d, p) F.own = owner-has net F d p g.holder in
      (held-kept net good F x n d p (held-by p d o own leads) (not-left d g.is_verdict), leads)

  pub next-kept : (p : ℕ) (c : Channel) → IsHeld net F c p → tail_leaves net F c ≡ false → is_granted (verdict_in net F c) ≡ false → next_channel net (after_verdicts net n F) c ≡ next_channel net F c
  next-kept p c h e none = at (next_channel net F c) refl
    where
      mine : Has (c, p) (after_verdicts net n F).own
      mine = held-kept net good F x n c p h e

      at : (o : Option Channel) → next_channel net F c ≡ o → next_channel net (after_verdicts net n F) c ≡ next_channel net F c
      at (Some o) k =
          let m = next-is net good.built F x.whole.sound.keyed x.whole.sound.worm p c o h.0 k in
          next-from net good.built (after_verdicts net n F) (whole net good F x n).sound.keyed (wormT net good F x n) p c o mine (record { owns = next-owned p c o h.0 m e; leads = m.leads }) ∙ sym k
      at None k = next-none net good.built (after_verdicts net n F) (whole net good F x n).sound.keyed (wormT net good F x n) p c mine (λ o m. by o m (was-owned net good F x n o p m.owns)) ∙ sym k
        where
          by : (o : Channel) → IsNext net good.built (after_verdicts net n F) (whole net good F x n).sound.keyed (wormT net good F x n) p c o → WasOwned net good F x n o p → ⊥
          by o m (kept own rel) = no-next net good.built F x.whole.sound.keyed x.whole.sound.worm p c o h.0 k (record { owns = own; leads = m.leads })
          by o m (given d member pair g) =
              let t = giver-kept d o p g in
              let same : c ≡ d = next-once net good.built (after_verdicts net n F) (whole net good F x n).sound.keyed (wormT net good F x n) p c d o mine t.0 m (record { owns = m.owns; leads = t.1 }) in
              false≢true (sym none ∙ ap (λ (y : Channel). is_granted (verdict_in net F y)) same ∙ ap is_granted g.is_verdict)

  -- a channel whose packet was granted one has it as its next channel
  pub next-given : (p : ℕ) (c o : Channel) → Has c (all_inputs net) → granted_pair net F c ≡ Some (o, p) → IsGrant net F c o p → next_channel net (after_verdicts net n F) c ≡ Some o
  next-given p c o h e g =
      let t = giver-kept c o p g in
      next-from net good.built (after_verdicts net n F) (whole net good F x n).sound.keyed (wormT net good F x n) p c o t.0 (record { owns = owned-given net good F x n c o p h e; leads = t.1 })
