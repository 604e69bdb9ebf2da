-- After the verdicts: each input channel of a router as the state shows it.
use Rattle.std.proofs.Common.{◌≡◌, ℕ, ◌+◌, ◌-◌, Bool, true, false, cond, Option, Some, None, refl, ap, sym, ◌∙◌, inl, inr, subst, arith}
use Rattle.std.specs.Prelude.{filter, find, option_map, option_and_then, unwrap_or, ◌⊎◌, not, ◌&&◌, ◌||◌, nat_lt, nat_eq, slice_get, if◌then◌else◌}
use Rattle.noc_theory.proofs.Common.{false≢true, true≢false, and_parts, eq-eqb, lt-ltb, ne_eqb, Has, flit_at, Flit, Channel, Link, Inject, Eject, is_link, Input, idle_input, next_of, InputState, Idle, Waiting, is_routed, is_granted, is_moved, Empty, Routed, Moved, seen_input, seen_phase, seen_phase_with, seen_set, is_present, come_count, last_come, has_come, Setup, State, Located, Place, place_of_flit, packet_at, owner_of, next_channel, leads_from, has_channel, verdict_in, tail_leaves, is_released, after_verdicts, all_inputs, tail_place, is_past, count_in, head_place}
use Rattle.noc_theory.proofs.worms.OwnedLemmas.{owner-has, idle-none}
use Rattle.noc_theory.proofs.worms.StateWordLemmas.{IsEject, IsHeld, Come, class_of, goal}
use Rattle.noc_theory.proofs.worms.PathLemmas.{no-inject}
use Rattle.noc_theory.proofs.worms.PlaceLemmas.{is_in-is}
use Rattle.noc_theory.proofs.verdicts.AfterLemmas.{whole, wormT, WasOwned, was-owned, kept, given, held-kept, tail-past, count-kept}
use Rattle.noc_theory.proofs.verdicts.AfterNextLemmas.{routed-after, next-kept}
use Rattle.noc_theory.proofs.landing.ComeLemmas.{count-none, count-all}
use Rattle.noc_theory.proofs.verdicts.NextViewLemmas.{owner-at, owner-none, channel-filter}
use Rattle.noc_theory.proofs.join.OrderedLemmas.{IsGood, IsOrderedFrozen}

abbrev pub made : InputState → Option ℕ → Option Rattle.noc_vc.specs.declared.input.Awaited.Awaited → Input
made phase packet awaited = record { phase = phase; packet = packet; awaited = awaited }

-- an input channel whose owner is known
pub seen-held : (net : Setup) (S : State) (r i p : ℕ) (c : Channel) → owner_of net S c ≡ Some p
    → seen_input net S r i (Some c) ≡ made (seen_phase net S r i c) (if is_present net S c p then Some p else None) (option_and_then next_of (last_come net S c p))
seen-held net S r i p c e =
    ap (λ (o : Option ℕ). made (seen_phase net S r i c) (option_and_then (λ q. if is_present net S c q then Some q else None) o) (option_and_then (λ q. option_and_then next_of (last_come net S c q)) o)) e

pub seen-unowned : (net : Setup) (S : State) (r i : ℕ) (c : Channel) → owner_of net S c ≡ None → seen_input net S r i (Some c) ≡ made (seen_phase net S r i c) None None
seen-unowned net S r i c e =
    ap (λ (o : Option ℕ). made (seen_phase net S r i c) (option_and_then (λ q. if is_present net S c q then Some q else None) o) (option_and_then (λ q. option_and_then next_of (last_come net S c q)) o)) e

module _ (net : Setup) (good : IsGood net) (F : State) (x : IsOrderedFrozen net F) (n : ℕ) where
  abbrev T : State
  T = after_verdicts net n F

  -- no flit has come to the buffer of a channel that was just granted
  pub given-empty : (c : Channel) (p : ℕ) → Has c (all_inputs net) → (IsEject c → ⊥) → Has (c, p) T.own → owner_of net F c ≡ None → has_channel T.routed c ≡ false → is_moved (verdict_in net F c) ≡ false → is_link c ≡ true
      → come_count net T c p ≡ 0
  unfolding after_verdicts
  given-empty c p member eject own idle unrouted stays link = count-none net good.built T (whole net good F x n).sound.keyed (wormT net good F x n) p c (own, eject) (at (has_come net c (goal net p) (head_place net T p)) refl)
    where
      no_back : has_channel T.back c ≡ false
      no_back = channel-filter (λ d. is_link d && is_moved (verdict_in net F d)) c (all_inputs net) ∙ ap (λ b. has_channel (all_inputs net) c && (is_link c && b)) stays ∙ none (has_channel (all_inputs net) c) (is_link c)
        where
          none : (a b : Bool) → (a && (b && false)) ≡ false
          none true true = refl
          none true false = refl
          none false b = refl

      come : (b : Bool) → is_past net c (goal net p) (tail_place net T p) ≡ b → Come net p c (head_place net T p) → ⊥
      come true e k = false≢true (sym no_back ∙ (whole net good F x n).backed c p (own, eject) link e)
      come false e k = false≢true (sym unrouted ∙ (whole net good F x n).routed.come c p (own, eject) k e)

      at : (b : Bool) → has_come net c (goal net p) (head_place net T p) ≡ b → has_come net c (goal net p) (head_place net T p) ≡ false
      at false e = e
      at true e = absurd (by (Rattle.std.proofs.lemmas.Bool.or_cases (Rattle.noc_theory.specs.Network.is_in c (head_place net T p)) (is_past net c (goal net p) (head_place net T p)) e))
        where
          by : (Rattle.noc_theory.specs.Network.is_in c (head_place net T p) ≡ true) ⊎ (is_past net c (goal net p) (head_place net T p) ≡ true) → ⊥
          by (inl k) = come (is_past net c (goal net p) (tail_place net T p)) refl (inl (is_in-is c (head_place net T p) k))
          by (inr k) = come (is_past net c (goal net p) (tail_place net T p)) refl (inr k)

  module _ (r i : ℕ) (c : Channel) (member : Has c (all_inputs net)) where
    -- ---- a channel that nobody owned

    pub unowned-after : owner_of net F c ≡ None → has_channel F.routed c ≡ false → verdict_in net F c ≡ Empty → (IsEject c → ⊥) → seen_input net T r i (Some c) ≡ idle_input
    unowned-after idle unrouted empty eject = at (owner_of net T c) refl
      where
        not_routed : has_channel T.routed c ≡ false
        not_routed = routed-after net good F x n c member ∙ ap (λ b. (b && not (tail_leaves net F c)) || is_routed (verdict_in net F c)) unrouted ∙ ap is_routed empty

        phase : seen_phase net T r i c ≡ Idle
        phase = ap (λ b. cond b (seen_phase_with net T r i c (next_channel net T c)) Idle) not_routed

        stays : is_moved (verdict_in net F c) ≡ false
        stays = ap is_moved empty

        link : (d : Channel) → (p : ℕ) → WasOwned net good F x n d p → owner_of net F d ≡ None → (IsEject d → ⊥) → is_link d ≡ true
        link (Link a b v) p k e j = refl
        link (Inject a v) p (kept own rel) e j = absurd (idle-none net F (Inject a v) p e own)
        link (Inject a v) p (given d h pair g) e j = absurd (no-inject net good.built (class_of net p) (goal net p) d a v g.allowed)
        link (Eject a v) p k e j = absurd (j tt)

        at : (o : Option ℕ) → owner_of net T c ≡ o → seen_input net T r i (Some c) ≡ idle_input
        at None e = seen-unowned net T r i c e ∙ ap (λ (ph : InputState). made ph None None) phase
        at (Some p) e =
            let own : Has (c, p) T.own = owner-has net T c p e in
            let z : come_count net T c p ≡ 0 = given-empty c p member eject own idle not_routed stays (link c p (was-owned net good F x n c p own) idle eject) in
            let none : is_present net T c p ≡ false = ap (λ k. nat_lt 0 k && not (is_past net c (goal net p) (tail_place net T p))) z in
            let last : last_come net T c p ≡ None = ap (λ k. if nat_eq k 0 then None else Some (flit_at (packet_at net p) p (k - 1))) z in
            seen-held net T r i p c e
            ∙ ap (λ (ph : InputState). made ph (if is_present net T c p then Some p else None) (option_and_then next_of (last_come net T c p))) phase
            ∙ ap (λ b. made Idle (if b then Some p else None) (option_and_then next_of (last_come net T c p))) none
            ∙ ap (λ (l : Option Flit). made Idle None (option_and_then next_of l)) last

    -- ---- a channel that a packet holds

    module _ (p : ℕ) (h : IsHeld net F c p) where
      owner : owner_of net F c ≡ Some p
      owner = owner-at net good.built F x.whole.sound.keyed x.whole.sound.worm c p h.0

      same-last : last_come net T c p ≡ last_come net F c p
      same-last = ap (λ k. if nat_eq k 0 then None else Some (flit_at (packet_at net p) p (k - 1))) (count-kept net good F x n p c h)

      module _ (stays : tail_leaves net F c ≡ false) where
        ownerT : owner_of net T c ≡ Some p
        ownerT = owner-at net good.built T (whole net good F x n).sound.keyed (wormT net good F x n) c p (held-kept net good F x n c p h stays)

        same-present : is_present net T c p ≡ is_present net F c p
        same-present =
            ap (λ k. nat_lt 0 k && not (is_past net c (goal net p) (tail_place net T p))) (count-kept net good F x n p c h)
            ∙ ap (λ b. nat_lt 0 (come_count net F c p) && not b) (tail-past net good F x n c p h ∙ stays ∙ sym (x.whole.routed.behind c p h))

        -- all but the phase stays
        pub phase-after : (phase : InputState) → seen_phase net T r i c ≡ phase
            → seen_input net T r i (Some c) ≡ record (seen_input net F r i (Some c)) { phase = phase }
        phase-after phase e =
            seen-held net T r i p c ownerT
            ∙ ap (λ (ph : InputState). made ph (if is_present net T c p then Some p else None) (option_and_then next_of (last_come net T c p))) e
            ∙ ap (λ b. made phase (if b then Some p else None) (option_and_then next_of (last_come net T c p))) same-present
            ∙ ap (λ (l : Option Flit). made phase (if is_present net F c p then Some p else None) (option_and_then next_of l)) same-last
            ∙ sym (ap (λ (input : Input). record input { phase = phase }) (seen-held net F r i p c owner))

        routed-stays : is_routed (verdict_in net F c) ≡ false → has_channel T.routed c ≡ has_channel F.routed c
        routed-stays e =
            routed-after net good F x n c member
            ∙ ap (λ b. (has_channel F.routed c && not b) || is_routed (verdict_in net F c)) stays
            ∙ ap (λ b. (has_channel F.routed c && true) || b) e
            ∙ both (has_channel F.routed c)
          where
            both : (b : Bool) → ((b && true) || false) ≡ b
            both true = refl
            both false = refl

        set-same : seen_set net T r i (owner_of net T c) ≡ seen_set net F r i (owner_of net F c)
        set-same = ap (seen_set net T r i) ownerT ∙ sym (ap (seen_set net F r i) owner)

        -- where it is neither routed nor granted nor left by its tail, all stays
        pub unchanged : is_routed (verdict_in net F c) ≡ false → is_granted (verdict_in net F c) ≡ false → seen_input net T r i (Some c) ≡ seen_input net F r i (Some c)
        unchanged e k = phase-after (seen_phase net F r i c) same
          where
            with_next : (o : Option Channel) → seen_phase_with net T r i c o ≡ seen_phase_with net F r i c o
            with_next None = ap Waiting set-same
            with_next (Some o) = refl

            same : seen_phase net T r i c ≡ seen_phase net F r i c
            same =
                ap (λ b. cond b (seen_phase_with net T r i c (next_channel net T c)) Idle) (routed-stays e)
                ∙ ap (λ (o : Option Channel). cond (has_channel F.routed c) (seen_phase_with net T r i c o) Idle) (next-kept net good F x n p c h stays k)
                ∙ ap (λ (ph : InputState). cond (has_channel F.routed c) ph Idle) (with_next (next_channel net F c))

        -- a head that was routed waits
        pub waits-after : verdict_in net F c ≡ Routed → next_channel net F c ≡ None → seen_phase net T r i c ≡ Waiting (seen_set net F r i (Some p))
        waits-after e none =
            ap (λ b. cond b (seen_phase_with net T r i c (next_channel net T c)) Idle)
            (routed-after net good F x n c member ∙ ap (λ b. (has_channel F.routed c && not (tail_leaves net F c)) || b) (ap is_routed e) ∙ all (has_channel F.routed c && not (tail_leaves net F c)))
            ∙ ap (seen_phase_with net T r i c) (next-kept net good F x n p c h stays (ap is_granted e) ∙ none)
            ∙ ap (λ (o : Option ℕ). Waiting (seen_set net T r i o)) ownerT
          where
            all : (b : Bool) → (b || true) ≡ true
            all true = refl
            all false = refl

        -- one whose packet was granted a channel goes on by that
        pub goes-after : (o : Channel) → has_channel F.routed c ≡ true → is_routed (verdict_in net F c) ≡ false → next_channel net T c ≡ Some o → seen_phase net T r i c ≡ seen_phase_with net F r i c (Some o)
        goes-after o e k next = ap (λ b. cond b (seen_phase_with net T r i c (next_channel net T c)) Idle) (routed-stays k ∙ e) ∙ ap (seen_phase_with net T r i c) next

      -- ---- the tail leaves

      module _ (leaves : tail_leaves net F c ≡ true) (moved : verdict_in net F c ≡ Moved) where
        idle-phase : seen_phase net T r i c ≡ Idle
        idle-phase =
            ap (λ b. cond b (seen_phase_with net T r i c (next_channel net T c)) Idle)
            (routed-after net good F x n c member
            ∙ ap (λ b. (has_channel F.routed c && not b) || is_routed (verdict_in net F c)) leaves
            ∙ ap (λ b. (has_channel F.routed c && false) || b) (ap is_routed moved)
            ∙ none (has_channel F.routed c))
          where
            none : (b : Bool) → ((b && false) || false) ≡ false
            none true = refl
            none false = refl

        pub left-after : seen_input net T r i (Some c) ≡ idle_input
        left-after = by c refl
          where
            by : (d : Channel) → d ≡ c → seen_input net T r i (Some c) ≡ idle_input
            by (Link a b v) e =
                let own : Has (c, p) T.own = subst (λ (y : Channel). Has (y, p) T.own) e
                (Rattle.noc_theory.proofs.verdicts.AfterLemmas.owned-kept net good F x n (Link a b v) p (subst (λ (y : Channel). Has (y, p) F.own) (sym e) h.0) refl) in
                let o : owner_of net T c ≡ Some p = owner-at net good.built T (whole net good F x n).sound.keyed (wormT net good F x n) c p own in
                let past : is_past net c (goal net p) (tail_place net T p) ≡ true = tail-past net good F x n c p h ∙ leaves in
                let gone : is_present net T c p ≡ false = ap (λ b. nat_lt 0 (come_count net T c p) && not b) past ∙ none (nat_lt 0 (come_count net T c p)) in
                let all : come_count net T c p ≡ (packet_at net p).length = count-all net good.built T (whole net good F x n).sound.keyed (wormT net good F x n) p c (own, h.1)
                (Rattle.std.proofs.lemmas.Bool.or_right (Rattle.noc_theory.specs.Network.is_in c (tail_place net T p)) (is_past net c (goal net p) (tail_place net T p)) past) in
                let some = good.built.some_flit p (x.whole.sound.worm.known c p h.0) in
                let last : option_and_then next_of (last_come net T c p) ≡ None
                = ap (λ k. option_and_then next_of (if nat_eq k 0 then None else Some (flit_at (packet_at net p) p (k - 1)))) all
                ∙ ap (λ b. option_and_then next_of (if b then None else Some (flit_at (packet_at net p) p ((packet_at net p).length - 1)))) (ne_eqb (packet_at net p).length 0 (λ z. omega arith))
                ∙ ap (λ b. if b then None else Some (record { packet = p; index = (packet_at net p).length - 1 + 1; dst = (packet_at net p).destination; class = (packet_at net p).class })) (eq-eqb ((packet_at net p).length - 1 + 1) (packet_at net p).length (omega arith)) in
                seen-held net T r i p c o
                ∙ ap (λ (ph : InputState). made ph (if is_present net T c p then Some p else None) (option_and_then next_of (last_come net T c p))) idle-phase
                ∙ ap (λ b. made Idle (if b then Some p else None) (option_and_then next_of (last_come net T c p))) gone
                ∙ ap (λ a. made Idle None a) last
              where
                none : (b : Bool) → (b && false) ≡ false
                none true = refl
                none false = refl
            by (Inject a v) e =
                let never : (q : ℕ) → Has (c, q) T.own → ⊥ = λ q k. was q (was-owned net good F x n c q k) in
                let o : owner_of net T c ≡ None = owner-none net good.built T (whole net good F x n).sound.keyed (wormT net good F x n) c never in
                seen-unowned net T r i c o ∙ ap (λ (ph : InputState). made ph None None) idle-phase
              where
                was : (q : ℕ) → WasOwned net good F x n c q → ⊥
                was q (kept own rel) =
                    let z : is_released net F (Inject a v, q) ≡ false = ap (λ (y : Channel). is_released net F (y, q)) e ∙ rel in
                    true≢false (sym leaves ∙ ap (tail_leaves net F) (sym e) ∙ z)
                was q (given d k pair g) = no-inject net good.built (class_of net q) (goal net q) d a v (subst (λ (y : Channel). Rattle.std.specs.Prelude.IsTrue (Rattle.noc_route.specs.Routes.permits net.relation (class_of net q) d (goal net q) y)) (sym e) g.allowed)
            by (Eject a v) e = absurd (h.1 (subst (λ (y : Channel). IsEject y) e tt))
