-- While a packet is alone its head goes on in each cycle: it is routed,
-- granted a channel, or moved.
use Rattle.std.proofs.Common.{◌≡◌, ℕ, ◌+◌, ◌*◌, ◌/◌, ◌%◌, ◌<◌, ◌≤◌, Bool, true, false, cond, length, Option, Some, None, refl, ap, sym, ◌∙◌, arith, subst}
use Rattle.std.specs.Prelude.{find, is_none, option_map, option_and_then}
use Rattle.noc_theory.proofs.Common.{lt-ltb, and_from, ports, Has, below, Channel, channel_vc, Unrouted, Waits, is_event, verdict_of, Routed, Granted, Moved, Setup, State, In, size, packet_at, leaving, owner_of, next_channel, has_channel, is_idle, end_of, ask, claim_of, claim_with, count_in, round_at, verdict_in, frozen_at, head_place, IsWellFormedSetup}
use Rattle.noc_theory.proofs.worms.BuiltLemmas.{good-built, good-wired}
use Rattle.noc_theory.proofs.worms.GrantLemmas.{Has-below}
use Rattle.noc_theory.proofs.worms.MemberLemmas.{find-some}
use Rattle.noc_theory.proofs.worms.MoveLemmas.{IsFirst}
use Rattle.noc_theory.proofs.worms.OpeningLemmas.{below-has}
use Rattle.noc_theory.proofs.worms.PlaceLemmas.{flit-there}
use Rattle.noc_theory.proofs.worms.RoutedStateLemmas.{IsWholeFrozen}
use Rattle.noc_theory.proofs.worms.StateWordLemmas.{IsEject}
use Rattle.noc_theory.proofs.worms.WormOrderLemmas.{whole-frozen_at}
use Rattle.noc_theory.proofs.worms.WormRecordLemmas.{valid-first}
use Rattle.noc_theory.proofs.budget.CountableLemmas.{head-owned}
use Rattle.noc_theory.proofs.budget.HasLemmas.{find-has}
use Rattle.noc_theory.proofs.budget.HeadLemmas.{has-next}
use Rattle.noc_theory.proofs.budget.NextPhaseLemmas.{HeadsHold, output-leads}
use Rattle.noc_theory.proofs.budget.ProgressRecordLemmas.{LeadsOn}
use Rattle.noc_theory.proofs.budget.ProgressTheoremLemmas.{countable}
use Rattle.noc_theory.proofs.budget.RouterLemmas.{IsInput, grant-given, index_below}
use Rattle.noc_theory.proofs.budget.WormLemmas.{owner-has, verdict-owned, led-on, allowed_at}
use Rattle.noc_theory.proofs.alone.OwnerLemmas.{OwnsAlone}
use Rattle.noc_theory.proofs.alone.MoverLemmas.{built, chain, comes-in, some-in, few-in, moves, ahead, first-here}

module _ (net : Setup) (good : IsWellFormedSetup net) (two : 2 ≤ net.depth) (n p : ℕ) (low : p < length net.packets) (alone : OwnsAlone net p (frozen_at net n)) where
  abbrev F : State
  F = frozen_at net n

  abbrev whole : IsWholeFrozen net F
  whole = whole-frozen_at net good n

  holds : HeadsHold net n F
  holds = (countable net good n).heads.holds

  -- no other head is in a buffer
  one-head : (q : ℕ) (c d : Channel) → q < length net.packets → head_place net F p ≡ In c → head_place net F q ≡ In d → d ≡ c
  one-head q c d l here there =
      let same : q ≡ p = alone.mine d q (owner-has net F d q (holds.held q d l there)) in
      let z : In c ≡ In d = sym here ∙ ap (head_place net F) (sym same) ∙ there in
      cc

  module _ (c : Channel) (here : head_place net F p ≡ In c) where
    own : owner_of net F c ≡ Some p
    own = holds.held p c low here

    no_end : IsEject c → ⊥
    no_end = (head-owned net (good-built net good) F whole.sound.keyed whole.sound.worm p c low here).1

    flit : 0 < count_in net F c
    flit = some-in net F (record { packet = p; index = 0; place = head_place net F p }) c (flit-there net F whole.sound.keyed p 0 (valid-first net (good-built net good) p low)) here

    -- the head is the first flit of its buffer
    pub head-first : IsFirst net (good-built net good) F whole.sound.keyed whole.sound.worm c p 0
    head-first = first-here net good n p alone 0 c (valid-first net (good-built net good) p low) here (λ j l e. omega arith)

    unrouted : (r port : ℕ) → IsInput net c r port → has_channel F.routed c ≡ false → verdict_in net F c ≡ Routed
    unrouted r port i e =
        let claim : claim_of net F r c ≡ Unrouted = ap (λ b. cond b (claim_with net F r c (next_channel net F c)) Unrouted) e in
        verdict-owned net F (built net good n) (chain net good n) c r port i Unrouted claim
        ∙ ap (verdict_of net.relation.vcs (round_at net F r) ((port * net.relation.vcs + channel_vc c) / net.relation.vcs * net.relation.vcs + (port * net.relation.vcs + channel_vc c) % net.relation.vcs) Unrouted)
        (lt-ltb 0 (count_in net F c) flit)

    -- each channel to which it may go is idle
    idle : (r i : ℕ) → end_of net.relation c ≡ Some r → next_channel net F c ≡ None → is_idle net F (leaving net r i) ≡ true
    idle r i ends none = at (owner_of net F (leaving net r i)) refl
      where
        at : (o : Option ℕ) → owner_of net F (leaving net r i) ≡ o → is_idle net F (leaving net r i) ≡ true
        at None e = ap (λ (x : Option ℕ). is_none x) e
        at (Some q) e =
            let h = owner-has net F (leaving net r i) q e in
            let mine : Has (leaving net r i, p) F.own = subst (λ (x : ℕ). Has (leaving net r i, x) F.own) (alone.mine (leaving net r i) q h) h in
            absurd (has-next net (good-built net good) (good-wired net good) F whole p c (leaving net r i) (owner-has net F c p own) mine (output-leads net c r i ends) none)

    granted : (r port : ℕ) → IsInput net c r port → has_channel F.routed c ≡ true → next_channel net F c ≡ None → verdict_in net F c ≡ Granted
    granted r port i routed none =
        let lead : LeadsOn net (packet_at net p).class c (packet_at net p).destination r = led-on net F (built net good n) (chain net good n) c p r port i own in
        let ends : end_of net.relation c ≡ Some r = ap (option_map (λ (place : ℕ × ℕ). place.0)) i.arrives in
        let s = find-some (allowed_at net F c p r) (below (size net)) lead.0 (below-has lead.0 (size net) lead.1) (and_from _ _ (idle r lead.0 ends none) lead.2) in
        let k = Has-below s.0 (size net) (find-has (allowed_at net F c p r) (below (size net)) s.0 s.1).0 in
        let asks : ask net F r c ≡ Some s.0 = ap (option_and_then (λ w. find (allowed_at net F c w r) (below (size net)))) own ∙ s.1 in
        let claim : claim_of net F r c ≡ Waits (ask net F r c) = ap (λ b. cond b (claim_with net F r c (next_channel net F c)) Unrouted) routed ∙ ap (claim_with net F r c) none in
        let g = grant-given net (built net good n) F c r (port * net.relation.vcs + channel_vc c) s.0 i.router (index_below (ports net.relation.grid) net.relation.vcs port (channel_vc c) i.below i.vc) i.found k (claim ∙ ap Waits asks) in
        let h = holds.at_grants g.0 g.1 g.2 in
        subst (λ (x : Channel). verdict_in net F x ≡ Granted) (one-head h.0 c g.0 h.1 here h.2) g.2

    moved : (o : Channel) → next_channel net F c ≡ Some o → verdict_in net F c ≡ Moved
    moved o e =
        let few = few-in net F whole.sound.keyed.sorted p 0 o (λ f h there. let a = (ahead net good n p alone 0 c o (valid-first net (good-built net good) p low) here e f h there).1 in absurd (omega arith)) in
        moves net good n p alone c o own no_end e (omega arith) flit

    -- the head is routed, granted or moved
    pub head-event : is_event (verdict_in net F c) ≡ true
    head-event = at input.0 input.1 input.2 (has_channel F.routed c) refl (next_channel net F c) refl
      where
        input : (r : ℕ) × (port : ℕ) × IsInput net c r port
        input = comes-in net good n p alone c own no_end

        at : (r port : ℕ) → IsInput net c r port → (b : Bool) → has_channel F.routed c ≡ b → (next : Option Channel) → next_channel net F c ≡ next → is_event (verdict_in net F c) ≡ true
        at r port i false e next k = ap (is_event) (unrouted r port i e)
        at r port i true e None k = ap (is_event) (granted r port i e k)
        at r port i true e (Some o) k = ap (is_event) (moved o k)
