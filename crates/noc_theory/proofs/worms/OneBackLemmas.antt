-- One credit on each link: two that are on their way back over one link, in one cycle,
-- are of one virtual channel.
use Rattle.std.proofs.Common.{◌≡◌, ℕ, zero, suc, ◌+◌, ◌*◌, ◌/◌, ◌%◌, ◌<◌, true, [], length, get_or, Option, Some, None, refl, ap, sym, ◌∙◌}
use Rattle.std.specs.Prelude.{nat_lt, ◌&&◌}
use Rattle.noc_theory.proofs.Common.{false≢true, and_parts, length-replicate, div-mul-add, mod-mul-add, same_Some, Has, nodes, neighbour, length-map_indexed, Channel, Link, Inject, Eject, is_link, is_moved, Empty, Moved, Setup, State, has_channel, all_inputs, verdict_in, verdict_at, claim_of, round_at, count_in, opening_state, after_landing, after_credits, after_injection, after_verdicts, frozen_state, network_cycle, state_at, is_moved-true}
use Rattle.noc_theory.proofs.worms.GrantLemmas.{IsWired}
use Rattle.noc_theory.proofs.worms.MemberLemmas.{Has-filter}
use Rattle.noc_theory.proofs.worms.OneOnLinkLemmas.{moved-wins}
use Rattle.noc_theory.proofs.worms.RoutedVerdictLemmas.{channel-has}

module _ (net : Setup) where
  -- a link channel that moves is the pick of the port where it arrives
  record IsPicked (F : State) (v : ℕ) (place : ℕ × ℕ) : Type 0 where
    pick : get_or (round_at net F place.0).picks place.1 None ≡ Some v

  module _ (wired : IsWired net) where
    picked : (F : State) (r a v : ℕ) (place : ℕ × ℕ) → v < net.relation.vcs → neighbour net.relation.grid r a ≡ Some place → verdict_in net F (Link r a v) ≡ Moved → IsPicked F v place
    picked F r a v place l e m =
        let w = moved-wins net.relation.vcs (round_at net F place.0) (place.1 * net.relation.vcs + v) (claim_of net F place.0 (Link r a v)) (nat_lt 0 (count_in net F (Link r a v)))
        (sym (ap (verdict_at net F (Link r a v)) e) ∙ m) in
        let port : (place.1 * net.relation.vcs + v) / net.relation.vcs ≡ place.1 = div-mul-add place.1 net.relation.vcs v l in
        let vc : (place.1 * net.relation.vcs + v) % net.relation.vcs ≡ v = mod-mul-add place.1 net.relation.vcs v l in
        record { pick = ap (λ z. get_or (round_at net F place.0).picks z None) (sym port) ∙ w.2 ∙ ap Some vc }

    back-moved : (n : ℕ) (F : State) (c : Channel) → has_channel (after_verdicts net n F).back c ≡ true → Has c (all_inputs net) × (verdict_in net F c ≡ Moved)
    unfolding after_verdicts
    back-moved n F c e =
        let f = Has-filter (λ d. is_link d && is_moved (verdict_in net F d)) c (all_inputs net) (channel-has c (after_verdicts net n F).back e) in
        (f.0, is_moved-true _ (and_parts (is_link c) (is_moved (verdict_in net F c)) f.1).1)

    pub one-back : (n : ℕ) (F : State) (r a v u : ℕ) → has_channel (after_verdicts net n F).back (Link r a v) ≡ true → has_channel (after_verdicts net n F).back (Link r a u) ≡ true → v ≡ u
    one-back n F r a v u h k =
        let x = back-moved n F (Link r a v) h in
        let y = back-moved n F (Link r a u) k in
        at (neighbour net.relation.grid r a) refl (wired.low (Link r a v) x.0) (wired.low (Link r a u) y.0) x.1 y.1
      where
        at : (o : Option (ℕ × ℕ)) → neighbour net.relation.grid r a ≡ o → v < net.relation.vcs → u < net.relation.vcs
            → verdict_in net F (Link r a v) ≡ Moved → verdict_in net F (Link r a u) ≡ Moved → v ≡ u
        at None e l m p q = let g : Empty ≡ Moved = sym (ap (verdict_at net F (Link r a v)) e) ∙ p in absurd (cc g)
        at (Some place) e l m p q =
            let x = picked F r a v place l e p in
            let y = picked F r a u place m e q in
            same_Some v u (sym x.pick ∙ y.pick)

    -- each credit is of a link
    pub back-link : (n : ℕ) (F : State) (c : Channel) → has_channel (after_verdicts net n F).back c ≡ true → (r : ℕ) × (a : ℕ) × (v : ℕ) × (c ≡ Link r a v)
    unfolding after_verdicts
    back-link n F c e = at c (and_parts (is_link c) (is_moved (verdict_in net F c)) (Has-filter (λ d. is_link d && is_moved (verdict_in net F d)) c (all_inputs net) (channel-has c (after_verdicts net n F).back e)).1).0
      where
        at : (c : Channel) → is_link c ≡ true → (r : ℕ) × (a : ℕ) × (v : ℕ) × (c ≡ Link r a v)
        at (Link r a v) e = (r, a, v, refl)
        at (Inject n v) e = absurd (false≢true e)
        at (Eject n v) e = absurd (false≢true e)

    pub back-link-state : (n : ℕ) (c : Channel) → has_channel (state_at net n).back c ≡ true → (r : ℕ) × (a : ℕ) × (v : ℕ) × (c ≡ Link r a v)
    unfolding state_at network_cycle opening_state
    back-link-state zero c e = absurd (false≢true e)
    back-link-state (suc n) c e = back-link n (frozen_state net n (state_at net n)) c e

    -- at the start of each cycle
    pub one-back-state : (n r a v u : ℕ) → has_channel (state_at net n).back (Link r a v) ≡ true → has_channel (state_at net n).back (Link r a u) ≡ true → v ≡ u
    unfolding state_at network_cycle opening_state
    one-back-state zero r a v u h k = absurd (false≢true h)
    one-back-state (suc n) r a v u h k = one-back n (frozen_state net n (state_at net n)) r a v u h k

  -- ---- the arbiters: as many as there are routers

  pub arbiters-mid : (S : State) → (after_credits net (after_landing net S)).arbiters ≡ S.arbiters
  unfolding after_landing after_credits
  arbiters-mid S = refl

  pub arbiters-frozen : (n : ℕ) (S : State) → (frozen_state net n S).arbiters ≡ S.arbiters
  unfolding frozen_state after_landing after_credits after_injection
  arbiters-frozen n S = refl

  pub arbiters-state : (n : ℕ) → length (state_at net n).arbiters ≡ nodes net.relation.grid
  unfolding state_at network_cycle opening_state after_verdicts
  arbiters-state zero = length-replicate (nodes net.relation.grid) _
  arbiters-state (suc n) = length-map_indexed _ (frozen_state net n (state_at net n)).arbiters ∙ ap length (arbiters-frozen n (state_at net n)) ∙ arbiters-state n

  -- ---- no credit is on its way in a frozen state

  pub no-back-frozen : (n : ℕ) (S : State) → (frozen_state net n S).back ≡ []
  unfolding frozen_state after_landing after_credits after_injection
  no-back-frozen n S = refl
