-- Every state of a network, and every frozen one, has what the join asks.
use Rattle.std.proofs.Common.{◌≡◌, ℕ, zero, suc, ◌≤◌, true, false, length, refl, ap, sym, ◌∙◌}
use Rattle.std.specs.Prelude.{◌&&◌}
use Rattle.noc_theory.proofs.Common.{false≢true, and_parts, Has, nodes, Channel, Link, is_link, is_moved, CYCLE_LIMIT, Setup, State, Source, On, place_of_flit, opening_state, after_credits, after_injection, after_verdicts, frozen_state, frozen_at, state_at, network_cycle, has_channel, verdict_in, all_inputs, IsValid, AreSeen}
use Rattle.noc_theory.proofs.worms.CameLemmas.{IsLed as IsCame, led-mid, led-frozen, led-state, leads-further, ejects-home, eject-low}
use Rattle.noc_theory.proofs.worms.FirstOfNodeLemmas.{queued-mid, queued-state, queued-frozen}
use Rattle.noc_theory.proofs.worms.MemberLemmas.{Has-filter}
use Rattle.noc_theory.proofs.worms.OneBackLemmas.{arbiters-frozen, arbiters-mid, arbiters-state, one-back-state}
use Rattle.noc_theory.proofs.worms.OneOnLinkLemmas.{one-on-link}
use Rattle.noc_theory.proofs.worms.OpeningLemmas.{at-source}
use Rattle.noc_theory.proofs.worms.RoutedStateLemmas.{IsWhole, IsWholeFrozen, whole-mid, whole-state, whole-frozen_state}
use Rattle.noc_theory.proofs.worms.RoutedVerdictLemmas.{channel-has}
use Rattle.noc_theory.proofs.join.JoinedLemmas.{joined}
use Rattle.noc_theory.proofs.join.OrderedLemmas.{IsGood, AreShort, IsLed, IsOrdered, IsOrderedFrozen}
use Rattle.noc_theory.proofs.join.PhaseLemmas.{mid}

module _ (net : Setup) (good : IsGood net) where
  whole-at : (n : ℕ) → IsWhole net (state_at net n)
  whole-at n = whole-state net good.built good.wired good.covering n

  frozen-whole : (n : ℕ) → IsWholeFrozen net (frozen_at net n)
  frozen-whole n = whole-frozen_state net good.built good.wired good.covering n

  came-at : (n : ℕ) → IsCame net (state_at net n)
  came-at n = led-state net good.built good.wired n

  -- where a packet came to own a channel, the relation leads it on
  led-on : (S : State) → IsCame net S → length S.arbiters ≡ nodes net.relation.grid → IsLed net S
  led-on S came arbiters = record {
    led = leads-further net good.relation S came;
    at_goal = ejects-home net good.relation S came;
    low = eject-low net good.relation S came;
    n_arbiters = arbiters;
  }

  link-at : (n p i q j r a v u : ℕ) → IsValid net p i → IsValid net q j → place_of_flit net (state_at net n) p i ≡ On (Link r a v) → place_of_flit net (state_at net n) q j ≡ On (Link r a u) → (p ≡ q) × (i ≡ j)
  unfolding state_at network_cycle
  link-at zero p i q j r a v u vi vj e f = let z : Source ≡ On (Link r a v) = sym (at-source net p i vi) ∙ e in absurd (cc z)
  link-at (suc n) p i q j r a v u vi vj e f = one-on-link net good.built good.wired (frozen_state net n (state_at net n)) (frozen-whole n) n p i q j r a v u vi vj e f

  -- each credit is of a link channel of the network
  back-verdicts : (n : ℕ) (F : State) (c : Channel) → has_channel (after_verdicts net n F).back c ≡ true → (is_link c ≡ true) × Has c (all_inputs net)
  unfolding after_verdicts
  back-verdicts n F c h =
      let f = Has-filter (λ d. is_link d && is_moved (verdict_in net F d)) c (all_inputs net) (channel-has c (after_verdicts net n F).back h) in
      ((and_parts (is_link c) (is_moved (verdict_in net F c)) f.1).0, f.0)

  inputs-at : (n : ℕ) (c : Channel) → has_channel (state_at net n).back c ≡ true → (is_link c ≡ true) × Has c (all_inputs net)
  unfolding state_at network_cycle opening_state
  inputs-at zero c h = absurd (false≢true h)
  inputs-at (suc n) c h = back-verdicts n (frozen_state net n (state_at net n)) c h

  pub ordered-state : (n : ℕ) → IsOrdered net (state_at net n)
  ordered-state n = record {
    whole = whole-at n;
    queued = queued-state net good.built good.wired n;
    more = led-on (state_at net n) (came-at n) (arbiters-state net n);
    one_on_link = link-at n;
    one_back = one-back-state net good.wired n;
    back_in = inputs-at n;
  }

  -- ---- in mid-cycle, and frozen

  mid-credit : (S : State) (c : Channel) → has_channel (mid net S).back c ≡ false
  unfolding after_credits
  mid-credit S c = refl

  frozen-credit : (n : ℕ) (S : State) (c : Channel) → has_channel (frozen_state net n S).back c ≡ false
  unfolding frozen_state after_injection after_credits
  frozen-credit n S c = refl

  pub ordered-mid : (n : ℕ) → IsOrderedFrozen net (mid net (state_at net n))
  ordered-mid n = record {
    whole = whole-mid net good.built good.wired good.covering (state_at net n) (whole-at n);
    queued = queued-mid net good.built good.wired (state_at net n) (whole-at n).sound (queued-state net good.built good.wired n);
    more = led-on (mid net (state_at net n)) (led-mid net (state_at net n) (came-at n)) (ap length (arbiters-mid net (state_at net n)) ∙ arbiters-state net n);
    no_credit = mid-credit (state_at net n);
  }

  pub ordered-frozen : (n : ℕ) → IsOrderedFrozen net (frozen_at net n)
  ordered-frozen n = record {
    whole = frozen-whole n;
    queued = queued-frozen net good.built good.wired n (state_at net n) (whole-at n).sound (queued-state net good.built good.wired n);
    more = led-on (frozen_at net n) (led-frozen net good.built good.wired n (state_at net n) (whole-at n).sound (came-at n))
        (ap length (arbiters-frozen net n (state_at net n)) ∙ arbiters-state net n);
    no_credit = frozen-credit n (state_at net n);
  }

  -- at every count that a run can have, the routers and wires of the lockstep run are those of the
  -- state of the whole network
  pub lockstep-is_network : AreShort net → (n : ℕ) → n ≤ CYCLE_LIMIT → AreSeen net n
  lockstep-is_network short n l = joined net good short ordered-state ordered-mid ordered-frozen n l
