-- What is known of every network that was made, at the start of each cycle (_at), after its
-- landings and credits (_mid_at), and in its frozen state (_frozen_at).
use Rattle.std.proofs.Common.{◌≡◌, ℕ, zero, suc, ◌+◌, ◌-◌, ◌≤◌, ◌<◌, Bool, true, false, List, ap, sym, ◌∙◌, arith}
use Rattle.std.specs.Prelude.{if◌then◌else◌}
use Rattle.noc_theory.proofs.Common.{Has, Channel, Link, Eject, Setup, count_in, count_on, credit_of, State, Source, On, place_of_flit, has_channel, after_landing, after_credits, network_cycle, frozen_at, state_at, IsWellFormedSetup, slots_taken, IsValid}
use Rattle.noc_theory.proofs.worms.StateWordLemmas.{goal}
use Rattle.noc_theory.proofs.worms.BuiltRecordLemmas.{IsBuilt}
use Rattle.noc_theory.proofs.worms.BuiltLemmas.{good-built, good-wired, good-covering}
use Rattle.noc_theory.proofs.worms.CameLemmas.{IsLed, led-frozen, led-state, ejects-home, eject-low}
use Rattle.noc_theory.proofs.worms.FirstOfNodeLemmas.{IsQueued, queued-mid, queued-frozen_state, queued-state}
use Rattle.noc_theory.proofs.worms.GrantLemmas.{IsWired}
use Rattle.noc_theory.proofs.worms.OneBackLemmas.{one-back-state, no-back-frozen}
use Rattle.noc_theory.proofs.worms.OneOnLinkLemmas.{one-on-link}
use Rattle.noc_theory.proofs.worms.OpeningLemmas.{at-source}
use Rattle.noc_theory.proofs.worms.OutOrderLemmas.{IsOutInOrder, out-state}
use Rattle.noc_theory.proofs.worms.RoutedStateLemmas.{IsWholeFrozen, whole-mid}
use Rattle.noc_theory.proofs.worms.VerdictRoomLemmas.{none-on}
use Rattle.noc_theory.proofs.worms.WormOrderLemmas.{whole-at, whole-frozen_at}

module _ (net : Setup) (good : IsWellFormedSetup net) where
  abbrev built : IsBuilt net
  built = good-built net good

  abbrev wired : IsWired net
  wired = good-wired net good

  -- the state after the landings and the credits of cycle n
  abbrev pub mid_at : ℕ → State
  mid_at n = after_credits net (after_landing net (state_at net n))

  -- ---- the worms, the room and what is routed

  pub whole-mid_at : (n : ℕ) → IsWholeFrozen net (mid_at n)
  whole-mid_at n = whole-mid net built wired (good-covering net good) (state_at net n) (whole-at net good n)

  -- no buffer holds more than its slots, and nothing is on a wire
  pub room-frozen_at : (n : ℕ) (c : Channel) → count_in net (frozen_at net n) c ≤ net.depth
  room-frozen_at n c = (whole-frozen_at net good n).sound.room c

  -- ---- who has begun is the first of its node

  pub queued-at : (n : ℕ) → IsQueued net (state_at net n)
  queued-at n = queued-state net built wired n

  pub queued-mid_at : (n : ℕ) → IsQueued net (mid_at n)
  queued-mid_at n = queued-mid net built wired (state_at net n) (whole-at net good n).sound (queued-at n)

  pub queued-frozen_at : (n : ℕ) → IsQueued net (frozen_at net n)
  queued-frozen_at n = queued-frozen_state net built wired n

  -- ---- each owned link and ejection channel is one that the relation permits to its packet

  pub led-at : (n : ℕ) → IsLed net (state_at net n)
  led-at n = led-state net built wired n

  pub led-frozen_at : (n : ℕ) → IsLed net (frozen_at net n)
  led-frozen_at n = led-frozen net built wired n (state_at net n) (whole-at net good n).sound (led-at n)

  -- an ejection channel of a packet is one at its destination
  pub ejects-at_goal : (S : State) → IsLed net S → (n v p : ℕ) → Has (Eject n v, p) S.own → n ≡ goal net p
  ejects-at_goal = ejects-home net good.relation

  pub ejects-low : (S : State) → IsLed net S → (n v p : ℕ) → Has (Eject n v, p) S.own → v < net.relation.vcs
  ejects-low = eject-low net good.relation

  -- ---- one flit and one credit on each link

  pub one_on_link-at : (n p i q j r a v u : ℕ) → IsValid net p i → IsValid net q j → place_of_flit net (state_at net n) p i ≡ On (Link r a v) → place_of_flit net (state_at net n) q j ≡ On (Link r a u) → (p ≡ q) × (i ≡ j)
  unfolding state_at network_cycle
  one_on_link-at zero p i q j r a v u x y e f = let z : Source ≡ On (Link r a v) = sym (at-source net p i x) ∙ e in absurd (cc z)
  one_on_link-at (suc n) p i q j r a v u x y e f = one-on-link net built wired (frozen_at net n) (whole-frozen_at net good n) n p i q j r a v u x y e f

  pub one_back-at : (n r a v u : ℕ) → has_channel (state_at net n).back (Link r a v) ≡ true → has_channel (state_at net n).back (Link r a u) ≡ true → v ≡ u
  one_back-at = one-back-state net wired

  pub none_back-frozen_at : (n : ℕ) (c : Channel) → has_channel (frozen_at net n).back c ≡ false
  none_back-frozen_at n c = ap (λ (cs : List Channel). has_channel cs c) (no-back-frozen net n (state_at net n))

  -- so the credits of a frozen state are the free slots too
  pub frozen_credit-at : (n : ℕ) (c : Channel) → credit_of net (frozen_at net n) c + slots_taken net (frozen_at net n) c ≡ net.depth
  frozen_credit-at n c =
      let on = none-on net built (frozen_at net n) (whole-frozen_at net good n).sound.keyed (whole-frozen_at net good n).sound.worm n (whole-frozen_at net good n).sound.still c in
      let back = ap (λ (b : Bool). if b then 1 else 0) (none_back-frozen_at n c) in
      rest (count_on net (frozen_at net n) c) (count_in net (frozen_at net n) c) (if has_channel (frozen_at net n).back c then 1 else 0) on back (room-frozen_at n c)
    where
      rest : (a b k : ℕ) → a ≡ 0 → k ≡ 0 → b ≤ net.depth → (net.depth - a - b - k) + (a + b + k) ≡ net.depth
      rest a b k x y l = omega arith

  -- ---- flits go out in order

  pub out-at : (n : ℕ) → IsOutInOrder net n (state_at net n)
  out-at n = out-state net built wired n
