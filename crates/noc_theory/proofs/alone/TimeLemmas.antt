-- A packet that is alone is in time in each cycle: its head is on the clock, and each flit behind
-- it can still be out one cycle after the one before it. So its tail is out when it must.
use Rattle.std.proofs.Common.{◌≡◌, ◌≢◌, ℕ, zero, suc, ◌+◌, ◌<◌, ◌≤◌, length, Some, None, refl, ap, sym, ◌∙◌, arith, inl, inr, subst}
use Rattle.std.specs.Prelude.{◌⊎◌}
use Rattle.noc_theory.proofs.Common.{false≢true, cases_lt, cases_order, Channel, Link, Inject, Eject, Setup, State, Place, Source, On, In, Out, packet_at, place_of_flit, tail_place, out_cycle, arrival_in, landed_place, after_injection, after_verdicts, frozen_state, frozen_at, network_cycle, state_at, hops, head_place, weight, allocations_left, IsWellFormedSetup, IsValid}
use Rattle.noc_theory.specs.Alone.{zero_load_latency}
use Rattle.noc_theory.proofs.worms.BuiltRecordLemmas.{IsBuilt}
use Rattle.noc_theory.proofs.worms.BuiltLemmas.{good-built}
use Rattle.noc_theory.proofs.worms.InjectionPhaseLemmas.{IsInjected, source-behind}
use Rattle.noc_theory.proofs.worms.InjectionStateLemmas.{entries-move, entries-are, entries-apart, all_entries}
use Rattle.noc_theory.proofs.worms.MoveLemmas.{IsMoving, IsMoved, moved-or-not, far-link}
use Rattle.noc_theory.proofs.worms.NetworkLemmas.{mid_at, whole-mid_at, out-at}
use Rattle.noc_theory.proofs.worms.RoutedStateLemmas.{IsWholeFrozen}
use Rattle.noc_theory.proofs.worms.StateWordLemmas.{IsPlaced, far_of, last_of}
use Rattle.noc_theory.proofs.worms.WormOrderLemmas.{whole-at, whole-frozen_at}
use Rattle.noc_theory.proofs.worms.WormRecordLemmas.{valid-last, valid-below}
use Rattle.noc_theory.proofs.budget.DrainLemmas.{tail-stays-out}
use Rattle.noc_theory.proofs.alone.UndueLemmas.{place-mid, undue-at}
use Rattle.noc_theory.proofs.alone.OwnerLemmas.{OwnsAlone, OthersAreOut, alone-mid, alone-frozen, due-later}
use Rattle.noc_theory.proofs.alone.FollowLemmas.{out_time, InTime, follows, follows-first}
use Rattle.noc_theory.proofs.alone.EntryLemmas.{IsEntering, entry-far, goes-on, begins}
use Rattle.noc_theory.proofs.alone.ClockLemmas.{IsOnClock, HeadOnClock, clock-time, clock-mid, clock-frozen, clock-verdicts}

-- the cycle in which the tail of a packet is out, where nothing holds the packet up
abbrev pub last_time : Setup → ℕ → ℕ
last_time net p = (packet_at net p).due + zero_load_latency net p

module _ (net : Setup) (good : IsWellFormedSetup net) (two : 2 ≤ net.depth) (p : ℕ) (low : p < length net.packets) where
  abbrev built : IsBuilt net
  built = good-built net good

  -- the head is on the clock, and each flit is in time
  pub record IsOnTime (n : ℕ) : Type 0 where
    pub clock : HeadOnClock net p n (state_at net n)
    pub times : (i : ℕ) → IsValid net p i → InTime net p n i (place_of_flit net (state_at net n) p i)

  -- ---- one cycle

  module _ (n : ℕ) (others : OthersAreOut net p n) (due : (packet_at net p).due ≤ n) (on : IsOnTime n) where
    abbrev T : State
    T = mid_at net good n

    abbrev mid : IsWholeFrozen net T
    mid = whole-mid_at net good n

    abbrev F : State
    F = frozen_at net n

    abbrev frozen : IsWholeFrozen net F
    frozen = whole-frozen_at net good n

    mine : OwnsAlone net p F
    mine = alone-frozen net good p n others

    time-landed : (i : ℕ) (x : Place) → InTime net p n i x → InTime net p n i (landed_place net x)
    time-landed i Source t = t
    time-landed i (On c) t = t
    time-landed i (In c) t = t
    time-landed i (Out m) t = t

    times-mid : (i : ℕ) → IsValid net p i → InTime net p n i (place_of_flit net T p i)
    times-mid i v = subst (InTime net p n i) (sym (place-mid net good n p i v)) (time-landed i (place_of_flit net (state_at net n) p i) (on.times i v))

    -- the head leaves its source at once, and a later flit that has no cycle to lose
    head-enters : head_place net T p ≡ Source → IsEntering net good n p
    head-enters e = begins net good two n p low (alone-mid net good p n others) (due-later net good p n others) due e

    enters : (i : ℕ) → IsValid net p i → place_of_flit net T p i ≡ Source → n + hops net p + 1 ≡ out_time net p i → IsEntering net good n p
    enters i v e tight = at (head_place net T p) refl
      where
        at : (x : Place) → head_place net T p ≡ x → IsEntering net good n p
        at Source k = head-enters k
        at (On c) k = goes-on net good two n p low times-mid i v (λ z. let y : Source ≡ On c = sym z ∙ k in cc y) e tight
        at (In c) k = goes-on net good two n p low times-mid i v (λ z. let y : Source ≡ In c = sym z ∙ k in cc y) e tight
        at (Out m) k = goes-on net good two n p low times-mid i v (λ z. let y : Source ≡ Out m = sym z ∙ k in cc y) e tight

    abbrev InjectedHere : Type 0
    InjectedHere = IsInjected net built T.own (place_of_flit net T) mid.sound.worm (all_entries net built T mid.sound.keyed mid.sound.worm n) (entries-are net built T mid.sound.keyed mid.sound.worm n)
        (entries-apart net built T mid.sound.keyed mid.sound.worm n) (place_of_flit net (after_injection net n T)) p

    -- in time in the frozen state, and one cycle to spare at the source
    abbrev IsReady : ℕ → Place → Type 0
    IsReady i x = InTime net p n i x × (x ≡ Source → n + hops net p + 1 < out_time net p i)

    ready-other : (i : ℕ) (x y : Place) → InTime net p n i x → y ≡ x → (x ≡ Source → n + hops net p + 1 ≡ out_time net p i → ⊥) → IsReady i y
    ready-other i x y t e spare = (subst (InTime net p n i) (sym e) t, (λ z. strict (e' z) (cases_order (n + hops net p + 1) (out_time net p i))))
      where
        e' : y ≡ Source → x ≡ Source
        e' z = sym e ∙ z

        strict : x ≡ Source → (n + hops net p + 1 ≡ out_time net p i) ⊎ ((n + hops net p + 1 < out_time net p i) ⊎ (out_time net p i < n + hops net p + 1)) → n + hops net p + 1 < out_time net p i
        strict s (inl same) = absurd (spare s same)
        strict s (inr (inl l)) = l
        strict s (inr (inr l)) = let k : n + hops net p + 1 ≤ out_time net p i = subst (InTime net p n i) s t in absurd (omega arith)

    ready-entered : (i : ℕ) (y : Place) (c : Channel) → y ≡ In c → far_of net p c ≡ hops net p → n + hops net p + 1 ≤ out_time net p i → IsReady i y
    ready-entered i y c e far t =
        let u : InTime net p n i (In c) = omega arith in
        (subst (InTime net p n i) (sym e) u, (λ z. let k : In c ≡ Source = sym e ∙ z in absurd (cc k)))

    times-injection : (i : ℕ) → IsValid net p i → IsReady i (place_of_flit net (after_injection net n T) p i)
    times-injection i v = at (entries-move net built T mid.sound.keyed mid.sound.worm n p low)
      where
        at : InjectedHere → IsReady i (place_of_flit net (after_injection net n T) p i)
        at (inl x) =
            ready-other i (place_of_flit net T p i) (place_of_flit net (after_injection net n T) p i) (times-mid i v) (x.0 i v)
            (λ e tight. let one = enters i v e tight in x.1 one.0 one.1 one.2)
        at (inr x) = by (cases_order i x.3.flit)
          where
            first-time : n + hops net p + 1 ≤ out_time net p x.3.flit
            first-time = subst (InTime net p n x.3.flit) x.3.was (times-mid x.3.flit x.3.valid)

            by : (i ≡ x.3.flit) ⊎ ((i < x.3.flit) ⊎ (x.3.flit < i)) → IsReady i (place_of_flit net (after_injection net n T) p i)
            by (inl e) =
                let f = first-time in
                ready-entered i (place_of_flit net (after_injection net n T) p i) x.0.channel (ap (place_of_flit net (after_injection net n T) p) e ∙ x.3.now) (entry-far net good n p x.0 x.1 x.2) (omega arith)
            by (inr (inl l)) =
                ready-other i (place_of_flit net T p i) (place_of_flit net (after_injection net n T) p i) (times-mid i v) (x.3.others i v (λ e. omega arith))
                (λ e tight. x.3.first i l e)
            by (inr (inr l)) =
                ready-other i (place_of_flit net T p i) (place_of_flit net (after_injection net n T) p i) (times-mid i v) (x.3.others i v (λ e. omega arith))
                (λ e tight. let f = first-time in omega arith)

    times-frozen : (i : ℕ) → IsValid net p i → IsReady i (place_of_flit net F p i)
    unfolding frozen_state
    times-frozen i v = times-injection i v

    head-frozen : HeadOnClock net p n F × (head_place net F p ≢ Source)
    head-frozen = clock-frozen net good n p low head-enters (clock-mid net good n p low on.clock)

    abbrev U : State
    U = after_verdicts net n F

    head-next : HeadOnClock net p (suc n) U
    head-next = clock-verdicts net good n p low two mine head-frozen.1 head-frozen.0

    -- a flit behind the head
    behind-next : (i : ℕ) → 0 < i → IsValid net p i → InTime net p (suc n) i (place_of_flit net U p i)
    behind-next i later v = at (moved-or-not net built F frozen.sound.keyed frozen.sound.worm n frozen.sound.still p i v)
      where
        here : (x : Place) → place_of_flit net F p i ≡ x → InTime net p n i x × (x ≡ Source → n + hops net p + 1 < out_time net p i)
        here x e = subst (λ (y : Place). IsReady i y) e (times-frozen i v)

        moved : (c o : Channel) → IsMoving net built F frozen.sound.keyed frozen.sound.worm n frozen.sound.still p i c o → InTime net p (suc n) i (place_of_flit net U p i)
        moved c (Link r a u) m =
            let far = far-link net built F frozen.sound.keyed frozen.sound.worm p c r a u m.next in
            let t : n + far_of net p c ≤ out_time net p i = (here (In c) m.was).0 in
            let w : InTime net p (suc n) i (On (Link r a u)) = omega arith in
            subst (InTime net p (suc n) i) (sym m.now) w
        moved c (Inject r u) m = absurd (false≢true m.next.leads)
        moved c (Eject r u) m =
            let t : n + far_of net p c ≤ out_time net p i = (here (In c) m.was).0 in
            let w : n ≤ out_time net p i = omega arith in
            subst (InTime net p (suc n) i) (sym m.now) w

        at : IsMoved net built F frozen.sound.keyed frozen.sound.worm n frozen.sound.still p i → InTime net p (suc n) i (place_of_flit net U p i)
        at (inr x) = moved x.0 x.1 x.2
        at (inl x) = subst (InTime net p (suc n) i) (sym x.now) (stays (place_of_flit net F p i) refl)
          where
            stays : (y : Place) → place_of_flit net F p i ≡ y → InTime net p (suc n) i y
            stays Source e = let t = (here Source e).1 refl in omega arith
            stays (On c) e = absurd (frozen.sound.still p i v c e)
            stays (Out m) e = (here (Out m) e).0
            stays (In c) e = by (cases_order (n + far_of net p c) (out_time net p i))
              where
                t : n + far_of net p c ≤ out_time net p i
                t = (here (In c) e).0

                by : (n + far_of net p c ≡ out_time net p i) ⊎ ((n + far_of net p c < out_time net p i) ⊎ (out_time net p i < n + far_of net p c)) → InTime net p (suc n) i (In c)
                by (inl tight) =
                    absurd (x.not_first c (follows net good two n p mine (λ j w. (times-frozen j w).0) i c later v e tight) (follows-first net good two n p mine (λ j w. (times-frozen j w).0) i c later v e tight))
                by (inr (inl l)) = omega arith
                by (inr (inr l)) = let s = t in absurd (omega arith)

    -- so it is on time in the next cycle
    on-time_next : IsOnTime (suc n)
    unfolding state_at network_cycle
    on-time_next = record { clock = head-next; times = λ i v. at i v (cases_lt 0 i) }
      where
        at : (i : ℕ) → IsValid net p i → (0 < i) ⊎ (i ≤ 0) → InTime net p (suc n) i (place_of_flit net U p i)
        at i v (inl l) = behind-next i l v
        at i v (inr z) = let none : 0 ≡ i = omega arith in subst (λ (j : ℕ). InTime net p (suc n) j (place_of_flit net U p j)) none (clock-time net p (suc n) U head-next)

  -- ---- the run

  -- at its due time
  starts : (n : ℕ) → n ≡ (packet_at net p).due → IsOnTime n
  starts n due = record {
    clock = subst (λ (x : Place). IsOnClock net p n (allocations_left net (state_at net n) p x) x) (sym head) on_clock;
    times = λ i v. subst (InTime net p n i) (sym (source i v)) (in_time i);
  }
    where
      head : head_place net (state_at net n) p ≡ Source
      head = undue-at net good n p low (omega arith)

      on_clock : IsOnClock net p n (allocations_left net (state_at net n) p Source) Source
      on_clock = omega arith

      source : (i : ℕ) → IsValid net p i → place_of_flit net (state_at net n) p i ≡ Source
      source i v = source-behind net built (state_at net n).own (place_of_flit net (state_at net n)) (whole-at net good n).sound.worm p 0 i v (omega arith) head

      in_time : (i : ℕ) → InTime net p n i Source
      in_time i = omega arith

  -- where the tail is out all flits are, each a cycle or more after the one before it: so
  -- none is out before its time
  module _ (n : ℕ) (on : IsOnTime n) (m : ℕ) (out : tail_place net (state_at net n) p ≡ Out m) where
    light : (x : Place) → IsPlaced net (state_at net n).own p x → weight net p x ≡ 0 → (a : ℕ) × (x ≡ Out a)
    light Source k w = absurd (omega arith)
    light (On c) k w = absurd (omega arith)
    light (In (Link r a u)) k w = absurd (omega arith)
    light (In (Inject r u)) k w = absurd (omega arith)
    light (In (Eject r u)) k w = absurd k
    light (Out a) k w = (a, refl)

    all-out : (i : ℕ) → IsValid net p i → (a : ℕ) × (place_of_flit net (state_at net n) p i ≡ Out a)
    all-out i v =
        let worm = (whole-at net good n).sound.worm in
        let order = worm.order p i (last_of net p) (valid-last net built p low) (let l = v.1 in omega arith) in
        let none : weight net p (tail_place net (state_at net n) p) ≡ 0 = ap (weight net p) out in
        light (place_of_flit net (state_at net n) p i) (worm.placed p i v) (omega arith)

    not-before : (i : ℕ) → IsValid net p i → (a : ℕ) → place_of_flit net (state_at net n) p i ≡ Out a → out_time net p i ≤ a
    not-before zero v a e =
        let t : a ≡ out_time net p 0 = subst (λ (x : Place). IsOnClock net p n (allocations_left net (state_at net n) p x) x) e on.clock in
        omega arith
    not-before (suc i) v a e =
        let w = valid-below net built p i (suc i) v (omega arith) in
        let b = all-out i w in
        let t = not-before i w b.0 b.1 in
        let l = (out-at net good n).rising p i (suc i) b.0 a v (omega arith) b.1 e in
        omega arith

    out-then : m ≡ out_time net p (last_of net p)
    out-then =
        let low_side = not-before (last_of net p) (valid-last net built p low) m out in
        let t : m ≤ out_time net p (last_of net p) = subst (InTime net p n (last_of net p)) out (on.times (last_of net p) (valid-last net built p low)) in
        omega arith

  same-time : out_time net p (last_of net p) ≡ last_time net p
  same-time = omega arith

  -- up to then all others are out, while p is not
  module _ (others : (n : ℕ) → (packet_at net p).due ≤ n → n ≤ last_time net p → arrival_in net (state_at net n) p ≡ None → OthersAreOut net p n) where
    -- p is on time, or its tail is out when it must
    abbrev HasCome : ℕ → Type 0
    HasCome n = IsOnTime n ⊎ (tail_place net (state_at net n) p ≡ Out (out_time net p (last_of net p)))

    goes-out : (n : ℕ) → tail_place net (state_at net n) p ≡ Out (out_time net p (last_of net p)) → HasCome (suc n)
    goes-out n e = inr (tail-stays-out net 1 n p (out_time net p (last_of net p)) e (suc n) (omega arith))

    next : (n : ℕ) → (packet_at net p).due ≤ n → HasCome n → HasCome (suc n)
    next n due (inr e) = goes-out n e
    next n due (inl on) = at (tail_place net (state_at net n) p) refl
      where
        time : (x : Place) → tail_place net (state_at net n) p ≡ x → InTime net p n (last_of net p) x
        time x e = subst (InTime net p n (last_of net p)) e (on.times (last_of net p) (valid-last net built p low))

        goes-on-time : arrival_in net (state_at net n) p ≡ None → n ≤ last_time net p → HasCome (suc n)
        goes-on-time waits early = inl (on-time_next n (others n due early waits) due on)

        at : (x : Place) → tail_place net (state_at net n) p ≡ x → HasCome (suc n)
        at Source e = let t = time Source e in let s = same-time in goes-on-time (ap out_cycle e) (omega arith)
        at (On c) e = let t = time (On c) e in let s = same-time in goes-on-time (ap out_cycle e) (omega arith)
        at (In c) e = let t = time (In c) e in let s = same-time in goes-on-time (ap out_cycle e) (omega arith)
        at (Out m) e = goes-out n (e ∙ ap Out (out-then n on m e))

    comes : (n : ℕ) → (packet_at net p).due ≤ n → HasCome n
    comes zero due = inl (starts zero (omega arith))
    comes (suc n) due = at (cases_lt n (packet_at net p).due) (comes n)
      where
        at : (n < (packet_at net p).due) ⊎ ((packet_at net p).due ≤ n) → ((packet_at net p).due ≤ n → HasCome n) → HasCome (suc n)
        at (inl l) before = inl (starts (suc n) (omega arith))
        at (inr l) before = next n l (before l)

    -- the tail is out in the cycle in which it must
    pub out-in_time : (n : ℕ) → last_time net p < n → arrival_in net (state_at net n) p ≡ Some (last_time net p)
    out-in_time n late = at (comes n (omega arith))
      where
        out : (m : ℕ) → tail_place net (state_at net n) p ≡ Out m → m ≡ out_time net p (last_of net p) → arrival_in net (state_at net n) p ≡ Some (last_time net p)
        out m e is = ap out_cycle e ∙ ap Some (is ∙ same-time)

        at : HasCome n → arrival_in net (state_at net n) p ≡ Some (last_time net p)
        at (inr e) = out (out_time net p (last_of net p)) e refl
        at (inl on) = by (tail_place net (state_at net n) p) refl
          where
            time : (x : Place) → tail_place net (state_at net n) p ≡ x → InTime net p n (last_of net p) x
            time x e = subst (InTime net p n (last_of net p)) e (on.times (last_of net p) (valid-last net built p low))

            by : (x : Place) → tail_place net (state_at net n) p ≡ x → arrival_in net (state_at net n) p ≡ Some (last_time net p)
            by Source e = let t = time Source e in let s = same-time in absurd (omega arith)
            by (On c) e = let t = time (On c) e in let s = same-time in absurd (omega arith)
            by (In c) e = let t = time (In c) e in let s = same-time in absurd (omega arith)
            by (Out m) e = out m e (out-then n on m e)
