-- While a packet is alone its head takes three cycles for each hop: in each cycle it does one
-- of what it has left to do.
use Rattle.std.proofs.Common.{◌≡◌, ◌≢◌, ℕ, suc, ◌+◌, ◌<◌, ◌≤◌, true, cond, length, refl, ap, sym, ◌∙◌, arith, inl, inr, subst}
use Rattle.std.specs.Prelude.{◌⊎◌}
use Rattle.noc_theory.proofs.Common.{false≢true, cases_eq, Channel, Link, Inject, Eject, is_event, is_routed, is_granted, Verdict, Routed, Granted, Moved, Setup, State, Place, Source, On, In, Out, place_of_flit, landed_place, verdict_in, after_landing, after_credits, after_injection, after_verdicts, frozen_state, frozen_at, state_at, hops, head_place, allocations_left, IsWellFormedSetup}
use Rattle.noc_theory.proofs.worms.BuiltRecordLemmas.{IsBuilt}
use Rattle.noc_theory.proofs.worms.BuiltLemmas.{good-built}
use Rattle.noc_theory.proofs.worms.InjectionPhaseLemmas.{IsInjected}
use Rattle.noc_theory.proofs.worms.InjectionStateLemmas.{entries-move, entries-are, entries-apart, all_entries}
use Rattle.noc_theory.proofs.worms.MoveLemmas.{IsMoving, IsMoved, moved-or-not, far-link, far-eject}
use Rattle.noc_theory.proofs.worms.NetworkLemmas.{mid_at, whole-mid_at}
use Rattle.noc_theory.proofs.worms.RoutedStateLemmas.{IsWholeFrozen}
use Rattle.noc_theory.proofs.worms.StateWordLemmas.{far_of}
use Rattle.noc_theory.proofs.worms.WormOrderLemmas.{whole-frozen_at}
use Rattle.noc_theory.proofs.worms.WormRecordLemmas.{valid-first}
use Rattle.noc_theory.proofs.budget.AllocationPhaseLemmas.{allocation, allocation-here}
use Rattle.noc_theory.proofs.budget.CycleRemainderLemmas.{allocations-right}
use Rattle.noc_theory.proofs.budget.InjectionProgressLemmas.{allocations-injected}
use Rattle.noc_theory.proofs.budget.ProgressTheoremLemmas.{countable}
use Rattle.noc_theory.proofs.budget.RemainderPhaseLemmas.{place-landed, allocations-landed, allocations-credited}
use Rattle.noc_theory.proofs.alone.UndueLemmas.{place-mid}
use Rattle.noc_theory.proofs.alone.OwnerLemmas.{OwnsAlone}
use Rattle.noc_theory.proofs.alone.HeadLemmas.{head-first, head-event}
use Rattle.noc_theory.proofs.alone.FollowLemmas.{out_time, InTime}
use Rattle.noc_theory.proofs.alone.EntryLemmas.{IsEntering, entry-far}

module _ (net : Setup) (p : ℕ) where
  -- a head at this place, with so many routes and grants left, is out in time exactly where it goes
  -- on in each cycle from n on
  abbrev pub IsOnClock : ℕ → ℕ → Place → Type 0
  IsOnClock n left Source = n + left + hops net p ≡ out_time net p 0
  IsOnClock n left (On c) = n + left + far_of net p c ≡ out_time net p 0
  IsOnClock n left (In c) = n + left + far_of net p c ≡ out_time net p 0
  IsOnClock n left (Out m) = m ≡ out_time net p 0

  abbrev pub HeadOnClock : ℕ → State → Type 0
  HeadOnClock n S = IsOnClock n (allocations_left net S p (head_place net S p)) (head_place net S p)

  -- such a head is in time
  pub clock-time : (n : ℕ) (S : State) → HeadOnClock n S → InTime net p n 0 (head_place net S p)
  clock-time n S t = at (head_place net S p) t
    where
      at : (x : Place) → IsOnClock n (allocations_left net S p x) x → InTime net p n 0 x
      at Source k = omega arith
      at (On c) k = omega arith
      at (In c) k = omega arith
      at (Out m) k = omega arith

  clock-landed : (n a b : ℕ) (x : Place) → a ≡ b → IsOnClock n b x → IsOnClock n a (landed_place net x)
  clock-landed n a b Source e t = omega arith
  clock-landed n a b (On c) e t = omega arith
  clock-landed n a b (In c) e t = omega arith
  clock-landed n a b (Out m) e t = t

  clock-same : (n a b : ℕ) (x : Place) → a ≡ b → IsOnClock n b x → IsOnClock n a x
  clock-same n a b x e t = subst (λ (k : ℕ). IsOnClock n k x) (sym e) t

module _ (net : Setup) (good : IsWellFormedSetup net) (n p : ℕ) (low : p < length net.packets) where
  abbrev built : IsBuilt net
  built = good-built net good

  -- ---- the landings and the credits

  pub clock-mid : HeadOnClock net p n (state_at net n) → HeadOnClock net p n (mid_at net good n)
  unfolding after_credits
  clock-mid t =
      let left : allocations_left net (mid_at net good n) p (landed_place net (head_place net (state_at net n) p)) ≡ allocations_left net (state_at net n) p (head_place net (state_at net n) p)
      = allocations-credited net (after_landing net (state_at net n)) (countable net good n).frees p low (landed_place net (head_place net (state_at net n) p)) (place-landed net (state_at net n) p 0)
      ∙ allocations-landed net (state_at net n) p (head_place net (state_at net n) p) (λ c e. (countable net good n).flies.to_unrouted p c low e) in
      subst (λ (y : Place). IsOnClock net p n (allocations_left net (mid_at net good n) p y) y) (sym (place-mid net good n p 0 (valid-first net built p low)))
      (clock-landed net p n _ _ (head_place net (state_at net n) p) left t)

  -- ---- the injections

  module _ (enters : head_place net (mid_at net good n) p ≡ Source → IsEntering net good n p) where
    abbrev T : State
    T = mid_at net good n

    abbrev whole : IsWholeFrozen net T
    whole = whole-mid_at net good n

    abbrev InjectedHere : Type 0
    InjectedHere = IsInjected net built T.own (place_of_flit net T) whole.sound.worm (all_entries net built T whole.sound.keyed whole.sound.worm n) (entries-are net built T whole.sound.keyed whole.sound.worm n)
        (entries-apart net built T whole.sound.keyed whole.sound.worm n) (place_of_flit net (after_injection net n T)) p

    same-clock : (x y : Place) (a b : ℕ) → a ≡ b → IsOnClock net p n b x → y ≡ x → (x ≢ Source) → IsOnClock net p n a y × (y ≢ Source)
    same-clock x y a b e t s other = (subst (λ (z : Place). IsOnClock net p n a z) (sym s) (clock-same net p n a b x e t), (λ z. other (sym s ∙ z)))

    injected-clock : (x y : Place) (c : Channel) (a b : ℕ) → a ≡ b → IsOnClock net p n b x → x ≡ Source → y ≡ In c → far_of net p c ≡ hops net p → IsOnClock net p n a y × (y ≢ Source)
    injected-clock x y c a b e t s g far =
        let u : IsOnClock net p n b Source = subst (λ (z : Place). IsOnClock net p n b z) s t in
        let w : IsOnClock net p n a (In c) = omega arith in
        (subst (λ (z : Place). IsOnClock net p n a z) (sym g) w, (λ z. let k : In c ≡ Source = sym g ∙ z in cc k))

    pub clock-injection : HeadOnClock net p n T → HeadOnClock net p n (after_injection net n T) × (head_place net (after_injection net n T) p ≢ Source)
    clock-injection t = at (entries-move net built T whole.sound.keyed whole.sound.worm n p low)
      where
        left : allocations_left net (after_injection net n T) p (head_place net (after_injection net n T) p) ≡ allocations_left net T p (head_place net T p)
        left = allocations-injected net n T (countable net good n).starts p low

        at : InjectedHere → HeadOnClock net p n (after_injection net n T) × (head_place net (after_injection net n T) p ≢ Source)
        at (inl x) =
            same-clock (head_place net T p) (head_place net (after_injection net n T) p) _ _ left t (x.0 0 (valid-first net built p low))
            (λ e. let one = enters e in x.1 one.0 one.1 one.2)
        at (inr x) = by (cases_eq 0 x.3.flit)
          where
            by : (0 ≡ x.3.flit) ⊎ (0 ≡ x.3.flit → ⊥) → HeadOnClock net p n (after_injection net n T) × (head_place net (after_injection net n T) p ≢ Source)
            by (inl e) =
                injected-clock (head_place net T p) (head_place net (after_injection net n T) p) x.0.channel _ _ left t (ap (place_of_flit net T p) e ∙ x.3.was)
                (ap (place_of_flit net (after_injection net n T) p) e ∙ x.3.now) (entry-far net good n p x.0 x.1 x.2)
            by (inr other) =
                same-clock (head_place net T p) (head_place net (after_injection net n T) p) _ _ left t (x.3.others 0 (valid-first net built p low) other)
                (x.3.first 0 (omega arith))

    pub clock-frozen : HeadOnClock net p n T → HeadOnClock net p n (frozen_at net n) × (head_place net (frozen_at net n) p ≢ Source)
    unfolding frozen_state
    clock-frozen t = clock-injection t

  -- ---- the verdicts

  module _ (two : 2 ≤ net.depth) (alone : OwnsAlone net p (frozen_at net n)) (begun : head_place net (frozen_at net n) p ≢ Source) (t : HeadOnClock net p n (frozen_at net n)) where
    abbrev F : State
    F = frozen_at net n

    abbrev frozen : IsWholeFrozen net F
    frozen = whole-frozen_at net good n

    abbrev U : State
    U = after_verdicts net n F

    abbrev Moving : Channel → Channel → Type 0
    Moving c o = IsMoving net built F frozen.sound.keyed frozen.sound.worm n frozen.sound.still p 0 c o

    abbrev MovedHere : Type 0
    MovedHere = IsMoved net built F frozen.sound.keyed frozen.sound.worm n frozen.sound.still p 0

    moves-here : MovedHere
    moves-here = moved-or-not net built F frozen.sound.keyed frozen.sound.worm n frozen.sound.still p 0 (valid-first net built p low)

    in-clock : (c : Channel) → head_place net F p ≡ In c → (v : Verdict) → verdict_in net F c ≡ v → is_event v ≡ true → HeadOnClock net p (suc n) U
    in-clock c here v verdict event = at v verdict event
      where
        left : allocations_left net U p (head_place net U p) + allocation net n F c ≡ allocations_left net F p (In c)
        left = allocation-here net n F (allocations-right net n F (countable net good n).heads) p low c here

        clock : n + allocations_left net F p (In c) + far_of net p c ≡ out_time net p 0
        clock = subst (λ (x : Place). IsOnClock net p n (allocations_left net F p x) x) here t

        -- one less to do where it stands
        stood : (x : Place) (a k b : ℕ) → x ≡ In c → a + k ≡ b → k ≡ 1 → n + b + far_of net p c ≡ out_time net p 0 → IsOnClock net p (suc n) a x
        stood x a k b e l one w = let u : IsOnClock net p (suc n) a (In c) = omega arith in subst (λ (y : Place). IsOnClock net p (suc n) a y) (sym e) u

        staying : allocation net n F c ≡ 1 → (verdict_in net F c ≡ Moved → ⊥) → MovedHere → HeadOnClock net p (suc n) U
        staying one other (inl x) = stood (head_place net U p) _ _ _ (x.now ∙ here) left one clock
        staying one other (inr x) =
            let z : In x.0 ≡ In c = sym x.2.was ∙ here in
            let same : x.0 ≡ c = cc in
            absurd (other (subst (λ (y : Channel). verdict_in net F y ≡ Moved) same x.2.moves))

        -- one hop nearer, or out
        nearer : (x : Place) (o : Channel) (a k b : ℕ) → x ≡ On o → a + k ≡ b → k ≡ 0 → far_of net p c ≡ far_of net p o + 1 → n + b + far_of net p c ≡ out_time net p 0 → IsOnClock net p (suc n) a x
        nearer x o a k b e l none far w = let u : IsOnClock net p (suc n) a (On o) = omega arith in subst (λ (y : Place). IsOnClock net p (suc n) a y) (sym e) u

        went : (d o : Channel) → d ≡ c → Moving d o → allocation net n F c ≡ 0 → HeadOnClock net p (suc n) U
        went d (Link r a u) same m none =
            nearer (head_place net U p) (Link r a u) _ _ _ m.now left none
            (ap (far_of net p) (sym same) ∙ far-link net built F frozen.sound.keyed frozen.sound.worm p d r a u m.next) clock
        went d (Inject r u) same m none = absurd (false≢true m.next.leads)
        went d (Eject r u) same m none =
            let far : far_of net p c ≡ 0 = ap (far_of net p) (sym same) ∙ far-eject net built F frozen.sound.keyed frozen.sound.worm p d r u m.next in
            let done : 0 + allocation net n F c ≡ allocations_left net F p (In c) = subst (λ (x : Place). allocations_left net U p x + allocation net n F c ≡ allocations_left net F p (In c)) m.now left in
            let w = clock in
            let last : n ≡ out_time net p 0 = omega arith in
            subst (λ (x : Place). IsOnClock net p (suc n) (allocations_left net U p x) x) (sym m.now) last

        moving : verdict_in net F c ≡ Moved → allocation net n F c ≡ 0 → MovedHere → HeadOnClock net p (suc n) U
        moving e none (inl x) = absurd (x.not_first c e (head-first net good two n p low alone c here))
        moving e none (inr x) = let z : In x.0 ≡ In c = sym x.2.was ∙ here in let same : x.0 ≡ c = cc in went x.0 x.1 same x.2 none

        at : (v : Verdict) → verdict_in net F c ≡ v → is_event v ≡ true → HeadOnClock net p (suc n) U
        at Routed e k = staying (ap (λ w. cond (is_routed w) 1 0 + cond (is_granted w) 1 0) e) (λ z. let y : Routed ≡ Moved = sym e ∙ z in cc y) moves-here
        at Granted e k = staying (ap (λ w. cond (is_routed w) 1 0 + cond (is_granted w) 1 0) e) (λ z. let y : Granted ≡ Moved = sym e ∙ z in cc y) moves-here
        at Moved e k = moving e (ap (λ w. cond (is_routed w) 1 0 + cond (is_granted w) 1 0) e) moves-here
        at _ e k = absurd (false≢true k)

    -- in the state after the cycle
    pub clock-verdicts : HeadOnClock net p (suc n) U
    clock-verdicts = at (head_place net F p) refl moves-here
      where
        out : (m : ℕ) → head_place net F p ≡ Out m → MovedHere → HeadOnClock net p (suc n) U
        out m e (inl x) =
            let w : m ≡ out_time net p 0 = subst (λ (x : Place). IsOnClock net p n (allocations_left net F p x) x) e t in
            subst (λ (y : Place). IsOnClock net p (suc n) (allocations_left net U p y) y) (sym (x.now ∙ e)) w
        out m e (inr x) = let z : In x.0 ≡ Out m = sym x.2.was ∙ e in absurd (cc z)

        at : (x : Place) → head_place net F p ≡ x → MovedHere → HeadOnClock net p (suc n) U
        at Source e m = absurd (begun e)
        at (On d) e m = absurd (frozen.sound.still p 0 (valid-first net built p low) d e)
        at (In c) e m = in-clock c e (verdict_in net F c) refl (head-event net good two n p low alone c e)
        at (Out k) e m = out k e m
