-- Where one packet alone owns channels, a channel of it that has a flit, a next channel
-- and a credit moves a flit.
use Rattle.std.proofs.Common.{◌≡◌, ℕ, suc, ◌+◌, ◌-◌, ◌<◌, ◌≤◌, Bool, true, false, cond, List, [], ◌∷◌, length, Some, refl, ap, sym, ◌∙◌, arith, inl, inr, subst}
use Rattle.std.specs.Prelude.{filter, option_map, ◌⊎◌}
use Rattle.noc_theory.proofs.Common.{true≢false, false≢true, lt-ltb, cases_lt, cases_order, Has, Pairs, Channel, Link, Inject, Eject, Moved, Setup, State, Located, Place, In, place_of_flit, owner_of, next_channel, has_channel, has_credit_in, credit_of, count_on, count_in, is_in, end_of, arriving, verdict_in, frozen_at, weight, IsWellFormedSetup, IsValid}
use Rattle.noc_theory.proofs.worms.BuiltLemmas.{good-built, good-wired}
use Rattle.noc_theory.proofs.worms.BufferLemmas.{same_channel-refl}
use Rattle.noc_theory.proofs.worms.MemberLemmas.{Has-kept, Has-filter, Pairs-filter, find-some}
use Rattle.noc_theory.proofs.worms.StateWordLemmas.{IsEject, IsPlaced, IsSortedPair, goal, far_of}
use Rattle.noc_theory.proofs.worms.PlaceLemmas.{flit-there, place-of-flit, is_in-is}
use Rattle.noc_theory.proofs.worms.MoveLemmas.{IsNext, IsFirst, first-is, next-is, placed-in, far-link, weight-in, end-far, no-end-eject, same-far}
use Rattle.noc_theory.proofs.worms.WormRecordLemmas.{IsWorm}
use Rattle.noc_theory.proofs.worms.VerdictRoomLemmas.{none-on}
use Rattle.noc_theory.proofs.worms.RoutedStateLemmas.{IsWholeFrozen}
use Rattle.noc_theory.proofs.worms.WormOrderLemmas.{whole-frozen_at}
use Rattle.noc_theory.proofs.worms.NetworkLemmas.{queued-frozen_at, led-frozen_at, none_back-frozen_at}
use Rattle.noc_theory.proofs.budget.ProgressRecordLemmas.{IsBuilt}
use Rattle.noc_theory.proofs.budget.BuiltProgressLemmas.{built-good}
use Rattle.noc_theory.proofs.budget.WormChainLemmas.{IsChain}
use Rattle.noc_theory.proofs.budget.ChainLemmas.{chain-whole, in-owned, input-of}
use Rattle.noc_theory.proofs.budget.AllocationPhaseLemmas.{moved-before}
use Rattle.noc_theory.proofs.budget.RouterLemmas.{IsInput, input-arrives}
use Rattle.noc_theory.proofs.budget.WormLemmas.{owner-has, owner-comes, next-has, next-moved}
use Rattle.noc_theory.proofs.alone.OwnerLemmas.{OwnsAlone}

-- flits of one packet and index, each after those before it, are one at most
pub one-at_most : (p i : ℕ) (fs : List Located) → Pairs IsSortedPair fs → ((f : Located) → Has f fs → (f.packet ≡ p) × (suc f.index ≡ i)) → length fs ≤ 1
one-at_most p i [] sorted same = omega arith
one-at_most p i (f ∷ []) sorted same = omega arith
one-at_most p i (f ∷ g ∷ fs) sorted same =
    let a = same f (inl refl) in
    let b = same g (inr (inl refl)) in
    let less : f.index < g.index = sorted.0.0 (a.0 ∙ sym b.0) in
    let x = a.1 in
    let y = b.1 in
    absurd (omega arith)

module _ (net : Setup) (S : State) where
  -- where a flit is in its buffer, a channel is not empty
  pub some-in : (f : Located) (c : Channel) → Has f S.at → f.place ≡ In c → 0 < count_in net S c
  some-in f c h e = at (filter (λ (g : Located). is_in c g.place) S.at) (Has-kept (λ (g : Located). is_in c g.place) f S.at h (ap (is_in c) e ∙ same_channel-refl c))
    where
      at : (gs : List Located) → Has f gs → 0 < length gs
      at [] k = absurd k
      at (g ∷ gs) k = omega arith

  -- a buffer whose flits are of one packet and index holds one at most
  pub few-in : Pairs IsSortedPair S.at → (p i : ℕ) (c : Channel) → ((f : Located) → Has f S.at → f.place ≡ In c → (f.packet ≡ p) × (suc f.index ≡ i)) → count_in net S c ≤ 1
  few-in sorted p i c same =
      one-at_most p i (filter (λ (g : Located). is_in c g.place) S.at) (Pairs-filter IsSortedPair (λ (g : Located). is_in c g.place) S.at sorted)
      (λ f h. let m = Has-filter (λ (g : Located). is_in c g.place) f S.at h in same f m.0 (is_in-is c f.place m.1))

module _ (net : Setup) (good : IsWellFormedSetup net) (n : ℕ) where
  abbrev F : State
  F = frozen_at net n

  abbrev whole : IsWholeFrozen net F
  whole = whole-frozen_at net good n

  abbrev pub built : IsBuilt net
  built = built-good net good

  pub chain : IsChain net F
  chain = chain-whole net (good-built net good) F whole (queued-frozen_at net good n) (led-frozen_at net good n) (good-wired net good)

  -- a channel with a place left has a credit
  pub credit-left : (o : Channel) → count_in net F o < net.depth → has_credit_in net F o ≡ true
  credit-left (Inject m v) l = refl
  credit-left (Eject m v) l = refl
  credit-left (Link r q v) l =
      lt-ltb 0 (credit_of net F (Link r q v))
      (at (has_channel F.back (Link r q v)) (none_back-frozen_at net good n (Link r q v))
      (none-on net (good-built net good) F whole.sound.keyed whole.sound.worm n whole.sound.still (Link r q v)))
    where
      at : (b : Bool) → b ≡ false → count_on net F (Link r q v) ≡ 0 → 0 < net.depth - count_on net F (Link r q v) - count_in net F (Link r q v) - cond b 1 0
      at true e on = absurd (true≢false e)
      at false e on = omega arith

  module _ (p : ℕ) (alone : OwnsAlone net p F) where
    -- a channel of p comes in somewhere
    pub comes-in : (c : Channel) → owner_of net F c ≡ Some p → (IsEject c → ⊥) → (r : ℕ) × (port : ℕ) × IsInput net c r port
    comes-in c own no_end = owner-comes net F built chain c p own (input-of c no_end)

    -- a channel of p that has a flit, a next channel and a credit moves a flit
    pub moves : (c o : Channel) → owner_of net F c ≡ Some p → (IsEject c → ⊥) → next_channel net F c ≡ Some o → count_in net F o < net.depth → 0 < count_in net F c → verdict_in net F c ≡ Moved
    moves c o own no_end e room flit =
        let i = comes-in c own no_end in
        let m = next-moved net F built chain c o i.0 i.1 i.2 e (credit-left o room) flit in
        one i.0 i.1 i.2 m.0 m.2 m.3 m.4
      where
        one : (r port : ℕ) → IsInput net c r port → (d : Channel) → verdict_in net F d ≡ Moved → (x : ℕ) → arriving net r x ≡ Some d → verdict_in net F c ≡ Moved
        one r port i d moved x arrives =
            let b = moved-before net F d moved in
            let has = next-has net F d b.1 b.2 in
            let is_p : has.0 ≡ p = alone.mine b.1 has.0 has.2 in
            let d_own : Has (d, p) F.own = subst (λ (q : ℕ). Has (d, q) F.own) is_p (owner-has net F d has.0 has.1) in
            let d_end : end_of net.relation d ≡ Some r = ap (option_map (λ (place : ℕ × ℕ). place.0)) (input-arrives net built d r x i.router arrives).0 in
            let c_end : end_of net.relation c ≡ Some r = ap (option_map (λ (place : ℕ × ℕ). place.0)) i.arrives in
            let same : d ≡ c
            = same-far net (good-built net good) F whole.sound.keyed whole.sound.worm p d c d_own (owner-has net F c p own) (no-end-eject net d r d_end) no_end
            (end-far net d r (goal net p) d_end ∙ sym (end-far net c r (goal net p) c_end)) in
            subst (λ (y : Channel). verdict_in net F y ≡ Moved) same moved

    -- what is in the buffer of the next channel is ahead of the flit, one hop nearer
    pub ahead : (i : ℕ) (c o : Channel) → IsValid net p i → place_of_flit net F p i ≡ In c → next_channel net F c ≡ Some o → (f : Located) → Has f F.at → f.place ≡ In o
        → (f.packet ≡ p) × (f.index < i) × (far_of net p c ≡ far_of net p o + 1) × (place_of_flit net F p f.index ≡ In o)
    ahead i c o v here e f h there = (is_p, less (cases_lt f.index i), far, place)
      where
        worm : IsWorm net F.own (place_of_flit net F)
        worm = whole.sound.worm

        stands : IsPlaced net F.own p (In c)
        stands = subst (λ (x : Place). IsPlaced net F.own p x) here (worm.placed p i v)

        next : IsNext net (good-built net good) F whole.sound.keyed worm p c o
        next = next-is net (good-built net good) F whole.sound.keyed worm p c o (placed-in net (good-built net good) F whole.sound.keyed worm p c stands).0 e

        owned : Has (o, f.packet) F.own × (IsEject o → ⊥)
        owned = in-owned net (good-built net good) F whole f o h there

        is_p : f.packet ≡ p
        is_p = alone.mine o f.packet owned.0

        valid : IsValid net p f.index
        valid = subst (λ (x : ℕ). IsValid net x f.index) is_p (whole.sound.keyed.valid f h)

        place : place_of_flit net F p f.index ≡ In o
        place = ap (λ (x : ℕ). place_of_flit net F x f.index) (sym is_p) ∙ place-of-flit net F whole.sound.keyed f h ∙ there

        far_at : (d : Channel) → IsNext net (good-built net good) F whole.sound.keyed worm p c d → (IsEject d → ⊥) → far_of net p c ≡ far_of net p d + 1
        far_at (Link r q u) x no_end = far-link net (good-built net good) F whole.sound.keyed worm p c r q u x
        far_at (Inject m u) x no_end = absurd (false≢true x.leads)
        far_at (Eject m u) x no_end = absurd (no_end tt)

        far : far_of net p c ≡ far_of net p o + 1
        far = far_at o next owned.1

        less : (f.index < i) ⊎ (i ≤ f.index) → f.index < i
        less (inl l) = l
        less (inr l) =
            let order = worm.order p i f.index valid l in
            let low = (weight-in net (good-built net good) F whole.sound.keyed worm p c stands).0 in
            let high = (weight-in net (good-built net good) F whole.sound.keyed worm p o (subst (λ (x : Place). IsPlaced net F.own p x) place (worm.placed p f.index valid))).1 in
            let w_i : weight net p (place_of_flit net F p i) ≡ weight net p (In c) = ap (weight net p) here in
            let w_f : weight net p (place_of_flit net F p f.index) ≡ weight net p (In o) = ap (weight net p) place in
            let one = far in
            absurd (omega arith)

    -- a flit before which none of its packet is in the buffer is the first there
    pub first-here : (i : ℕ) (c : Channel) → IsValid net p i → place_of_flit net F p i ≡ In c → ((j : ℕ) → j < i → place_of_flit net F p j ≡ In c → ⊥)
        → IsFirst net (good-built net good) F whole.sound.keyed whole.sound.worm c p i
    first-here i c v here none =
        let it : Located = record { packet = p; index = i; place = place_of_flit net F p i } in
        let found = find-some (λ (f : Located). is_in c f.place) F.at it (flit-there net F whole.sound.keyed p i v) (ap (is_in c) here ∙ same_channel-refl c) in
        at found.0 (first-is net (good-built net good) F whole.sound.keyed whole.sound.worm c found.0 found.1)
      where
        named : (j : ℕ) → IsFirst net (good-built net good) F whole.sound.keyed whole.sound.worm c p j → (i ≡ j) ⊎ ((i < j) ⊎ (j < i)) → IsFirst net (good-built net good) F whole.sound.keyed whole.sound.worm c p i
        named j x (inl e) = subst (λ (k : ℕ). IsFirst net (good-built net good) F whole.sound.keyed whole.sound.worm c p k) (sym e) x
        named j x (inr (inl l)) = let k = x.least i v here in absurd (omega arith)
        named j x (inr (inr l)) = absurd (none j l x.there)

        at : (g : Located) → IsFirst net (good-built net good) F whole.sound.keyed whole.sound.worm c g.packet g.index → IsFirst net (good-built net good) F whole.sound.keyed whole.sound.worm c p i
        at g x =
            let owned = placed-in net (good-built net good) F whole.sound.keyed whole.sound.worm g.packet c (subst (λ (y : Place). IsPlaced net F.own g.packet y) x.there (whole.sound.worm.placed g.packet g.index x.valid)) in
            let is_p : g.packet ≡ p = alone.mine c g.packet owned.0 in
            named g.index (subst (λ (q : ℕ). IsFirst net (good-built net good) F whole.sound.keyed whole.sound.worm c q g.index) is_p x) (cases_order i g.index)
