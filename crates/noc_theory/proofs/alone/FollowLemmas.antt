-- While a packet is alone each flit behind its head goes on in time.
use Rattle.std.proofs.Common.{◌≡◌, ℕ, suc, ◌+◌, ◌*◌, ◌<◌, ◌≤◌, true, Some, refl, ap, ◌∙◌, arith, subst}
use Rattle.noc_theory.proofs.Common.{lt-ltb, Has, Channel, Moved, Setup, State, Place, Source, On, In, Out, packet_at, place_of_flit, next_channel, is_past, verdict_in, frozen_at, hops, head_place, IsWellFormedSetup, IsValid}
use Rattle.noc_theory.proofs.worms.BuiltLemmas.{good-built}
use Rattle.noc_theory.proofs.worms.MoveLemmas.{IsFirst, placed-in}
use Rattle.noc_theory.proofs.worms.NextLemmas.{next-from}
use Rattle.noc_theory.proofs.worms.OwnedLemmas.{owner-is}
use Rattle.noc_theory.proofs.worms.PlaceLemmas.{flit-there}
use Rattle.noc_theory.proofs.worms.RoutedStateLemmas.{IsWholeFrozen}
use Rattle.noc_theory.proofs.worms.StateWordLemmas.{IsEject, IsPlaced, goal, far_of}
use Rattle.noc_theory.proofs.worms.WormOrderLemmas.{whole-frozen_at}
use Rattle.noc_theory.proofs.worms.WormRecordLemmas.{valid-first}
use Rattle.noc_theory.proofs.alone.OwnerLemmas.{OwnsAlone}
use Rattle.noc_theory.proofs.alone.MoverLemmas.{some-in, few-in, moves, ahead, first-here}

module _ (net : Setup) (p : ℕ) where
  -- the cycle in which flit i of p is out where nothing holds it up
  abbrev pub out_time : ℕ → ℕ
  out_time i = (packet_at net p).due + (3 * hops net p + 2) + i

  -- flit i of p, which is at this place in cycle n, can still be out in time, at one
  -- cycle for each hop, or was
  abbrev pub InTime : ℕ → ℕ → Place → Type 0
  InTime n i Source = n + hops net p + 1 ≤ out_time i
  InTime n i (On c) = n + far_of net p c ≤ out_time i
  InTime n i (In c) = n + far_of net p c ≤ out_time i
  InTime n i (Out m) = m ≤ out_time i

module _ (net : Setup) (good : IsWellFormedSetup net) (two : 2 ≤ net.depth) (n p : ℕ) (alone : OwnsAlone net p (frozen_at net n))
    (times : (i : ℕ) → IsValid net p i → InTime net p n i (place_of_flit net (frozen_at net n) p i)) where
  abbrev F : State
  F = frozen_at net n

  abbrev whole : IsWholeFrozen net F
  whole = whole-frozen_at net good n

  module _ (i : ℕ) (c : Channel) (later : 0 < i) (v : IsValid net p i) (here : place_of_flit net F p i ≡ In c) (tight : n + far_of net p c ≡ out_time net p i) where
    owned : Has (c, p) F.own × (IsEject c → ⊥)
    owned = placed-in net (good-built net good) F whole.sound.keyed whole.sound.worm p c (subst (λ (x : Place). IsPlaced net F.own p x) here (whole.sound.worm.placed p i v))

    -- the head has gone on
    head-past : is_past net c (goal net p) (head_place net F p) ≡ true
    head-past = at (head_place net F p) refl (times 0 (valid-first net (good-built net good) p v.0))
      where
        at : (x : Place) → head_place net F p ≡ x → InTime net p n 0 (head_place net F p) → is_past net c (goal net p) (head_place net F p) ≡ true
        at Source e t = absurd (whole.sound.worm.begun c p owned.0 e)
        at (On d) e t = absurd (whole.sound.still p 0 (valid-first net (good-built net good) p v.0) d e)
        at (In d) e t =
            let u : n + far_of net p d ≤ out_time net p 0 = subst (InTime net p n 0) e t in
            ap (is_past net c (goal net p)) e ∙ lt-ltb (far_of net p d) (far_of net p c) (omega arith)
        at (Out m) e t = ap (is_past net c (goal net p)) e

    next : (o : Channel) × (next_channel net F c ≡ Some o)
    next =
        let o = whole.routed.mid.leads c p owned head-past (whole.routed.behind c p owned) in
        (o.0, next-from net (good-built net good) F whole.sound.keyed whole.sound.worm p c o.0 owned.0 (record { owns = o.1; leads = o.2 }))

    -- a flit that has no cycle to lose is the first of its buffer
    pub follows-first : IsFirst net (good-built net good) F whole.sound.keyed whole.sound.worm c p i
    follows-first = first-here net good n p alone i c v here (λ j l e.
        let u : n + far_of net p c ≤ out_time net p j = subst (InTime net p n j) e (times j (v.0, (let w = v.1 in omega arith))) in
        omega arith)

    -- and it moves
    pub follows : verdict_in net F c ≡ Moved
    follows =
        let few = few-in net F whole.sound.keyed.sorted p i next.0 (λ f h there.
        let a = ahead net good n p alone i c next.0 v here next.1 f h there in
        (a.0, just f.index a.1 a.2 (subst (InTime net p n f.index) a.3 (times f.index (v.0, (let w = v.1 in let l = a.1 in omega arith)))))) in
        moves net good n p alone c next.0 (owner-is net F c p whole.sound.worm.once owned.0) owned.1 next.1 (omega arith)
        (some-in net F (record { packet = p; index = i; place = place_of_flit net F p i }) c (flit-there net F whole.sound.keyed p i v) here)
      where
        just : (j : ℕ) → j < i → far_of net p c ≡ far_of net p next.0 + 1 → InTime net p n j (In next.0) → suc j ≡ i
        just j l far t = omega arith
