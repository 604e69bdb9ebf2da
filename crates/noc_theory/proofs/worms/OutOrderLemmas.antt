-- The flits of a packet go out in order of index, each in a cycle of its own.
use Rattle.std.proofs.Common.{◌≡◌, ℕ, zero, suc, ◌<◌, Some, refl, ap, sym, ◌∙◌, inl, inr, subst, arith}
use Rattle.std.specs.Prelude.{◌⊎◌}
use Rattle.noc_theory.proofs.Common.{cases_eq, Channel, Link, Inject, Eject, Setup, network_cycle, State, Located, Place, Source, In, Out, place_of_flit, landed_place, gone_to, after_landing, after_credits, after_injection, after_verdicts, frozen_state, state_at, weight, IsValid}
use Rattle.noc_theory.proofs.worms.BuiltRecordLemmas.{IsBuilt}
use Rattle.noc_theory.proofs.worms.GrantLemmas.{IsWired}
use Rattle.noc_theory.proofs.worms.PlaceLemmas.{place-stepped, out-landed}
use Rattle.noc_theory.proofs.worms.StateWordLemmas.{IsPlaced, far_of}
use Rattle.noc_theory.proofs.worms.WormRecordLemmas.{valid-below}
use Rattle.noc_theory.proofs.worms.InjectionPhaseLemmas.{IsInjected}
use Rattle.noc_theory.proofs.worms.InjectionStateLemmas.{entries-move, entries-are, entries-apart, all_entries}
use Rattle.noc_theory.proofs.worms.MoveLemmas.{IsMoving, IsMoved, moved-or-not, same-far, far-eject, leads-end, no-end-eject, weight-in}
use Rattle.noc_theory.proofs.worms.SoundLemmas.{IsSoundState, IsSoundFrozen, sound-landed, sound-credits, sound-frozen}
use Rattle.noc_theory.proofs.worms.OpeningLemmas.{sound-state, at-source}

module _ (net : Setup) where
  -- what is out went out before cycle n, each flit after those before it
  pub record IsOutInOrder (n : ℕ) (S : State) : Type 0 where
    pub before : (p i k : ℕ) → IsValid net p i → place_of_flit net S p i ≡ Out k → k < n
    pub rising : (p i j a b : ℕ) → IsValid net p j → i < j → place_of_flit net S p i ≡ Out a → place_of_flit net S p j ≡ Out b → a < b

  module _ (built : IsBuilt net) (wired : IsWired net) where
    -- a step by which what is out was out
    abbrev WasOut : State → State → Type 0
    WasOut S T = (p i k : ℕ) → IsValid net p i → place_of_flit net T p i ≡ Out k → place_of_flit net S p i ≡ Out k

    kept : (n : ℕ) (S T : State) → WasOut S T → IsOutInOrder n S → IsOutInOrder n T
    kept n S T h o = record {
      before = λ p i k v e. o.before p i k v (h p i k v e);
      rising = λ p i j a b v l e f. let vj = v.1 in o.rising p i j a b v l (h p i a (valid-below net built p i j v (omega arith)) e) (h p j b v f);
    }

    out-landing : (S : State) → IsSoundState net S → WasOut S (after_landing net S)
    unfolding after_landing
    out-landing S s p i k v e = out-landed net (place_of_flit net S p i) k (sym (place-stepped net (λ (f : Located). landed_place net f.place) S (after_landing net S) s.keyed refl p i v) ∙ e)

    out-injection : (n : ℕ) (S : State) → IsSoundFrozen net S → WasOut S (after_injection net n S)
    out-injection n S s p i k v e = at (entries-move net built S s.keyed s.worm n p v.0)
      where
        at : IsInjected net built S.own (place_of_flit net S) s.worm (all_entries net built S s.keyed s.worm n) (entries-are net built S s.keyed s.worm n) (entries-apart net built S s.keyed s.worm n) (place_of_flit net (after_injection net n S)) p
            → place_of_flit net S p i ≡ Out k
        at (inl x) = sym (x.0 i v) ∙ e
        at (inr x) = by (cases_eq i x.3.flit)
          where
            by : (i ≡ x.3.flit) ⊎ (i ≡ x.3.flit → ⊥) → place_of_flit net S p i ≡ Out k
            by (inl f) = let z : In x.0.channel ≡ Out k = sym (ap (place_of_flit net (after_injection net n S) p) f ∙ x.3.now) ∙ e in absurd (cc z)
            by (inr f) = sym (x.3.others i v f) ∙ e

    -- what is out in a frozen state was out at the start of the cycle
    pub out-before : (n : ℕ) (S : State) → IsSoundState net S → WasOut S (frozen_state net n S)
    unfolding after_landing after_credits frozen_state
    out-before n S s p i k v e =
        out-landing S s p i k v
        (out-injection n (after_credits net (after_landing net S)) (sound-credits net built wired (after_landing net S) (sound-landed net built wired S s)) p i k v e)

    module _ (n : ℕ) (F : State) (s : IsSoundFrozen net F) where
      abbrev T : State
      T = after_verdicts net n F

      -- a flit that goes out was in the buffer of a channel at the destination
      pub record IsLeaving (p i : ℕ) : Type 0 where
        pub channel : Channel
        pub router : ℕ
        pub vc : ℕ
        pub moving : IsMoving net built F s.keyed s.worm n s.still p i channel (Eject router vc)
        pub near : far_of net p channel ≡ 0

      pub out-cases : (p i k : ℕ) → IsValid net p i → place_of_flit net T p i ≡ Out k → (place_of_flit net F p i ≡ Out k) ⊎ ((k ≡ n) × IsLeaving p i)
      out-cases p i k v e = at (moved-or-not net built F s.keyed s.worm n s.still p i v)
        where
          leaves : (c d : Channel) → IsMoving net built F s.keyed s.worm n s.still p i c d → gone_to net n c (Some d) ≡ Out k → (place_of_flit net F p i ≡ Out k) ⊎ ((k ≡ n) × IsLeaving p i)
          leaves c (Link a b u) m z = absurd (cc z)
          leaves c (Inject a u) m z = absurd (cc z)
          leaves c (Eject a u) m z = let kn : n ≡ k = cc in inr (sym kn, record { channel = c; router = a; vc = u; moving = m; near = far-eject net built F s.keyed s.worm p c a u m.next })

          at : IsMoved net built F s.keyed s.worm n s.still p i → (place_of_flit net F p i ≡ Out k) ⊎ ((k ≡ n) × IsLeaving p i)
          at (inl x) = inl (sym x.now ∙ e)
          at (inr x) = leaves x.0 x.1 x.2 (sym x.2.now ∙ e)

      -- two flits of a packet do not go out at once
      not-both : (p i j : ℕ) → i < j → IsLeaving p i → IsLeaving p j → ⊥
      not-both p i j l x y =
          let a = leads-end net x.channel (Eject x.router x.vc) x.moving.next.leads in
          let b = leads-end net y.channel (Eject y.router y.vc) y.moving.next.leads in
          let same : x.channel ≡ y.channel = same-far net built F s.keyed s.worm p x.channel y.channel x.moving.owns y.moving.owns (no-end-eject net x.channel a.0 a.2) (no-end-eject net y.channel b.0 b.2) (x.near ∙ sym y.near) in
          let k = y.moving.first.least i x.moving.first.valid (x.moving.was ∙ ap In same) in
          omega arith

      -- behind a flit that is out none before it leaves
      not-before : (p i j b : ℕ) → IsValid net p j → i < j → IsLeaving p i → place_of_flit net F p j ≡ Out b → ⊥
      not-before p i j b v l x e =
          let vj = v.1 in
          let order = s.worm.order p i j v (omega arith) in
          let wj : weight net p (place_of_flit net F p j) ≡ 0 = ap (weight net p) e in
          let wi : weight net p (place_of_flit net F p i) ≡ weight net p (In x.channel) = ap (weight net p) x.moving.was in
          let placed : IsPlaced net F.own p (In x.channel) = subst (λ (y : Place). IsPlaced net F.own p y) x.moving.was (s.worm.placed p i (valid-below net built p i j v (omega arith))) in
          let k = (weight-in net built F s.keyed s.worm p x.channel placed).0 in
          omega arith

      out-verdicts : IsOutInOrder n F → IsOutInOrder (suc n) T
      out-verdicts o = record {
        before = λ p i k v e. before p i k v (out-cases p i k v e);
        rising = λ p i j a b v l e f. let vj = v.1 in rising p i j a b v l (out-cases p i a (valid-below net built p i j v (omega arith)) e) (out-cases p j b v f);
      }
        where
          before : (p i k : ℕ) → IsValid net p i → (place_of_flit net F p i ≡ Out k) ⊎ ((k ≡ n) × IsLeaving p i) → k < suc n
          before p i k v (inl e) = let l = o.before p i k v e in omega arith
          before p i k v (inr x) = let e = x.0 in omega arith

          rising : (p i j a b : ℕ) → IsValid net p j → i < j → (place_of_flit net F p i ≡ Out a) ⊎ ((a ≡ n) × IsLeaving p i) → (place_of_flit net F p j ≡ Out b) ⊎ ((b ≡ n) × IsLeaving p j) → a < b
          rising p i j a b v l (inl e) (inl f) = o.rising p i j a b v l e f
          rising p i j a b v l (inl e) (inr y) = let vj = v.1 in let k = o.before p i a (valid-below net built p i j v (omega arith)) e in let z = y.0 in omega arith
          rising p i j a b v l (inr x) (inl f) = absurd (not-before p i j b v l x.1 f)
          rising p i j a b v l (inr x) (inr y) = absurd (not-both p i j l x.1 y.1)

    pub out-state : (n : ℕ) → IsOutInOrder n (state_at net n)
    unfolding state_at network_cycle
    out-state zero = record {
      before = λ p i k v e. let z : Source ≡ Out k = sym (at-source net p i v) ∙ e in absurd (cc z);
      rising = λ p i j a b v l e f. let z : Source ≡ Out b = sym (at-source net p j v) ∙ f in absurd (cc z);
    }
    out-state (suc n) =
        let s = sound-state net built wired n in
        out-verdicts n (frozen_state net n (state_at net n)) (sound-frozen net built wired n (state_at net n) s) (kept n (state_at net n) (frozen_state net n (state_at net n)) (out-before n (state_at net n) s) (out-state n))
