-- The invariant of the state at the start of a cycle and of the frozen state, phase by
-- phase, from the opening on.
use Rattle.std.proofs.Common.{◌≡◌, ◌≢◌, ℕ, ◌≤◌, refl, ap, sym, ◌∙◌, inl, inr, arith}
use Rattle.std.specs.Prelude.{◌⊎◌}
use Rattle.noc_theory.proofs.Common.{cases_eq, Channel, Setup, State, Located, Place, Source, On, In, Out, place_of_flit, count_in, landed_place, after_landing, after_credits, after_injection, after_verdicts, frozen_state, network_cycle, IsValid, slots_taken}
use Rattle.noc_theory.proofs.worms.BuiltRecordLemmas.{IsBuilt}
use Rattle.noc_theory.proofs.worms.GrantLemmas.{IsWired}
use Rattle.noc_theory.proofs.worms.StateWordLemmas.{IsKeyed}
use Rattle.noc_theory.proofs.worms.PlaceLemmas.{place-stepped, keyed-stepped}
use Rattle.noc_theory.proofs.worms.WormRecordLemmas.{IsWorm, worm-landed, worm-freed}
use Rattle.noc_theory.proofs.worms.InjectionPhaseLemmas.{IsInjected}
use Rattle.noc_theory.proofs.worms.InjectionStateLemmas.{worm-after_injection, keyed-after_injection, entries-move, entries-are, entries-apart, all_entries}
use Rattle.noc_theory.proofs.worms.VerdictPhaseLemmas.{worm-after_verdicts, keyed-after_verdicts}
use Rattle.noc_theory.proofs.worms.RoomLemmas.{landed-count}
use Rattle.noc_theory.proofs.worms.InjectionRoomLemmas.{room-after_injection}
use Rattle.noc_theory.proofs.worms.VerdictRoomLemmas.{room-after_verdicts}

module _ (net : Setup) where
  -- the invariant of the state at the start of a cycle
  pub record IsSoundState (S : State) : Type 0 where
    pub keyed : IsKeyed net S.at
    pub worm : IsWorm net S.own (place_of_flit net S)
    pub room : (c : Channel) → slots_taken net S c ≤ net.depth

  -- the invariant of the frozen state: nothing is on a wire
  pub record IsSoundFrozen (F : State) : Type 0 where
    pub keyed : IsKeyed net F.at
    pub worm : IsWorm net F.own (place_of_flit net F)
    pub room : (c : Channel) → count_in net F c ≤ net.depth
    pub still : (p i : ℕ) → IsValid net p i → (c : Channel) → place_of_flit net F p i ≢ On c

  module _ (built : IsBuilt net) (wired : IsWired net) where
    no-landed-on : (x : Place) (c : Channel) → landed_place net x ≡ On c → ⊥
    no-landed-on Source c e = cc e
    no-landed-on (On d) c e = cc e
    no-landed-on (In d) c e = cc e
    no-landed-on (Out n) c e = cc e

    pub sound-landed : (S : State) → IsSoundState S → IsSoundFrozen (after_landing net S)
    unfolding after_landing
    sound-landed S s =
        let goes : (p i : ℕ) → IsValid net p i → place_of_flit net (after_landing net S) p i ≡ landed_place net (place_of_flit net S p i)
        = λ p i v. place-stepped net (λ (f : Located). landed_place net f.place) S (after_landing net S) s.keyed refl p i v in
        record {
          keyed = keyed-stepped net (λ (f : Located). landed_place net f.place) S.at s.keyed;
          worm = worm-landed net built S.own (place_of_flit net S) (place_of_flit net (after_landing net S)) s.worm goes;
          room = λ c. let k = s.room c in let e = landed-count net c S in omega arith;
          still = λ p i v c e. no-landed-on (place_of_flit net S p i) c (sym (goes p i v) ∙ e);
        }

    pub sound-credits : (S : State) → IsSoundFrozen S → IsSoundFrozen (after_credits net S)
    unfolding after_credits
    sound-credits S s = record {
      keyed = s.keyed;
      worm = worm-freed net built S.own (place_of_flit net S) s.worm;
      room = s.room;
      still = s.still;
    }

    pub sound-injection : (n : ℕ) (S : State) → IsSoundFrozen S → IsSoundFrozen (after_injection net n S)
    sound-injection n S s = record {
      keyed = keyed-after_injection net built S s.keyed s.worm n;
      worm = worm-after_injection net built S s.keyed s.worm n;
      room = λ c. room-after_injection net built S s.keyed s.worm n c (s.room c);
      still = λ p i v c e. moved p i v c e (entries-move net built S s.keyed s.worm n p v.0);
    }
      where
        moved : (p i : ℕ) → IsValid net p i → (c : Channel) → place_of_flit net (after_injection net n S) p i ≡ On c
            → IsInjected net built S.own (place_of_flit net S) s.worm (all_entries net built S s.keyed s.worm n) (entries-are net built S s.keyed s.worm n) (entries-apart net built S s.keyed s.worm n) (place_of_flit net (after_injection net n S)) p → ⊥
        moved p i v c e (inl k) = s.still p i v c (sym (k.0 i v) ∙ e)
        moved p i v c e (inr r) = at (cases_eq i r.3.flit)
          where
            at : (i ≡ r.3.flit) ⊎ (i ≡ r.3.flit → ⊥) → ⊥
            at (inl k) = let z : In r.0.channel ≡ On c = sym (ap (place_of_flit net (after_injection net n S) p) k ∙ r.3.now) ∙ e in cc z
            at (inr k) = s.still p i v c (sym (r.3.others i v k) ∙ e)

    pub sound-frozen : (n : ℕ) (S : State) → IsSoundState S → IsSoundFrozen (frozen_state net n S)
    unfolding frozen_state after_injection
    sound-frozen n S s = sound-injection n (after_credits net (after_landing net S)) (sound-credits (after_landing net S) (sound-landed S s))

    pub sound-verdicts : (n : ℕ) (F : State) → IsSoundFrozen F → IsSoundState (after_verdicts net n F)
    sound-verdicts n F s = record {
      keyed = keyed-after_verdicts net built wired F s.keyed s.worm n s.still;
      worm = worm-after_verdicts net built wired F s.keyed s.worm n s.still;
      room = λ c. room-after_verdicts net built F s.keyed s.worm n s.still c (s.room c);
    }

    pub sound-cycle : (n : ℕ) (S : State) → IsSoundState S → IsSoundState (network_cycle net n S)
    unfolding network_cycle after_verdicts
    sound-cycle n S s = sound-verdicts n (frozen_state net n S) (sound-frozen n S s)
