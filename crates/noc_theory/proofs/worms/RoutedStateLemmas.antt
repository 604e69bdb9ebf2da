-- The whole invariant at each cycle: the worm, the room, and what is routed.
use Rattle.std.proofs.Common.{◌≡◌, ℕ, zero, suc, ◌<◌, true, false, Option, Some, None, refl, ap, sym, ◌∙◌, inl, inr, subst, arith}
use Rattle.std.specs.Prelude.{find, ◌⊎◌, not, nat_lt, nat_le, IsTrue, option_map}
use Rattle.noc_theory.proofs.Common.{false≢true, none-some, same_Some, below, Has, nodes, Channel, Link, Inject, Eject, inputs, arrival_of, is_link, permits, Setup, network_cycle, tail_place, Injection, State, packet_at, place_of_flit, injection_at, injection_with, first_waiting, is_injection_of, owned_by, is_idle, count_in, is_released, is_past, has_channel, opening_state, after_landing, after_credits, after_injection, after_verdicts, frozen_state, state_at}
use Rattle.noc_theory.proofs.worms.BuiltRecordLemmas.{IsBuilt}
use Rattle.noc_theory.proofs.worms.OptionLemmas.{and_then-some, cond-some}
use Rattle.noc_theory.proofs.worms.MemberLemmas.{Has-filter, Has-filter_map, find-has}
use Rattle.noc_theory.proofs.worms.StateWordLemmas.{IsEject, IsKeyed, class_of, goal, IsHeld, IsRoutedMid}
use Rattle.noc_theory.proofs.worms.PathLemmas.{no-inject}
use Rattle.noc_theory.proofs.worms.GrantLemmas.{IsWired, IsGrant, Has-below}
use Rattle.noc_theory.proofs.worms.WormRecordLemmas.{IsWorm, freed}
use Rattle.noc_theory.proofs.worms.VerdictPhaseLemmas.{owned-before}
use Rattle.noc_theory.proofs.worms.RoutedRecordLemmas.{IsRoutedFrozen, IsRoutedWell, routed-landed, routed-credits}
use Rattle.noc_theory.proofs.worms.RoutedInjectionLemmas.{routed-injection, is-new, split, added}
use Rattle.noc_theory.proofs.worms.RoutedVerdictLemmas.{routed-verdicts, backed-after}
use Rattle.noc_theory.proofs.worms.SoundLemmas.{IsSoundState, IsSoundFrozen, sound-landed, sound-credits, sound-injection, sound-verdicts}
use Rattle.noc_theory.proofs.worms.OpeningLemmas.{sound-opening}

-- owned link and injection channels are among the inputs, and each input arrives somewhere
pub record IsCovering (net : Setup) : Type 0 where
  pub link : (m t : ℕ) (c : Channel) (r a v : ℕ) → IsTrue (permits net.relation m c t (Link r a v)) → Has (Link r a v) (inputs net.relation.grid net.relation.vcs)
  pub inject : (node v : ℕ) → node < nodes net.relation.grid → v < net.relation.vcs → Has (Inject node v) (inputs net.relation.grid net.relation.vcs)
  pub arrives : (c : Channel) → Has c (inputs net.relation.grid net.relation.vcs) → (place : ℕ × ℕ) × (arrival_of net.relation.grid c ≡ Some place)

module _ (net : Setup) where
  abbrev pub IsCovered : State → Type 0
  IsCovered S = (c : Channel) (p : ℕ) → IsHeld net S c p → Has c (inputs net.relation.grid net.relation.vcs)

  pub record IsWhole (S : State) : Type 0 where
    pub sound : IsSoundState net S
    pub routed : IsRoutedWell net S
    pub covered : IsCovered S
    -- an owned link channel whose tail is past it has its credit on the way
    pub backed : (c : Channel) (p : ℕ) → IsHeld net S c p → is_link c ≡ true → is_past net c (goal net p) (tail_place net S p) ≡ true → has_channel S.back c ≡ true

  pub record IsWholeFrozen (F : State) : Type 0 where
    pub sound : IsSoundFrozen net F
    pub routed : IsRoutedFrozen net F
    pub covered : IsCovered F

  module _ (built : IsBuilt net) (wired : IsWired net) (covering : IsCovering net) where
    -- a packet that begins takes a channel of its node
    entry-low : (S : State) (n node : ℕ) (one : Injection net) → injection_at net S n node ≡ Some one → one.begins ≡ true → (v : ℕ) × (v < net.relation.vcs) × (one.channel ≡ Inject node v)
    entry-low S n node one e t =
        let r = and_then-some (λ q. injection_with net S n node q (find (is_injection_of net node) (owned_by net S q))) (first_waiting net S node) one e in
        at r.0 (find (is_injection_of net node) (owned_by net S r.0)) r.2
      where
        found : (q : ℕ) (o : Option ℕ) → find (λ v. is_idle net S (Inject node v)) (below net.relation.vcs) ≡ o → option_map (λ v. (record { packet = q; channel = Inject node v; begins = true })) o ≡ Some one → (v : ℕ) × (v < net.relation.vcs) × (one.channel ≡ Inject node v)
        found q None f g = absurd (none-some one g)
        found q (Some v) f g =
            let s : record { packet = q; channel = Inject node v; begins = true } ≡ one = same_Some (record { packet = q; channel = Inject node v; begins = true }) one g in
            let low = Has-below v net.relation.vcs (find-has (λ x. is_idle net S (Inject node x)) (below net.relation.vcs) v f) in
            (v, omega arith, ap (λ (x : Injection net). x.channel) (sym s))

        at : (q : ℕ) (o : Option Channel) → injection_with net S n node q o ≡ Some one → (v : ℕ) × (v < net.relation.vcs) × (one.channel ≡ Inject node v)
        at q None g =
            let b = cond-some (nat_le (packet_at net q).due n) (option_map (λ v. (record { packet = q; channel = Inject node v; begins = true })) (find (λ v. is_idle net S (Inject node v)) (below net.relation.vcs))) one g in
            found q (find (λ v. is_idle net S (Inject node v)) (below net.relation.vcs)) refl b.1
        at q (Some j) g =
            let b = cond-some (nat_lt (count_in net S j) net.depth) (Some (record { packet = q; channel = j; begins = false })) one g in
            let s : record { packet = q; channel = j; begins = false } ≡ one = same_Some (record { packet = q; channel = j; begins = false }) one b.1 in
            absurd (false≢true (ap (λ (x : Injection net). x.begins) s ∙ t))

    covered-injection : (n : ℕ) (S : State) (keyed : IsKeyed net S.at) (w : IsWorm net S.own (place_of_flit net S)) (r : IsRoutedFrozen net S) → IsCovered S → IsCovered (after_injection net n S)
    covered-injection n S keyed w r cov c p h = at (split net built S keyed w n r c p h.0)
      where
        at : Has (c, p) S.own ⊎ Has (c, p) (added net built S keyed w n r) → Has c (inputs net.relation.grid net.relation.vcs)
        at (inl k) = cov c p (k, h.1)
        at (inr k) =
            let x = is-new net built S keyed w n r c p k in
            let node = Has-filter_map (injection_at net S n) x.0 (below (nodes net.relation.grid)) x.1 in
            let low = Has-below node.0 (nodes net.relation.grid) node.1 in
            let v = entry-low S n node.0 x.0 node.2 x.2 in
            subst (λ (d : Channel). Has d (inputs net.relation.grid net.relation.vcs)) (sym v.2 ∙ x.3) (covering.inject node.0 v.0 (omega arith) v.1)

    -- after the landings and the credits
    pub whole-mid : (S : State) → IsWhole S → IsWholeFrozen (after_credits net (after_landing net S))
    unfolding after_landing after_credits
    whole-mid S x =
        let a : State = after_landing net S in
        let sa : IsSoundFrozen net a = sound-landed net built wired S x.sound in
        let ra : IsRoutedMid net a = routed-landed net built S x.sound.keyed x.sound.worm x.routed.mid in
        record {
          sound = sound-credits net built wired a sa;
          routed = routed-credits net built a sa.keyed sa.worm ra;
          covered = λ c p h. x.covered c p ((Has-filter (λ pair. not (freed net (place_of_flit net a) pair)) (c, p) a.own h.0).0, h.1);
        }

    -- after the injections
    pub whole-injection : (n : ℕ) (S : State) → IsWholeFrozen S → IsWholeFrozen (after_injection net n S)
    whole-injection n S x = record {
      sound = sound-injection net built wired n S x.sound;
      routed = routed-injection net built S x.sound.keyed x.sound.worm n x.routed;
      covered = covered-injection n S x.sound.keyed x.sound.worm x.routed x.covered;
    }

    pub whole-frozen : (n : ℕ) (S : State) → IsWhole S → IsWholeFrozen (frozen_state net n S)
    unfolding frozen_state
    whole-frozen n S x = whole-injection n (after_credits net (after_landing net S)) (whole-mid S x)

    pub whole-verdicts : (n : ℕ) (F : State) → IsWholeFrozen F → IsWhole (after_verdicts net n F)
    whole-verdicts n F x = record {
      sound = sound-verdicts net built wired n F x.sound;
      routed = routed-verdicts net built wired F x.sound.keyed x.sound.worm n x.sound.still x.routed x.covered covering.arrives;
      backed = backed-after net built wired F x.sound.keyed x.sound.worm n x.sound.still x.routed x.covered covering.arrives;
      covered = λ c p h. at c p h.1 (owned-before net built wired F x.sound.keyed x.sound.worm n x.sound.still c p h.0);
    }
      where
        granted : (c : Channel) (p : ℕ) → (IsEject c → ⊥) → (d : Channel) → IsGrant net F d c p → Has c (inputs net.relation.grid net.relation.vcs)
        granted (Link r a v) p e d g = covering.link (class_of net p) (goal net p) d r a v g.allowed
        granted (Inject m v) p e d g = absurd (no-inject net built (class_of net p) (goal net p) d m v g.allowed)
        granted (Eject m v) p e d g = absurd (e tt)

        at : (c : Channel) (p : ℕ) → (IsEject c → ⊥) → (Has (c, p) F.own × (not (is_released net F (c, p)) ≡ true)) ⊎ ((d : Channel) × IsGrant net F d c p) → Has c (inputs net.relation.grid net.relation.vcs)
        at c p e (inl k) = x.covered c p (k.0, e)
        at c p e (inr g) = granted c p e g.0 g.1

    pub whole-opening : IsWhole (opening_state net)
    unfolding opening_state
    whole-opening = record {
      sound = sound-opening net built wired;
      routed = record {
        mid = record {
          only = λ c h. absurd (false≢true h);
          passed = λ c p h a b. absurd h.0;
          leads = λ c p h a b. absurd h.0;
          granted = λ c p h y b. absurd h.0;
          eject = λ m v p k h e. h;
        };
        come = λ c p h a b. absurd h.0;
      };
      covered = λ c p h. absurd h.0;
      backed = λ c p h l e. absurd h.0;
    }

    -- at the start of each cycle
    pub whole-state : (n : ℕ) → IsWhole (state_at net n)
    unfolding state_at network_cycle
    whole-state zero = whole-opening
    whole-state (suc n) = whole-verdicts n (frozen_state net n (state_at net n)) (whole-frozen n (state_at net n) (whole-state n))

    -- and in each frozen state
    pub whole-frozen_state : (n : ℕ) → IsWholeFrozen (frozen_state net n (state_at net n))
    whole-frozen_state n = whole-frozen n (state_at net n) (whole-state n)
