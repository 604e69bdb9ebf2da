-- How packets came to own their channels: the relation let them go on to each
-- link and ejection channel.
use Rattle.std.proofs.Common.{◌≡◌, ◌≢◌, ℕ, zero, suc, ◌+◌, ◌*◌, ◌/◌, ◌%◌, ◌<◌, true, List, Some, ap, sym, ◌∙◌, inl, inr, subst}
use Rattle.std.specs.Prelude.{◌⊎◌, not, IsTrue, filter, map}
use Rattle.noc_packet.proofs.SetLemmas.{has_bit-zero}
use Rattle.noc_route.proofs.PermitsLemmas.{permits-home}
use Rattle.noc_theory.proofs.Common.{false≢true, div-mul-add, mod-mul-add, Has, neighbour, has_bit, Channel, Link, Inject, Eject, channel_vc, permits, set_at, IsRelation, PermitsLink-from_test, PermitsEject-from_test, Setup, State, Injection, injections, is_freed, is_released, opening_state, after_landing, after_credits, after_injection, after_verdicts, frozen_state, network_cycle, state_at}
use Rattle.noc_theory.proofs.worms.BuiltRecordLemmas.{IsBuilt}
use Rattle.noc_theory.proofs.worms.GrantLemmas.{IsWired, IsGrant}
use Rattle.noc_theory.proofs.worms.MemberLemmas.{Has-append, Has-filter, Has-map}
use Rattle.noc_theory.proofs.worms.InjectionStateLemmas.{entries-are}
use Rattle.noc_theory.proofs.worms.OpeningLemmas.{sound-state}
use Rattle.noc_theory.proofs.worms.SoundLemmas.{IsSoundState, IsSoundFrozen, sound-landed, sound-credits, sound-frozen}
use Rattle.noc_theory.proofs.worms.VerdictPhaseLemmas.{owned-before}
use Rattle.noc_theory.proofs.worms.StateWordLemmas.{class_of, goal}

module _ (net : Setup) where
  -- the relation let packet p go on to c, or p began there
  abbrev pub Came : ℕ → Channel → Type 0
  Came p (Link r a v) = (d : Channel) × IsTrue (permits net.relation (class_of net p) d (goal net p) (Link r a v))
  Came p (Inject n v) = Unit {0}
  Came p (Eject n v) = (d : Channel) × IsTrue (permits net.relation (class_of net p) d (goal net p) (Eject n v))

  -- the relation let each owner go on to what it owns, or the owner began there
  pub record IsLed (S : State) : Type 0 where
    pub came : (c : Channel) (p : ℕ) → Has (c, p) S.own → Came p c

  granted-came : (F : State) (d c : Channel) (p : ℕ) → IsGrant net F d c p → Came p c
  granted-came F d (Link r a v) p g = (d, g.allowed)
  granted-came F d (Inject n v) p g = tt
  granted-came F d (Eject n v) p g = (d, g.allowed)

  pub led-mid : (S : State) → IsLed S → IsLed (after_credits net (after_landing net S))
  unfolding after_landing after_credits
  led-mid S led = record { came = λ c p h. led.came c p (Has-filter (λ pair. not (is_freed net (after_landing net S) pair)) (c, p) S.own h).0 }

  module _ (built : IsBuilt net) (wired : IsWired net) where
    pub led-injection : (n : ℕ) (S : State) → IsSoundFrozen net S → IsLed S → IsLed (after_injection net n S)
    unfolding after_injection
    led-injection n S s led = record { came = λ c p h. at c p (Has-append (c, p) S.own news h) }
      where
        news : List (Channel × ℕ)
        news = map (λ (one : Injection net). (one.channel, one.packet)) (filter (λ (one : Injection net). one.begins) (injections net S n))

        at : (c : Channel) (p : ℕ) → Has (c, p) S.own ⊎ Has (c, p) news → Came p c
        at c p (inl h) = led.came c p h
        at c p (inr h) =
            let m = Has-map (λ (one : Injection net). (one.channel, one.packet)) (c, p) (filter (λ (one : Injection net). one.begins) (injections net S n)) h in
            let f = Has-filter (λ (one : Injection net). one.begins) m.0 (injections net S n) m.1 in
            let e = entries-are net built S s.keyed s.worm n m.0 f.0 in
            let is : Inject e.0 e.1.vc ≡ c = sym e.1.channel ∙ ap (λ (x : Channel × ℕ). x.0) m.2 in
            subst (λ (x : Channel). Came p x) is tt

    pub led-frozen : (n : ℕ) (S : State) → IsSoundState net S → IsLed S → IsLed (frozen_state net n S)
    unfolding frozen_state
    led-frozen n S s led =
        led-injection n (after_credits net (after_landing net S)) (sound-credits net built wired (after_landing net S) (sound-landed net built wired S s)) (led-mid S led)

    pub led-verdicts : (n : ℕ) (F : State) → IsSoundFrozen net F → IsLed F → IsLed (after_verdicts net n F)
    led-verdicts n F s led = record { came = λ c p h. at c p (owned-before net built wired F s.keyed s.worm n s.still c p h) }
      where
        at : (c : Channel) (p : ℕ) → (Has (c, p) F.own × (not (is_released net F (c, p)) ≡ true)) ⊎ ((d : Channel) × IsGrant net F d c p) → Came p c
        at c p (inl h) = led.came c p h.0
        at c p (inr g) = granted-came F g.0 c p g.1

    -- at the start of each cycle
    pub led-state : (n : ℕ) → IsLed (state_at net n)
    unfolding state_at network_cycle opening_state
    led-state zero = record { came = λ c p h. absurd h }
    led-state (suc n) =
        let s = sound-state net built wired n in
        led-verdicts n (frozen_state net n (state_at net n)) (sound-frozen net built wired n (state_at net n) s) (led-frozen n (state_at net n) s (led-state n))

  module _ (relation : IsRelation net.relation) (S : State) (led : IsLed S) where
    -- where a link channel of a packet ends, the relation leads the packet on
    pub leads-further : (r a v p : ℕ) (to : ℕ × ℕ) → Has (Link r a v, p) S.own → neighbour net.relation.grid r a ≡ Some to → set_at net.relation (class_of net p) to.0 to.1 v (goal net p) ≢ 0
    leads-further r a v p to h e z =
        let d = led.came (Link r a v) p h in
        let x = PermitsLink-from_test net.relation (class_of net p) d.0 (goal net p) r a v d.1 in
        let port : (a * net.relation.vcs + v) / net.relation.vcs ≡ a = div-mul-add a net.relation.vcs v x.vc in
        let vc : (a * net.relation.vcs + v) % net.relation.vcs ≡ v = mod-mul-add a net.relation.vcs v x.vc in
        let on = relation.led_on (class_of net p) r x.in_port (channel_vc d.0) (goal net p) (a * net.relation.vcs + v) to.0 to.1 x.member (ap (neighbour net.relation.grid r) port ∙ e) in
        let bit : has_bit (set_at net.relation (class_of net p) to.0 to.1 v (goal net p)) on.0 ≡ true
        = ap (λ w. has_bit (set_at net.relation (class_of net p) to.0 to.1 w (goal net p)) on.0) (sym vc) ∙ on.1 in
        false≢true (sym (has_bit-zero on.0) ∙ ap (λ w. has_bit w on.0) (sym z) ∙ bit)

    -- an ejection channel of a packet is at its destination
    pub ejects-home : (n v p : ℕ) → Has (Eject n v, p) S.own → n ≡ goal net p
    ejects-home n v p h = let d = led.came (Eject n v) p h in permits-home net.relation relation (class_of net p) d.0 (goal net p) n v d.1

    -- an ejection channel of a packet is one of the virtual channels at its destination
    pub eject-low : (n v p : ℕ) → Has (Eject n v, p) S.own → v < net.relation.vcs
    eject-low n v p h = let d = led.came (Eject n v) p h in (PermitsEject-from_test net.relation (class_of net p) d.0 (goal net p) n v d.1).vc
