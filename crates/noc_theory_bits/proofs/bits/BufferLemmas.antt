-- The flits of a buffer of a network are consecutive ones of one packet: the law of worms, in a
-- router's own view.
use Rattle.std.proofs.Common.{◌≡◌, ℕ, ◌+◌, ◌<◌, false, List, [], ◌∷◌, map, Option, Some, None, refl, ap, sym, ◌∙◌, subst, arith, inl, inr}
use Rattle.std.specs.Prelude.{◌⊎◌}
use Rattle.noc_theory.specs.Worm.{IsRun, IsWormOrder}
use Rattle.noc_theory.proofs.worms.StateWordLemmas.{IsKeyed}
use Rattle.noc_theory.proofs.worms.WormOrderLemmas.{worm_order-at, worm_order-frozen_at}
use Rattle.noc_theory_bits.proofs.Common.{ne_eqb, Has, nodes, flit_at, Flit, Channel, View, view_buffer, IsGoodSetup, IsValid, seen_flits, view_at, Setup, State, Located, size, arriving, packet_at, is_in, buffer_of, owner_of, state_at, frozen_at, IsSeen, view_at-seen, Has-filter, well-formed, AreConsecutive}
use Rattle.noc_theory_bits.proofs.network.NetworkLemmas.{frozen_view, frozen-seen, steady-state, steady-still}

module _ (net : Setup) where
  -- a flit of the network, as routers see it
  abbrev pub shown : Located → Flit
  shown f = flit_at (packet_at net f.packet) f.packet f.index

  -- the first of two has one behind it
  inner : (f g : Located) → IsValid net g.packet g.index → g.packet ≡ f.packet → g.index ≡ f.index + 1 → (shown f).last ≡ false
  inner f g valid packet index =
      let same : (packet_at net g.packet).length ≡ (packet_at net f.packet).length = ap (λ p. (packet_at net p).length) packet in
      let few = valid.1 in
      ne_eqb (f.index + 1) (packet_at net f.packet).length (λ e. absurd (omega (arith, e, same, few, index)))

  run-consecutive : (p i : ℕ) (fs : List Located) → ((f : Located) → Has f fs → IsValid net f.packet f.index) → IsRun net p i fs → AreConsecutive (map shown fs)
  run-consecutive p i [] valid run = tt
  run-consecutive p i (f ∷ []) valid run = tt
  run-consecutive p i (f ∷ g ∷ rest) valid run =
      let packet : g.packet ≡ f.packet = run.2.0 ∙ sym run.0 in
      let index : g.index ≡ f.index + 1 = run.2.1 ∙ ap (λ k. k + 1) (sym run.1) in (
        record { packet = packet; index = index; inner = inner f g (valid g (inr (inl refl))) packet index },
        run-consecutive p (i + 1) (g ∷ rest) (λ h k. valid h (inr k)) run.2,
      )

  -- in each state in worm order
  pub seen-consecutive : (S : State) → IsKeyed net S.at → IsWormOrder net S → (r : ℕ) (v : View) → IsSeen net S r v → (i : ℕ) → i < size net → AreConsecutive (view_buffer v i)
  seen-consecutive S keyed order r v seen i l = subst AreConsecutive (sym (seen.buffer i l)) (at (arriving net r i))
    where
      at : (c : Option Channel) → AreConsecutive (seen_flits net S c)
      at None = tt
      at (Some c) = by (order.unmixed c)
        where
          by : (buffer_of net S c ≡ []) ⊎ ((p : ℕ) × (i : ℕ) × (owner_of net S c ≡ Some p) × IsRun net p i (buffer_of net S c)) → AreConsecutive (map shown (buffer_of net S c))
          by (inl none) = subst (λ (fs : List Located). AreConsecutive (map shown fs)) (sym none) tt
          by (inr one) =
              run-consecutive one.0 one.1 (buffer_of net S c)
              (λ f h. keyed.valid f (Has-filter (λ (g : Located). is_in c g.place) f S.at h).0)
              one.3

  module _ (setup : IsGoodSetup net) (n r : ℕ) (l : r < nodes net.relation.grid) where
    -- at each count
    pub start-consecutive : (i : ℕ) → i < size net → AreConsecutive (view_buffer (view_at net n r) i)
    start-consecutive = seen-consecutive (state_at net n) (steady-state net setup n).keyed (worm_order-at net (well-formed net setup) n) r (view_at net n r) (view_at-seen net n r)

    -- and in each frozen state
    pub frozen-consecutive : (i : ℕ) → i < size net → AreConsecutive (view_buffer (frozen_view net setup n r l) i)
    frozen-consecutive = seen-consecutive (frozen_at net n) (steady-still net setup n).keyed (worm_order-frozen_at net (well-formed net setup) n) r (frozen_view net setup n r l) (frozen-seen net setup n r l)
