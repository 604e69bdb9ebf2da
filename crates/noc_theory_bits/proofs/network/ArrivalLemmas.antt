-- The arrivals of a network in a cycle: a packet whose tail moves by a local port has arrived then,
-- and no other.
use Rattle.std.proofs.Common.{◌≡◌, ◌≢◌, ℕ, suc, ◌/◌, ◌<◌, Bool, true, false, length, Option, Some, None, refl, ap, sym, ◌∙◌, subst, inl, inr, arith}
use Rattle.std.specs.Prelude.{◌⊎◌, if◌then◌else◌}
use Rattle.noc_theory.specs.Lockstep.{ends_at}
use Rattle.noc_theory.specs.Network.{landed_place, out_cycle, Source}
use Rattle.noc_theory.proofs.verdicts.CommitEndLemmas.{Arrives, nobody, somebody, arrives, ends-here, here-ends}
use Rattle.noc_theory.proofs.injection.EntryLemmas.{Goes, goes, goes_in, stays}
use Rattle.noc_theory.proofs.landing.LandLemmas.{landed-tail}
use Rattle.noc_theory_bits.proofs.Common.{cases_eq, eq-eqb, ne_eqb, none-some, same_Some, Has, nodes, local_port, has_bit, Flit, Site, decisions_of, flit_out, tail_packet, view_round, IsGoodSetup, site_at, Setup, State, Place, On, In, Out, packet_at, state_at, frozen_at, frozen_state, network_cycle, after_injection, after_verdicts, arrival_in, tail_place, ordered-state, ordered-mid, ordered-frozen, mid, last_of, valid-last, frozen_of}
use Rattle.noc_theory_bits.proofs.network.NetworkLemmas.{good, frozen-seen}
use Rattle.noc_theory_bits.proofs.network.PutLemmas.{IsMover, IsPut, flit-put}
use Rattle.noc_theory_bits.proofs.network.MovingLemmas.{moves_at, moves-are}

-- the flit of channel i of router r moves in cycle n, out of the network
pub record GoesOut (net : Setup) (n r i : ℕ) : Type 0 where
  pub known : r < nodes net.relation.grid
  pub bit : has_bit (moves_at net n r) i ≡ true
  pub mover : IsMover (site_at net r) (frozen_of net n r) i
  pub port : mover.out / net.relation.vcs ≡ local_port net.relation.grid

-- the tail of packet p does
pub record TailOut (net : Setup) (n p : ℕ) : Type 0 where
  pub router : ℕ
  pub channel : ℕ
  pub goes : GoesOut net n router channel
  pub last : goes.mover.flit.last ≡ true
  pub packet : goes.mover.flit.packet ≡ p

-- the packet whose tail leaves router r by its local port
abbrev tail_of : Setup → ℕ → ℕ → Option ℕ
tail_of net n r = tail_packet (flit_out (frozen_of net n r) (decisions_of net.relation (frozen_of net n r)).round (local_port (frozen_of net n r).site.grid))

-- a tail that leaves is the last flit of its packet
tail-is : (o : Option (ℕ × Flit)) (p : ℕ) → tail_packet o ≡ Some p → (vc : ℕ) × (f : Flit) × (o ≡ Some (vc, f)) × (f.last ≡ true) × (f.packet ≡ p)
tail-is None p e = absurd (none-some p e)
tail-is (Some (vc, f)) p e = by f.last refl
  where
    by : (b : Bool) → f.last ≡ b → (w : ℕ) × (g : Flit) × (◌≡◌ {A = Option (ℕ × Flit)} (Some (vc, f)) (Some (w, g))) × (g.last ≡ true) × (g.packet ≡ p)
    by true t = (vc, f, refl, t, same_Some f.packet p (sym (ap (λ b. if b then Some f.packet else None) t) ∙ e))
    by false t = absurd (none-some p (sym (ap (λ b. if b then Some f.packet else None) t) ∙ e))

module _ (net : Setup) (setup : IsGoodSetup net) (n : ℕ) where
  -- ---- until the verdicts nothing arrives
  out-landed : (y : Place) → out_cycle (landed_place net y) ≡ out_cycle y
  out-landed Source = refl
  out-landed (On c) = refl
  out-landed (In c) = refl
  out-landed (Out m) = refl

  entered-same : (p : ℕ) → p < length net.packets → out_cycle (tail_place net (after_injection net n (mid net (state_at net n))) p) ≡ out_cycle (tail_place net (mid net (state_at net n)) p)
  entered-same p l =
      by (goes net (good net setup) (mid net (state_at net n)) (ordered-mid net (good net setup) n) n p (last_of net p) (valid-last net (good net setup).built p l))
    where
      by : Goes net (good net setup) (mid net (state_at net n)) (ordered-mid net (good net setup) n) n p (last_of net p)
          → out_cycle (tail_place net (after_injection net n (mid net (state_at net n))) p) ≡ out_cycle (tail_place net (mid net (state_at net n)) p)
      by (stays e) = ap out_cycle e
      by (goes_in one k e was now) = ap out_cycle now ∙ sym (ap out_cycle was)

  frozen-same : (p : ℕ) → p < length net.packets → out_cycle (tail_place net (frozen_at net n) p) ≡ arrival_in net (state_at net n) p
  unfolding frozen_state
  frozen-same p l =
      entered-same p l ∙ ap out_cycle (landed-tail net (good net setup) (state_at net n) (ordered-state net (good net setup) n) p l) ∙ out-landed (tail_place net (state_at net n) p)

  next-state : after_verdicts net n (frozen_at net n) ≡ state_at net (suc n)
  unfolding network_cycle state_at
  next-state = refl

  -- ---- the verdicts of router r
  module _ (r : ℕ) (l : r < nodes net.relation.grid) where
    abbrev Noted : Type 0
    Noted = Arrives net (good net setup) (frozen_at net n) (ordered-frozen net (good net setup) n) n r l (frozen_of net n r) (frozen-seen net setup n r l)

    noted : Noted
    noted = arrives net (good net setup) (frozen_at net n) (ordered-frozen net (good net setup) n) n r l (frozen_of net n r) (frozen-seen net setup n r l)

    same-round : (decisions_of net.relation (frozen_of net n r)).round ≡ view_round (frozen_of net n r)
    unfolding decisions_of
    same-round = refl

    same-site : (frozen_of net n r).site ≡ site_at net r
    same-site = (frozen-seen net setup n r l).site

    -- a tail that leaves is that of a channel that moves by the local port
    is-out : (p : ℕ) → tail_of net n r ≡ Some p → TailOut net n p
    is-out p e =
        let v = frozen_of net n r in
        let t = tail-is (flit_out v (decisions_of net.relation v).round (local_port v.site.grid)) p e in
        let put : IsPut v.site v (moves_at net n r) (local_port v.site.grid) t.0 t.1
        = flit-put net.relation v (moves_at net n r) (subst (λ (s : Site). 0 < s.vcs) (sym same-site) (good net setup).relation.table.some_vcs) (moves-are v) (local_port v.site.grid) t.0 t.1 (omega arith) t.2 in
        at t.0 t.1 (subst (λ (s : Site). IsPut s v (moves_at net n r) (local_port s.grid) t.0 t.1) same-site put) t.3 t.4
      where
        at : (vc : ℕ) (f : Flit) → IsPut (site_at net r) (frozen_of net n r) (moves_at net n r) (local_port net.relation.grid) vc f → f.last ≡ true → f.packet ≡ p → TailOut net n p
        at vc f put last packet = record {
          router = r;
          channel = put.channel;
          goes = record { known = l; bit = put.bit; mover = put.mover; port = put.by_port };
          last = ap (λ (g : Flit). g.last) put.is ∙ last;
          packet = ap (λ (g : Flit). g.packet) put.is ∙ packet;
        }

  -- ---- the tail of packet p
  module _ (p : ℕ) where
    -- it leaves its router
    leaves : (x : TailOut net n p) → tail_of net n x.router ≡ Some p
    leaves x =
        let v = frozen_of net n x.router in
        let m = x.goes.mover in
        ap tail_packet
        (ap (λ (s : Site). flit_out v (decisions_of net.relation v).round (local_port s.grid)) (same-site x.router x.goes.known)
        ∙ ap (λ round. flit_out v round (local_port net.relation.grid)) (same-round x.router x.goes.known)
        ∙ ap (flit_out v (view_round v)) (sym x.goes.port) ∙ m.put)
        ∙ ap (λ b. if b then Some m.flit.packet else None) x.last
        ∙ ap Some x.packet

    -- which is where it ends
    pub tail-ends : (x : TailOut net n p) → (packet_at net p).destination ≡ x.router
    tail-ends x = by (noted x.router x.goes.known)
      where
        by : Noted x.router x.goes.known → (packet_at net p).destination ≡ x.router
        by (nobody e same) = absurd (none-some p (sym e ∙ leaves x))
        by (somebody q e member before same) =
            let is : q ≡ p = same_Some q p (sym e ∙ leaves x) in
            ap (λ k. (packet_at net k).destination) (sym is) ∙ (ends-here net x.router q member).1

    -- and it has arrived
    pub tail-arrives : TailOut net n p → arrival_in net (state_at net (suc n)) p ≡ Some n
    tail-arrives x = ap (λ (t : State). out_cycle (tail_place net t p)) (sym next-state) ∙ by (noted x.router x.goes.known)
      where
        by : Noted x.router x.goes.known → out_cycle (tail_place net (after_verdicts net n (frozen_at net n)) p) ≡ Some n
        by (nobody e same) = absurd (none-some p (sym e ∙ leaves x))
        by (somebody q e member before same) =
            let is : q ≡ p = same_Some q p (sym e ∙ leaves x) in
            subst (λ k. out_cycle (tail_place net (after_verdicts net n (frozen_at net n)) k) ≡ Some n) is
            (same q member ∙ ap (λ b. if b then Some n else out_cycle (tail_place net (frozen_at net n) q)) (eq-eqb q q refl))

    module _ (low : p < length net.packets) where
      abbrev r : ℕ
      r = (packet_at net p).destination

      known : (packet_at net p).destination < nodes net.relation.grid
      known = (setup.packets p _ low).destination

      here : Has p (ends_at net r)
      here = here-ends net r p low refl

      -- it leaves the network, or not
      pub out-or-not : TailOut net n p ⊎ (TailOut net n p → ⊥)
      out-or-not = by (tail_of net n r) refl
        where
          at-home : (x : TailOut net n p) → tail_of net n r ≡ Some p
          at-home x = ap (tail_of net n) (tail-ends x) ∙ leaves x

          by : (o : Option ℕ) → tail_of net n r ≡ o → TailOut net n p ⊎ (TailOut net n p → ⊥)
          by None e = inr (λ x. none-some p (sym e ∙ at-home x))
          by (Some q) e = at (cases_eq q p)
            where
              at : (q ≡ p) ⊎ (q ≢ p) → TailOut net n p ⊎ (TailOut net n p → ⊥)
              at (inl same) = inl (is-out r known p (e ∙ ap Some same))
              at (inr other) = inr (λ x. other (same_Some q p (sym e ∙ at-home x)))

      -- where it does not, its arrival is what it was
      pub no-arrival : (TailOut net n p → ⊥) → arrival_in net (state_at net (suc n)) p ≡ arrival_in net (state_at net n) p
      no-arrival never = ap (λ (t : State). out_cycle (tail_place net t p)) (sym next-state) ∙ by (noted r known) ∙ frozen-same p low
        where
          by : Noted r known → out_cycle (tail_place net (after_verdicts net n (frozen_at net n)) p) ≡ out_cycle (tail_place net (frozen_at net n) p)
          by (nobody e same) = same p here
          by (somebody q e member before same) = at (cases_eq p q)
            where
              at : (p ≡ q) ⊎ (p ≢ q) → out_cycle (tail_place net (after_verdicts net n (frozen_at net n)) p) ≡ out_cycle (tail_place net (frozen_at net n) p)
              at (inl is) = absurd (never (is-out r known p (e ∙ ap Some (sym is))))
              at (inr other) = same p here ∙ ap (λ b. if b then Some n else out_cycle (tail_place net (frozen_at net n) p)) (ne_eqb p q other)
