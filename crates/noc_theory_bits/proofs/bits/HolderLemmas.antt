-- The packet that holds an input channel: what a router sees of it, and how it comes to be known by
-- the grants of the senders.
use Rattle.std.proofs.Common.{◌≡◌, ℕ, ◌+◌, ◌-◌, ◌*◌, ◌/◌, ◌%◌, ◌<◌, ◌≤◌, Bool, true, false, List, [], ◌∷◌, length, Option, Some, None, IfSome, suc, refl, ap, ap₂, sym, ◌∙◌, subst, arith, inl, inr, get_or}
use Rattle.std.specs.Prelude.{◌⊎◌, ◌&&◌, ◌||◌, find, not, is_some, nat_eq, option_and_then, option_map, unwrap_or, IsTrue, if◌then◌else◌}
use Rattle.noc_topo.specs.Shape.{IsLinkBack}
use Rattle.noc_topo.proofs.LinkLemmas.{hop_of}
use Rattle.noc_route.specs.Routes.{permits}
use Rattle.noc_theory.specs.Lockstep.{flit_on, is_present}
use Rattle.noc_theory.specs.Network.{credit_of, is_released, Source}
use Rattle.noc_theory.proofs.worms.OwnedLemmas.{IsOnce, once-same}
use Rattle.noc_theory.proofs.worms.BufferLemmas.{find-passes, same_channel-true}
use Rattle.noc_theory.proofs.worms.GrantLemmas.{IsGrant}
use Rattle.noc_theory.proofs.worms.PathLemmas.{no-inject}
use Rattle.noc_theory.proofs.verdicts.AfterLemmas.{owned-given}
use Rattle.noc_theory.proofs.join.PlaceViewLemmas.{arrives-in}
use Rattle.noc_theory.proofs.worms.VerdictPhaseLemmas.{owned-before}
use Rattle.noc_theory.proofs.verdicts.MoverLemmas.{GivenTo, grant-given, given-grant}
use Rattle.noc_theory.proofs.worms.WormOrderLemmas.{worm_order-at}
use Rattle.noc_theory_bits.proofs.Common.{cases_lt, eqb-true, false≢true, ne_eqb, get_or_past, div-mul-add, mod-mul-add, mod_below, mul-add-lt, div-add-mod', none-some, same_Some, Has, below, tabulate, nodes, ports, local_port, neighbour, link_back, get_or-tabulate, length-tabulate, Flit, Beat, flit_at, Channel, Link, Inject, Eject, is_link, Input, Output, ejection_output, Owned, Draining, Site, View, size_of, view_buffer, view_input, view_output, view_round, decisions_of, idle_beat, Round, IsGoodSetup, beats_at, beats_in, beat_by, view_at, seen_input, seen_holder, seen_sender, has_come, Setup, State, Located, Place, On, In, Out, size, arriving, leaving, packet_at, owner_of, is_on, tail_place, state_at, frozen_at, after_verdicts, network_cycle, IsSeen, owner-has, owner-is, find-has, ordered-frozen, view_at-seen, well-formed, flit_from, flit_on_vc, ShowsHolders, frozen_of, holder_at}
use Rattle.noc_theory_bits.proofs.network.NetworkLemmas.{good, frozen-seen, frozen-tidy, steady-state, steady-still}
use Rattle.noc_theory_bits.proofs.wiring.WireLemmas.{flit-at}
use Rattle.noc_theory_bits.specs.Owners.{granted_to, grants_of, heard, heard_over, told}

-- ---- what a router sees
module _ (net : Setup) (S : State) (r : ℕ) (v : View) (seen : IsSeen net S r v) where
  -- the packet of an input channel holds it
  pub seen-packet : (i p : ℕ) → i < size net → (view_input v i).packet ≡ Some p → holder_at net S r i ≡ Some p
  seen-packet i p l e = at (arriving net r i) (sym (ap (λ (x : Input). x.packet) (seen.input i l)) ∙ e)
    where
      present : Channel → ℕ → Option ℕ
      present c q = if is_present net S c q then Some q else None

      at : (c : Option Channel) → (seen_input net S r i c).packet ≡ Some p → option_and_then (owner_of net S) c ≡ Some p
      at None h = absurd (none-some p h)
      at (Some c) h = by (owner_of net S c) h
        where
          by : (o : Option ℕ) → option_and_then (λ q. if is_present net S c q then Some q else None) o ≡ Some p → o ≡ Some p
          by None k = absurd (none-some p k)
          by (Some q) k = there (is_present net S c q) k
            where
              there : (b : Bool) → (if b then Some q else None) ≡ Some p → Some q ≡ Some p
              there true m = m
              there false m = absurd (none-some p m)

  -- the packet that owns an output channel
  seen-holder : (o : ℕ) → o < size net → (view_output v o).holder ≡ seen_holder net S r (leaving net r o) (owner_of net S (leaving net r o))
  seen-holder o l = ap (λ (x : Output). x.holder) (seen.output o l) ∙ by (is_link (leaving net r o))
    where
      by : (b : Bool) → (if b then record { holder = seen_holder net S r (leaving net r o) (owner_of net S (leaving net r o)); credit = Some (credit_of net S (leaving net r o)); depth = net.depth }
          else record ejection_output { holder = seen_holder net S r (leaving net r o) (owner_of net S (leaving net r o)) }).holder
          ≡ seen_holder net S r (leaving net r o) (owner_of net S (leaving net r o))
      by true = refl
      by false = refl

  pub owner-named : (o k p : ℕ) → o < size net → (view_output v o).holder ≡ Owned k p → owner_of net S (leaving net r o) ≡ Some p
  owner-named o k p l e = by (owner_of net S (leaving net r o)) (sym (seen-holder o l) ∙ e)
    where
      by : (q : Option ℕ) → seen_holder net S r (leaving net r o) q ≡ Owned k p → q ≡ Some p
      by None h = absurd (cc h)
      by (Some q) h = sent (is_link (leaving net r o) && (is_on (leaving net r o) (tail_place net S q) || has_come net (leaving net r o) (packet_at net q).destination (tail_place net S q))) h
        where
          sent : (b : Bool) → (if b then Draining else Owned (seen_sender net S r (leaving net r o)) q) ≡ Owned k p → Some q ≡ Some p
          sent true m = absurd (cc m)
          sent false m = let same : q ≡ p = cc in ap Some same

-- ---- over a link
module _ (net : Setup) (setup : IsGoodSetup net) (r : ℕ) (l : r < nodes net.relation.grid) (i to port : ℕ) (e : neighbour net.relation.grid r (i / net.relation.vcs) ≡ Some (to, port)) where
  back : IsLinkBack net.relation.grid r (i / net.relation.vcs) to port
  back = link_back net.relation.grid r (i / net.relation.vcs) to port (good net setup).relation.table.grid l e

  some-vcs : 0 < net.relation.vcs
  some-vcs = (good net setup).relation.table.some_vcs

  -- the channel that arrives is the one that begins at the other end
  pub link-arrives : arriving net r i ≡ Some (Link to port (i % net.relation.vcs))
  link-arrives =
      let low : i / net.relation.vcs < local_port net.relation.grid = (hop_of net.relation.grid r (i / net.relation.vcs) to port (good net setup).relation.table.grid e).link in
      ap (λ b. if b then Some (Inject r (i % net.relation.vcs)) else option_map (λ (from : ℕ × ℕ). Link from.0 from.1 (i % net.relation.vcs)) (neighbour net.relation.grid r (i / net.relation.vcs)))
      (ne_eqb (i / net.relation.vcs) (local_port net.relation.grid) (λ same. absurd (omega (arith, same, low))))
      ∙ ap (option_map (λ (from : ℕ × ℕ). Link from.0 from.1 (i % net.relation.vcs))) e

  pub link-leaves : leaving net to (port * net.relation.vcs + i % net.relation.vcs) ≡ Link to port (i % net.relation.vcs)
  link-leaves =
      let low = back.port in
      let q : (port * net.relation.vcs + i % net.relation.vcs) / net.relation.vcs ≡ port = div-mul-add port net.relation.vcs (i % net.relation.vcs) (mod_below i net.relation.vcs some-vcs) in
      let m : (port * net.relation.vcs + i % net.relation.vcs) % net.relation.vcs ≡ i % net.relation.vcs = mod-mul-add port net.relation.vcs (i % net.relation.vcs) (mod_below i net.relation.vcs some-vcs) in
      ap (λ b. if b then Eject to ((port * net.relation.vcs + i % net.relation.vcs) % net.relation.vcs) else Link to ((port * net.relation.vcs + i % net.relation.vcs) / net.relation.vcs) ((port * net.relation.vcs + i % net.relation.vcs) % net.relation.vcs))
      (ne_eqb ((port * net.relation.vcs + i % net.relation.vcs) / net.relation.vcs) (local_port net.relation.grid) (λ same. absurd (omega (arith, same, q, low))))
      ∙ ap₂ (λ a b. Link to a b) q m

  pub link-size : port * net.relation.vcs + i % net.relation.vcs < size net
  link-size =
      let low = back.port in
      let m = mul-add-lt port net.relation.vcs (i % net.relation.vcs) (ports net.relation.grid) (omega (arith, low)) (mod_below i net.relation.vcs some-vcs) in
      omega (arith, m)

  -- so the packet that owns the sender's output channel holds the input channel at its other end
  pub holder-over : (S : State) → holder_at net S r i ≡ owner_of net S (leaving net to (port * net.relation.vcs + i % net.relation.vcs))
  holder-over S = ap (option_and_then (owner_of net S)) link-arrives ∙ ap (owner_of net S) (sym link-leaves)

-- a holder is an owner of the channel that arrives
pub holder-has : (net : Setup) (S : State) (r i p : ℕ) → holder_at net S r i ≡ Some p → (c : Channel) × (arriving net r i ≡ Some c) × Has (c, p) S.own
holder-has net S r i p e = at (arriving net r i) refl e
  where
    at : (o : Option Channel) → arriving net r i ≡ o → option_and_then (owner_of net S) o ≡ Some p → (c : Channel) × (arriving net r i ≡ Some c) × Has (c, p) S.own
    at None is h = absurd (none-some p h)
    at (Some c) is h = (c, is, owner-has net S c p h)

pub has-holder : (net : Setup) (S : State) (r i p : ℕ) (c : Channel) → IsOnce S.own → arriving net r i ≡ Some c → Has (c, p) S.own → holder_at net S r i ≡ Some p
has-holder net S r i p c once is h = ap (option_and_then (owner_of net S)) is ∙ owner-is net S c p once h

-- ---- on the wires
-- the number of the packet of a flit that comes is that of the packet which holds the channel
module _ (net : Setup) (setup : IsGoodSetup net) (n r : ℕ) (l : r < nodes net.relation.grid) where
  abbrev S : State
  S = state_at net n

  abbrev row : List Beat
  row = beats_at (beats_in net (state_at net n)) r

  row-is : row ≡ tabulate (local_port net.relation.grid) (λ q. beat_by net (state_at net n) r q (neighbour net.relation.grid r q))
  unfolding beats_in
  row-is = get_or-tabulate (nodes net.relation.grid) r (λ s. tabulate (local_port net.relation.grid) (λ q. beat_by net (state_at net n) s q (neighbour net.relation.grid s q))) [] l

  on-vc : (vc : ℕ) (o : Option (ℕ × Flit)) (f : Flit) → flit_on_vc vc o ≡ Some f → o ≡ Some (vc, f)
  on-vc vc None f e = absurd (none-some f e)
  on-vc vc (Some (w, g)) f e = by (nat_eq w vc) refl e
    where
      by : (b : Bool) → nat_eq w vc ≡ b → (if b then Some g else None) ≡ Some f → ◌≡◌ {A = Option (ℕ × Flit)} (Some (w, g)) (Some (vc, f))
      by true t h = ap (λ x. Some (x, g)) (eqb-true w vc t) ∙ ap (λ (x : Flit). Some (vc, x)) (same_Some g f h)
      by false t h = absurd (none-some f h)

  -- the flit on the wire of a channel is of its owner
  flit-owner : (c : Channel) (f : Flit) → flit_on net S c ≡ Some f → owner_of net S c ≡ Some f.packet
  flit-owner c f e = at (find (λ (g : Located). is_on c g.place) S.at) refl e
    where
      place-on : (x : Place) → is_on c x ≡ true → x ≡ On c
      place-on Source h = absurd (false≢true h)
      place-on (On d) h = ap On (sym (same_channel-true c d h))
      place-on (In d) h = absurd (false≢true h)
      place-on (Out k) h = absurd (false≢true h)

      at : (o : Option Located) → find (λ (g : Located). is_on c g.place) S.at ≡ o → option_map (λ (g : Located). flit_at (packet_at net g.packet) g.packet g.index) o ≡ Some f → owner_of net S c ≡ Some f.packet
      at None found h = absurd (none-some f h)
      at (Some g) found h =
          let own = (worm_order-at net (well-formed net setup) n).on_own g c (find-has (λ (g : Located). is_on c g.place) S.at g found) (place-on g.place (find-passes (λ (g : Located). is_on c g.place) S.at g found)) in
          own.1 ∙ ap (λ (x : Flit). Some x.packet) (same_Some _ f h)

  pub wire-holder : (i : ℕ) (f : Flit) → flit_from net.relation.vcs 0 row i ≡ Some f → holder_at net S r i ≡ Some f.packet
  wire-holder i f e = by (neighbour net.relation.grid r (i / net.relation.vcs)) refl
    where
      came : flit_on_vc (i % net.relation.vcs) (get_or row (i / net.relation.vcs) idle_beat).flit ≡ Some f
      came =
          ap (λ k. flit_on_vc (i % net.relation.vcs) (get_or row k idle_beat).flit) (let z : i / net.relation.vcs ≡ i / net.relation.vcs - 0 = omega arith in z)
          ∙ sym (flit-at net.relation.vcs 0 row i (omega arith)) ∙ e

      low : i / net.relation.vcs < local_port net.relation.grid
      low = at (cases_lt (i / net.relation.vcs) (local_port net.relation.grid))
        where
          at : (i / net.relation.vcs < local_port net.relation.grid) ⊎ (local_port net.relation.grid ≤ i / net.relation.vcs) → i / net.relation.vcs < local_port net.relation.grid
          at (inl k) = k
          at (inr past) =
              let many : length row ≡ local_port net.relation.grid = ap length row-is ∙ length-tabulate (local_port net.relation.grid) _ in
              absurd (none-some f (sym (ap (λ (b : Beat). flit_on_vc (i % net.relation.vcs) b.flit) (get_or_past row (i / net.relation.vcs) idle_beat (omega (arith, many, past)))) ∙ came))

      beat : get_or row (i / net.relation.vcs) idle_beat ≡ beat_by net S r (i / net.relation.vcs) (neighbour net.relation.grid r (i / net.relation.vcs))
      beat = ap (λ (b : List Beat). get_or b (i / net.relation.vcs) idle_beat) row-is ∙ get_or-tabulate (local_port net.relation.grid) (i / net.relation.vcs) (λ q. beat_by net S r q (neighbour net.relation.grid r q)) idle_beat low

      by : (o : Option (ℕ × ℕ)) → neighbour net.relation.grid r (i / net.relation.vcs) ≡ o → holder_at net S r i ≡ Some f.packet
      by None k = absurd (none-some f (sym (ap (λ (x : Option (ℕ × ℕ)). flit_on_vc (i % net.relation.vcs) (beat_by net S r (i / net.relation.vcs) x).flit) k) ∙ sym (ap (λ (b : Beat). flit_on_vc (i % net.relation.vcs) b.flit) beat) ∙ came))
      by (Some (to, port)) k =
          ap (option_and_then (owner_of net S)) (link-arrives net setup r l i to port k)
          ∙ flit-owner (Link to port (i % net.relation.vcs)) f (on (find (λ vc. is_some (flit_on net S (Link to port vc))) (below net.relation.vcs)) sent)
        where
          sent : (beat_by net S r (i / net.relation.vcs) (Some (to, port))).flit ≡ Some (i % net.relation.vcs, f)
          sent = on-vc (i % net.relation.vcs) _ f (sym (ap (λ (x : Option (ℕ × ℕ)). flit_on_vc (i % net.relation.vcs) (beat_by net S r (i / net.relation.vcs) x).flit) k) ∙ sym (ap (λ (b : Beat). flit_on_vc (i % net.relation.vcs) b.flit) beat) ∙ came)

          on : (o : Option ℕ) → option_and_then {U = ℕ × Flit} (λ vc. option_map (λ f. (vc, f)) (flit_on net S (Link to port vc))) o ≡ Some (i % net.relation.vcs, f) → flit_on net S (Link to port (i % net.relation.vcs)) ≡ Some f
          on None h = absurd (none-some _ h)
          on (Some vc) h = there (flit_on net S (Link to port vc)) refl h
            where
              there : (g : Option Flit) → flit_on net S (Link to port vc) ≡ g → option_map {U = ℕ × Flit} (λ f. (vc, f)) g ≡ Some (i % net.relation.vcs, f) → flit_on net S (Link to port (i % net.relation.vcs)) ≡ Some f
              there None is m = absurd (none-some _ m)
              there (Some g) is m =
                  let same : (vc, g) ≡ (i % net.relation.vcs, f) = same_Some _ _ m in
                  ap (λ k. flit_on net S (Link to port k)) (sym (ap (λ (x : ℕ × Flit). x.0) same)) ∙ is ∙ ap Some (ap (λ (x : ℕ × Flit). x.1) same)

-- ---- from a frozen state to the next count: grants are told
module _ (net : Setup) (setup : IsGoodSetup net) (n : ℕ) where
  abbrev F : State
  F = frozen_at net n

  next-state : after_verdicts net n (frozen_at net n) ≡ state_at net (suc n)
  unfolding network_cycle state_at
  next-state = refl

  same-round : (v : View) → (decisions_of net.relation v).round ≡ view_round v
  unfolding decisions_of
  same-round v = refl

  -- the grants of router s
  abbrev pub grants : ℕ → List (Option ℕ)
  grants s = (view_round (frozen_of net n s)).grants

  module _ (s : ℕ) (k : s < nodes net.relation.grid) where
    abbrev Given : ℕ → ℕ → Type 0
    Given o i = GivenTo net (good net setup) (frozen_at net n) (ordered-frozen net (good net setup) n) n s k (frozen_of net n s) (frozen-seen net setup n s k) o i

    given : (o i : ℕ) → o < size net → get_or (grants s) o None ≡ Some i → Given o i
    given o i u e =
        grant-given net (good net setup) (frozen_at net n) (ordered-frozen net (good net setup) n) n s k (frozen_of net n s) (frozen-seen net setup n s k) o i u
        (ap (λ (round : Round). get_or round.grants o None) (same-round (frozen_of net n s)) ∙ e)

    -- an output channel that is granted was nobody's, and the channel that has the grant knows its
    -- packet
    pub granted-free : (o i : ℕ) → o < size net → get_or (grants s) o None ≡ Some i → owner_of net F (leaving net s o) ≡ None
    granted-free o i u e = (given o i u e).grant.idle

    pub granted-holder : (o i : ℕ) → o < size net → get_or (grants s) o None ≡ Some i
        → (p : ℕ) × (i < size net) × (holder_at net F s i ≡ Some p) × Has (leaving net s o, p) (after_verdicts net n (frozen_at net n)).own
    granted-holder o i u e =
        let g = given o i u e in (
          g.packet,
          g.within,
          ap (option_and_then (owner_of net F)) g.found ∙ g.own,
          owned-given net (good net setup) (frozen_at net n) (ordered-frozen net (good net setup) n) n g.channel (leaving net s o) g.packet (arrives-in net (good net setup) g.at) g.pair,
        )

    -- what it tells is the packet to which the channel is granted
    pub tells-granted : (packets : ℕ → ℕ) → ShowsHolders net (frozen_at net n) s packets → (o : ℕ) → o < size net → option_map packets (grants_of net n s o) ≡ granted_to net n s o
    tells-granted packets shows o u = by (grants_of net n s o) refl
      where
        by : (g : Option ℕ) → grants_of net n s o ≡ g → option_map packets g ≡ option_and_then (holder_at net (frozen_at net n) s) g
        by None e = refl
        by (Some i) e =
            let one = granted-holder o i u e in
            let knows : packets i ≡ one.0 = subst (λ (q : Option ℕ). IfSome q (λ p. packets i ≡ p)) one.2 (shows i one.1) in
            ap Some knows ∙ sym one.2

  -- the packet numbers of a router, and those after what it has heard
  module _ (packets : ℕ → ℕ) (tells : ℕ → ℕ → Option ℕ) (r : ℕ) (l : r < nodes net.relation.grid) (shows : ShowsHolders net (frozen_at net n) r packets)
      (right : (i to port : ℕ) → neighbour net.relation.grid r (i / net.relation.vcs) ≡ Some (to, port) → tells to (port * net.relation.vcs + i % net.relation.vcs) ≡ granted_to net n to (port * net.relation.vcs + i % net.relation.vcs)) where
    abbrev after : ℕ → ℕ
    after i = unwrap_or (heard net.relation.grid net.relation.vcs tells r i) (packets i)

    -- what is heard is what a packet number is where the holder is known
    old-told : (i p : ℕ) → i < size net → holder_at net F r i ≡ Some p → after i ≡ p
    old-told i p u e = by (neighbour net.relation.grid r (i / net.relation.vcs)) refl
      where
        was : packets i ≡ p
        was = subst (λ (o : Option ℕ). IfSome o (λ q. packets i ≡ q)) e (shows i u)

        by : (o : Option (ℕ × ℕ)) → neighbour net.relation.grid r (i / net.relation.vcs) ≡ o → unwrap_or (heard_over net.relation.vcs tells (i % net.relation.vcs) o) (packets i) ≡ p
        by None h = was
        by (Some (to, port)) h = ap (λ (x : Option ℕ). unwrap_or x (packets i)) (right i to port h) ∙ at (get_or (grants to) (port * net.relation.vcs + i % net.relation.vcs) None) refl
          where
            at : (g : Option ℕ) → get_or (grants to) (port * net.relation.vcs + i % net.relation.vcs) None ≡ g → unwrap_or (option_and_then (holder_at net (frozen_at net n) to) g) (packets i) ≡ p
            at None is = was
            at (Some k) is =
                let low = link_back net.relation.grid r (i / net.relation.vcs) to port (good net setup).relation.table.grid l h in
                absurd (none-some p (sym (holder-over net setup r l i to port h F ∙ granted-free to low.node (port * net.relation.vcs + i % net.relation.vcs) k (link-size net setup r l i to port h) is) ∙ e))

    once : IsOnce (after_verdicts net n F).own
    once = subst (λ (S : State). IsOnce S.own) (sym next-state) (steady-state net setup (suc n)).worm.once

    new-told : (i p : ℕ) (c d : Channel) → i < size net → arriving net r i ≡ Some c → IsGrant net F d c p → Has (c, p) (after_verdicts net n F).own → after i ≡ p
    new-told i p c d u found g has = by (neighbour net.relation.grid r (i / net.relation.vcs)) refl
      where
        never : neighbour net.relation.grid r (i / net.relation.vcs) ≡ None → arriving net r i ≡ Some c → ⊥
        never none is = at (nat_eq (i / net.relation.vcs) (local_port net.relation.grid)) (sym is) refl
          where
            at : (b : Bool) → Some c ≡ (if b then Some (Inject r (i % net.relation.vcs)) else option_map (λ (from : ℕ × ℕ). Link from.0 from.1 (i % net.relation.vcs)) (neighbour net.relation.grid r (i / net.relation.vcs))) → nat_eq (i / net.relation.vcs) (local_port net.relation.grid) ≡ b → ⊥
            at true e t = no-inject net (good net setup).built _ _ d r (i % net.relation.vcs) (subst (λ (y : Channel). IsTrue (permits net.relation (packet_at net p).class d (packet_at net p).destination y)) (same_Some _ _ e) g.allowed)
            at false e t = none-some c (sym (e ∙ ap (option_map (λ (from : ℕ × ℕ). Link from.0 from.1 (i % net.relation.vcs))) none))

        by : (o : Option (ℕ × ℕ)) → neighbour net.relation.grid r (i / net.relation.vcs) ≡ o → unwrap_or (heard_over net.relation.vcs tells (i % net.relation.vcs) o) (packets i) ≡ p
        by None h = absurd (never h found)
        by (Some (to, port)) h =
            let low = link_back net.relation.grid r (i / net.relation.vcs) to port (good net setup).relation.table.grid l h in
            let same : c ≡ leaving net to (port * net.relation.vcs + i % net.relation.vcs) = same_Some _ _ (sym found ∙ link-arrives net setup r l i to port h) ∙ sym (link-leaves net setup r l i to port h) in
            let size = link-size net setup r l i to port h in
            let t = given-grant net (good net setup) (frozen_at net n) (ordered-frozen net (good net setup) n) n to low.node (frozen_of net n to) (frozen-seen net setup n to low.node)
            (port * net.relation.vcs + i % net.relation.vcs) p d size (subst (λ (y : Channel). IsGrant net F d y p) same g) in
            let is : get_or (grants to) (port * net.relation.vcs + i % net.relation.vcs) None ≡ Some t.0 = ap (λ (round : Round). get_or round.grants (port * net.relation.vcs + i % net.relation.vcs) None) (sym (same-round (frozen_of net n to))) ∙ t.1 in
            let h2 = granted-holder to low.node (port * net.relation.vcs + i % net.relation.vcs) t.0 size is in
            let hears : tells to (port * net.relation.vcs + i % net.relation.vcs) ≡ Some h2.0 = right i to port h ∙ ap (option_and_then (holder_at net (frozen_at net n) to)) is ∙ h2.2 in
            ap (λ (x : Option ℕ). unwrap_or x (packets i)) hears
            ∙ ap (λ (x : Channel × ℕ). x.1) (once-same (leaving net to (port * net.relation.vcs + i % net.relation.vcs), h2.0) (c, p) (after_verdicts net n F).own once h2.3 has (sym same))

    pub holders-heard : ShowsHolders net (state_at net (suc n)) r after
    holders-heard i u = subst (λ (S : State). IfSome (holder_at net S r i) (λ p. after i ≡ p)) next-state (at (holder_at net (after_verdicts net n F) r i) refl)
      where
        at : (o : Option ℕ) → holder_at net (after_verdicts net n F) r i ≡ o → IfSome (holder_at net (after_verdicts net n F) r i) (λ p. after i ≡ p)
        at None e = subst (λ (o : Option ℕ). IfSome o (λ p. after i ≡ p)) (sym e) tt
        at (Some p) e = subst (λ (o : Option ℕ). IfSome o (λ q. after i ≡ q)) (sym e) (by (holder-has net (after_verdicts net n F) r i p e))
          where
            by : (c : Channel) × (arriving net r i ≡ Some c) × Has (c, p) (after_verdicts net n F).own → after i ≡ p
            by h = cases (owned-before net (good net setup).built (good net setup).wired F (steady-still net setup n).keyed (steady-still net setup n).worm n (ordered-frozen net (good net setup) n).whole.sound.still h.0 p h.2)
              where
                cases : (Has (h.0, p) F.own × (not (is_released net F (h.0, p)) ≡ true)) ⊎ ((d : Channel) × IsGrant net F d h.0 p) → after i ≡ p
                cases (inl k) = old-told i p u (has-holder net F r i p h.0 (steady-still net setup n).worm.once h.1 k.0)
                cases (inr g) = new-told i p h.0 g.0 u h.1 g.1 h.2

  -- .. where the senders have known whom they granted
  pub holders-told : (packets : ℕ → ℕ → ℕ) → ((s : ℕ) → s < nodes net.relation.grid → ShowsHolders net (frozen_at net n) s (packets s)) → (r : ℕ) → r < nodes net.relation.grid
      → ShowsHolders net (state_at net (suc n)) r (told net.relation.grid net.relation.vcs (grants_of net n) packets r)
  holders-told packets shows r l =
      holders-heard (packets r) (λ s o. option_map (packets s) (grants_of net n s o)) r l (shows r l)
      (λ i to port e. let low = link_back net.relation.grid r (i / net.relation.vcs) to port (good net setup).relation.table.grid l e in
      tells-granted to low.node (packets to) (shows to low.node) (port * net.relation.vcs + i % net.relation.vcs) (link-size net setup r l i to port e))

-- ---- the sender knows who holds the channel at the other end
pub sender-knows : (net : Setup) → IsGoodSetup net → (n s o k p r port : ℕ) → s < nodes net.relation.grid → o < size net → (view_output (view_at net n s) o).holder ≡ Owned k p
    → neighbour net.relation.grid s (o / net.relation.vcs) ≡ Some (r, port) → holder_at net (state_at net n) r (port * net.relation.vcs + o % net.relation.vcs) ≡ Some p
sender-knows net setup n s o k p r port l u named e =
    let some : 0 < net.relation.vcs = (good net setup).relation.table.some_vcs in
    let there = link_back net.relation.grid s (o / net.relation.vcs) r port (good net setup).relation.table.grid l e in
    let q : (port * net.relation.vcs + o % net.relation.vcs) / net.relation.vcs ≡ port = div-mul-add port net.relation.vcs (o % net.relation.vcs) (mod_below o net.relation.vcs some) in
    let m : (port * net.relation.vcs + o % net.relation.vcs) % net.relation.vcs ≡ o % net.relation.vcs = mod-mul-add port net.relation.vcs (o % net.relation.vcs) (mod_below o net.relation.vcs some) in
    holder-over net setup r there.node (port * net.relation.vcs + o % net.relation.vcs) s (o / net.relation.vcs) (ap (neighbour net.relation.grid r) q ∙ there.back) (state_at net n)
    ∙ ap (λ c. owner_of net (state_at net n) (leaving net s c)) (ap (λ v. o / net.relation.vcs * net.relation.vcs + v) m ∙ div-add-mod' o net.relation.vcs)
    ∙ owner-named net (state_at net n) s (view_at net n s) (view_at-seen net n s) o k p u named

-- ---- the first flit of a buffer is of the packet that holds the channel
pub first-holder : (net : Setup) (setup : IsGoodSetup net) (n r : ℕ) (l : r < nodes net.relation.grid) (i : ℕ) (f : Flit) (rest : List Flit) → i < size net
    → view_buffer (frozen_of net n r) i ≡ f ∷ rest → holder_at net (frozen_at net n) r i ≡ Some f.packet
first-holder net setup n r l i f rest u e =
    seen-packet net (frozen_at net n) r (frozen_of net n r) (frozen-seen net setup n r l) i f.packet u
    ((frozen-tidy net setup n r l).firsts i f rest (subst (λ (s : Site). i < size_of s) (sym (frozen-seen net setup n r l).site) u) e)

-- ---- what is told overwrites nothing that is read: nobody holds the channel at the other end of an output channel that is granted
pub granted-end : (net : Setup) (setup : IsGoodSetup net) (n s o k r port : ℕ) → s < nodes net.relation.grid → o < size net → get_or (view_round (frozen_of net n s)).grants o None ≡ Some k
    → neighbour net.relation.grid s (o / net.relation.vcs) ≡ Some (r, port) → holder_at net (frozen_at net n) r (port * net.relation.vcs + o % net.relation.vcs) ≡ None
granted-end net setup n s o k r port l u granted e =
    let some : 0 < net.relation.vcs = (good net setup).relation.table.some_vcs in
    let there = link_back net.relation.grid s (o / net.relation.vcs) r port (good net setup).relation.table.grid l e in
    let q : (port * net.relation.vcs + o % net.relation.vcs) / net.relation.vcs ≡ port = div-mul-add port net.relation.vcs (o % net.relation.vcs) (mod_below o net.relation.vcs some) in
    let m : (port * net.relation.vcs + o % net.relation.vcs) % net.relation.vcs ≡ o % net.relation.vcs = mod-mul-add port net.relation.vcs (o % net.relation.vcs) (mod_below o net.relation.vcs some) in
    holder-over net setup r there.node (port * net.relation.vcs + o % net.relation.vcs) s (o / net.relation.vcs) (ap (neighbour net.relation.grid r) q ∙ there.back) (frozen_at net n)
    ∙ ap (λ c. owner_of net (frozen_at net n) (leaving net s c)) (ap (λ v. o / net.relation.vcs * net.relation.vcs + v) m ∙ div-add-mod' o net.relation.vcs)
    ∙ granted-free net setup n s l o k u granted
