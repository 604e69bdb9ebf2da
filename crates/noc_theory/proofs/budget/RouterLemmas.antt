-- One router makes progress: where a channel is ready one moves, where one asks one is granted.
use Rattle.std.proofs.Common.{◌≡◌, ℕ, suc, ◌+◌, ◌*◌, ◌/◌, ◌%◌, ◌<◌, ◌≤◌, Bool, true, false, List, map, length, get_or, Option, Some, None, refl, ap, sym, ◌∙◌, arith, inl, inr, div-add-mod', mul-le-mul_right, suc-mul, div-lt_iff_lt-mul}
use Rattle.std.specs.Prelude.{option_map, unwrap_or, nat_eq, nat_lt, filter_map, slice_index, ◌⊎◌}
use Rattle.std.proofs.lemmas.List.FromFn.{length-map-range_with_len}
use Rattle.noc_alloc.specs.Arbiter.{pointers_of}
use Rattle.noc_alloc.specs.Allocation.{grant_of}
use Rattle.noc_theory.specs.Network.{stands_at}
use Rattle.noc_theory.proofs.budget.ProgressRecordLemmas.{IsBuilt, IsReal}
use Rattle.noc_view.specs.Verdict.{Stand}
use Rattle.noc_alloc.proofs.ArbiterLemmas.{first_in_turn-picks}
use Rattle.noc_theory.proofs.Common.{cases_lt, eqb-true, eq-eqb, ne_eqb, get_or-map, get_or_past, length-map, div-mul-add, mod-mul-add, arbiters_at, Setup, State, all_inputs, arriving, claim_of, count_in, round_at, size, stand_of, verdict_at, verdict_in, Channel, Eject, Inject, Link, arrival_of, channel_vc, inputs, linked-port, Claim, Holds, ArbiterStates, Unrouted, Waits, ask_of, ready_port, verdict_of, Granted, Moved, local_port, neighbour, nodes, ports, tabulate, Has, below, is_some_of, is_some_of-true, is_some_of-some, get_or-tabulate}
use Rattle.noc_theory.proofs.worms.OpeningLemmas.{below-has}
use Rattle.noc_theory.proofs.worms.MemberLemmas.{Has-filter_mapped, Has-flat_mapped}
use Rattle.noc_theory.proofs.budget.AllocationLemmas.{first_in_turn-some, switch-moves, moves-at}

pub same_place : (a b c d : ℕ) → ◌≡◌ {A = Option (ℕ × ℕ)} (Some (a, b)) (Some (c, d)) → (a ≡ c) × (b ≡ d)
same_place a b c d e = (ap (λ (o : Option (ℕ × ℕ)). (unwrap_or o (0, 0)).0) e, ap (λ (o : Option (ℕ × ℕ)). (unwrap_or o (0, 0)).1) e)

-- c comes in at this router and port, and is input channel `index` there
pub record IsInput (net : Setup) (c : Channel) (r port : ℕ) : Type 0 where
  pub router : r < nodes net.relation.grid
  pub below : port < ports net.relation.grid
  pub vc : channel_vc c < net.relation.vcs
  pub arrives : arrival_of net.relation.grid c ≡ Some (r, port)
  pub found : arriving net r (port * net.relation.vcs + channel_vc c) ≡ Some c

pub index_below : (ports vcs port v : ℕ) → port < ports → v < vcs → port * vcs + v < ports * vcs
index_below ports vcs port v l u = let m : suc port * vcs ≤ ports * vcs = mul-le-mul_right vcs l in let e = suc-mul port vcs in omega arith

-- the port of an index
pub port_below : (ports vcs i : ℕ) → 0 < vcs → i < ports * vcs → i / vcs < ports
port_below ports vcs i z l = (div-lt_iff_lt-mul {k = vcs} {x = i} {y = ports} z).1 l

module _ (net : Setup) (built : IsBuilt net) where
  pub real-input : (c : Channel) (r port : ℕ) → IsReal net c → arrival_of net.relation.grid c ≡ Some (r, port) → IsInput net c r port
  real-input (Link a q v) r port (la, lv, h, k) e =
      let far = built.linked a q r port la e in
      let below : port < local_port net.relation.grid = linked-port net.relation.grid r port (a, q) far.1 in
      let at : (port * net.relation.vcs + v) / net.relation.vcs ≡ port = div-mul-add port net.relation.vcs v lv in
      let vc : (port * net.relation.vcs + v) % net.relation.vcs ≡ v = mod-mul-add port net.relation.vcs v lv in
      let no : nat_eq port (local_port net.relation.grid) ≡ false = ne_eqb port (local_port net.relation.grid) (λ s. omega arith) in
      record { router = far.0; below = omega arith; vc = lv; arrives = e; found = rw (at, vc, no, far.1) }
  real-input (Inject n v) r port (ln, lv) e =
      let nr : n ≡ r = (same_place n (local_port net.relation.grid) r port e).0 in
      let lp : local_port net.relation.grid ≡ port = (same_place n (local_port net.relation.grid) r port e).1 in
      let at : (port * net.relation.vcs + v) / net.relation.vcs ≡ port = div-mul-add port net.relation.vcs v lv in
      let vc : (port * net.relation.vcs + v) % net.relation.vcs ≡ v = mod-mul-add port net.relation.vcs v lv in
      let yes : nat_eq port (local_port net.relation.grid) ≡ true = eq-eqb port (local_port net.relation.grid) (sym lp) in
      record { router = omega arith; below = omega arith; vc = lv; arrives = e; found = rw (at, vc, yes) (ap (λ x. Some (Inject x v)) (sym nr)) }
  real-input (Eject n v) r port h e = absurd (cc e)

  -- each input channel of a router is one of all
  pub input-has : (c : Channel) (r i : ℕ) → r < nodes net.relation.grid → i < size net → arriving net r i ≡ Some c → Has c (all_inputs net)
  unfolding inputs below
  input-has c r i lr li e =
      Has-flat_mapped (λ a. filter_map (arriving net a) (below (size net))) r c (below (nodes net.relation.grid)) (below-has r (nodes net.relation.grid) lr)
      (Has-filter_mapped (arriving net r) i c (below (size net)) (below-has i (size net) li) e)

  -- and comes in at the port of its index
  pub input-arrives : (c : Channel) (r i : ℕ) → r < nodes net.relation.grid → arriving net r i ≡ Some c
      → (arrival_of net.relation.grid c ≡ Some (r, i / net.relation.vcs)) × (channel_vc c ≡ i % net.relation.vcs)
  input-arrives c r i lr e = at (nat_eq (i / net.relation.vcs) (local_port net.relation.grid)) refl
    where
      link : (o : Option (ℕ × ℕ)) → neighbour net.relation.grid r (i / net.relation.vcs) ≡ o → option_map (λ (from : ℕ × ℕ). Link from.0 from.1 (i % net.relation.vcs)) o ≡ Some c
          → (arrival_of net.relation.grid c ≡ Some (r, i / net.relation.vcs)) × (channel_vc c ≡ i % net.relation.vcs)
      link None k g = absurd (cc g)
      link (Some from) k g =
          let same : Link from.0 from.1 (i % net.relation.vcs) ≡ c = cc in
          let back : neighbour net.relation.grid from.0 from.1 ≡ Some (r, i / net.relation.vcs) = (built.linked r (i / net.relation.vcs) from.0 from.1 lr k).1 in
          (ap (arrival_of net.relation.grid) (sym same) ∙ back, ap channel_vc (sym same))

      at : (b : Bool) → nat_eq (i / net.relation.vcs) (local_port net.relation.grid) ≡ b
          → (arrival_of net.relation.grid c ≡ Some (r, i / net.relation.vcs)) × (channel_vc c ≡ i % net.relation.vcs)
      at true k =
          let g : Some (Inject r (i % net.relation.vcs)) ≡ Some c = sym (rw k) ∙ e in
          let same : Inject r (i % net.relation.vcs) ≡ c = cc in
          (ap (arrival_of net.relation.grid) (sym same) ∙ ap (λ x. Some (r, x)) (sym (eqb-true (i / net.relation.vcs) (local_port net.relation.grid) k)), ap channel_vc (sym same))
      at false k = link (neighbour net.relation.grid r (i / net.relation.vcs)) refl (sym (rw k) ∙ e)

  module _ (F : State) where
    -- the verdict of input channel i of router r
    pub verdict-input : (c : Channel) (r i : ℕ) → r < nodes net.relation.grid → arriving net r i ≡ Some c
        → verdict_in net F c ≡ verdict_of net.relation.vcs (round_at net F r) (i / net.relation.vcs * net.relation.vcs + i % net.relation.vcs) (claim_of net F r c) (nat_lt 0 (count_in net F c))
    verdict-input c r i lr e =
        let arrives = input-arrives c r i lr e in
        ap (verdict_at net F c) arrives.0
        ∙ ap (λ v. verdict_of net.relation.vcs (round_at net F r) (i / net.relation.vcs * net.relation.vcs + v) (claim_of net F r c) (nat_lt 0 (count_in net F c))) arrives.1

    abbrev pub asks : ℕ → List (Option ℕ)
    asks r = map (λ (s : Stand). ask_of s.claim) (stands_at net F r)

    abbrev pub ready : ℕ → List (Option ℕ)
    ready r = map (λ (s : Stand). ready_port net.relation.vcs s.claim s.has_flit) (stands_at net F r)

    pub stand-at : {X : Type 0} (f : Stand → X) (d : X) (r i : ℕ) → i < size net → get_or (map f (stands_at net F r)) i d ≡ f (stand_of net F r (arriving net r i))
    unfolding tabulate
    stand-at f d r i l =
        let n : length (stands_at net F r) ≡ size net = length-map-range_with_len (λ j. stand_of net F r (arriving net r j)) 0 (size net) in
        get_or-map f (stands_at net F r) i (stand_of net F r None) d (omega arith)
        ∙ ap f (get_or-tabulate (size net) i (λ j. stand_of net F r (arriving net r j)) (stand_of net F r None) l)

    pub stand-past : {X : Type 0} (f : Stand → X) (d : X) (r i : ℕ) → size net ≤ i → get_or (map f (stands_at net F r)) i d ≡ d
    unfolding tabulate
    stand-past f d r i l =
        let n : length (stands_at net F r) ≡ size net = length-map-range_with_len (λ j. stand_of net F r (arriving net r j)) 0 (size net) in
        get_or_past (map f (stands_at net F r)) i d (let m = length-map (stands_at net F r) f in omega arith)

    -- where c asks for an output channel, some channel is granted it
    pub grant-given : (c : Channel) (r i o : ℕ) → r < nodes net.relation.grid → i < size net → arriving net r i ≡ Some c → o < size net
        → claim_of net F r c ≡ Waits (Some o)
        → (d : Channel) × Has d (all_inputs net) × (verdict_in net F d ≡ Granted)
    grant-given c r i o lr li e lo waits =
        let router_arbiters : ArbiterStates = arbiters_at net F r in
        let asked : get_or (asks r) i None ≡ Some o = stand-at (λ s. ask_of s.claim) None r i li ∙ ap (λ x. ask_of (stand_of net F r x).claim) e ∙ ap ask_of waits in
        let win = first_in_turn-some (size net) (slice_index (pointers_of router_arbiters.channels) o) i (λ x. is_some_of (get_or (asks r) x None) o) li (is_some_of-some _ _ asked) in
        let won = first_in_turn-picks (size net) (slice_index (pointers_of router_arbiters.channels) o) win.0 (λ x. is_some_of (get_or (asks r) x None) o) win.1 in
        let at_o : get_or (round_at net F r).grants o None ≡ Some win.0 = get_or-tabulate (size net) o (grant_of (asks r) (size net) (pointers_of router_arbiters.channels)) None lo ∙ win.1 in
        winner win.0 won.1 at_o (sym (stand-at (λ s. ask_of s.claim) None r win.0 won.1) ∙ is_some_of-true _ _ won.0) (arriving net r win.0) refl
      where
        granted : (x : ℕ) (claim : Claim) (flit : Bool) (j : ℕ) → j ≡ x → get_or (round_at net F r).grants o None ≡ Some x → ask_of claim ≡ Some o
            → verdict_of net.relation.vcs (round_at net F r) j claim flit ≡ Granted
        granted x Unrouted flit j s g a = absurd (cc a)
        granted x (Waits None) flit j s g a = absurd (cc a)
        granted x (Waits (Some y)) flit j s g a =
            let yo : y ≡ o = cc in
            let t : is_some_of (get_or (round_at net F r).grants y None) j ≡ true = is_some_of-some _ _ (ap (λ z. get_or (round_at net F r).grants z None) yo ∙ g ∙ ap Some (sym s)) in
            rw t
        granted x (Holds n k) flit j s g a = absurd (cc a)

        winner : (x : ℕ) → x < size net → get_or (round_at net F r).grants o None ≡ Some x → ask_of (stand_of net F r (arriving net r x)).claim ≡ Some o
            → (d : Option Channel) → arriving net r x ≡ d
            → (d : Channel) × Has d (all_inputs net) × (verdict_in net F d ≡ Granted)
        winner x lx g a None k = let n : None ≡ Some o = sym (ap (λ y. ask_of (stand_of net F r y).claim) k) ∙ a in absurd (cc n)
        winner x lx g a (Some d) k = (
          d,
          input-has d r x lr lx k,
          verdict-input d r x lr k
              ∙ granted x (claim_of net F r d) (nat_lt 0 (count_in net F d)) (x / net.relation.vcs * net.relation.vcs + x % net.relation.vcs) (div-add-mod' x net.relation.vcs) g (sym (ap (λ y. ask_of (stand_of net F r y).claim) k) ∙ a),
        )

    -- where c is ready, some channel of its router moves a flit
    pub flit-moved : (c : Channel) (r q v o : ℕ) → r < nodes net.relation.grid → q < ports net.relation.grid → v < net.relation.vcs → arriving net r (q * net.relation.vcs + v) ≡ Some c
        → ((d : Channel) (x : ℕ) → claim_of net F r d ≡ Holds x true → x < size net)
        → claim_of net F r c ≡ Holds o true → nat_lt 0 (count_in net F c) ≡ true
        → (d : Channel) × Has d (all_inputs net) × (verdict_in net F d ≡ Moved) × (x : ℕ) × (arriving net r x ≡ Some d)
    flit-moved c r q v o lr lq lv e indices holds flit =
        let router_arbiters : ArbiterStates = arbiters_at net F r in
        let li : q * net.relation.vcs + v < size net = index_below (ports net.relation.grid) net.relation.vcs q v lq lv in
        let is_ready : get_or (ready r) (q * net.relation.vcs + v) None ≡ Some (o / net.relation.vcs)
        = stand-at (λ s. ready_port net.relation.vcs s.claim s.has_flit) None r (q * net.relation.vcs + v) li
        ∙ ap (λ x. ready_port net.relation.vcs (stand_of net F r x).claim (stand_of net F r x).has_flit) e
        ∙ ap (λ b. ready_port net.relation.vcs (claim_of net F r c) b) flit
        ∙ ap (λ x. ready_port net.relation.vcs x true) holds in
        let m = switch-moves (ports net.relation.grid) net.relation.vcs (ready r) (pointers_of router_arbiters.inputs) (pointers_of router_arbiters.outputs) q v (o / net.relation.vcs) lq lv is_ready range in
        let lm : m.0 * net.relation.vcs + m.1 < size net = index_below (ports net.relation.grid) net.relation.vcs m.0 m.1 m.3 m.4 in
        mover m.0 m.1 m.2 m.3 m.4 m.6 m.7 (sym (stand-at (λ s. ready_port net.relation.vcs s.claim s.has_flit) None r (m.0 * net.relation.vcs + m.1) lm) ∙ m.5)
        (arriving net r (m.0 * net.relation.vcs + m.1)) refl
      where
        port-of : (d : Channel) (claim : Claim) (b : Bool) (p : ℕ) → claim_of net F r d ≡ claim → ready_port net.relation.vcs claim b ≡ Some p → p < ports net.relation.grid
        port-of d Unrouted b p k g = absurd (cc g)
        port-of d (Waits a) b p k g = absurd (cc g)
        port-of d (Holds x false) b p k g = absurd (cc g)
        port-of d (Holds x true) false p k g = absurd (cc g)
        port-of d (Holds x true) true p k g = let same : x / net.relation.vcs ≡ p = cc in let l = port_below (ports net.relation.grid) net.relation.vcs x built.vcs (indices d x k) in omega arith

        port-at : (d : Option Channel) (p : ℕ) → ready_port net.relation.vcs (stand_of net F r d).claim (stand_of net F r d).has_flit ≡ Some p → p < ports net.relation.grid
        port-at None p g = absurd (cc g)
        port-at (Some d) p g = port-of d (claim_of net F r d) (nat_lt 0 (count_in net F d)) p refl g

        range : (i p : ℕ) → get_or (ready r) i None ≡ Some p → p < ports net.relation.grid
        range i p g = at (cases_lt i (size net))
          where
            at : (i < size net) ⊎ (size net ≤ i) → p < ports net.relation.grid
            at (inl l) = port-at (arriving net r i) p (sym (stand-at (λ s. ready_port net.relation.vcs s.claim s.has_flit) None r i l) ∙ g)
            at (inr u) = let n : None ≡ Some p = sym (stand-past (λ s. ready_port net.relation.vcs s.claim s.has_flit) None r i u) ∙ g in absurd (cc n)

        mover : (q' v' p : ℕ) → q' < ports net.relation.grid → v' < net.relation.vcs → get_or (round_at net F r).picks q' None ≡ Some v' → get_or (round_at net F r).wins p None ≡ Some q'
            → ready_port net.relation.vcs (stand_of net F r (arriving net r (q' * net.relation.vcs + v'))).claim (stand_of net F r (arriving net r (q' * net.relation.vcs + v'))).has_flit ≡ Some p
            → (d : Option Channel) → arriving net r (q' * net.relation.vcs + v') ≡ d
            → (d : Channel) × Has d (all_inputs net) × (verdict_in net F d ≡ Moved) × (x : ℕ) × (arriving net r x ≡ Some d)
        mover q' v' p lq' lv' pick win g None k =
            let n : None ≡ Some p = sym (ap (λ x. ready_port net.relation.vcs (stand_of net F r x).claim (stand_of net F r x).has_flit) k) ∙ g in absurd (cc n)
        mover q' v' p lq' lv' pick win g (Some d) k =
            let i : ℕ = q' * net.relation.vcs + v' in (
              d,
              input-has d r (q' * net.relation.vcs + v') lr (index_below (ports net.relation.grid) net.relation.vcs q' v' lq' lv') k,
              verdict-input d r (q' * net.relation.vcs + v') lr k
                  ∙ ap (λ j. verdict_of net.relation.vcs (round_at net F r) j (claim_of net F r d) (nat_lt 0 (count_in net F d))) (div-add-mod' (q' * net.relation.vcs + v') net.relation.vcs)
                  ∙ moves-at net.relation.vcs q' v' p (round_at net F r) (claim_of net F r d) (nat_lt 0 (count_in net F d)) lv'
                  (sym (ap (λ x. ready_port net.relation.vcs (stand_of net F r x).claim (stand_of net F r x).has_flit) k) ∙ g) pick win,
              q' * net.relation.vcs + v',
              k,
            )
