-- What leaves the routers of a network in a cycle is on the wires at the next count, bit by bit.
use Rattle.std.proofs.Common.{◌≡◌, ℕ, suc, ◌+◌, ◌*◌, ◌/◌, ◌%◌, ◌<◌, Bool, true, false, List, Option, Some, None, refl, ap, ap₂, sym, ◌∙◌, subst, arith}
use Rattle.std.specs.Prelude.{option_and_then, option_map, is_some, nat_eq, if◌then◌else◌}
use Rattle.noc_view.proofs.PlanLemmas.{Mover, mover-is}
use Rattle.noc_view.proofs.MoverLemmas.{flit-first}
use Rattle.noc_sets.specs.Gather.{comes_over, is_over}
use Rattle.noc_theory_bits.proofs.Common.{eq-eqb, eqb-true, div-add-mod', div-mul-add, mod-mul-add, mod_below, mul-add-lt, is_some_of, nodes, ports, neighbour, has_bit, Beat, Flit, Routes, Claim, out_of, Site, View, size_of, view_claim, view_round, first_flit, flit_out, is_tail, beat_out, mover, mover_to, decisions_of, lists_of_round, CYCLE_LIMIT, IsGoodSetup, beats_at, beats_in, site_at, Setup, size, state_at, flit_from, flit_on_vc, credit_from, Links, beat_of, ShowsBeat, ShowsLeaving, frozen_of}
use Rattle.noc_theory_bits.proofs.network.NetworkLemmas.{good, frozen-seen}
use Rattle.noc_theory_bits.proofs.network.PutLemmas.{credit-put}
use Rattle.noc_theory_bits.proofs.network.SteadyLemmas.{same-truth}
use Rattle.noc_theory_bits.proofs.wiring.LinkLemmas.{put_by, flit-came, credit-came}
use Rattle.noc_theory_bits.specs.Wires.{is_tail_of}

-- ---- of one router: the flit on a virtual channel of a beat, and the input channel that moves to the output channel
module _ (relation : Routes) (v : View) (port vc : ℕ) (low : port < ports v.site.grid) (u : vc < v.site.vcs) where
  -- a test of both that a flit passes as its channel does
  same-left : (test : Option Flit → Bool) (test_at : Option ℕ → Bool) → test None ≡ false → test_at None ≡ false
      → ((i : ℕ) (f : Flit) → first_flit v i ≡ Some f → test (Some f) ≡ test_at (Some i))
      → test (flit_on_vc vc (beat_out (decisions_of relation v) v port).flit) ≡ test_at (mover_to v (view_round v) (port * v.site.vcs + vc))
  unfolding decisions_of
  same-left test test_at none none_at same = by (mover v.site (view_round v) port) refl
    where
      Out : Option ℕ → Option (ℕ × Flit)
      Out m = option_and_then (λ i. option_and_then (λ o. option_map (λ f. (o % v.site.vcs, f)) (first_flit v i)) (out_of (view_claim v i))) m

      To : Option ℕ → Option ℕ
      To m = option_and_then (λ i. if is_some_of (out_of (view_claim v i)) (port * v.site.vcs + vc) then Some i else None) m

      to : mover_to v (view_round v) (port * v.site.vcs + vc) ≡ To (mover v.site (view_round v) port)
      to = ap (λ q. To (mover v.site (view_round v) q)) (div-mul-add port v.site.vcs vc u)

      by : (m : Option ℕ) → mover v.site (view_round v) port ≡ m → test (flit_on_vc vc (flit_out v (view_round v) port)) ≡ test_at (mover_to v (view_round v) (port * v.site.vcs + vc))
      by None e = ap (λ m. test (flit_on_vc vc (Out m))) e ∙ none ∙ sym (ap test_at (to ∙ ap To e) ∙ none_at)
      by (Some i) e =
          let m : Mover (decisions_of relation v) v port i = mover-is (decisions_of relation v) v port i (lists_of_round relation v) low e in
          let f = flit-first v i m.flit in
          let out : Out (Some i) ≡ Some (m.out % v.site.vcs, f.0) = ap (λ (c : Claim). option_and_then (λ o. option_map (λ f. (o % v.site.vcs, f)) (first_flit v i)) (out_of c)) m.claim ∙ ap (option_map (λ f. (m.out % v.site.vcs, f))) f.1 in
          let in_of : To (Some i) ≡ (if nat_eq m.out (port * v.site.vcs + vc) then Some i else None) = ap (λ (c : Claim). if is_some_of (out_of c) (port * v.site.vcs + vc) then Some i else None) m.claim in
          ap (λ m. test (flit_on_vc vc (Out m))) e ∙ ap (λ (x : Option (ℕ × Flit)). test (flit_on_vc vc x)) out ∙ ap (λ b. test (if b then Some f.0 else None)) (place m.out m.to)
          ∙ either (nat_eq m.out (port * v.site.vcs + vc)) f.0 f.1 ∙ sym (ap test_at (to ∙ ap To e ∙ in_of))
        where
          place : (o : ℕ) → o / v.site.vcs ≡ port → nat_eq (o % v.site.vcs) vc ≡ nat_eq o (port * v.site.vcs + vc)
          place o t =
              same-truth (nat_eq (o % v.site.vcs) vc) (nat_eq o (port * v.site.vcs + vc))
              (λ a. eq-eqb o (port * v.site.vcs + vc) (sym (div-add-mod' o v.site.vcs) ∙ ap₂ (λ q w. q * v.site.vcs + w) t (eqb-true (o % v.site.vcs) vc a)))
              (λ a. eq-eqb (o % v.site.vcs) vc (ap (λ k. k % v.site.vcs) (eqb-true o (port * v.site.vcs + vc) a) ∙ mod-mul-add port v.site.vcs vc u))

          either : (b : Bool) (f : Flit) → first_flit v i ≡ Some f → test (if b then Some f else None) ≡ test_at (if b then Some i else None)
          either true f first = same i f first
          either false f first = none ∙ sym none_at

  pub flit-left : is_some (flit_on_vc vc (beat_out (decisions_of relation v) v port).flit) ≡ is_some (mover_to v (view_round v) (port * v.site.vcs + vc))
  flit-left = same-left (λ f. is_some f) (λ m. is_some m) refl refl (λ i f e. refl)

  pub tail-left : is_tail (flit_on_vc vc (beat_out (decisions_of relation v) v port).flit) ≡ is_tail_of v (mover_to v (view_round v) (port * v.site.vcs + vc))
  tail-left = same-left is_tail (is_tail_of v) refl refl (λ i f e. ap is_tail (sym e))

-- ---- of a router of a network
module _ (net : Setup) (setup : IsGoodSetup net) (n : ℕ) where
  some-vcs : 0 < net.relation.vcs
  some-vcs = (good net setup).relation.table.some_vcs

  -- what leaves it by a port is the beat that it puts
  module _ (s : ℕ) (known : s < nodes net.relation.grid) (left : Links) (shows : ShowsLeaving (frozen_of net n s) left) (port : ℕ) (low : port < ports net.relation.grid) where
    same-site : (frozen_of net n s).site ≡ site_at net s
    same-site = (frozen-seen net setup n s known).site

    in-size : (vc : ℕ) → vc < net.relation.vcs → port * net.relation.vcs + vc < size net
    in-size vc u = let m = mul-add-lt port net.relation.vcs vc (ports net.relation.grid) low u in omega (arith, m)

    abbrev Says : Site → Type 0
    Says site = port < ports site.grid → (vc : ℕ) → vc < site.vcs → port * site.vcs + vc < size_of site
        → (has_bit left.flits (port * site.vcs + vc) ≡ is_some (flit_on_vc vc (beat_of net n s port).flit))
        × (has_bit left.tails (port * site.vcs + vc) ≡ is_tail (flit_on_vc vc (beat_of net n s port).flit))
        × (has_bit left.credits (port * site.vcs + vc) ≡ is_some_of (beat_of net n s port).credit vc)

    says : Says (site_at net s)
    says =
        subst Says same-site
        (λ p vc u k. (
          shows.flits (port * (frozen_of net n s).site.vcs + vc) k ∙ sym (flit-left net.relation (frozen_of net n s) port vc p u),
          shows.tails (port * (frozen_of net n s).site.vcs + vc) k ∙ sym (tail-left net.relation (frozen_of net n s) port vc p u),
          sym (credit-put net.relation (frozen_of net n s) left.credits (subst (λ (x : Site). 0 < x.vcs) (sym same-site) some-vcs) (record { each = shows.credits }) port vc p u),
        ))

    pub beat-shown : ShowsBeat net.relation.vcs port (beat_of net n s port) left
    beat-shown = record {
      flits = λ vc u. (says low vc u (in-size vc u)).0;
      tails = λ vc u. (says low vc u (in-size vc u)).1;
      credits = λ vc u. (says low vc u (in-size vc u)).2;
    }

  -- what its neighbours put is on its wires at the next count
  module _ (few : n < CYCLE_LIMIT) (left : ℕ → Links) (r : ℕ) (l : r < nodes net.relation.grid)
      (shows : (q s port : ℕ) → neighbour net.relation.grid r q ≡ Some (s, port) → ShowsBeat net.relation.vcs port (beat_of net n s port) (left s)) where
    abbrev pub next : List Beat
    next = beats_at (beats_in net (state_at net (suc n))) r

    -- the beat at the other end of the link of a channel
    other : (i to port : ℕ) → neighbour net.relation.grid r (i / net.relation.vcs) ≡ Some (to, port) → ShowsBeat net.relation.vcs port (beat_of net n to port) (left to)
    other i to port e = shows (i / net.relation.vcs) to port e

    low : (i : ℕ) → i % net.relation.vcs < net.relation.vcs
    low i = mod_below i net.relation.vcs some-vcs

    -- the flits that come, the tails among them, and the credits
    pub flits-over : (i : ℕ) → is_some (flit_from net.relation.vcs 0 next i) ≡ comes_over net.relation.grid net.relation.vcs (λ s. (left s).flits) r i
    flits-over i = ap (λ (f : Option Flit). is_some f) (flit-came net setup n few r l i) ∙ by (neighbour net.relation.grid r (i / net.relation.vcs)) refl
      where
        by : (o : Option (ℕ × ℕ)) → neighbour net.relation.grid r (i / net.relation.vcs) ≡ o → is_some (flit_on_vc (i % net.relation.vcs) (put_by net setup n o).flit) ≡ is_over net.relation.vcs (λ s. (left s).flits) (i % net.relation.vcs) o
        by None e = refl
        by (Some (to, port)) e = sym ((other i to port e).flits (i % net.relation.vcs) (low i))

    pub tails-over : (i : ℕ) → is_tail (flit_from net.relation.vcs 0 next i) ≡ comes_over net.relation.grid net.relation.vcs (λ s. (left s).tails) r i
    tails-over i = ap is_tail (flit-came net setup n few r l i) ∙ by (neighbour net.relation.grid r (i / net.relation.vcs)) refl
      where
        by : (o : Option (ℕ × ℕ)) → neighbour net.relation.grid r (i / net.relation.vcs) ≡ o → is_tail (flit_on_vc (i % net.relation.vcs) (put_by net setup n o).flit) ≡ is_over net.relation.vcs (λ s. (left s).tails) (i % net.relation.vcs) o
        by None e = refl
        by (Some (to, port)) e = sym ((other i to port e).tails (i % net.relation.vcs) (low i))

    pub credits-over : (o : ℕ) → credit_from net.relation.vcs 0 next o ≡ comes_over net.relation.grid net.relation.vcs (λ s. (left s).credits) r o
    credits-over o = credit-came net setup n few r l o ∙ by (neighbour net.relation.grid r (o / net.relation.vcs)) refl
      where
        by : (x : Option (ℕ × ℕ)) → neighbour net.relation.grid r (o / net.relation.vcs) ≡ x → is_some_of (put_by net setup n x).credit (o % net.relation.vcs) ≡ is_over net.relation.vcs (λ s. (left s).credits) (o % net.relation.vcs) x
        by None e = refl
        by (Some (to, port)) e = sym ((other o to port e).credits (o % net.relation.vcs) (low o))
