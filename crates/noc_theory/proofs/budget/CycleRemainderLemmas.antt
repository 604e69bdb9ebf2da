-- Each cycle lowers the remainder by the number of its events.
use Rattle.std.proofs.Common.{◌≡◌, ℕ, ◌+◌, ◌<◌, true, false, List, [], ◌∷◌, map, length, Option, Some, None, refl, ap, sym, ◌∙◌, arith, ⊎_elim}
use Rattle.std.specs.Prelude.{find, nat_eq, count_by, ◌&&◌}
use Rattle.noc_view.proofs.MoverLemmas.{quiet-moved}
use Rattle.noc_theory.proofs.Common.{true≢false, AllByRecursion, after_injection, In, Injection, Located, Setup, State, after_credits, after_landing, all_inputs, end_distance, front_in, frozen_state, has_channel, injected_place, injections, is_the_flit, landed_place, network_cycle, next_channel, packet_at, verdict_in, events, head_place, is_flying, remainder, Channel, Eject, Link, same_channel, is_event, is_moved, Granted, Routed, Has}
use Rattle.noc_theory.proofs.worms.BufferLemmas.{same_flit, IsDistinct}
use Rattle.noc_theory.proofs.budget.NextPhaseLemmas.{HeadsHold, next-stays, next-given}
use Rattle.noc_theory.proofs.budget.RemainderPhaseLemmas.{FliesRight, FreesBehind, landing-falls, credits-fall}
use Rattle.noc_theory.proofs.budget.InjectionProgressLemmas.{IsApart, StartsFresh, injections-fall}
use Rattle.noc_theory.proofs.budget.MovePhaseLemmas.{MovesNear}
use Rattle.noc_theory.proofs.budget.AllocationPhaseLemmas.{AllocationsRight, routed-before, verdicts-fall}

-- a step that keeps packet and index keeps flits apart
pub distinct-map : (net : Setup) (step : Located → Located) → ((f : Located) → (step f).packet ≡ f.packet) → ((f : Located) → (step f).index ≡ f.index)
    → (fs : List Located) → IsDistinct (same_flit) fs → IsDistinct (same_flit) (map step fs)
distinct-map net step packets indices [] d = tt
distinct-map net step packets indices (f ∷ fs) d = (each fs d.0, distinct-map net step packets indices fs d.1)
  where
    each : (gs : List Located) → AllByRecursion (λ g. same_flit g f ≡ false) gs → AllByRecursion (λ g. same_flit g (step f) ≡ false) (map step gs)
    each [] all = tt
    each (g ∷ gs) all = (rw (packets g, packets f, indices g, indices f) all.0, each gs all.1)

module _ (net : Setup) (n : ℕ) (F : State) where
  -- how heads stand in the frozen state
  pub record HeadsRight : Type 0 where
    pub holds : HeadsHold net n F
    -- no channel is twice among all
    pub once : IsApart same_channel (all_inputs net)
    -- a head stands before all other flits of its buffer, and one stands where a channel is routed
    pub goes_first : (p : ℕ) (c : Channel) (f : Located) → p < length net.packets → f.place ≡ In c → find (λ (g : Located). nat_eq p g.packet && nat_eq 0 g.index) F.at ≡ Some f
        → is_the_flit net f (front_in net F c) ≡ true
    pub at_routes : (c : Channel) → Has c (all_inputs net) → verdict_in net F c ≡ Routed → (p : ℕ) × (p < length net.packets) × (head_place net F p ≡ In c)
    -- the next channel of a head's channel is one nearer, or the destination's
    pub near : (p : ℕ) (c : Channel) (r q v : ℕ) → p < length net.packets → head_place net F p ≡ In c → next_channel net F c ≡ Some (Link r q v)
        → end_distance net.relation (Link r q v) (packet_at net p).destination + 1 ≡ end_distance net.relation c (packet_at net p).destination
    pub near_end : (p : ℕ) (c : Channel) (m v : ℕ) → p < length net.packets → head_place net F p ≡ In c → next_channel net F c ≡ Some (Eject m v) → end_distance net.relation c (packet_at net p).destination ≡ 0

  pub allocations-right : HeadsRight → AllocationsRight net n F
  allocations-right right = record {
    once = right.once;
    listed = right.holds.listed;
    one_head = λ p q c lp lq hp hq. let s : Some p ≡ Some q = sym (right.holds.held p c lp hp) ∙ right.holds.held q c lq hq in cc;
    goes_first = right.goes_first;
    at_heads = λ c h v. ⊎_elim (right.at_routes c h) (right.holds.at_grants c h) v;
    near = right.near;
    near_end = right.near_end;
    next_routed = λ p c l here e. next-stays net n F right.holds p l c here (ap (is_moved) e) (λ g. let z : Routed ≡ Granted = sym e ∙ g in cc) ∙ unrouted c (next_channel net F c) refl (routed-before net F c e);
    next_granted = λ p c l here e. next-given net n F right.holds p l c here (ap (is_moved) e) e;
    next_kept = λ p c l here e. next-stays net n F right.holds p l c here (quiet-moved (verdict_in net F c) e) (λ g. true≢false (sym (ap (is_event) g) ∙ e));
  }
    where
      unrouted : (c : Channel) (next : Option Channel) → next_channel net F c ≡ next → has_channel F.routed c ≡ false → next ≡ None
      unrouted c None k e = refl
      unrouted c (Some o) k e = absurd (true≢false (sym (right.holds.routed c o k) ∙ e))

module _ (net : Setup) (n : ℕ) (S : State) where
  abbrev credited : State
  credited = after_credits net (after_landing net S)

  -- what is assumed of a cycle that begins in S
  pub record IsCountable : Type 0 where
    pub flies : FliesRight net S
    pub frees : FreesBehind net (after_landing net S)
    pub starts : StartsFresh net n credited
    pub heads : HeadsRight net n (frozen_state net n S)
    pub moves : MovesNear net n (frozen_state net n S)

  -- each cycle lowers the remainder by the number of its events
  pub cycle-falls : IsCountable → IsDistinct (same_flit) S.at → remainder net S ≡ remainder net (network_cycle net n S) + events net n S
  unfolding after_landing after_credits after_injection frozen_state network_cycle
  cycle-falls ok distinct =
      let d : IsDistinct (same_flit) credited.at = distinct-map net (λ (f : Located). record f { place = landed_place net f.place }) (λ f. refl) (λ f. refl) S.at distinct in
      let e : IsDistinct (same_flit) (frozen_state net n S).at
      = distinct-map net (λ (f : Located). record f { place = injected_place net credited f (find (λ (one : Injection net). nat_eq one.packet f.packet) (injections net credited n)) }) (λ f. refl) (λ f. refl) credited.at d in
      let a : remainder net (after_landing net S) + count_by (λ (f : Located). is_flying f.place) S.at ≡ remainder net S = landing-falls net S ok.flies in
      let b : remainder net credited + length S.back ≡ remainder net (after_landing net S) = credits-fall net (after_landing net S) ok.frees in
      let c : remainder net (frozen_state net n S) + length (injections net credited n) ≡ remainder net credited = injections-fall net n credited ok.starts d in
      let v : remainder net (network_cycle net n S) + count_by (λ c. is_event (verdict_in net (frozen_state net n S) c)) (all_inputs net) ≡ remainder net (frozen_state net n S)
      = verdicts-fall net n (frozen_state net n S) (allocations-right net n (frozen_state net n S) ok.heads) ok.moves e refl in
      sums _ _ _ _ _ _ _ _ _ a b c v
    where
      sums : (s l t f r x1 x2 x3 x4 : ℕ) → l + x1 ≡ s → t + x2 ≡ l → f + x3 ≡ t → r + x4 ≡ f → s ≡ r + (x1 + x2 + x3 + x4)
      sums s l t f r x1 x2 x3 x4 a b c v = omega arith
