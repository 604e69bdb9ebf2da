-- The channels of a view that move a flit: each is the mover of its output port, and what leaves by
-- the port is its first flit.
use Rattle.std.proofs.Common.{◌≡◌, ℕ, ◌+◌, ◌*◌, ◌/◌, ◌%◌, ◌<◌, ◌≤◌, Bool, true, false, List, [], ◌∷◌, Option, Some, None, refl, ap, ap₂, sym, ◌∙◌, arith, get_or, inl, inr, length}
use Rattle.std.specs.Prelude.{◌⊎◌, ◌&&◌, not, is_some, drop, option_and_then, option_map, slice_get, slice_index, if◌then◌else◌}
use Rattle.noc_alloc.specs.Allocation.{pick_of, winner_of}
use Rattle.noc_alloc.proofs.ArbiterLemmas.{first_in_turn-picks}
use Rattle.noc_alloc.proofs.WordLemmas.{is_some_of-true, is_some_of-some}
use Rattle.noc_view.specs.Verdict.{ready_of}
use Rattle.noc_view.proofs.PlanLemmas.{Mover, Moves, claim-holds, mover-is, moves-is, verdict-moved, decided-is, verdict_in, holds_flit}
use Rattle.noc_view.proofs.MoverLemmas.{flit-first, is_moved-true, port_below}
use Rattle.noc_view.proofs.StandLemmas.{ready_of-stands}
use Rattle.noc_theory_bits.proofs.Common.{and_parts, cases_lt, false≢true, get_or_past, div-add-mod', none-some, same_Some, is_some_of, tabulate, ports, local_port, get_or-tabulate, length-tabulate, has_bit, Flit, Beat, Routes, pointers_of, is_empty, has_credit, InputState, Idle, Waiting, Active, is_expected_in, arrivals_after, is_won_from, Claim, Round, out_of, ready_port, is_moved, Moved, Site, View, size_of, view_buffer, view_input, view_output, view_claim, claim_in, view_round, view_stands, first_flit, flit_out, idle_beat, beat_out, mover, decisions_of, view_after_commit, decided_verdict, with_arrival, with_misfit, tail_packet, lists_of_round, HasSize, AreMoved}
use Rattle.noc_theory_bits.proofs.routers.CommittedLemmas.{buffer-committed}
use Rattle.noc_theory_bits.proofs.network.GiveBackLemmas.{credit-left}

-- input channel k of a router moves its first flit
pub record IsMover (site : Site) (v : View) (k : ℕ) : Type 0 where
  pub channel : k < size_of site
  pub out : ℕ
  pub phase : (view_input v k).phase ≡ Active out
  pub credit : has_credit (view_output v out) ≡ true
  pub flit : Flit
  pub rest : List Flit
  pub buffer : view_buffer v k ≡ flit ∷ rest
  pub alone : mover site (view_round v) (out / site.vcs) ≡ Some k
  pub put : flit_out v (view_round v) (out / site.vcs) ≡ Some (out % site.vcs, flit)

-- what leaves by a port is the first flit of a channel that moves
pub record IsPut (site : Site) (v : View) (moved port vc : ℕ) (f : Flit) : Type 0 where
  pub channel : ℕ
  pub bit : has_bit moved channel ≡ true
  pub mover : IsMover site v channel
  pub by_port : mover.out / site.vcs ≡ port
  pub by_vc : mover.out % site.vcs ≡ vc
  pub is : mover.flit ≡ f

-- an arrival puts no beat
arrival-puts : (p : Option ℕ) (v : View) → (with_arrival p v).to_put ≡ v.to_put
arrival-puts None v = refl
arrival-puts (Some p) v = at (is_expected_in p v.ends)
  where
    at : (b : Bool) → (if b then record v { ends = arrivals_after p v.given v.ends } else with_misfit v).to_put ≡ v.to_put
    at true = refl
    at false = refl

pub beat-next : (relation : Routes) (v : View) (port : ℕ) → port < local_port v.site.grid → get_or (view_after_commit (decisions_of relation v) v).to_put port idle_beat ≡ beat_out (decisions_of relation v) v port
unfolding view_after_commit
beat-next relation v port l =
    ap (λ (beats : List Beat). get_or beats port idle_beat) (arrival-puts (tail_packet (flit_out v (decisions_of relation v).round (local_port v.site.grid))) _)
    ∙ get_or-tabulate (local_port v.site.grid) port (beat_out (decisions_of relation v) v) idle_beat l

module _ (relation : Routes) (v : View) (moved : ℕ) (some_vc : 0 < v.site.vcs) (are : AreMoved v moved) where
  same-round : (decisions_of relation v).round ≡ view_round v
  unfolding decisions_of
  same-round = refl

  -- a mover by the verdicts
  from-verdict : (k : ℕ) → k < size_of v.site → verdict_in (decisions_of relation v) v k ≡ Moved → IsMover v.site v k
  from-verdict k l e =
      let m : Moves (decisions_of relation v) v k = moves-is (decisions_of relation v) v k some_vc e in
      let first = flit-first v k m.flit in
      by m (view_buffer v k) refl first.0 first.1
    where
      by : (m : Moves (decisions_of relation v) v k) (flits : List Flit) → view_buffer v k ≡ flits → (f : Flit) → first_flit v k ≡ Some f → IsMover v.site v k
      by m [] b f e = let z : first_flit v k ≡ None = ap (λ (fs : List Flit). slice_get fs 0) b in absurd (let y : None ≡ Some f = sym z ∙ e in cc y)
      by m (g ∷ rest) b f e =
          let first : first_flit v k ≡ Some g = ap (λ (fs : List Flit). slice_get fs 0) b in
          let alone : mover v.site (view_round v) (m.out / v.site.vcs) ≡ Some k = ap (λ r. mover v.site r (m.out / v.site.vcs)) (sym same-round) ∙ m.mover in
          record {
            channel = l;
            out = m.out;
            phase = m.phase;
            credit = m.credit;
            flit = g;
            rest = rest;
            buffer = b;
            alone = alone;
            put = ap (option_and_then (λ i. option_and_then (λ o. option_map (λ f. (o % v.site.vcs, f)) (first_flit v i)) (out_of (view_claim v i)))) alone
                ∙ ap (λ (c : Claim). option_and_then (λ o. option_map (λ f. (o % v.site.vcs, f)) (first_flit v k)) (out_of c)) m.claim
                ∙ ap (option_map (λ f. (m.out % v.site.vcs, f))) first;
          }

  -- a channel that moves has that verdict
  bit-verdict : (k : ℕ) → k < size_of v.site → has_bit moved k ≡ true → verdict_in (decisions_of relation v) v k ≡ Moved
  bit-verdict k l e = by (view_input v k).phase refl
    where
      parts : (is_some_of (get_or (view_round v).picks (k / v.site.vcs) None) (k % v.site.vcs) ≡ true) × (is_won_from v (view_round v) k (view_input v k).phase ≡ true)
      parts = and_parts _ _ (sym (are.each k l) ∙ e)

      by : (phase : InputState) → (view_input v k).phase ≡ phase → verdict_in (decisions_of relation v) v k ≡ Moved
      by Idle p = absurd (false≢true (sym (ap (is_won_from v (view_round v) k) p) ∙ parts.1))
      by (Waiting set) p = absurd (false≢true (sym (ap (is_won_from v (view_round v) k) p) ∙ parts.1))
      by (Active o) p = (mover-is (decisions_of relation v) v (o / v.site.vcs) k (lists_of_round relation v) below (ap (λ r. mover v.site r (o / v.site.vcs)) same-round ∙ lead)).verdict
        where
          won : get_or (view_round v).wins (o / v.site.vcs) None ≡ Some (k / v.site.vcs)
          won = is_some_of-true _ (k / v.site.vcs) (sym (ap (is_won_from v (view_round v) k) p) ∙ parts.1)

          lead : mover v.site (view_round v) (o / v.site.vcs) ≡ Some k
          lead =
              ap (option_and_then (λ q. option_map (λ vc. q * v.site.vcs + vc) (get_or (view_round v).picks q None))) won
              ∙ ap (option_map (λ vc. k / v.site.vcs * v.site.vcs + vc)) (is_some_of-true _ (k % v.site.vcs) parts.0)
              ∙ ap Some (div-add-mod' k v.site.vcs)

          wins : (view_round v).wins ≡ tabulate (ports v.site.grid) (winner_of (ready_of v.site.vcs (view_stands v)) v.site.vcs (ports v.site.grid) (decisions_of relation v).round.picks (pointers_of v.arbiters.outputs))
          wins = ap (λ (r : Round). r.wins) (sym same-round) ∙ (lists_of_round relation v).wins

          below : o / v.site.vcs < ports v.site.grid
          below = at (cases_lt (o / v.site.vcs) (ports v.site.grid))
            where
              at : (o / v.site.vcs < ports v.site.grid) ⊎ (ports v.site.grid ≤ o / v.site.vcs) → o / v.site.vcs < ports v.site.grid
              at (inl l) = l
              at (inr past) =
                  let many : length (view_round v).wins ≡ ports v.site.grid = ap length wins ∙ length-tabulate (ports v.site.grid) _ in
                  absurd (none-some (k / v.site.vcs) (sym (get_or_past (view_round v).wins (o / v.site.vcs) None (omega (arith, many, past))) ∙ won))

  pub bit-moves : (k : ℕ) → k < size_of v.site → has_bit moved k ≡ true → IsMover v.site v k
  bit-moves k l e = from-verdict k l (bit-verdict k l e)

  verdict-bit : (k : ℕ) → k < size_of v.site → verdict_in (decisions_of relation v) v k ≡ Moved → has_bit moved k ≡ true
  verdict-bit k l e =
      let m = verdict-moved v.site.vcs (decisions_of relation v).round k (view_claim v k) (holds_flit v k) e in
      let phase : (view_input v k).phase ≡ Active m.0 = (claim-holds v (view_input v k).phase m.0 true m.1).0 in
      let pick : get_or (view_round v).picks (k / v.site.vcs) None ≡ Some (k % v.site.vcs) = ap (λ (r : Round). get_or r.picks (k / v.site.vcs) None) (sym same-round) ∙ m.3 in
      let won : get_or (view_round v).wins (m.0 / v.site.vcs) None ≡ Some (k / v.site.vcs) = ap (λ (r : Round). get_or r.wins (m.0 / v.site.vcs) None) (sym same-round) ∙ m.4 in
      are.each k l ∙ ap₂ (λ a b. a && b) (is_some_of-some _ (k % v.site.vcs) pick) (ap (is_won_from v (view_round v) k) phase ∙ is_some_of-some _ (k / v.site.vcs) won)

  -- what is decided of a channel
  pub decided-moves : (k : ℕ) → k < size_of v.site → is_moved (decided_verdict (decisions_of relation v) k) ≡ has_bit moved k
  decided-moves k l = ap is_moved (decided-is (decisions_of relation v) v k (lists_of_round relation v) l) ∙ same (is_moved (verdict_in (decisions_of relation v) v k)) refl (has_bit moved k) refl
    where
      same : (a : Bool) → is_moved (verdict_in (decisions_of relation v) v k) ≡ a → (b : Bool) → has_bit moved k ≡ b → is_moved (verdict_in (decisions_of relation v) v k) ≡ has_bit moved k
      same true a b e = a ∙ sym (verdict-bit k l (is_moved-true _ a))
      same false a true e = absurd (false≢true (sym a ∙ ap is_moved (bit-verdict k l e)))
      same false a false e = a ∙ sym e

  -- ---- what is put
  -- the pick of a port is ready
  ready : (k : ℕ) → k < size_of v.site → is_some_of (get_or (view_round v).picks (k / v.site.vcs) None) (k % v.site.vcs) ≡ true → is_some (ready_port v.site.vcs (view_claim v k) (not (is_empty (view_buffer v k)))) ≡ true
  unfolding view_round
  ready k l e =
      let port : k / v.site.vcs < ports v.site.grid = port_below v k some_vc l in
      let is : get_or (view_round v).picks (k / v.site.vcs) None ≡ Some (k % v.site.vcs) = is_some_of-true _ (k % v.site.vcs) e in
      let picked : pick_of (ready_of v.site.vcs (view_stands v)) v.site.vcs (pointers_of v.arbiters.inputs) (k / v.site.vcs) ≡ Some (k % v.site.vcs)
      = sym (get_or-tabulate (ports v.site.grid) (k / v.site.vcs) (pick_of (ready_of v.site.vcs (view_stands v)) v.site.vcs (pointers_of v.arbiters.inputs)) None port) ∙ is in
      let asks = first_in_turn-picks v.site.vcs (slice_index (pointers_of v.arbiters.inputs) (k / v.site.vcs)) (k % v.site.vcs) (λ c. is_some (get_or (ready_of v.site.vcs (view_stands v)) (k / v.site.vcs * v.site.vcs + c) None)) picked in
      sym (ap is_some (ap (λ xs. get_or xs k None) (ready_of-stands v) ∙ get_or-tabulate (size_of v.site) k (λ i. ready_port v.site.vcs (view_claim v i) (not (is_empty (view_buffer v i)))) None l))
      ∙ ap (λ i. is_some (get_or (ready_of v.site.vcs (view_stands v)) i None)) (sym (div-add-mod' k v.site.vcs)) ∙ asks.0

  -- the flit of a beat is that of a channel that moves
  pub flit-put : (port vc : ℕ) (f : Flit) → port < ports v.site.grid → (beat_out (decisions_of relation v) v port).flit ≡ Some (vc, f) → IsPut v.site v moved port vc f
  flit-put port vc f l e = by (mover v.site (decisions_of relation v).round port) refl
    where
      by : (o : Option ℕ) → mover v.site (decisions_of relation v).round port ≡ o → IsPut v.site v moved port vc f
      by None m = absurd (none-some (vc, f) (sym (ap (option_and_then (λ i. option_and_then (λ o. option_map (λ g. (o % v.site.vcs, g)) (first_flit v i)) (out_of (view_claim v i)))) m) ∙ e))
      by (Some k) m =
          let mv : Mover (decisions_of relation v) v port k = mover-is (decisions_of relation v) v port k (lists_of_round relation v) l m in
          let one : IsMover v.site v k = from-verdict k mv.within mv.verdict in
          let lead : Some one.out ≡ Some mv.out = sym (ap (λ (p : InputState). out_of (claim_in v p)) one.phase) ∙ ap out_of mv.claim in
          let out : one.out ≡ mv.out = same_Some _ _ lead in
          let to : one.out / v.site.vcs ≡ port = ap (λ o. o / v.site.vcs) out ∙ mv.to in
          let same : (one.out % v.site.vcs, one.flit) ≡ (vc, f) = same_Some _ _ (sym one.put ∙ ap (λ r. flit_out v r (one.out / v.site.vcs)) (sym same-round) ∙ ap (flit_out v (decisions_of relation v).round) to ∙ e) in
          record {
            channel = k;
            bit = verdict-bit k mv.within mv.verdict;
            mover = one;
            by_port = to;
            by_vc = ap (λ (x : ℕ × Flit). x.0) same;
            is = ap (λ (x : ℕ × Flit). x.1) same;
          }

  -- the credit of a beat is that of the channel of the port that moves
  pub credit-put : (port vc : ℕ) → port < ports v.site.grid → vc < v.site.vcs → is_some_of (beat_out (decisions_of relation v) v port).credit vc ≡ has_bit moved (port * v.site.vcs + vc)
  credit-put port vc l u = credit-left relation v moved some_vc are ready port vc l u

  -- ---- after the verdicts
  pub buffer-next : HasSize v → (k : ℕ) → k < size_of v.site → view_buffer (view_after_commit (decisions_of relation v) v) k ≡ (if has_bit moved k then drop 1 (view_buffer v k) else view_buffer v k)
  buffer-next size k l = buffer-committed (decisions_of relation v) v size k l ∙ ap (λ b. if b then drop 1 (view_buffer v k) else view_buffer v k) (decided-moves k l)
