-- What each channel can do, and its verdict.
use Rattle.std.proofs.Common.{◌≡◌, ℕ, ◌+◌, ◌*◌, ◌/◌, ◌%◌, ◌^◌, ◌<◌, ◌≤◌, Bool, true, false, length, Option, Some, None, refl, ap, sym, ◌∙◌, arith, bit_and, bit_or, get_or}
use Rattle.std.specs.Prelude.{◌&&◌, ◌||◌, not, is_some, slice_index, slice_index_or}
use Rattle.std.proofs.lemmas.Bool.{true≢false, and_parts}
use Rattle.std.proofs.lemmas.Nat.{div-add-mod', mod_below, div_below, mul-add-lt}
use Rattle.std.proofs.lemmas.List.{get_or-map}
use Rattle.noc_topo.specs.Lists.{is_some_of}
use Rattle.noc_topo.specs.Shape.{ports}
use Rattle.noc_topo.proofs.ListLemmas.{get_or-tabulate}
use Rattle.noc_packet.specs.Set.{has_bit}
use Rattle.noc_packet.proofs.SetLemmas.{both_members, either_members}
use Rattle.noc_alloc.specs.Arbiter.{RoundRobin, first_in_turn, arbiter_at, pointers_of}
use Rattle.noc_alloc.specs.Allocation.{pick_of}
use Rattle.noc_alloc.proofs.ArbiterLemmas.{first_in_turn-same}
use Rattle.noc_alloc.specs.Members.{MembersAreBelow}
use Rattle.noc_alloc.specs.Requests.{is_given}
use Rattle.noc_vc.specs.Input.{is_active, is_waiting, is_idle_phase, is_empty}
use Rattle.noc_vc.specs.Output.{has_credit}
use Rattle.noc_vc.specs.declared.input.InputState.{InputState}
use Rattle.noc_vc.specs.declared.input.InputState.TheVariants.{Idle, Waiting, Active}
use Rattle.noc_view.specs.States.{is_supplied, is_won_from}
use Rattle.noc_view.specs.ReadySets.{AreReadySetsOf}
use Rattle.noc_view.specs.Verdict.{ask_of, ready_of, ready_port, Holds}
use Rattle.noc_view.specs.VerdictSets.{verdict_by, sets_with}
use Rattle.noc_view.specs.View.{View, size_of, view_buffer, view_input, view_output, view_claim, claim_in, view_round, view_stands, finding_of}
use Rattle.noc_view.proofs.StandLemmas.{ready_of-stands}
use Rattle.noc_view.proofs.VerdictSetLemmas.{AreVerdicts, verdict-on, apart-on}
use Rattle.noc_sets.specs.Sets.{less}
use Rattle.noc_sets.specs.Turns.{ArePicked, ShowsPointer}
use Rattle.noc_sets.specs.Column.{Column, AreWords, ShowsChannels}
use Rattle.noc_sets.specs.Passes.{lane_heads, lane_ready, lane_no_flit, lane_no_idle_channel, lane_no_credit}
use Rattle.noc_sets.proofs.MemberLemmas.{less_members}

-- the channels with a flit
pub record AreFilled (v : View) (filled : ℕ) : Type 0 where
  pub fits : filled < 2 ^ 64
  pub below : MembersAreBelow (size_of v.site) filled
  pub each : (i : ℕ) → i < size_of v.site → has_bit filled i ≡ not (is_empty (view_buffer v i))

module _ (count : ℕ) (c : Column) (v : View) (filled : ℕ) (words : AreWords count c) (shows : ShowsChannels c v) (fill : AreFilled v filled) where
  rest_below : (a b n : ℕ) → MembersAreBelow n a → MembersAreBelow n (less a b)
  rest_below a b n below k e = below k (and_parts (has_bit a k) (not (has_bit b k)) (sym (less_members a b k) ∙ e)).0

  part_below : (a b n : ℕ) → MembersAreBelow n a → MembersAreBelow n (bit_and a b)
  part_below a b n below k e = below k (and_parts (has_bit a k) (has_bit b k) (sym (both_members a b k) ∙ e)).0

  heads-bit : (i : ℕ) → has_bit (lane_heads filled c) i ≡ (has_bit filled i && not (has_bit c.waiting i || has_bit c.active i))
  heads-bit i = less_members filled (bit_or c.waiting c.active) i ∙ ap (λ b. has_bit filled i && not b) (either_members c.waiting c.active i)

  ready-bit : (i : ℕ) → has_bit (lane_ready filled c) i ≡ ((has_bit c.active i && has_bit filled i) && has_bit c.supplied i)
  ready-bit i = both_members (bit_and c.active filled) c.supplied i ∙ ap (λ b. b && has_bit c.supplied i) (both_members c.active filled i)

  no_credit-bit : (i : ℕ) → has_bit (lane_no_credit filled c) i ≡ ((has_bit c.active i && has_bit filled i) && not ((has_bit c.active i && has_bit filled i) && has_bit c.supplied i))
  no_credit-bit i =
      less_members (bit_and c.active filled) (lane_ready filled c) i
      ∙ ap (λ b. b && not (has_bit (lane_ready filled c) i)) (both_members c.active filled i) ∙ ap (λ b. (has_bit c.active i && has_bit filled i) && not b) (ready-bit i)

  by_phase : (phase : InputState) (e : Bool) → (not e && not (is_waiting phase || is_active phase)) ≡ (is_idle_phase phase && not e)
  by_phase Idle true = refl
  by_phase Idle false = refl
  by_phase (Waiting set) true = refl
  by_phase (Waiting set) false = refl
  by_phase (Active o) true = refl
  by_phase (Active o) false = refl

  -- the sets of the lane are those that the verdicts rest on
  pub standing : AreReadySetsOf v (record { heads = lane_heads filled c; waiting = c.waiting; no_flit = lane_no_flit filled c; no_credit = lane_no_credit filled c; ready = lane_ready filled c })
  standing = record {
    heads_below = rest_below filled _ (size_of v.site) fill.below;
    waiting_below = shows.waiting_below;
    no_flit_below = rest_below c.active _ (size_of v.site) shows.active_below;
    no_credit_below = rest_below (bit_and c.active filled) _ (size_of v.site) (part_below c.active filled (size_of v.site) shows.active_below);
    ready_below = part_below (bit_and c.active filled) c.supplied (size_of v.site) (part_below c.active filled (size_of v.site) shows.active_below);
    heads = λ i l. heads-bit i ∙ rw (fill.each i l, (shows.inputs i l).waiting, (shows.inputs i l).active) (by_phase (view_input v i).phase (is_empty (view_buffer v i)));
    waiting = λ i l. (shows.inputs i l).waiting;
    no_flit = λ i l. less_members c.active filled i ∙ rw (fill.each i l, (shows.inputs i l).active) (starve (is_active (view_input v i).phase) (is_empty (view_buffer v i)));
    no_credit = λ i l. no_credit-bit i ∙ rw (fill.each i l, (shows.inputs i l).active, shows.supplied i l) (dry (is_active (view_input v i).phase) (is_empty (view_buffer v i)) (is_supplied v.outputs (view_input v i).phase));
    ready = λ i l. ready-bit i ∙ rw (fill.each i l, (shows.inputs i l).active, shows.supplied i l) (wet (is_active (view_input v i).phase) (is_empty (view_buffer v i)) (is_supplied v.outputs (view_input v i).phase));
  }
    where
      starve : (a e : Bool) → (a && not (not e)) ≡ (a && e)
      starve true true = refl
      starve true false = refl
      starve false e = refl

      dry : (a e s : Bool) → ((a && not e) && not ((a && not e) && s)) ≡ (a && (not e && not s))
      dry true true s = refl
      dry true false s = refl
      dry false e s = refl

      wet : (a e s : Bool) → ((a && not e) && s) ≡ (a && (not e && s))
      wet true e s = refl
      wet false e s = refl

  -- ---- the picks
  claims : (phase : InputState) (e : Bool) → is_some (ready_port v.site.vcs (claim_in v phase) (not e)) ≡ (is_active phase && (not e && is_supplied v.outputs phase))
  claims Idle e = refl
  claims (Waiting set) e = refl
  claims (Active o) true = at (has_credit (view_output v o))
    where
      at : (b : Bool) → is_some (ready_port v.site.vcs (Holds o b) false) ≡ false
      at true = refl
      at false = refl
  claims (Active o) false = at (has_credit (view_output v o))
    where
      at : (b : Bool) → is_some (ready_port v.site.vcs (Holds o b) true) ≡ b
      at true = refl
      at false = refl

  -- the channels that are ready are those with a port to go to
  pub ready-asked : (i : ℕ) → i < size_of v.site → has_bit (lane_ready filled c) i ≡ is_some (slice_index_or (ready_of v.site.vcs (view_stands v)) i None)
  ready-asked i l =
      standing.ready i l ∙ sym (claims (view_input v i).phase (is_empty (view_buffer v i)))
      ∙ ap is_some (sym (ap (λ xs. get_or xs i None) (ready_of-stands v) ∙ get_or-tabulate (size_of v.site) i (λ k. ready_port v.site.vcs (view_claim v k) (not (is_empty (view_buffer v k)))) None l))

  module _ (picked : ℕ) (some_vc : 0 < v.site.vcs) (picks : ArePicked v.site.vcs (ports v.site.grid) (lane_ready filled c) c.ahead picked)
      (ahead : (p : ℕ) → p < ports v.site.grid → ShowsPointer v.site.vcs c.ahead p (arbiter_at v.arbiters.inputs p).pointer)
      (pointers : (p : ℕ) → p < ports v.site.grid → (arbiter_at v.arbiters.inputs p).pointer < v.site.vcs)
      (arbiters : length v.arbiters.inputs ≡ ports v.site.grid) where
    -- the picks of the lane are those of the round
    pub draws : (k : ℕ) → k < size_of v.site → has_bit picked k ≡ is_some_of (slice_index_or (view_round v).picks (k / v.site.vcs) None) (k % v.site.vcs)
    unfolding view_round
    draws k l =
        let some : 0 < v.site.vcs = some_vc in
        let lp : k / v.site.vcs < ports v.site.grid = div_below k v.site.vcs (ports v.site.grid) some l in
        let lv : k % v.site.vcs < v.site.vcs = mod_below k v.site.vcs some in
        let place : k / v.site.vcs * v.site.vcs + k % v.site.vcs ≡ k = div-add-mod' k v.site.vcs in
        ap (has_bit picked) (sym place)
        ∙ picks.first (k / v.site.vcs) (arbiter_at v.arbiters.inputs (k / v.site.vcs)).pointer (k % v.site.vcs) lp (pointers (k / v.site.vcs) lp) (ahead (k / v.site.vcs) lp) lv
        ∙ ap (λ o. is_some_of o (k % v.site.vcs))
        (first_in_turn-same v.site.vcs (arbiter_at v.arbiters.inputs (k / v.site.vcs)).pointer (λ d. has_bit (lane_ready filled c) (k / v.site.vcs * v.site.vcs + d))
        (λ d. is_some (slice_index_or (ready_of v.site.vcs (view_stands v)) (k / v.site.vcs * v.site.vcs + d) None))
        (λ d ld. ready-asked (k / v.site.vcs * v.site.vcs + d) (let m : k / v.site.vcs * v.site.vcs + d < v.site.vcs * ports v.site.grid = mul-add-lt (k / v.site.vcs) v.site.vcs d (ports v.site.grid) lp ld in omega arith))
        ∙ ap (λ q. first_in_turn v.site.vcs q (λ d. is_some (slice_index_or (ready_of v.site.vcs (view_stands v)) (k / v.site.vcs * v.site.vcs + d) None))) (sym (pointer-at (k / v.site.vcs) lp))
        ∙ sym (get_or-tabulate (ports v.site.grid) (k / v.site.vcs) (pick_of (ready_of v.site.vcs (view_stands v)) v.site.vcs (pointers_of v.arbiters.inputs)) None lp))
      where
        pointer-at : (p : ℕ) → p < ports v.site.grid → slice_index (pointers_of v.arbiters.inputs) p ≡ (arbiter_at v.arbiters.inputs p).pointer
        pointer-at p l = get_or-map (λ (t : RoundRobin). t.pointer) v.arbiters.inputs p (record { size = 0; pointer = 0 }) 0 (omega (arith, arbiters))

    -- who is picked is ready
    pub picked-ready : (k : ℕ) → has_bit picked k ≡ (has_bit (lane_ready filled c) k && has_bit picked k)
    picked-ready k = at (has_bit picked k) refl
      where
        none : (b : Bool) → false ≡ (b && false)
        none true = refl
        none false = refl

        at : (b : Bool) → has_bit picked k ≡ b → b ≡ (has_bit (lane_ready filled c) k && b)
        at false e = none (has_bit (lane_ready filled c) k)
        at true e = sym (ap (λ b. b && true) (picks.among k e))

    -- ---- the verdicts
    module _ (granted lost moved : ℕ) (granted_fits : granted < 2 ^ 64) (lost_fits : lost < 2 ^ 64) (moved_fits : moved < 2 ^ 64)
        (granted_is : (k : ℕ) → k < size_of v.site → has_bit granted k ≡ is_given (view_round v).grants (ask_of (view_claim v k)) k)
        (lost_is : (k : ℕ) → k < size_of v.site → has_bit lost k ≡ (not (has_bit granted k) && is_some (ask_of (view_claim v k))))
        (moved_is : (k : ℕ) → k < size_of v.site → has_bit moved k ≡ (has_bit picked k && is_won_from v (view_round v) k (view_input v k).phase)) where
      -- who is granted something asks for it
      asks-or : (k : ℕ) (ask : Option ℕ) (g : Bool) → g ≡ is_given (view_round v).grants ask k → (g || (not g && is_some ask)) ≡ is_some ask
      asks-or k None true e = absurd (true≢false e)
      asks-or k None false e = refl
      asks-or k (Some o) true e = refl
      asks-or k (Some o) false e = refl

      turn-and : (a b : Bool) → (a && not b) ≡ (not b && a)
      turn-and true true = refl
      turn-and true false = refl
      turn-and false true = refl
      turn-and false false = refl

      not-granted : (g a : Bool) → (not g && a) ≡ (not g && (g || (not g && a)))
      not-granted true a = refl
      not-granted false a = refl

      are : (k : ℕ) → k < size_of v.site → AreVerdicts v (view_round v) (record { heads = lane_heads filled c; waiting = c.waiting; no_flit = lane_no_flit filled c; no_credit = lane_no_credit filled c; ready = lane_ready filled c }) (bit_or granted lost) picked (record { routed = lane_heads filled c; granted = granted; moved = moved; no_flit = lane_no_flit filled c; no_idle_channel = lane_no_idle_channel granted lost c; lost_channel = lost; no_credit = lane_no_credit filled c; lost_input = less (lane_ready filled c) picked; lost_switch = less picked moved }) k
      are k l =
          let both : has_bit (bit_or granted lost) k ≡ (has_bit granted k || (not (has_bit granted k) && is_some (ask_of (view_claim v k)))) = either_members granted lost k ∙ ap (λ b. has_bit granted k || b) (lost_is k l) in
          record {
            asks = both ∙ asks-or k (ask_of (view_claim v k)) (has_bit granted k) (granted_is k l);
            draws = draws k l;
            picks = picked-ready k;
            moved = moved_is k l;
            granted = granted_is k l;
            routed = refl;
            no_flit = refl;
            no_idle_channel = less_members c.waiting (bit_or granted lost) k ∙ turn-and (has_bit c.waiting k) (has_bit (bit_or granted lost) k);
            lost_channel = lost_is k l ∙ not-granted (has_bit granted k) (is_some (ask_of (view_claim v k))) ∙ ap (λ b. not (has_bit granted k) && b) (sym both);
            no_credit = refl;
            lost_input = less_members (lane_ready filled c) picked k ∙ turn-and (has_bit (lane_ready filled c) k) (has_bit picked k);
            lost_switch = less_members picked moved k ∙ turn-and (has_bit picked k) (has_bit moved k);
          }

      -- the sets of the lane give each channel its verdict
      pub verdicts : (k : ℕ) → k < size_of v.site → verdict_by (record { routed = lane_heads filled c; granted = granted; moved = moved; no_flit = lane_no_flit filled c; no_idle_channel = lane_no_idle_channel granted lost c; lost_channel = lost; no_credit = lane_no_credit filled c; lost_input = less (lane_ready filled c) picked; lost_switch = less picked moved }) k ≡ (finding_of (view_round v) v k).verdict
      verdicts k l = verdict-on v (view_round v) (record { heads = lane_heads filled c; waiting = c.waiting; no_flit = lane_no_flit filled c; no_credit = lane_no_credit filled c; ready = lane_ready filled c }) (bit_or granted lost) picked (record { routed = lane_heads filled c; granted = granted; moved = moved; no_flit = lane_no_flit filled c; no_idle_channel = lane_no_idle_channel granted lost c; lost_channel = lost; no_credit = lane_no_credit filled c; lost_input = less (lane_ready filled c) picked; lost_switch = less picked moved }) k l standing (are k l)

      -- a channel has one verdict at most
      pub verdicts-apart : (k : ℕ) → k < size_of v.site → sets_with (record { routed = lane_heads filled c; granted = granted; moved = moved; no_flit = lane_no_flit filled c; no_idle_channel = lane_no_idle_channel granted lost c; lost_channel = lost; no_credit = lane_no_credit filled c; lost_input = less (lane_ready filled c) picked; lost_switch = less picked moved }) k ≤ 1
      verdicts-apart k l = apart-on v (view_round v) (record { heads = lane_heads filled c; waiting = c.waiting; no_flit = lane_no_flit filled c; no_credit = lane_no_credit filled c; ready = lane_ready filled c }) (bit_or granted lost) picked (record { routed = lane_heads filled c; granted = granted; moved = moved; no_flit = lane_no_flit filled c; no_idle_channel = lane_no_idle_channel granted lost c; lost_channel = lost; no_credit = lane_no_credit filled c; lost_input = less (lane_ready filled c) picked; lost_switch = less picked moved }) k l standing (are k l)
