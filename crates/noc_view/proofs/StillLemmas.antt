-- A cycle in which no verdict takes effect.
use Rattle.std.proofs.Common.{ℕ, Option, ◌≡◌, false, refl, sym, suc, ◌+◌, ◌*◌, ◌/◌, ◌%◌, ◌<◌, ◌≤◌, Bool, true, List, [], ◌∷◌, length, map, get_or, Some, None, ap, ◌∙◌, arith, inl, inr}
use Rattle.noc_packet.specs.declared.packet.Beat.{Beat}
use Rattle.noc_packet.specs.declared.packet.Flit.{Flit}
use Rattle.std.proofs.lemmas.Bool.{false≢true, cases_lt}
use Rattle.noc_vc.specs.Input.{Input, idle_input}
use Rattle.noc_view.specs.Verdict.{is_event, arbiters_after, is_moved, out_of, ready_of}
use Rattle.noc_view.specs.View.{View, Decisions, input_after, beat_out, buffer_after, view_after_commit, counts_after, decided_verdict, first_flit, flit_out, has_event, held_by, idle_beat, idle_beats, mover, mover_to, output_after, decisions_of, size_of, spent_by, view_claim, view_stands}
use Rattle.noc_view.specs.declared.verdict.Verdict.{Verdict}
use Rattle.noc_view.specs.declared.verdict.Verdict.TheVariants.{Empty, Routed, Granted, Moved, NoFlit, NoIdleChannel, LostChannel, NoCredit, LostInput, LostSwitch}
use Rattle.std.specs.Prelude.{◌⊎◌, ◌||◌, find, option_and_then, option_map, if◌then◌else◌}
use Rattle.std.specs.List.{list_any}
use Rattle.std.proofs.lemmas.List.{get_or_past, get_or-replicate, length-map, length-replicate}
use Rattle.std.proofs.lemmas.List.Folds.{list_any_at}
use Rattle.std.proofs.Math.Bool.{or-false}
use Rattle.noc_topo.specs.Lists.{below, tabulate, map_indexed, is_some_of}
use Rattle.noc_topo.specs.Shape.{ports, local_port}
use Rattle.noc_topo.proofs.ListLemmas.{get_or-tabulate, length-tabulate, map_indexed-from_each, tabulate-from_each}
use Rattle.noc_route.specs.Routes.{Routes}
use Rattle.noc_alloc.specs.Arbiter.{RoundRobin, arbiter_after, pointers_of}
use Rattle.noc_alloc.specs.Allocation.{has_won, arbiters_after_winners, winning_pick, winner_of, picked_port}
use Rattle.noc_alloc.proofs.ArbiterLemmas.{first_in_turn-picks}
use Rattle.noc_alloc.proofs.WordLemmas.{is_some_of-true}
use Rattle.noc_vc.specs.Output.{ejection_output}
use Rattle.noc_view.specs.Still.{takes_effect}
use Rattle.noc_view.specs.Found.{empty_finding, finding_at}
use Rattle.noc_view.specs.declared.finding.Finding.{Finding}
use Rattle.noc_view.proofs.FindLemmas.{find-none}
use Rattle.noc_view.proofs.PlanLemmas.{Lists, decided-is, granted-asks, is-granted, lists_of_round, mover-is, verdict_in, verdict-at}
use Rattle.noc_view.proofs.SiteLemmas.{committed-parts}
use Rattle.noc_view.proofs.MoverLemmas.{quiet-moved}

-- a beat by its parts
unfoldable pub beat_of : Option (ℕ × Flit) → Option ℕ → Beat
beat_of flit credit = record { flit = flit; credit = credit }

-- ---- before the first channel
-- a verdict that does not take effect changes no input channel
pub quiet-input : (d : Decisions) (v : View) (i : ℕ) (input : Input) (x : Verdict) → is_event x ≡ false → input_after d v i input x ≡ input
quiet-input d v i input Empty e = refl
quiet-input d v i input Routed e = absurd (false≢true (sym e))
quiet-input d v i input Granted e = absurd (false≢true (sym e))
quiet-input d v i input Moved e = absurd (false≢true (sym e))
quiet-input d v i input NoFlit e = refl
quiet-input d v i input NoIdleChannel e = refl
quiet-input d v i input LostChannel e = refl
quiet-input d v i input NoCredit e = refl
quiet-input d v i input LostInput e = refl
quiet-input d v i input LostSwitch e = refl

-- a list of which each element stays
pub map_indexed-same : {X : Type 0} (f : ℕ → X → X) (xs : List X) (d : X) → ((i : ℕ) (x : X) → f i x ≡ x) → map_indexed f xs ≡ xs
map_indexed-same f xs d each = sym (map_indexed-from_each f xs xs d d refl (λ i l. sym (each i (get_or xs i d))))

-- ---- a verdict that takes no effect
-- ---- nobody wins
nobody-has_won : (wins : List (Option ℕ)) (port : ℕ) → ((k : ℕ) → get_or wins k None ≡ None) → has_won wins port ≡ false
nobody-has_won [] port none = refl
nobody-has_won (win ∷ wins) port none = ap (λ w. is_some_of w port || has_won wins port) (none 0) ∙ nobody-has_won wins port (λ k. none (suc k))

-- decisions by which no output channel is granted, no output port is won, and no verdict takes
-- effect
module _ (d : Decisions) (v : View) (no_grant : (o : ℕ) → get_or d.round.grants o None ≡ None) (no_win : (port : ℕ) → get_or d.round.wins port None ≡ None)
    (still : (i : ℕ) → is_event (decided_verdict d i) ≡ false) (quiet : list_any (λ (f : Finding). is_event f.verdict) d.findings ≡ false) where
  no_mover : (port : ℕ) → mover v.site d.round port ≡ None
  no_mover port = ap (λ win. option_and_then (λ q. option_map (λ vc. q * v.site.vcs + vc) (get_or d.round.picks q None)) win) (no_win port)

  no_flit_out : (port : ℕ) → flit_out v d.round port ≡ None
  no_flit_out port = ap (λ m. option_and_then (λ i. option_and_then (λ o. option_map (λ f. (o % v.site.vcs, f)) (first_flit v i)) (out_of (view_claim v i))) m) (no_mover port)

  arbiters-stay : arbiters_after d.round v.arbiters ≡ v.arbiters
  arbiters-stay =
      let start : RoundRobin = record { size = 0; pointer = 0 } in
      let channels : arbiters_after_winners (λ o. get_or d.round.grants o None) v.arbiters.channels ≡ v.arbiters.channels =
      map_indexed-same (λ o (t : RoundRobin). arbiter_after t (get_or d.round.grants o None)) v.arbiters.channels start (λ o t. ap (arbiter_after t) (no_grant o)) in
      let inputs : arbiters_after_winners (winning_pick d.round.picks d.round.wins) v.arbiters.inputs ≡ v.arbiters.inputs =
      map_indexed-same (λ q (t : RoundRobin). arbiter_after t (winning_pick d.round.picks d.round.wins q)) v.arbiters.inputs start
      (λ q t. ap (λ b. arbiter_after t (if b then get_or d.round.picks q None else None)) (nobody-has_won d.round.wins q no_win)) in
      let outputs : arbiters_after_winners (λ port. get_or d.round.wins port None) v.arbiters.outputs ≡ v.arbiters.outputs =
      map_indexed-same (λ port (t : RoundRobin). arbiter_after t (get_or d.round.wins port None)) v.arbiters.outputs start (λ port t. ap (arbiter_after t) (no_win port)) in
      rw (channels, inputs, outputs) refl

  buffers-stay : map_indexed (λ i flits. buffer_after flits (decided_verdict d i)) v.buffers ≡ v.buffers
  buffers-stay = map_indexed-same (λ i flits. buffer_after flits (decided_verdict d i)) v.buffers []
      (λ i flits. rw (quiet-moved (decided_verdict d i) (still i)) refl)

  inputs-stay : map_indexed (λ i input. input_after d v i input (decided_verdict d i)) v.inputs ≡ v.inputs
  inputs-stay = map_indexed-same (λ i input. input_after d v i input (decided_verdict d i)) v.inputs idle_input (λ i input. quiet-input d v i input (decided_verdict d i) (still i))

  outputs-stay : map_indexed (output_after v d.round) v.outputs ≡ v.outputs
  outputs-stay = map_indexed-same (output_after v d.round) v.outputs ejection_output
      (λ o output. ap (λ x. spent_by v (held_by v output x) (mover_to v d.round o)) (no_grant o)
      ∙ ap (λ m. spent_by v output (option_and_then (λ i. if is_some_of (out_of (view_claim v i)) o then Some i else None) m)) (no_mover (o / v.site.vcs)))

  all-idle : tabulate (local_port v.site.grid) (beat_out d v) ≡ idle_beats v.site
  unfolding beat_of
  all-idle = sym (tabulate-from_each (local_port v.site.grid) (beat_out d v) (idle_beats v.site) idle_beat (length-replicate (local_port v.site.grid) idle_beat)
      (λ port l. get_or-replicate (local_port v.site.grid) port idle_beat idle_beat l
      ∙ sym (ap (λ x. beat_of x (find (λ vc. is_moved (decided_verdict d (port * v.site.vcs + vc))) (below v.site.vcs))) (no_flit_out port)
      ∙ ap (beat_of None) (find-none (λ vc. is_moved (decided_verdict d (port * v.site.vcs + vc))) v.site.vcs
      (λ vc u. quiet-moved (decided_verdict d (port * v.site.vcs + vc)) (still (port * v.site.vcs + vc)))))))

  no_event-more : has_event d v ≡ v.had_event
  no_event-more = ap (λ b. v.had_event || b) quiet ∙ or-false v.had_event

  -- they are counted, and nothing else changes
  pub quiet-committed : view_after_commit d v ≡ record v {
    counts = map_indexed (λ i counts. counts_after (decided_verdict d i) counts) v.counts;
    findings = d.findings;
    to_put = idle_beats v.site;
    last_event = if v.had_event then Some v.given else v.last_event;
    had_event = false;
  }
  quiet-committed = committed-parts d v ∙ rw (buffers-stay, inputs-stay, outputs-stay, all-idle, no_event-more, arbiters-stay, no_flit_out (local_port v.site.grid)) refl

-- ---- the decisions of a view
module _ (relation : Routes) (v : View) (off : takes_effect relation v ≡ false) where
  lists : Lists (decisions_of relation v) v
  lists = lists_of_round relation v

  pub still-verdict : (i : ℕ) → is_event (decided_verdict (decisions_of relation v) i) ≡ false
  still-verdict i = at (cases_lt i (length findings))
    where
      findings : List Finding
      findings = (decisions_of relation v).findings

      event : (b : Bool) → is_event (finding_at findings i).verdict ≡ b → i < length findings → b ≡ false
      event false e l = refl
      event true e l = absurd (false≢true (sym off ∙ list_any_at (λ (f : Finding). is_event f.verdict) findings i empty_finding l e))

      at : (i < length findings) ⊎ (length findings ≤ i) → is_event (decided_verdict (decisions_of relation v) i) ≡ false
      at (inl l) = ap is_event (verdict-at (decisions_of relation v) i l) ∙ event (is_event (finding_at findings i).verdict) refl l
      at (inr u) = ap is_event (get_or_past (map (λ (f : Finding). f.verdict) findings) i Empty (omega (arith, length-map findings (λ (f : Finding). f.verdict))))

  -- no channel has a verdict that takes effect
  no_verdict : (i : ℕ) (x : Verdict) → i < size_of v.site → verdict_in (decisions_of relation v) v i ≡ x → is_event x ≡ false
  no_verdict i x l e = sym (ap is_event (decided-is (decisions_of relation v) v i lists l ∙ e)) ∙ still-verdict i

  still-grants : (o : ℕ) → get_or (decisions_of relation v).round.grants o None ≡ None
  still-grants o = at (cases_lt o (size_of v.site))
    where
      d : Decisions
      d = decisions_of relation v

      named : o < size_of v.site → (grant : Option ℕ) → get_or d.round.grants o None ≡ grant → grant ≡ None
      named l None e = refl
      named l (Some i) e =
          let asks = granted-asks d v o i lists l e in
          absurd (false≢true (sym (no_verdict i Granted asks.0 (is-granted d v o i asks.1 e))))

      at : (o < size_of v.site) ⊎ (size_of v.site ≤ o) → get_or d.round.grants o None ≡ None
      at (inl l) = named l (get_or d.round.grants o None) refl
      at (inr u) = get_or_past d.round.grants o None (let n : length d.round.grants ≡ size_of v.site = ap length lists.grants ∙ length-tabulate (size_of v.site) _ in omega arith)

  still-wins : (port : ℕ) → get_or (decisions_of relation v).round.wins port None ≡ None
  still-wins port = at (cases_lt port (ports v.site.grid))
    where
      d : Decisions
      d = decisions_of relation v

      ready : List (Option ℕ)
      ready = ready_of v.site.vcs (view_stands v)

      -- an input port that wins has picked a channel, which then moves
      picks : port < ports v.site.grid → (q : ℕ) → get_or d.round.wins port None ≡ Some q → (pick : Option ℕ) → get_or d.round.picks q None ≡ pick
          → option_and_then (λ vc. get_or ready (q * v.site.vcs + vc) None) pick ≡ Some port → ⊥
      picks l q won None e h = cc h
      picks l q won (Some vc) e h =
          let moves : mover v.site d.round port ≡ Some (q * v.site.vcs + vc) =
          ap (λ (o : Option ℕ). option_and_then (λ k. option_map (λ c. k * v.site.vcs + c) (get_or d.round.picks k None)) o) won
          ∙ ap (λ (o : Option ℕ). option_map (λ c. q * v.site.vcs + c) o) e in
          let m = mover-is d v port (q * v.site.vcs + vc) lists l moves in
          false≢true (sym (no_verdict (q * v.site.vcs + vc) Moved m.within m.verdict))

      named : port < ports v.site.grid → (win : Option ℕ) → get_or d.round.wins port None ≡ win → win ≡ None
      named l None e = refl
      named l (Some q) e =
          let n = ports v.site.grid in
          let pointers = pointers_of v.arbiters.outputs in
          let w : winner_of ready v.site.vcs n d.round.picks pointers port ≡ Some q =
          sym (ap (λ xs. get_or xs port None) lists.wins ∙ get_or-tabulate n port (winner_of ready v.site.vcs n d.round.picks pointers) None l) ∙ e in
          let first = first_in_turn-picks n (get_or pointers port 0) q (λ k. is_some_of (picked_port ready v.site.vcs d.round.picks k) port) w in
          absurd (picks l q e (get_or d.round.picks q None) refl (is_some_of-true (picked_port ready v.site.vcs d.round.picks q) port first.0))

      at : (port < ports v.site.grid) ⊎ (ports v.site.grid ≤ port) → get_or d.round.wins port None ≡ None
      at (inl l) = named l (get_or d.round.wins port None) refl
      at (inr u) = get_or_past d.round.wins port None (let n : length d.round.wins ≡ ports v.site.grid = ap length lists.wins ∙ length-tabulate (ports v.site.grid) _ in omega arith)

  -- a cycle in which no verdict takes effect counts the verdicts, and leaves all else as it is
  pub still-committed : view_after_commit (decisions_of relation v) v ≡ record v {
    counts = map_indexed (λ i counts. counts_after (decided_verdict (decisions_of relation v) i) counts) v.counts;
    findings = (decisions_of relation v).findings;
    to_put = idle_beats v.site;
    last_event = if v.had_event then Some v.given else v.last_event;
    had_event = false;
  }
  still-committed = quiet-committed (decisions_of relation v) v still-grants still-wins still-verdict off
