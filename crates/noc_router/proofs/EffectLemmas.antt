-- The verdicts take effect one by one: before the first channel, after the last,
-- and what each verdict does.
use Rattle.std.proofs.Common.{◌≡◌, ◌≢◌, ℕ, suc, ◌+◌, ◌*◌, ◌/◌, ◌%◌, ◌<◌, Bool, true, false, List, [], ◌∷◌, length, drop, get_or, Option, Some, None, refl, ap, sym, ◌∙◌, arith, inl, inr, subst}
use Rattle.std.specs.Prelude.{IfSome, ◌⊎◌, ◌&&◌, ◌||◌, not, nat_eq, nat_lt, if◌then◌else◌, slice_get, slice_index}
use Rattle.std.specs.List.{list_any}
use Rattle.std.proofs.lemmas.Bool.{false≢true, le-ltb, lt-ltb, or_cases, or_right}
use Rattle.std.proofs.lemmas.Nat.{mul-add-lt}
use Rattle.std.proofs.lemmas.List.{get_or-replicate, length-replicate}
use Rattle.std.proofs.lemmas.List.Folds.{list_any_at}
use Rattle.noc_topo.proofs.ListLemmas.{length-tabulate, map_indexed-from_each, tabulate-from_each}
use Rattle.noc_topo.specs.Lists.{below, tabulate, map_indexed}
use Rattle.noc_topo.specs.Shape.{ports, local_port}
use Rattle.noc_packet.specs.declared.packet.Flit.{Flit}
use Rattle.noc_packet.specs.declared.packet.Beat.{Beat}
use Rattle.noc_route.proofs.BoolLemmas.{same_test}
use Rattle.noc_vc.specs.Input.{Input, idle_input, is_waiting, is_empty}
use Rattle.noc_vc.specs.Output.{Output, ejection_output, is_free, has_credit}
use Rattle.noc_vc.specs.declared.input.InputState.{InputState}
use Rattle.noc_router.specs.Settled.{CanGrant, CanMove, view_after_verdicts, view_after_route, granted_by, ejected_packet, moved_by, moved_in_phase, CanTakeEffect, decisions_by, effect_of}
use Rattle.noc_view.specs.Found.{empty_finding, finding_at}
use Rattle.noc_view.specs.Verdict.{Waits, ask_of, out_of, is_moved, is_event}
use Rattle.noc_view.specs.View.{View, Site, Decisions, finding_of, size_of, view_claim, view_buffer, view_input, view_output, first_flit, mover, mover_to, held_by, spent_by, flit_out, tail_packet, decided_verdict, input_after, buffer_after, output_after, beat_out, idle_beat, idle_beats, has_event, PlanContents}
use Rattle.noc_view.specs.declared.verdict.Verdict.{Verdict}
use Rattle.noc_view.specs.declared.verdict.Verdict.TheVariants.{Empty, Routed, Granted, Moved, NoFlit, NoIdleChannel, LostChannel, NoCredit, LostInput, LostSwitch}
use Rattle.noc_view.specs.declared.finding.Finding.{Finding}
use Rattle.noc_view.proofs.FindLemmas.{find-none, find-same}
use Rattle.noc_view.proofs.PlanLemmas.{verdict-at, Lists, verdict_in, holds_flit, decided-is, granted-asks, mover-is, Moves, moves-is, claim-waits, claim-unrouted, verdict-granted, verdict-routed}
use Rattle.noc_router.proofs.SettleLemmas.{IsSettling, IsWhole, arrived_by, buffer-here, credit_by, flit_by, from_next, input-here, left, left-here, left_verdict, next-below, not_both, step-granted, step-plain, step-routed}
use Rattle.noc_view.proofs.SinkLemmas.{arrival-is, sink_ends, sink_misfits}
use Rattle.noc_view.proofs.MoverLemmas.{mover_to-from, mover_to-is, port_below, flit-first}
use Rattle.noc_router.proofs.MoveLemmas.{moved-parts, site-kept, step-moved}

module _ (d : Decisions) (v : View) (rest : ℕ → Bool) (whole : IsWhole v) (lists : Lists d v) (all : (i : ℕ) → i < size_of v.site → rest i ≡ true) where
  all_left : (i : ℕ) → i < size_of v.site → left_verdict d rest i ≡ Empty
  all_left i l = ap (λ b. if b then Empty else decided_verdict d i) (all i l)

  is_left : (i : ℕ) → i < size_of v.site → left rest (Some i) ≡ None
  is_left i l = ap (λ b. if b then None else Some i) (all i l)

  grant_left : (o : ℕ) → o < size_of v.site → (m : Option ℕ) → get_or d.round.grants o None ≡ m → left rest m ≡ None
  grant_left o l None e = refl
  grant_left o l (Some i) e = is_left i (granted-asks d v o i lists l e).0

  pub mover_left : (p : ℕ) → p < ports v.site.grid → (m : Option ℕ) → mover v.site d.round p ≡ m → left rest m ≡ None
  mover_left p l None e = refl
  mover_left p l (Some i) e = is_left i (mover-is d v p i lists l e).within

  mover_to_left : (o : ℕ) → o < size_of v.site → (m : Option ℕ) → mover_to v d.round o ≡ m → left rest m ≡ None
  mover_to_left o l None e = refl
  mover_to_left o l (Some i) e = mover_left (o / v.site.vcs) (port_below v o whole.some_vc l) (Some i) (mover_to-is d v o i e).0

  pub no_credit : (p : ℕ) → p < ports v.site.grid → credit_by d v rest p ≡ None
  no_credit p l =
      find-none (λ k. is_moved (left_verdict d rest (p * v.site.vcs + k))) v.site.vcs
      (λ k u. let m : p * v.site.vcs + k < v.site.vcs * ports v.site.grid = mul-add-lt p v.site.vcs k (ports v.site.grid) l u in
      ap is_moved (all_left (p * v.site.vcs + k) (omega arith)))

  beat_parts : Option (ℕ × Flit) → Option ℕ → Beat
  beat_parts x y = record { flit = x; credit = y }

  first-arrived : None ≡ arrived_by d v rest
  first-arrived = sym (ap (λ x. tail_packet (flit_by v x)) (mover_left (local_port v.site.grid) (omega arith) (mover v.site d.round (local_port v.site.grid)) refl))

  settling-first : ((k : ℕ) → rest k ≡ true → k < size_of v.site) → v.to_put ≡ idle_beats v.site → IsSettling d v rest v
  unfolding beat_parts
  settling-first below idle = record {
    others = refl;
    below = below;
    n_buffers = whole.buffers;
    n_inputs = whole.inputs;
    n_outputs = whole.outputs;
    n_beats = ap length idle ∙ length-replicate (local_port v.site.grid) idle_beat;
    buffers = λ i l. sym (ap (λ b. if b then drop 1 (view_buffer v i) else view_buffer v i) (ap is_moved (all_left i l)));
    inputs = λ i l. sym (ap (input_after d v i (view_input v i)) (all_left i l));
    outputs = λ o l. sym (ap (λ x. spent_by v (held_by v (view_output v o) x) (left rest (mover_to v d.round o))) (grant_left o l (get_or d.round.grants o None) refl)
        ∙ ap (λ x. spent_by v (view_output v o) x) (mover_to_left o l (mover_to v d.round o) refl));
    beats = λ p l. ap (λ xs. get_or xs p idle_beat) idle ∙ get_or-replicate (local_port v.site.grid) p idle_beat idle_beat l
        ∙ sym (ap (λ x. beat_parts (flit_by v x) (credit_by d v rest p)) (mover_left p (omega arith) (mover v.site d.round p) refl) ∙ ap (λ y. beat_parts None y) (no_credit p (omega arith)));
    ends = ap (λ a. sink_ends a v.given v.ends) first-arrived;
    misfits = ap (λ a. sink_misfits a v.ends v.misfits) first-arrived;
    event_kept = λ t. t;
    event_of = λ i l e t. absurd (false≢true (sym e ∙ all i l));
    event_from = λ t. inl t;
  }

-- ---- after the last channel
any_at : (fs : List Finding) → list_any (λ (f : Finding). is_event f.verdict) fs ≡ true → (i : ℕ) × (i < length fs) × (is_event (finding_at fs i).verdict ≡ true)
any_at [] e = absurd (false≢true e)
any_at (f ∷ fs) e = at (or_cases (is_event f.verdict) (list_any (λ (g : Finding). is_event g.verdict) fs) e) (λ t. any_at fs t)
  where
    at : (is_event f.verdict ≡ true) ⊎ (list_any (λ (g : Finding). is_event g.verdict) fs ≡ true)
        → (list_any (λ (g : Finding). is_event g.verdict) fs ≡ true → (i : ℕ) × (i < length fs) × (is_event (finding_at fs i).verdict ≡ true))
        → (i : ℕ) × (i < length (f ∷ fs)) × (is_event (finding_at (f ∷ fs) i).verdict ≡ true)
    at (inl t) more = (0, omega arith, t)
    at (inr t) more = let r = more t in (suc r.0, omega (arith, r.1), r.2)

module _ (d : Decisions) (v w : View) (rest : ℕ → Bool) (whole : IsWhole v) (lists : Lists d v) (so_far : IsSettling d v rest w) (none : (k : ℕ) → rest k ≡ false) where
  pub verdict-all : (k : ℕ) → left_verdict d rest k ≡ decided_verdict d k
  verdict-all k = ap (λ b. if b then Empty else decided_verdict d k) (none k)

  pub left-all : (m : Option ℕ) → left rest m ≡ m
  left-all None = refl
  left-all (Some k) = ap (λ b. if b then None else Some k) (none k)

  n_findings : length d.findings ≡ size_of v.site
  n_findings = ap length lists.findings ∙ length-tabulate (size_of v.site) (finding_of d.round v)

  last-event : w.had_event ≡ has_event d v
  last-event = same_test w.had_event (has_event d v) (λ t. forward (so_far.event_from t)) (λ t. back (or_cases v.had_event (list_any (λ (f : Finding). is_event f.verdict) d.findings) t))
    where
      forward : (v.had_event ≡ true) ⊎ ((i : ℕ) × (i < size_of v.site) × (is_event (decided_verdict d i) ≡ true)) → has_event d v ≡ true
      forward (inl t) = ap (λ b. b || list_any (λ (f : Finding). is_event f.verdict) d.findings) t
      forward (inr t) =
          let n : length d.findings ≡ size_of v.site = n_findings in
          let l : t.0 < length d.findings = omega (arith, t.1) in
          or_right v.had_event (list_any (λ (f : Finding). is_event f.verdict) d.findings)
          (list_any_at (λ (f : Finding). is_event f.verdict) d.findings t.0 empty_finding l (ap is_event (sym (verdict-at d t.0 l)) ∙ t.2))

      back : (v.had_event ≡ true) ⊎ (list_any (λ (f : Finding). is_event f.verdict) d.findings ≡ true) → w.had_event ≡ true
      back (inl t) = so_far.event_kept t
      back (inr t) =
          let r = any_at d.findings t in
          let n : length d.findings ≡ size_of v.site = n_findings in
          so_far.event_of r.0 (omega (arith, r.1)) (none r.0) (ap is_event (verdict-at d r.0 r.1) ∙ r.2)

  last-buffers : w.buffers ≡ map_indexed (λ i flits. buffer_after flits (decided_verdict d i)) v.buffers
  last-buffers = map_indexed-from_each (λ i flits. buffer_after flits (decided_verdict d i)) v.buffers w.buffers [] [] (so_far.n_buffers ∙ sym whole.buffers)
      (λ i l. so_far.buffers i (let n : length v.buffers ≡ size_of v.site = whole.buffers in omega arith) ∙ ap (buffer_after (view_buffer v i)) (verdict-all i))

  last-inputs : w.inputs ≡ map_indexed (λ i input. input_after d v i input (decided_verdict d i)) v.inputs
  last-inputs = map_indexed-from_each (λ i input. input_after d v i input (decided_verdict d i)) v.inputs w.inputs idle_input idle_input (so_far.n_inputs ∙ sym whole.inputs)
      (λ i l. so_far.inputs i (let n : length v.inputs ≡ size_of v.site = whole.inputs in omega arith) ∙ ap (input_after d v i (view_input v i)) (verdict-all i))

  last-outputs : w.outputs ≡ map_indexed (output_after v d.round) v.outputs
  last-outputs = map_indexed-from_each (output_after v d.round) v.outputs w.outputs ejection_output ejection_output (so_far.n_outputs ∙ sym whole.outputs)
      (λ o l. so_far.outputs o (let n : length v.outputs ≡ size_of v.site = whole.outputs in omega arith)
      ∙ ap (λ x. spent_by v (held_by v (view_output v o) x) (left rest (mover_to v d.round o))) (left-all (get_or d.round.grants o None))
      ∙ ap (λ x. spent_by v (held_by v (view_output v o) (get_or d.round.grants o None)) x) (left-all (mover_to v d.round o)))

  beat_pairs : Option (ℕ × Flit) → Option ℕ → Beat
  beat_pairs x y = record { flit = x; credit = y }

  last-beats : w.to_put ≡ tabulate (local_port v.site.grid) (beat_out d v)
  unfolding beat_pairs
  last-beats = tabulate-from_each (local_port v.site.grid) (beat_out d v) w.to_put idle_beat so_far.n_beats
      (λ p l. so_far.beats p l
      ∙ ap (λ x. beat_pairs (flit_by v x) (credit_by d v rest p)) (left-all (mover v.site d.round p))
      ∙ ap (λ y. beat_pairs (flit_by v (mover v.site d.round p)) y)
      (find-same (λ k. is_moved (left_verdict d rest (p * v.site.vcs + k))) (λ k. is_moved (decided_verdict d (p * v.site.vcs + k))) v.site.vcs (λ k u. ap is_moved (verdict-all (p * v.site.vcs + k)))))

  last-arrived : arrived_by d v rest ≡ tail_packet (flit_out v d.round (local_port v.site.grid))
  last-arrived = ap (λ x. tail_packet (flit_by v x)) (left-all (mover v.site d.round (local_port v.site.grid)))

  view_with : List (List Flit) → List Input → List Output → List (ℕ × Option ℕ) → ℕ → Bool → List Beat → View
  view_with b i o e m h t = record v { buffers = b; inputs = i; outputs = o; ends = e; misfits = m; had_event = h; to_put = t }

  settling-last : w ≡ view_after_verdicts d v
  unfolding view_after_verdicts view_with
  settling-last =
      let a = tail_packet (flit_out v d.round (local_port v.site.grid)) in
      so_far.others
      ∙ ap (λ x. view_with x w.inputs w.outputs w.ends w.misfits w.had_event w.to_put) last-buffers
      ∙ ap (λ x. view_with (map_indexed (λ i flits. buffer_after flits (decided_verdict d i)) v.buffers) x w.outputs w.ends w.misfits w.had_event w.to_put) last-inputs
      ∙ ap (λ x. view_with (map_indexed (λ i flits. buffer_after flits (decided_verdict d i)) v.buffers) (map_indexed (λ i input. input_after d v i input (decided_verdict d i)) v.inputs) x w.ends w.misfits w.had_event w.to_put) last-outputs
      ∙ ap (λ x. view_with (map_indexed (λ i flits. buffer_after flits (decided_verdict d i)) v.buffers) (map_indexed (λ i input. input_after d v i input (decided_verdict d i)) v.inputs) (map_indexed (output_after v d.round) v.outputs) x w.misfits w.had_event w.to_put)
      (so_far.ends ∙ ap (λ x. sink_ends x v.given v.ends) last-arrived)
      ∙ ap (λ x. view_with (map_indexed (λ i flits. buffer_after flits (decided_verdict d i)) v.buffers) (map_indexed (λ i input. input_after d v i input (decided_verdict d i)) v.inputs) (map_indexed (output_after v d.round) v.outputs) (sink_ends a v.given v.ends) x w.had_event w.to_put)
      (so_far.misfits ∙ ap (λ x. sink_misfits x v.ends v.misfits) last-arrived)
      ∙ ap (λ x. view_with (map_indexed (λ i flits. buffer_after flits (decided_verdict d i)) v.buffers) (map_indexed (λ i input. input_after d v i input (decided_verdict d i)) v.inputs) (map_indexed (output_after v d.round) v.outputs) (sink_ends a v.given v.ends) (sink_misfits a v.ends v.misfits) x w.to_put)
      last-event
      ∙ ap (λ x. view_with (map_indexed (λ i flits. buffer_after flits (decided_verdict d i)) v.buffers) (map_indexed (λ i input. input_after d v i input (decided_verdict d i)) v.inputs) (map_indexed (output_after v d.round) v.outputs) (sink_ends a v.given v.ends) (sink_misfits a v.ends v.misfits) (has_event d v) x)
      last-beats
      ∙ sym (arrival-is a (record v {
        buffers = map_indexed (λ i flits. buffer_after flits (decided_verdict d i)) v.buffers;
        inputs = map_indexed (λ i input. input_after d v i input (decided_verdict d i)) v.inputs;
        outputs = map_indexed (output_after v d.round) v.outputs;
        had_event = has_event d v;
        to_put = tabulate (local_port v.site.grid) (beat_out d v);
      }))

-- ---- what a verdict says of the view, and what it does
full_length : (flits : List Flit) → not (is_empty flits) ≡ true → 0 < length flits
full_length [] e = absurd (false≢true e)
full_length (f ∷ rest) e = omega arith

-- the verdict of channel `index` by an outcome whose lists are those of the decisions d
module _ (p : PlanContents) (d : Decisions) (v w : View) (rest rest' : ℕ → Bool) (index : ℕ) (routes : p.routes ≡ d.routes) (whole : IsWhole v) (lists : Lists d v)
    (members : (k : ℕ) → rest' k ≡ (not (nat_eq k index) && rest k)) (member : rest index ≡ true) (so_far : IsSettling d v rest w)
    (asked : get_or p.asks index None ≡ ask_of (view_claim v index)) where
  in_size : index < size_of v.site
  in_size = so_far.below index member

  site_is : w.site ≡ v.site
  site_is = site-kept d v w rest so_far

  input_is : view_input w index ≡ view_input v index
  input_is = input-here d v w rest rest' index whole lists members member so_far

  buffer_is : view_buffer w index ≡ view_buffer v index
  buffer_is = buffer-here d v w rest rest' index whole lists members member so_far

  -- an output channel that is asked for is as it was
  asked-out : (o : ℕ) → view_claim v index ≡ Waits (Some o) → get_or d.round.grants o None ≡ Some index → view_output w o ≡ view_output v o
  asked-out o claim g =
      let free = claim-waits v (view_input v index).phase o claim in
      so_far.outputs o free.2
      ∙ ap (λ x. spent_by v (held_by v (view_output v o) x) (left rest (mover_to v d.round o))) (left-here rest rest' index members member (get_or d.round.grants o None) g)
      ∙ ap (λ m. spent_by v (view_output v o) (left rest m)) (none_moves (mover_to v d.round o) refl free.2)
    where
      none_moves : (m : Option ℕ) → mover_to v d.round o ≡ m → o < size_of v.site → m ≡ None
      none_moves None h l = refl
      none_moves (Some j) h l = absurd (not_both d v whole lists o index j l g h)

  owned-out : (mv : Moves d v index) → view_output w mv.out ≡ view_output v mv.out
  owned-out mv =
      let l : mv.out < size_of v.site = whole.within index mv.out in_size mv.phase in
      let to : mover_to v d.round mv.out ≡ Some index = mover_to-from d v mv.out index mv.mover (ap out_of mv.claim) in
      so_far.outputs mv.out l
      ∙ ap (λ m. spent_by v (held_by v (view_output v mv.out) (left rest (get_or d.round.grants mv.out None))) m) (left-here rest rest' index members member (mover_to v d.round mv.out) to)
      ∙ ap (λ m. held_by v (view_output v mv.out) (left rest m)) (nobody mv.out (get_or d.round.grants mv.out None) refl l to)
    where
      nobody : (o : ℕ) (m : Option ℕ) → get_or d.round.grants o None ≡ m → o < size_of v.site → mover_to v d.round o ≡ Some index → m ≡ None
      nobody o None h l to = refl
      nobody o (Some j) h l to = absurd (not_both d v whole lists o j index l h to)

  asks-now : (o : ℕ) → view_claim v index ≡ Waits (Some o) → get_or p.asks index None ≡ Some o
  asks-now o claim = asked ∙ ap ask_of claim

  can-granted : (o : ℕ) → view_claim v index ≡ Waits (Some o) → get_or d.round.grants o None ≡ Some index → IfSome (get_or p.asks index None) (CanGrant w index)
  can-granted o claim g =
      let free = claim-waits v (view_input v index).phase o claim in
      let P : Option ℕ → Type 0 = λ x. IfSome x (CanGrant w index) in
      subst P (sym (asks-now o claim)) (record {
        within = (let Q : Site → Type 0 = λ site. o < size_of site in subst Q (sym site_is) free.2);
        waits = ap (λ (x : Input). is_waiting x.phase) input_is ∙ free.0;
        free = ap (λ (x : Output). is_free x.holder) (asked-out o claim g) ∙ free.1;
      })

  can-moved : Moves d v index → CanMove w index (view_input w index).phase
  can-moved mv =
      let P : InputState → Type 0 = λ p. CanMove w index p in
      subst P (sym (ap (λ (x : Input). x.phase) input_is ∙ mv.phase))
      (ap has_credit (owned-out mv) ∙ mv.credit, full_length (view_buffer w index) (ap (λ flits. not (is_empty flits)) buffer_is ∙ mv.flit))

  can-settle : (x : Verdict) → verdict_in d v index ≡ x → CanTakeEffect p w index x
  can-settle Routed e =
      let r = verdict-routed v.site.vcs d.round index (view_claim v index) (holds_flit v index) e in (
        ap (λ (y : Input). y.phase) input_is ∙ claim-unrouted v (view_input v index).phase r.0,
        full_length (view_buffer w index) (ap (λ flits. not (is_empty flits)) buffer_is ∙ r.1),
      )
  can-settle Granted e = let g = verdict-granted v.site.vcs d.round index (view_claim v index) (holds_flit v index) e in can-granted g.0 g.1 g.2
  can-settle Moved e = can-moved (moves-is d v index whole.some_vc e)
  can-settle Empty e = tt
  can-settle NoFlit e = tt
  can-settle NoIdleChannel e = tt
  can-settle LostChannel e = tt
  can-settle NoCredit e = tt
  can-settle LostInput e = tt
  can-settle LostSwitch e = tt

  step-quiet : (x : Verdict) → verdict_in d v index ≡ x → x ≢ Granted → x ≢ Moved → is_moved x ≡ false → is_event x ≡ false → input_after d v index (view_input v index) x ≡ view_input v index → IsSettling d v rest' w
  step-quiet x e g m no_move quiet same =
      let now : decided_verdict d index ≡ x = decided-is d v index lists in_size ∙ e in
      step-plain d v w rest rest' index whole lists members member so_far (λ h. g (sym e ∙ h)) (λ h. m (sym e ∙ h)) (ap is_moved now ∙ no_move) (ap is_event now ∙ quiet) (ap (input_after d v index (view_input v index)) now ∙ same)

  settle-granted : (o : ℕ) → verdict_in d v index ≡ Granted → view_claim v index ≡ Waits (Some o) → get_or d.round.grants o None ≡ Some index → IsSettling d v rest' (granted_by index (get_or p.asks index None) w)
  settle-granted o e claim g =
      let P : Option ℕ → Type 0 = λ x. IsSettling d v rest' (granted_by index x w) in
      subst P (sym (asks-now o claim)) (step-granted d v w rest rest' index whole lists members member so_far o (decided-is d v index lists in_size ∙ e) claim g)

  settle-moved : (f : Flit) → first_flit v index ≡ Some f → (mv : Moves d v index) → verdict_in d v index ≡ Moved → IsSettling d v rest' (moved_in_phase index (view_input w index).phase w)
  settle-moved f first mv e =
      let P : InputState → Type 0 = λ p. IsSettling d v rest' (moved_in_phase index p w) in
      let Q : Option Flit → Type 0 = λ x. IsSettling d v rest' (moved_by index mv.out x w) in
      let R : View → Type 0 = λ x. IsSettling d v rest' x in
      subst P (sym (ap (λ (x : Input). x.phase) input_is ∙ mv.phase))
      (subst Q (sym (ap (λ (flits : List Flit). slice_get flits 0) buffer_is ∙ first))
      (subst R (sym (moved-parts index mv.out f w))
      (step-moved d v w rest rest' index whole lists members member so_far f first mv (decided-is d v index lists in_size ∙ e)
      (index / w.site.vcs) (index % w.site.vcs) (mv.out / w.site.vcs) (mv.out % w.site.vcs)
      (ap (λ (s : Site). index / s.vcs) site_is) (ap (λ (s : Site). index % s.vcs) site_is) (ap (λ (s : Site). mv.out / s.vcs) site_is) (ap (λ (s : Site). mv.out % s.vcs) site_is)
      (ejected_packet w (mv.out / w.site.vcs) f)
      (ap (λ (s : Site). if nat_lt (mv.out / w.site.vcs) (local_port s.grid) then None else (if f.last then Some f.packet else None)) site_is))))

  settle-step : (x : Verdict) → verdict_in d v index ≡ x → IsSettling d v rest' (effect_of p index w x)
  settle-step Routed e =
      let P : List ℕ → Type 0 = λ xs. IsSettling d v rest' (view_after_route index (slice_index xs index) w) in
      subst P (sym routes) (step-routed d v w rest rest' index whole lists members member so_far (decided-is d v index lists in_size ∙ e))
  settle-step Granted e = let g = verdict-granted v.site.vcs d.round index (view_claim v index) (holds_flit v index) e in settle-granted g.0 e g.1 g.2
  settle-step Moved e =
      let mv = moves-is d v index whole.some_vc e in
      let f = flit-first v index mv.flit in
      settle-moved f.0 f.1 mv e
  settle-step Empty e = step-quiet Empty e (λ h. cc h) (λ h. cc h) refl refl refl
  settle-step NoFlit e = step-quiet NoFlit e (λ h. cc h) (λ h. cc h) refl refl refl
  settle-step NoIdleChannel e = step-quiet NoIdleChannel e (λ h. cc h) (λ h. cc h) refl refl refl
  settle-step LostChannel e = step-quiet LostChannel e (λ h. cc h) (λ h. cc h) refl refl refl
  settle-step NoCredit e = step-quiet NoCredit e (λ h. cc h) (λ h. cc h) refl refl refl
  settle-step LostInput e = step-quiet LostInput e (λ h. cc h) (λ h. cc h) refl refl refl
  settle-step LostSwitch e = step-quiet LostSwitch e (λ h. cc h) (λ h. cc h) refl refl refl

-- ---- the whole
pub can_settle : (p : PlanContents) (v w : View) (rest rest' : ℕ → Bool) (index : ℕ) → IsWhole v → Lists (decisions_by p v) v → ((k : ℕ) → rest' k ≡ (not (nat_eq k index) && rest k)) → rest index ≡ true
    → IsSettling (decisions_by p v) v rest w → get_or p.asks index None ≡ ask_of (view_claim v index) → CanTakeEffect p w index (decided_verdict (decisions_by p v) index)
can_settle p v w rest rest' index whole lists members member so_far asked =
    let d = decisions_by p v in
    can-settle p d v w rest rest' index refl whole lists members member so_far asked (decided_verdict d index) (sym (decided-is d v index lists (so_far.below index member)))

pub settling_more : (p : PlanContents) (v w : View) (rest rest' : ℕ → Bool) (index : ℕ) → IsWhole v → Lists (decisions_by p v) v → ((k : ℕ) → rest' k ≡ (not (nat_eq k index) && rest k)) → rest index ≡ true
    → IsSettling (decisions_by p v) v rest w → get_or p.asks index None ≡ ask_of (view_claim v index)
    → IsSettling (decisions_by p v) v rest' (effect_of p index w (decided_verdict (decisions_by p v) index))
settling_more p v w rest rest' index whole lists members member so_far asked =
    let d = decisions_by p v in
    settle-step p d v w rest rest' index refl whole lists members member so_far asked (decided_verdict d index) (sym (decided-is d v index lists (so_far.below index member)))

pub settling_first : (d : Decisions) (v : View) → IsWhole v → Lists d v → v.to_put ≡ idle_beats v.site → IsSettling d v (from_next (size_of v.site) 0) v
settling_first d v whole lists idle =
    let n = size_of v.site in
    settling-first d v (from_next n 0) whole lists (λ i l. next-left n i l) (next-below n 0) idle
  where
    next-left : (n i : ℕ) → i < n → from_next n 0 i ≡ true
    next-left n i l = ap (λ b. not b && nat_lt i n) (le-ltb i 0 (omega arith)) ∙ lt-ltb i n l

pub settling_last : (d : Decisions) (v w : View) (rest : ℕ → Bool) → IsWhole v → Lists d v → IsSettling d v rest w → ((k : ℕ) → rest k ≡ false) → w ≡ view_after_verdicts d v
settling_last d v w rest whole lists so_far none = settling-last d v w rest whole lists so_far none
