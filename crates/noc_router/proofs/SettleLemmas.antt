-- The verdicts take effect one by one: what holds while some channels are left, and what a channel
-- that sends no flit changes.
use Rattle.std.proofs.Common.{◌≡◌, ◌≢◌, ℕ, ◌+◌, ◌*◌, ◌/◌, ◌%◌, ◌<◌, ◌≤◌, Bool, true, false, List, [], length, drop, get_or, set, Option, Some, None, refl, ap, sym, ◌∙◌, arith, inl, inr}
use Rattle.std.specs.Prelude.{◌⊎◌, ◌&&◌, not, option_and_then, option_map, unwrap_or, nat_eq, nat_lt, if◌then◌else◌, find, slice_index}
use Rattle.std.proofs.lemmas.Bool.{cases_eq, cases_lt, eq-eqb, ne_eqb, le-ltb, lt-ltb, ltb-true, false≢true, and_parts}
use Rattle.std.proofs.lemmas.List.{length-set, get_or-set_same, get_or-set_other}
use Rattle.noc_topo.specs.Lists.{below}
use Rattle.noc_topo.specs.Shape.{ports, local_port}
use Rattle.noc_packet.specs.declared.packet.Flit.{Flit}
use Rattle.noc_packet.specs.declared.packet.Beat.{Beat}
use Rattle.noc_vc.specs.Input.{Input, idle_input, input_after_route, input_after_grant}
use Rattle.noc_vc.specs.Output.{Output, ejection_output, is_free, output_after_hold}
use Rattle.noc_vc.specs.declared.input.InputState.TheVariants.{Active}
use Rattle.noc_vc.specs.declared.output.OutputState.{OutputState}
use Rattle.noc_vc.specs.declared.output.OutputState.TheVariants.{Idle as Free, Owned, Draining}
use Rattle.noc_router.specs.Settled.{view_after_route, view_after_grant}
use Rattle.noc_view.specs.States.{owns, is_owned_from}
use Rattle.noc_view.specs.Verdict.{Waits, ask_of, out_of, is_moved, is_event}
use Rattle.noc_view.specs.View.{View, Decisions, size_of, view_claim, view_buffer, view_input, view_output, first_flit, mover, mover_to, held_by, spent_by, tail_packet, decided_verdict, input_after, buffer_after, granted_to, idle_beat}
use Rattle.noc_view.specs.declared.verdict.Verdict.{Verdict}
use Rattle.noc_view.specs.declared.verdict.Verdict.TheVariants.{Empty, Routed, Granted, Moved}
use Rattle.noc_view.proofs.FindLemmas.{find-same}
use Rattle.noc_view.proofs.PlanLemmas.{Lists, verdict_in, decided-is, granted-asks, is-granted, mover-is, claim-waits, claim-holds}
use Rattle.noc_view.proofs.SinkLemmas.{sink_ends, sink_misfits}
use Rattle.noc_view.proofs.MoverLemmas.{port_below, mover_to-is}

-- ---- what is left
-- the channels from `next` on, of so many
abbrev pub from_next : ℕ → ℕ → ℕ → Bool
from_next n next k = not (nat_lt k next) && nat_lt k n

pub next-less : (n q k : ℕ) → from_next n (q + 1) k ≡ (not (nat_eq k q) && from_next n q k)
next-less n q k = at (cases_eq k q) (cases_lt k q)
  where
    at : (k ≡ q) ⊎ (k ≢ q) → (k < q) ⊎ (q ≤ k) → from_next n (q + 1) k ≡ (not (nat_eq k q) && from_next n q k)
    at (inl same) _ = ap (λ b. not b && nat_lt k n) (lt-ltb k (q + 1) (omega arith)) ∙ sym (ap (λ b. not b && from_next n q k) (eq-eqb k q same))
    at (inr other) (inl before) =
        ap (λ b. not b && nat_lt k n) (lt-ltb k (q + 1) (omega arith) ∙ sym (lt-ltb k q before)) ∙ sym (ap (λ b. not b && from_next n q k) (ne_eqb k q other))
    at (inr other) (inr after) =
        ap (λ b. not b && nat_lt k n) (le-ltb k (q + 1) (omega arith) ∙ sym (le-ltb k q after)) ∙ sym (ap (λ b. not b && from_next n q k) (ne_eqb k q other))

pub next-below : (n q k : ℕ) → from_next n q k ≡ true → k < n
next-below n q k e = ltb-true k n (and_parts (not (nat_lt k q)) (nat_lt k n) e).1

-- the next one is left
pub next-here : (n q : ℕ) → q < n → from_next n q q ≡ true
next-here n q l = ap (λ b. not b && nat_lt q n) (le-ltb q q (omega arith)) ∙ lt-ltb q n l

-- after the last none is left
pub next-none : (n q k : ℕ) → n ≤ q → from_next n q k ≡ false
next-none n q k l = at (cases_lt k n)
  where
    and-false : (b : Bool) → (b && false) ≡ false
    and-false true = refl
    and-false false = refl

    at : (k < n) ⊎ (n ≤ k) → from_next n q k ≡ false
    at (inl u) = ap (λ b. not b && nat_lt k n) (lt-ltb k q (omega arith))
    at (inr u) = ap (λ b. not (nat_lt k q) && b) (le-ltb k n u) ∙ and-false (not (nat_lt k q))

-- the verdict of channel i, where it is not left
abbrev pub left_verdict : Decisions → (ℕ → Bool) → ℕ → Verdict
left_verdict d rest i = if rest i then Empty else decided_verdict d i

-- the channel, where it is not left
abbrev pub left : (ℕ → Bool) → Option ℕ → Option ℕ
left rest None = None
left rest (Some i) = if rest i then None else Some i

-- the virtual channel and the flit that leave from this channel
abbrev pub flit_by : View → Option ℕ → Option (ℕ × Flit)
flit_by v m = option_and_then (λ i. option_and_then (λ o. option_map (λ f. (o % v.site.vcs, f)) (first_flit v i)) (out_of (view_claim v i))) m

abbrev pub credit_by : Decisions → View → (ℕ → Bool) → ℕ → Option ℕ
credit_by d v rest p = find (λ vc. is_moved (left_verdict d rest (p * v.site.vcs + vc))) (below v.site.vcs)

abbrev pub beat_by : Decisions → View → (ℕ → Bool) → ℕ → Beat
beat_by d v rest p = record { flit = flit_by v (left rest (mover v.site d.round p)); credit = credit_by d v rest p }

abbrev pub arrived_by : Decisions → View → (ℕ → Bool) → Option ℕ
arrived_by d v rest = tail_packet (flit_by v (left rest (mover v.site d.round (local_port v.site.grid))))

abbrev pub output_by : Decisions → View → (ℕ → Bool) → ℕ → Output
output_by d v rest o = spent_by v (held_by v (view_output v o) (left rest (get_or d.round.grants o None))) (left rest (mover_to v d.round o))

-- the channels of a view are as many as there are, and owned by those that own them
pub record IsWhole (v : View) : Type 0 where
  pub some_vc : 0 < v.site.vcs
  pub buffers : length v.buffers ≡ size_of v.site
  pub inputs : length v.inputs ≡ size_of v.site
  pub outputs : length v.outputs ≡ size_of v.site
  pub within : (i o : ℕ) → i < size_of v.site → (view_input v i).phase ≡ Active o → o < size_of v.site
  pub owners : (i o : ℕ) → i < size_of v.site → o < size_of v.site → owns (view_input v i).phase o ≡ is_owned_from (view_output v o).holder i

-- the verdicts of all channels but those that are left have taken effect
pub record IsSettling (d : Decisions) (v : View) (rest : ℕ → Bool) (w : View) : Type 0 where
  pub others : w ≡ record v { buffers = w.buffers; inputs = w.inputs; outputs = w.outputs; ends = w.ends; misfits = w.misfits; had_event = w.had_event; to_put = w.to_put }
  pub below : (k : ℕ) → rest k ≡ true → k < size_of v.site
  pub n_buffers : length w.buffers ≡ size_of v.site
  pub n_inputs : length w.inputs ≡ size_of v.site
  pub n_outputs : length w.outputs ≡ size_of v.site
  pub n_beats : length w.to_put ≡ local_port v.site.grid
  pub buffers : (i : ℕ) → i < size_of v.site → view_buffer w i ≡ buffer_after (view_buffer v i) (left_verdict d rest i)
  pub inputs : (i : ℕ) → i < size_of v.site → view_input w i ≡ input_after d v i (view_input v i) (left_verdict d rest i)
  pub outputs : (o : ℕ) → o < size_of v.site → view_output w o ≡ output_by d v rest o
  pub beats : (p : ℕ) → p < local_port v.site.grid → get_or w.to_put p idle_beat ≡ beat_by d v rest p
  pub ends : w.ends ≡ sink_ends (arrived_by d v rest) v.given v.ends
  pub misfits : w.misfits ≡ sink_misfits (arrived_by d v rest) v.ends v.misfits
  pub event_kept : v.had_event ≡ true → w.had_event ≡ true
  pub event_of : (i : ℕ) → i < size_of v.site → rest i ≡ false → is_event (decided_verdict d i) ≡ true → w.had_event ≡ true
  pub event_from : w.had_event ≡ true → (v.had_event ≡ true) ⊎ ((i : ℕ) × (i < size_of v.site) × (is_event (decided_verdict d i) ≡ true))

-- ---- one channel less is left
module _ (rest rest' : ℕ → Bool) (index : ℕ) (members : (k : ℕ) → rest' k ≡ (not (nat_eq k index) && rest k)) (member : rest index ≡ true) where
  gone : (k : ℕ) → k ≡ index → rest' k ≡ false
  gone k e = members k ∙ ap (λ b. not b && rest k) (eq-eqb k index e)

  kept : (k : ℕ) → k ≢ index → rest' k ≡ rest k
  kept k other = members k ∙ ap (λ b. not b && rest k) (ne_eqb k index other)

  pub verdict-kept : (d : Decisions) (k : ℕ) → k ≢ index → left_verdict d rest' k ≡ left_verdict d rest k
  verdict-kept d k other = ap (λ b. if b then Empty else decided_verdict d k) (kept k other)

  verdict-here : (d : Decisions) → left_verdict d rest index ≡ Empty
  verdict-here d = ap (λ b. if b then Empty else decided_verdict d index) member

  pub verdict-gone : (d : Decisions) (k : ℕ) → k ≡ index → left_verdict d rest' k ≡ decided_verdict d k
  verdict-gone d k e = ap (λ b. if b then Empty else decided_verdict d k) (gone k e)

  pub left-kept : (m : Option ℕ) → m ≢ Some index → left rest' m ≡ left rest m
  left-kept None other = refl
  left-kept (Some k) other = ap (λ b. if b then None else Some k) (kept k (λ e. other (ap Some e)))

  pub left-here : (m : Option ℕ) → m ≡ Some index → left rest m ≡ None
  left-here m e = ap (left rest) e ∙ ap (λ b. if b then None else Some index) member

  pub left-gone : (m : Option ℕ) → m ≡ Some index → left rest' m ≡ Some index
  left-gone m e = ap (left rest') e ∙ ap (λ b. if b then None else Some index) (gone index refl)

  -- a flit that does not move leaves no credit
  pub credit-kept : (d : Decisions) (v : View) (p : ℕ) → is_moved (decided_verdict d index) ≡ false → credit_by d v rest' p ≡ credit_by d v rest p
  credit-kept d v p e =
      find-same (λ vc. is_moved (left_verdict d rest' (p * v.site.vcs + vc))) (λ vc. is_moved (left_verdict d rest (p * v.site.vcs + vc))) v.site.vcs
      (λ vc l. at (p * v.site.vcs + vc) (cases_eq (p * v.site.vcs + vc) index))
    where
      at : (k : ℕ) → (k ≡ index) ⊎ (k ≡ index → ⊥) → is_moved (left_verdict d rest' k) ≡ is_moved (left_verdict d rest k)
      at k (inr other) = ap is_moved (verdict-kept d k other)
      at k (inl same) =
          ap is_moved (verdict-gone d k same) ∙ ap (λ j. is_moved (decided_verdict d j)) same ∙ e
          ∙ sym (ap is_moved (ap (left_verdict d rest) same ∙ verdict-here d))

-- an active channel owns its output channel, which is then not free
not_free : (i : ℕ) (h : OutputState) → is_owned_from h i ≡ true → is_free h ≡ false
not_free i Free e = absurd (false≢true e)
not_free i (Owned k p) e = refl
not_free i Draining e = absurd (false≢true e)

owned_not_free : (v : View) (i o : ℕ) → IsWhole v → i < size_of v.site → o < size_of v.site → (view_input v i).phase ≡ Active o → is_free (view_output v o).holder ≡ false
owned_not_free v i o whole li lo p =
    not_free i (view_output v o).holder (sym (whole.owners i o li lo) ∙ ap (λ phase. owns phase o) p ∙ eq-eqb o o refl)

module _ (d : Decisions) (v : View) (whole : IsWhole v) (lists : Lists d v) where
  -- no flit moves to an output channel that is granted
  pub not_both : (o i j : ℕ) → o < size_of v.site → get_or d.round.grants o None ≡ Some i → mover_to v d.round o ≡ Some j → ⊥
  not_both o i j l g m =
      let a = granted-asks d v o i lists l g in
      let w = claim-waits v (view_input v i).phase o a.1 in
      let t = mover_to-is d v o j m in
      let mv = mover-is d v (o / v.site.vcs) j lists (port_below v o whole.some_vc l) t.0 in
      let s : Some mv.out ≡ Some o = sym (ap out_of mv.claim) ∙ t.1 in
      let same : mv.out ≡ o = cc in
      let p : (view_input v j).phase ≡ Active o = (claim-holds v (view_input v j).phase mv.out true mv.claim).0 ∙ ap Active same in
      false≢true (sym (owned_not_free v j o whole mv.within l p) ∙ w.1)

  pub not_granted : (index o : ℕ) → o < size_of v.site → verdict_in d v index ≢ Granted → get_or d.round.grants o None ≢ Some index
  not_granted index o l other g = let a = granted-asks d v o index lists l g in other (is-granted d v o index a.1 g)

  pub not_mover : (index p : ℕ) → p < ports v.site.grid → verdict_in d v index ≢ Moved → mover v.site d.round p ≢ Some index
  not_mover index p l other m = let mv = mover-is d v p index lists l m in other mv.verdict

  not_mover_to : (index o : ℕ) → o < size_of v.site → verdict_in d v index ≢ Moved → mover_to v d.round o ≢ Some index
  not_mover_to index o l other m = not_mover index (o / v.site.vcs) (port_below v o whole.some_vc l) other (mover_to-is d v o index m).0

-- ---- a step
module _ (d : Decisions) (v w : View) (rest rest' : ℕ → Bool) (index : ℕ) (whole : IsWhole v) (lists : Lists d v) (members : (k : ℕ) → rest' k ≡ (not (nat_eq k index) && rest k))
    (member : rest index ≡ true) (so_far : IsSettling d v rest w) where
  pub inside : index < size_of v.site
  inside = so_far.below index member

  decided : decided_verdict d index ≡ verdict_in d v index
  decided = decided-is d v index lists inside

  pub below-step : (k : ℕ) → rest' k ≡ true → k < size_of v.site
  below-step k t = so_far.below k (and_parts (not (nat_eq k index)) (rest k) (sym (members k) ∙ t)).1

  pub buffer-here : view_buffer w index ≡ view_buffer v index
  buffer-here = so_far.buffers index inside ∙ ap (buffer_after (view_buffer v index)) (verdict-here rest rest' index members member d)

  pub input-here : view_input w index ≡ view_input v index
  input-here = so_far.inputs index inside ∙ ap (input_after d v index (view_input v index)) (verdict-here rest rest' index members member d)

  pub buffers-step : (bs : List (List Flit)) → get_or bs index [] ≡ buffer_after (view_buffer v index) (decided_verdict d index) → ((i : ℕ) → i ≢ index → get_or bs i [] ≡ view_buffer w i)
      → (i : ℕ) → i < size_of v.site → get_or bs i [] ≡ buffer_after (view_buffer v i) (left_verdict d rest' i)
  buffers-step bs here there i l = at (cases_eq i index)
    where
      at : (i ≡ index) ⊎ (i ≡ index → ⊥) → get_or bs i [] ≡ buffer_after (view_buffer v i) (left_verdict d rest' i)
      at (inl same) =
          ap (λ k. get_or bs k []) same ∙ here ∙ ap (λ k. buffer_after (view_buffer v k) (decided_verdict d k)) (sym same)
          ∙ ap (buffer_after (view_buffer v i)) (sym (verdict-gone rest rest' index members member d i same))
      at (inr other) = there i other ∙ so_far.buffers i l ∙ ap (buffer_after (view_buffer v i)) (sym (verdict-kept rest rest' index members member d i other))

  pub inputs-step : (xs : List Input) → get_or xs index idle_input ≡ input_after d v index (view_input v index) (decided_verdict d index) → ((i : ℕ) → i ≢ index → get_or xs i idle_input ≡ view_input w i)
      → (i : ℕ) → i < size_of v.site → get_or xs i idle_input ≡ input_after d v i (view_input v i) (left_verdict d rest' i)
  inputs-step xs here there i l = at (cases_eq i index)
    where
      at : (i ≡ index) ⊎ (i ≡ index → ⊥) → get_or xs i idle_input ≡ input_after d v i (view_input v i) (left_verdict d rest' i)
      at (inl same) =
          ap (λ k. get_or xs k idle_input) same ∙ here ∙ ap (λ k. input_after d v k (view_input v k) (decided_verdict d k)) (sym same)
          ∙ ap (input_after d v i (view_input v i)) (sym (verdict-gone rest rest' index members member d i same))
      at (inr other) = there i other ∙ so_far.inputs i l ∙ ap (input_after d v i (view_input v i)) (sym (verdict-kept rest rest' index members member d i other))

  pub outputs-step : (o : ℕ) → o < size_of v.site → get_or d.round.grants o None ≢ Some index → mover_to v d.round o ≢ Some index → view_output w o ≡ output_by d v rest' o
  outputs-step o l g m =
      so_far.outputs o l
      ∙ ap (λ x. spent_by v (held_by v (view_output v o) x) (left rest (mover_to v d.round o))) (sym (left-kept rest rest' index members member (get_or d.round.grants o None) g))
      ∙ ap (λ x. spent_by v (held_by v (view_output v o) (left rest' (get_or d.round.grants o None))) x) (sym (left-kept rest rest' index members member (mover_to v d.round o) m))

  -- what a channel that does not move leaves alone
  module _ (still : verdict_in d v index ≢ Moved) (no_move : is_moved (decided_verdict d index) ≡ false) where
    port_is_below : (p : ℕ) → p < local_port v.site.grid → p < ports v.site.grid
    port_is_below p l = omega arith

    beats-still : (p : ℕ) → p < local_port v.site.grid → get_or w.to_put p idle_beat ≡ beat_by d v rest' p
    beats-still p l =
        so_far.beats p l
        ∙ ap (λ x. beat_from (flit_by v x) (credit_by d v rest p)) (sym (left-kept rest rest' index members member (mover v.site d.round p) (not_mover d v whole lists index p (port_is_below p l) still)))
        ∙ ap (λ x. beat_from (flit_by v (left rest' (mover v.site d.round p))) x) (sym (credit-kept rest rest' index members member d v p no_move))
      where
        beat_from : Option (ℕ × Flit) → Option ℕ → Beat
        beat_from flit credit = record { flit = flit; credit = credit }

    arrived-still : arrived_by d v rest ≡ arrived_by d v rest'
    arrived-still = ap (λ x. tail_packet (flit_by v x)) (sym (left-kept rest rest' index members member (mover v.site d.round (local_port v.site.grid)) (not_mover d v whole lists index (local_port v.site.grid) (omega arith) still)))

  event_of-still : is_event (decided_verdict d index) ≡ false → (i : ℕ) → i < size_of v.site → rest' i ≡ false → is_event (decided_verdict d i) ≡ true → w.had_event ≡ true
  event_of-still quiet i l e t = at (cases_eq i index)
    where
      at : (i ≡ index) ⊎ (i ≡ index → ⊥) → w.had_event ≡ true
      at (inl same) = absurd (false≢true (sym quiet ∙ ap (λ k. is_event (decided_verdict d k)) (sym same) ∙ t))
      at (inr other) = so_far.event_of i l (sym (kept rest rest' index members member i other) ∙ e) t

  -- nothing takes effect
  pub step-plain : verdict_in d v index ≢ Granted → verdict_in d v index ≢ Moved → is_moved (decided_verdict d index) ≡ false → is_event (decided_verdict d index) ≡ false
      → input_after d v index (view_input v index) (decided_verdict d index) ≡ view_input v index → IsSettling d v rest' w
  step-plain no_grant still no_move quiet same = record {
    others = so_far.others;
    below = below-step;
    n_buffers = so_far.n_buffers;
    n_inputs = so_far.n_inputs;
    n_outputs = so_far.n_outputs;
    n_beats = so_far.n_beats;
    buffers = buffers-step w.buffers (buffer-here ∙ sym (ap (λ b. if b then drop 1 (view_buffer v index) else view_buffer v index) no_move)) (λ i other. refl);
    inputs = inputs-step w.inputs (input-here ∙ sym same) (λ i other. refl);
    outputs = λ o l. outputs-step o l (not_granted d v whole lists index o l no_grant) (not_mover_to d v whole lists index o l still);
    beats = beats-still still no_move;
    ends = so_far.ends ∙ ap (λ a. sink_ends a v.given v.ends) (arrived-still still no_move);
    misfits = so_far.misfits ∙ ap (λ a. sink_misfits a v.ends v.misfits) (arrived-still still no_move);
    event_kept = so_far.event_kept;
    event_of = event_of-still quiet;
    event_from = so_far.event_from;
  }

  -- the head of the channel was routed
  pub step-routed : decided_verdict d index ≡ Routed → IsSettling d v rest' (view_after_route index (slice_index d.routes index) w)
  step-routed e =
      let set_to = slice_index d.routes index in
      let new = input_after_route (view_input w index) set_to in
      let no_grant : verdict_in d v index ≢ Granted = λ g. let s : Routed ≡ Granted = sym e ∙ decided ∙ g in cc s in
      let still : verdict_in d v index ≢ Moved = λ g. let s : Routed ≡ Moved = sym e ∙ decided ∙ g in cc s in
      let no_move : is_moved (decided_verdict d index) ≡ false = ap is_moved e in
      record {
        others = ap (λ (x : View). record x { inputs = set w.inputs index new; had_event = true }) so_far.others;
        below = below-step;
        n_buffers = so_far.n_buffers;
        n_inputs = length-set w.inputs index new ∙ so_far.n_inputs;
        n_outputs = so_far.n_outputs;
        n_beats = so_far.n_beats;
        buffers = buffers-step w.buffers (buffer-here ∙ sym (ap (λ b. if b then drop 1 (view_buffer v index) else view_buffer v index) no_move)) (λ i other. refl);
        inputs = inputs-step (set w.inputs index new)
            (get_or-set_same w.inputs index new idle_input (let n : length w.inputs ≡ size_of v.site = so_far.n_inputs in let l : index < size_of v.site = inside in omega arith)
            ∙ ap (λ (x : Input). input_after_route x set_to) input-here ∙ sym (ap (input_after d v index (view_input v index)) e))
            (λ i other. get_or-set_other w.inputs index i new idle_input other);
        outputs = λ o l. outputs-step o l (not_granted d v whole lists index o l no_grant) (not_mover_to d v whole lists index o l still);
        beats = beats-still still no_move;
        ends = so_far.ends ∙ ap (λ a. sink_ends a v.given v.ends) (arrived-still still no_move);
        misfits = so_far.misfits ∙ ap (λ a. sink_misfits a v.ends v.misfits) (arrived-still still no_move);
        event_kept = λ t. refl;
        event_of = λ i l b t. refl;
        event_from = λ t. inr (index, inside, ap is_event e);
      }

  -- the packet of the channel was granted an output channel
  pub step-granted : (o : ℕ) → decided_verdict d index ≡ Granted → view_claim v index ≡ Waits (Some o) → get_or d.round.grants o None ≡ Some index → IsSettling d v rest' (view_after_grant index o w)
  step-granted o e claim g =
      let new = input_after_grant (view_input w index) o in
      let free = claim-waits v (view_input v index).phase o claim in
      let packet = unwrap_or (view_input w index).packet 0 in
      let out = output_after_hold (view_output w o) index packet in
      let still : verdict_in d v index ≢ Moved = λ m. let s : Granted ≡ Moved = sym e ∙ decided ∙ m in cc s in
      let no_move : is_moved (decided_verdict d index) ≡ false = ap is_moved e in
      record {
        others = ap (λ (x : View). record x { inputs = set w.inputs index new; outputs = set w.outputs o out; had_event = true }) so_far.others;
        below = below-step;
        n_buffers = so_far.n_buffers;
        n_inputs = length-set w.inputs index new ∙ so_far.n_inputs;
        n_outputs = length-set w.outputs o out ∙ so_far.n_outputs;
        n_beats = so_far.n_beats;
        buffers = buffers-step w.buffers (buffer-here ∙ sym (ap (λ b. if b then drop 1 (view_buffer v index) else view_buffer v index) no_move)) (λ i other. refl);
        inputs = inputs-step (set w.inputs index new)
            (get_or-set_same w.inputs index new idle_input (let n : length w.inputs ≡ size_of v.site = so_far.n_inputs in let l : index < size_of v.site = inside in omega arith)
            ∙ ap (λ (x : Input). input_after_grant x o) input-here ∙ sym (ap (input_after d v index (view_input v index)) e ∙ ap (λ c. granted_to (view_input v index) (ask_of c)) claim))
            (λ i other. get_or-set_other w.inputs index i new idle_input other);
        outputs = λ k l. output_at k l (cases_eq k o) free.2;
        beats = beats-still still no_move;
        ends = so_far.ends ∙ ap (λ a. sink_ends a v.given v.ends) (arrived-still still no_move);
        misfits = so_far.misfits ∙ ap (λ a. sink_misfits a v.ends v.misfits) (arrived-still still no_move);
        event_kept = λ t. refl;
        event_of = λ i l b t. refl;
        event_from = λ t. inr (index, inside, ap is_event e);
      }
    where
      packet_now : ℕ
      packet_now = unwrap_or (view_input w index).packet 0

      none_moves : o < size_of v.site → (m : Option ℕ) → mover_to v d.round o ≡ m → m ≡ None
      none_moves l None h = refl
      none_moves l (Some j) h = absurd (not_both d v whole lists o index j l g h)

      before : o < size_of v.site → view_output w o ≡ view_output v o
      before l =
          so_far.outputs o l
          ∙ ap (λ x. spent_by v (held_by v (view_output v o) x) (left rest (mover_to v d.round o))) (left-here rest rest' index members member (get_or d.round.grants o None) g)
          ∙ ap (λ m. spent_by v (view_output v o) (left rest m)) (none_moves l (mover_to v d.round o) refl)

      after : o < size_of v.site → output_by d v rest' o ≡ output_after_hold (view_output v o) index (unwrap_or (view_input v index).packet 0)
      after l =
          ap (λ x. spent_by v (held_by v (view_output v o) x) (left rest' (mover_to v d.round o))) (left-gone rest rest' index members member (get_or d.round.grants o None) g)
          ∙ ap (λ m. spent_by v (output_after_hold (view_output v o) index (unwrap_or (view_input v index).packet 0)) (left rest' m)) (none_moves l (mover_to v d.round o) refl)

      output_at : (k : ℕ) → k < size_of v.site → (k ≡ o) ⊎ (k ≡ o → ⊥) → o < size_of v.site
          → get_or (set w.outputs o (output_after_hold (view_output w o) index (unwrap_or (view_input w index).packet 0))) k ejection_output ≡ output_by d v rest' k
      output_at k l (inl same) lo =
          ap (λ j. get_or (set w.outputs o (output_after_hold (view_output w o) index (unwrap_or (view_input w index).packet 0))) j ejection_output) same
          ∙ get_or-set_same w.outputs o (output_after_hold (view_output w o) index (unwrap_or (view_input w index).packet 0)) ejection_output (let n : length w.outputs ≡ size_of v.site = so_far.n_outputs in omega arith)
          ∙ ap (λ (x : Output). output_after_hold x index (unwrap_or (view_input w index).packet 0)) (before lo)
          ∙ ap (λ (x : Input). output_after_hold (view_output v o) index (unwrap_or x.packet 0)) input-here
          ∙ sym (after lo) ∙ ap (output_by d v rest') (sym same)
      output_at k l (inr other) lo =
          get_or-set_other w.outputs o k (output_after_hold (view_output w o) index (unwrap_or (view_input w index).packet 0)) ejection_output other
          ∙ outputs-step k l
          (λ h. let a : Waits (Some k) ≡ Waits (Some o) = sym (granted-asks d v k index lists l h).1 ∙ claim_is in let s : k ≡ o = cc in other s)
          (not_mover_to d v whole lists index k l (λ m. let s : Granted ≡ Moved = sym e ∙ decided ∙ m in cc s))
        where
          claim_is : view_claim v index ≡ Waits (Some o)
          claim_is = claim
