-- The verdicts take effect one by one: a channel sends its first flit.
use Rattle.std.proofs.Common.{◌≡◌, ◌≢◌, ℕ, ◌+◌, ◌*◌, ◌/◌, ◌%◌, ◌<◌, ◌≤◌, Bool, true, false, List, [], length, drop, get_or, set, Option, Some, None, refl, ap, sym, ◌∙◌, arith, inl, inr}
use Rattle.std.specs.Prelude.{◌⊎◌, ◌&&◌, not, option_and_then, option_map, nat_eq, nat_lt, if◌then◌else◌}
use Rattle.std.proofs.lemmas.Bool.{cases_eq, cases_lt, false≢true, lt-ltb, le-ltb}
use Rattle.std.proofs.lemmas.Nat.{mul-add-lt, div-mul-add, mod-mul-add, div-add-mod'}
use Rattle.std.proofs.Math.Nat.{mod-lt}
use Rattle.std.proofs.lemmas.List.{length-set, get_or-set_same, get_or-set_other}
use Rattle.noc_topo.specs.Shape.{ports, local_port}
use Rattle.noc_packet.specs.declared.packet.Flit.{Flit}
use Rattle.noc_packet.specs.declared.packet.Beat.{Beat}
use Rattle.noc_vc.specs.Input.{Input, idle_input, input_after_send}
use Rattle.noc_vc.specs.Output.{ejection_output, output_after_spend}
use Rattle.noc_router.specs.Settled.{with_flit_at, with_credit_at, ejected_packet, moved_by}
use Rattle.noc_view.specs.Verdict.{Holds, out_of, is_moved, is_event}
use Rattle.noc_view.specs.View.{View, Decisions, size_of, view_buffer, view_input, view_output, first_flit, mover, mover_to, held_by, spent_by, is_tail, tail_packet, decided_verdict, input_after, buffer_after, sent_from, idle_beat}
use Rattle.noc_view.specs.declared.verdict.Verdict.{Verdict}
use Rattle.noc_view.specs.declared.verdict.Verdict.TheVariants.{Empty, Granted, Moved}
use Rattle.noc_view.proofs.FindLemmas.{find-same, find-at}
use Rattle.noc_view.proofs.PlanLemmas.{Lists, verdict_in, decided-is, mover-is, Moves, one_pick}
use Rattle.noc_router.proofs.SettleLemmas.{IsSettling, IsWhole, arrived_by, below-step, buffer-here, buffers-step, credit_by, flit_by, input-here, inputs-step, left, left-gone, left-here, left-kept, left_verdict, not_both, not_granted, output_by, outputs-step, verdict-gone, verdict-kept}
use Rattle.noc_view.proofs.SinkLemmas.{arrival-is, sink_ends, sink_misfits}
use Rattle.noc_view.proofs.MoverLemmas.{mover_to-from, mover_to-is, port_below, is_moved-true}

-- ---- a flit moves
-- a list of beats with a credit at one port and a flit at one
credit_at : (beats : List Beat) (from back p : ℕ) → p < length beats → (from ≡ p → get_or (with_credit_at from back beats) p idle_beat ≡ record (get_or beats p idle_beat) { credit = Some back })
    × (p ≢ from → get_or (with_credit_at from back beats) p idle_beat ≡ get_or beats p idle_beat)
credit_at beats from back p l = (
  (λ e. ap (λ k. get_or (with_credit_at k back beats) p idle_beat) e ∙ get_or-set_same beats p (record (get_or beats p idle_beat) { credit = Some back }) idle_beat l),
  (λ other. get_or-set_other beats from p (record (get_or beats from idle_beat) { credit = Some back }) idle_beat other),
)

flit_at_port : (beats : List Beat) (to vc : ℕ) (f : Flit) (p : ℕ) → p < length beats → (to ≡ p → get_or (with_flit_at to vc f beats) p idle_beat ≡ record (get_or beats p idle_beat) { flit = Some (vc, f) })
    × (p ≢ to → get_or (with_flit_at to vc f beats) p idle_beat ≡ get_or beats p idle_beat)
flit_at_port beats to vc f p l = (
  (λ e. ap (λ k. get_or (with_flit_at k vc f beats) p idle_beat) e ∙ get_or-set_same beats p (record (get_or beats p idle_beat) { flit = Some (vc, f) }) idle_beat l),
  (λ other. get_or-set_other beats to p (record (get_or beats to idle_beat) { flit = Some (vc, f) }) idle_beat other),
)

-- the beat at one port after both, from what its two halves were and what they are to be
pub both-at : (beats : List Beat) (from back to vc : ℕ) (f : Flit) (p : ℕ) (flit0 flit1 : Option (ℕ × Flit)) (credit0 credit1 : Option ℕ) → p < length beats
    → get_or beats p idle_beat ≡ record { flit = flit0; credit = credit0 }
    → (to ≡ p → flit1 ≡ Some (vc, f)) → (p ≢ to → flit1 ≡ flit0) → (from ≡ p → credit1 ≡ Some back) → (p ≢ from → credit1 ≡ credit0)
    → get_or (with_flit_at to vc f (with_credit_at from back beats)) p idle_beat ≡ record { flit = flit1; credit = credit1 }
both-at beats from back to vc f p flit0 flit1 credit0 credit1 l e f1 f0 c1 c0 = at (cases_eq p from) (cases_eq p to)
  where
    long : p < length (with_credit_at from back beats)
    long = let n : length (with_credit_at from back beats) ≡ length beats = length-set beats from (record (get_or beats from idle_beat) { credit = Some back }) in omega arith

    credit : (p ≡ from) ⊎ (p ≡ from → ⊥) → get_or (with_credit_at from back beats) p idle_beat ≡ record { flit = flit0; credit = credit1 }
    credit (inl same) =
        (credit_at beats from back p l).0 (sym same) ∙ ap (λ (b : Beat). record b { credit = Some back }) e ∙ ap (λ y. beat_pair flit0 y) (sym (c1 (sym same)))
      where
        beat_pair : Option (ℕ × Flit) → Option ℕ → Beat
        beat_pair x y = record { flit = x; credit = y }
    credit (inr other) = (credit_at beats from back p l).1 other ∙ e ∙ ap (λ y. beat_pair flit0 y) (sym (c0 other))
      where
        beat_pair : Option (ℕ × Flit) → Option ℕ → Beat
        beat_pair x y = record { flit = x; credit = y }

    at : (p ≡ from) ⊎ (p ≡ from → ⊥) → (p ≡ to) ⊎ (p ≡ to → ⊥) → get_or (with_flit_at to vc f (with_credit_at from back beats)) p idle_beat ≡ record { flit = flit1; credit = credit1 }
    at c (inl same) =
        (flit_at_port (with_credit_at from back beats) to vc f p long).0 (sym same) ∙ ap (λ (b : Beat). record b { flit = Some (vc, f) }) (credit c) ∙ ap (λ x. beat_pair x credit1) (sym (f1 (sym same)))
      where
        beat_pair : Option (ℕ × Flit) → Option ℕ → Beat
        beat_pair x y = record { flit = x; credit = y }
    at c (inr other) =
        (flit_at_port (with_credit_at from back beats) to vc f p long).1 other ∙ credit c ∙ ap (λ x. beat_pair x credit1) (sym (f0 other))
      where
        beat_pair : Option (ℕ × Flit) → Option ℕ → Beat
        beat_pair x y = record { flit = x; credit = y }

-- the view after a flit has moved, in parts
pub moved-parts : (i o : ℕ) (f : Flit) (w : View) →
    let from = i / w.site.vcs in
    let to = o / w.site.vcs in
    let beats = with_flit_at to (o % w.site.vcs) f (with_credit_at from (i % w.site.vcs) w.to_put) in
    moved_by i o (Some f) w ≡ record w {
      buffers = set w.buffers i (drop 1 (view_buffer w i));
      inputs = set w.inputs i (input_after_send (view_input w i) f);
      outputs = set w.outputs o (output_after_spend f.last (view_output w o));
      had_event = true;
      to_put = beats;
      ends = sink_ends (ejected_packet w to f) w.given w.ends;
      misfits = sink_misfits (ejected_packet w to f) w.ends w.misfits;
    }
moved-parts i o f w =
    arrival-is (ejected_packet w (o / w.site.vcs) f) (record w {
      buffers = set w.buffers i (drop 1 (view_buffer w i));
      inputs = set w.inputs i (input_after_send (view_input w i) f);
      outputs = set w.outputs o (output_after_spend f.last (view_output w o));
      had_event = true;
      to_put = with_flit_at (o / w.site.vcs) (o % w.site.vcs) f (with_credit_at (i / w.site.vcs) (i % w.site.vcs) w.to_put);
    })

pub site-kept : (d : Decisions) (v w : View) (rest : ℕ → Bool) → IsSettling d v rest w → w.site ≡ v.site
site-kept d v w rest so_far = ap (λ (x : View). x.site) so_far.others

pub given-kept : (d : Decisions) (v w : View) (rest : ℕ → Bool) → IsSettling d v rest w → w.given ≡ v.given
given-kept d v w rest so_far = ap (λ (x : View). x.given) so_far.others

not_left_moved : (b : Bool) (x : Verdict) → is_moved (if b then Empty else x) ≡ true → x ≡ Moved
not_left_moved true x e = absurd (false≢true e)
not_left_moved false x e = is_moved-true x e

module _ (d : Decisions) (v w : View) (rest rest' : ℕ → Bool) (index : ℕ) (whole : IsWhole v) (lists : Lists d v) (members : (k : ℕ) → rest' k ≡ (not (nat_eq k index) && rest k))
    (member : rest index ≡ true) (so_far : IsSettling d v rest w) (f : Flit) (first : first_flit v index ≡ Some f) (mv : Moves d v index) (e : decided_verdict d index ≡ Moved)
    (from back to vc : ℕ) (from_is : from ≡ index / v.site.vcs) (back_is : back ≡ index % v.site.vcs) (to_is : to ≡ mv.out / v.site.vcs) (vc_is : vc ≡ mv.out % v.site.vcs) where
  index_in : index < size_of v.site
  index_in = so_far.below index member

  out_in : mv.out < size_of v.site
  out_in = whole.within index mv.out index_in mv.phase

  verdict_now : verdict_in d v index ≡ Moved
  verdict_now = sym (decided-is d v index lists index_in) ∙ e

  moves_to : mover_to v d.round mv.out ≡ Some index
  moves_to = mover_to-from d v mv.out index mv.mover (ap out_of mv.claim)

  mover_at_to : mover v.site d.round to ≡ Some index
  mover_at_to = ap (mover v.site d.round) to_is ∙ mv.mover

  -- no other port is that of the output channel
  other_port : (p : ℕ) → p < ports v.site.grid → p ≢ to → mover v.site d.round p ≢ Some index
  other_port p l other m =
      let mover = mover-is d v p index lists l m in
      let same : Holds mover.out true ≡ Holds mv.out true = sym mover.claim ∙ mv.claim in
      let out : mover.out ≡ mv.out = cc same in
      other (sym mover.to ∙ ap (λ o. o / v.site.vcs) out ∙ sym to_is)

  none_granted : (m : Option ℕ) → get_or d.round.grants mv.out None ≡ m → m ≡ None
  none_granted None g = refl
  none_granted (Some j) g = absurd (not_both d v whole lists mv.out j index out_in g moves_to)

  before-out : view_output w mv.out ≡ view_output v mv.out
  before-out =
      so_far.outputs mv.out out_in
      ∙ ap (λ m. spent_by v (held_by v (view_output v mv.out) (left rest (get_or d.round.grants mv.out None))) m) (left-here rest rest' index members member (mover_to v d.round mv.out) moves_to)
      ∙ ap (λ m. held_by v (view_output v mv.out) (left rest m)) (none_granted (get_or d.round.grants mv.out None) refl)

  after-out : output_by d v rest' mv.out ≡ output_after_spend f.last (view_output v mv.out)
  after-out =
      ap (λ m. spent_by v (held_by v (view_output v mv.out) (left rest' (get_or d.round.grants mv.out None))) m) (left-gone rest rest' index members member (mover_to v d.round mv.out) moves_to)
      ∙ ap (λ m. output_after_spend (is_tail (first_flit v index)) (held_by v (view_output v mv.out) (left rest' m))) (none_granted (get_or d.round.grants mv.out None) refl)
      ∙ ap (λ (x : Option Flit). output_after_spend (is_tail x) (view_output v mv.out)) first

  moved-output : (k : ℕ) → k < size_of v.site → get_or (set w.outputs mv.out (output_after_spend f.last (view_output w mv.out))) k ejection_output ≡ output_by d v rest' k
  moved-output k l = at (cases_eq k mv.out)
    where
      at : (k ≡ mv.out) ⊎ (k ≡ mv.out → ⊥) → get_or (set w.outputs mv.out (output_after_spend f.last (view_output w mv.out))) k ejection_output ≡ output_by d v rest' k
      at (inl same) =
          ap (λ j. get_or (set w.outputs mv.out (output_after_spend f.last (view_output w mv.out))) j ejection_output) same
          ∙ get_or-set_same w.outputs mv.out (output_after_spend f.last (view_output w mv.out)) ejection_output (let n : length w.outputs ≡ size_of v.site = so_far.n_outputs in let u : mv.out < size_of v.site = out_in in omega arith)
          ∙ ap (output_after_spend f.last) before-out ∙ sym after-out ∙ ap (output_by d v rest') (sym same)
      at (inr other) =
          get_or-set_other w.outputs mv.out k (output_after_spend f.last (view_output w mv.out)) ejection_output other
          ∙ outputs-step d v w rest rest' index whole lists members member so_far k l
          (not_granted d v whole lists index k l (λ g. let s : Moved ≡ Granted = sym verdict_now ∙ g in cc s))
          (λ m. let s : Some mv.out ≡ Some k = sym (ap out_of mv.claim) ∙ (mover_to-is d v k index m).1 in let t : k ≡ mv.out = cc s in other t)

  flit-to : (p : ℕ) → to ≡ p → flit_by v (left rest' (mover v.site d.round p)) ≡ Some (vc, f)
  flit-to p same =
      ap (flit_by v) (left-gone rest rest' index members member (mover v.site d.round p) (ap (mover v.site d.round) (sym same) ∙ mover_at_to))
      ∙ ap (λ c. option_and_then (λ o. option_map (λ x. (o % v.site.vcs, x)) (first_flit v index)) (out_of c)) mv.claim
      ∙ ap (λ (x : Option Flit). option_map (λ y. (mv.out % v.site.vcs, y)) x) first
      ∙ ap (λ n. Some (n, f)) (sym vc_is)

  pub flit-elsewhere : (p : ℕ) → p < ports v.site.grid → p ≢ to → left rest' (mover v.site d.round p) ≡ left rest (mover v.site d.round p)
  flit-elsewhere p l other = left-kept rest rest' index members member (mover v.site d.round p) (other_port p l other)

  back_in : back < v.site.vcs
  back_in = let m : index % v.site.vcs < v.site.vcs = mod-lt index whole.some_vc in omega arith

  pub credit-from : (p : ℕ) → p < ports v.site.grid → from ≡ p → credit_by d v rest' p ≡ Some back
  credit-from p l same =
      find-at (λ k. is_moved (left_verdict d rest' (p * v.site.vcs + k))) v.site.vcs back back_in
      (ap is_moved (verdict-gone rest rest' index members member d (p * v.site.vcs + back) here) ∙ ap (λ k. is_moved (decided_verdict d k)) here ∙ ap is_moved e)
      (λ k u t. only k u t)
    where
      here : p * v.site.vcs + back ≡ index
      here =
          ap (λ q. q * v.site.vcs + back) (sym same ∙ from_is)
          ∙ ap (λ b. index / v.site.vcs * v.site.vcs + b) back_is ∙ div-add-mod' index v.site.vcs

      only : (k : ℕ) → k < v.site.vcs → is_moved (left_verdict d rest' (p * v.site.vcs + k)) ≡ true → k ≡ back
      only k u t =
          let j = p * v.site.vcs + k in
          let m : p * v.site.vcs + k < v.site.vcs * ports v.site.grid = mul-add-lt p v.site.vcs k (ports v.site.grid) l u in
          let inside : j < size_of v.site = omega arith in
          let moved : verdict_in d v j ≡ Moved = sym (decided-is d v j lists inside) ∙ not_left_moved (rest' j) (decided_verdict d j) t in
          let row : j / v.site.vcs ≡ p = div-mul-add p v.site.vcs k u in
          let col : j % v.site.vcs ≡ k = mod-mul-add p v.site.vcs k u in
          sym col ∙ one_pick d v j index whole.some_vc moved verdict_now (row ∙ sym same ∙ from_is) ∙ sym back_is

  pub credit-elsewhere : (p : ℕ) → p ≢ from → credit_by d v rest' p ≡ credit_by d v rest p
  credit-elsewhere p other =
      find-same (λ k. is_moved (left_verdict d rest' (p * v.site.vcs + k))) (λ k. is_moved (left_verdict d rest (p * v.site.vcs + k))) v.site.vcs
      (λ k u. ap is_moved (verdict-kept rest rest' index members member d (p * v.site.vcs + k)
      (λ same. other (sym (div-mul-add p v.site.vcs k u) ∙ ap (λ j. j / v.site.vcs) same ∙ sym from_is))))

  pub to_in : to < ports v.site.grid
  to_in = let h : mv.out / v.site.vcs < ports v.site.grid = port_below v mv.out whole.some_vc out_in in omega arith

  -- the sink after the move
  moved-sink : (a : Option ℕ) → a ≡ (if nat_lt to (local_port v.site.grid) then None else (if f.last then Some f.packet else None))
      → (sink_ends a w.given w.ends ≡ sink_ends (arrived_by d v rest') v.given v.ends) × (sink_misfits a w.ends w.misfits ≡ sink_misfits (arrived_by d v rest') v.ends v.misfits)
  moved-sink a is = at (cases_lt to (local_port v.site.grid))
    where
      at : (to < local_port v.site.grid) ⊎ (local_port v.site.grid ≤ to)
          → (sink_ends a w.given w.ends ≡ sink_ends (arrived_by d v rest') v.given v.ends) × (sink_misfits a w.ends w.misfits ≡ sink_misfits (arrived_by d v rest') v.ends v.misfits)
      at (inl l) =
          let none : a ≡ None = is ∙ ap (λ b. if b then None else (if f.last then Some f.packet else None)) (lt-ltb to (local_port v.site.grid) l) in
          let same : arrived_by d v rest ≡ arrived_by d v rest' = ap (λ x. tail_packet (flit_by v x)) (sym (flit-elsewhere (local_port v.site.grid) (omega arith) (λ x. omega arith))) in (
            ap (λ x. sink_ends x w.given w.ends) none ∙ so_far.ends ∙ ap (λ x. sink_ends x v.given v.ends) same,
            ap (λ x. sink_misfits x w.ends w.misfits) none ∙ so_far.misfits ∙ ap (λ x. sink_misfits x v.ends v.misfits) same,
          )
      at (inr u) =
          let local : to ≡ local_port v.site.grid = let t : to < ports v.site.grid = to_in in omega arith in
          let some : a ≡ arrived_by d v rest' =
          is ∙ ap (λ b. if b then None else (if f.last then Some f.packet else None)) (le-ltb to (local_port v.site.grid) u)
          ∙ sym (ap tail_packet (flit-to (local_port v.site.grid) local)) in
          let before : arrived_by d v rest ≡ None =
          ap (λ x. tail_packet (flit_by v x)) (left-here rest rest' index members member (mover v.site d.round (local_port v.site.grid)) (ap (mover v.site d.round) (sym local) ∙ mover_at_to)) in
          let ends : w.ends ≡ v.ends = so_far.ends ∙ ap (λ x. sink_ends x v.given v.ends) before in
          let misfits : w.misfits ≡ v.misfits = so_far.misfits ∙ ap (λ x. sink_misfits x v.ends v.misfits) before in (
            ap (λ x. sink_ends x w.given w.ends) some ∙ ap (λ n. sink_ends (arrived_by d v rest') n w.ends) (given-kept d v w rest so_far) ∙ ap (sink_ends (arrived_by d v rest') v.given) ends,
            ap (λ x. sink_misfits x w.ends w.misfits) some ∙ ap (λ x. sink_misfits (arrived_by d v rest') x w.misfits) ends ∙ ap (sink_misfits (arrived_by d v rest') v.ends) misfits,
          )

  pub step-moved : (a : Option ℕ) → a ≡ (if nat_lt to (local_port v.site.grid) then None else (if f.last then Some f.packet else None))
      → IsSettling d v rest' (record w {
        buffers = set w.buffers index (drop 1 (view_buffer w index));
        inputs = set w.inputs index (input_after_send (view_input w index) f);
        outputs = set w.outputs mv.out (output_after_spend f.last (view_output w mv.out));
        had_event = true;
        to_put = with_flit_at to vc f (with_credit_at from back w.to_put);
        ends = sink_ends a w.given w.ends;
        misfits = sink_misfits a w.ends w.misfits;
      })
  step-moved a is =
      let new = input_after_send (view_input w index) f in
      let flits = drop 1 (view_buffer w index) in
      let out = output_after_spend f.last (view_output w mv.out) in
      let beats = with_flit_at to vc f (with_credit_at from back w.to_put) in
      let sink = moved-sink a is in
      record {
        others = ap (λ (x : View). record x {
          buffers = set w.buffers index flits;
          inputs = set w.inputs index new;
          outputs = set w.outputs mv.out out;
          had_event = true;
          to_put = beats;
          ends = sink_ends a w.given w.ends;
          misfits = sink_misfits a w.ends w.misfits;
        }) so_far.others;
        below = below-step d v w rest rest' index whole lists members member so_far;
        n_buffers = length-set w.buffers index flits ∙ so_far.n_buffers;
        n_inputs = length-set w.inputs index new ∙ so_far.n_inputs;
        n_outputs = length-set w.outputs mv.out out ∙ so_far.n_outputs;
        n_beats =
            length-set (with_credit_at from back w.to_put) to (record (get_or (with_credit_at from back w.to_put) to idle_beat) { flit = Some (vc, f) })
            ∙ length-set w.to_put from (record (get_or w.to_put from idle_beat) { credit = Some back }) ∙ so_far.n_beats;
        buffers = buffers-step d v w rest rest' index whole lists members member so_far (set w.buffers index flits)
            (get_or-set_same w.buffers index flits [] (let n : length w.buffers ≡ size_of v.site = so_far.n_buffers in let l : index < size_of v.site = index_in in omega arith)
            ∙ ap (drop 1) (buffer-here d v w rest rest' index whole lists members member so_far) ∙ sym (ap (buffer_after (view_buffer v index)) e))
            (λ i other. get_or-set_other w.buffers index i flits [] other);
        inputs = inputs-step d v w rest rest' index whole lists members member so_far (set w.inputs index new)
            (get_or-set_same w.inputs index new idle_input (let n : length w.inputs ≡ size_of v.site = so_far.n_inputs in let l : index < size_of v.site = index_in in omega arith)
            ∙ ap (λ (x : Input). input_after_send x f) (input-here d v w rest rest' index whole lists members member so_far)
            ∙ sym (ap (input_after d v index (view_input v index)) e ∙ ap (sent_from (view_input v index)) first))
            (λ i other. get_or-set_other w.inputs index i new idle_input other);
        outputs = moved-output;
        beats = λ p l. both-at w.to_put from back to vc f p (flit_by v (left rest (mover v.site d.round p))) (flit_by v (left rest' (mover v.site d.round p))) (credit_by d v rest p) (credit_by d v rest' p)
            (let n : length w.to_put ≡ local_port v.site.grid = so_far.n_beats in omega arith) (so_far.beats p l)
            (flit-to p) (λ other. ap (flit_by v) (flit-elsewhere p (omega arith) other)) (credit-from p (omega arith)) (credit-elsewhere p);
        ends = sink.0;
        misfits = sink.1;
        event_kept = λ t. refl;
        event_of = λ i l b t. refl;
        event_from = λ t. inr (index, index_in, ap is_event e);
      }
