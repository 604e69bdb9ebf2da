-- A router after its verdicts, channel by channel; and what the words of a lane then show.
use Rattle.std.proofs.Common.{◌≡◌, ℕ, ◌+◌, ◌*◌, ◌<◌, ◌≤◌, Bool, true, false, List, [], ◌∷◌, length, Option, Some, None, refl, ap, sym, ◌∙◌, subst, arith, get_or}
use Rattle.std.specs.Prelude.{◌&&◌, nat_lt, slice_set, if◌then◌else◌}
use Rattle.std.proofs.lemmas.List.{length-set}
use Rattle.noc_view.specs.View.{has_link, granted_to, sent_from, buffer_after, input_after, output_after, with_landed, with_flit, with_credit, view_after_take, view_after_takes_from}
use Rattle.noc_sets.proofs.SettleLemmas.{SaysOf, settled-input}
use Rattle.noc_sets.proofs.TakenLemmas.{all-taken}
use Rattle.noc_theory_bits.proofs.Common.{true≢false, get_or-map, tabulate, ports, local_port, get_or-tabulate, get_or-map_indexed, length-tabulate, has_bit, Flit, Beat, Routes, Input, idle_input, is_idle_phase, fits, Output, ejection_output, credit_fits, output_after_credit, is_expected_in, arrivals_after, arbiters_after, ask_of, Verdict, Empty, Routed, Granted, Moved, NoFlit, NoIdleChannel, LostChannel, NoCredit, LostInput, LostSwitch, Finding, View, Decisions, size_of, view_buffer, view_input, view_output, view_round, finding_of, decisions_of, view_after_commit, decided_verdict, view_claim, first_flit, with_arrival, with_misfit, view_after_takes, tail_packet, flit_out, local_step, HasTaken, HasSize, flit_from, credit_from, Column, AreWords, ShowsInput, Effects, settled_lane, AreEffects, verdict_of_bits}
use Rattle.noc_theory_bits.proofs.routers.InjectedLemmas.{step-none}

-- an arrival changes no channel and no arbiter
arrival-keeps : (p : Option ℕ) (v : View) → ((with_arrival p v).buffers ≡ v.buffers) × ((with_arrival p v).inputs ≡ v.inputs) × ((with_arrival p v).outputs ≡ v.outputs) × ((with_arrival p v).arbiters ≡ v.arbiters)
arrival-keeps None v = (refl, refl, refl, refl)
arrival-keeps (Some p) v = at (is_expected_in p v.ends)
  where
    at : (b : Bool) → let w = if b then record v { ends = arrivals_after p v.given v.ends } else with_misfit v in (w.buffers ≡ v.buffers) × (w.inputs ≡ v.inputs) × (w.outputs ≡ v.outputs) × (w.arbiters ≡ v.arbiters)
    at true = (refl, refl, refl, refl)
    at false = (refl, refl, refl, refl)

module _ (d : Decisions) (v : View) (size : HasSize v) where
  pub buffer-committed : (i : ℕ) → i < size_of v.site → view_buffer (view_after_commit d v) i ≡ buffer_after (view_buffer v i) (decided_verdict d i)
  unfolding view_after_commit
  buffer-committed i l =
      ap (λ (xs : List (List Flit)). get_or xs i []) (arrival-keeps (tail_packet (flit_out v d.round (local_port v.site.grid))) _).0
      ∙ get_or-map_indexed (λ j flits. buffer_after flits (decided_verdict d j)) v.buffers i [] [] (omega (arith, size.buffers))

  pub input-committed : (i : ℕ) → i < size_of v.site → view_input (view_after_commit d v) i ≡ input_after d v i (view_input v i) (decided_verdict d i)
  unfolding view_after_commit
  input-committed i l =
      ap (λ (xs : List Input). get_or xs i idle_input) (arrival-keeps (tail_packet (flit_out v d.round (local_port v.site.grid))) _).1
      ∙ get_or-map_indexed (λ j (input : Input). input_after d v j input (decided_verdict d j)) v.inputs i idle_input idle_input (omega (arith, size.inputs))

  pub output-committed : (o : ℕ) → o < size_of v.site → view_output (view_after_commit d v) o ≡ output_after v d.round o (view_output v o)
  unfolding view_after_commit
  output-committed o l =
      ap (λ (xs : List Output). get_or xs o ejection_output) (arrival-keeps (tail_packet (flit_out v d.round (local_port v.site.grid))) _).2
      ∙ get_or-map_indexed (output_after v d.round) v.outputs o ejection_output ejection_output (omega (arith, size.outputs))

  pub arbiters-committed : (view_after_commit d v).arbiters ≡ arbiters_after d.round v.arbiters
  unfolding view_after_commit
  arbiters-committed = (arrival-keeps (tail_packet (flit_out v d.round (local_port v.site.grid))) _).3

-- an input channel that is not idle after the verdicts has the packet that it had
pub packet-committed : (d : Decisions) (v : View) → HasSize v → (i : ℕ) → i < size_of v.site → is_idle_phase (view_input (view_after_commit d v) i).phase ≡ false
    → (view_input (view_after_commit d v) i).packet ≡ (view_input v i).packet
packet-committed d v size i l busy =
    ap (λ (input : Input). input.packet) (input-committed d v size i l)
    ∙ at (decided_verdict d i) (ap (λ (input : Input). is_idle_phase input.phase) (sym (input-committed d v size i l)) ∙ busy)
  where
    granted : (ask : Option ℕ) → (granted_to (view_input v i) ask).packet ≡ (view_input v i).packet
    granted None = refl
    granted (Some o) = refl

    sent : (first : Option Flit) → is_idle_phase (sent_from (view_input v i) first).phase ≡ false → (sent_from (view_input v i) first).packet ≡ (view_input v i).packet
    sent None e = refl
    sent (Some f) e = last f.last e
      where
        last : (t : Bool) → is_idle_phase (if t then idle_input else view_input v i).phase ≡ false → (if t then idle_input else view_input v i).packet ≡ (view_input v i).packet
        last true h = absurd (true≢false h)
        last false h = refl

    at : (verdict : Verdict) → is_idle_phase (input_after d v i (view_input v i) verdict).phase ≡ false → (input_after d v i (view_input v i) verdict).packet ≡ (view_input v i).packet
    at Routed e = refl
    at Granted e = granted (ask_of (view_claim v i))
    at Moved e = sent (first_flit v i) e
    at Empty e = refl
    at NoFlit e = refl
    at NoIdleChannel e = refl
    at LostChannel e = refl
    at NoCredit e = refl
    at LostInput e = refl
    at LostSwitch e = refl

-- what is decided of a channel
pub verdict-planned : (relation : Routes) (v : View) (i : ℕ) → i < size_of v.site → decided_verdict (decisions_of relation v) i ≡ (finding_of (view_round v) v i).verdict
unfolding decisions_of
verdict-planned relation v i l =
    get_or-map (λ (finding : Finding). finding.verdict) (tabulate (size_of v.site) (finding_of (view_round v) v)) i (finding_of (view_round v) v i) Empty (omega (arith, length-tabulate (size_of v.site) (finding_of (view_round v) v)))
    ∙ ap (λ (finding : Finding). finding.verdict) (get_or-tabulate (size_of v.site) i (finding_of (view_round v) v) (finding_of (view_round v) v i) l)

-- an input channel of the lane shows that of the view after the verdicts
pub input-shows : (relation : Routes) (count : ℕ) (c : Column) (v : View) (ahead links local : ℕ) (e : Effects) → AreWords count c → AreEffects e → HasSize v
    → (i : ℕ) → i < size_of v.site → ShowsInput c i (view_buffer v i) (view_input v i) → SaysOf v (view_round v) e i
    → (a b g h j k : Bool) → (finding_of (view_round v) v i).verdict ≡ verdict_of_bits (has_bit e.moved i) (has_bit e.granted i) (has_bit e.heads i) a b g h j k
    → ShowsInput (settled_lane ahead links local e c) i (view_buffer (view_after_commit (decisions_of relation v) v) i) (view_input (view_after_commit (decisions_of relation v) v) i)
input-shows relation count c v ahead links local e words effects size i l shows says a b g h j k is =
    let d : Decisions = decisions_of relation v in
    subst (λ xs. ShowsInput (settled_lane ahead links local e c) i xs (view_input (view_after_commit (decisions_of relation v) v) i)) (sym (buffer-committed (decisions_of relation v) v size i l))
    (subst (λ (x : Input). ShowsInput (settled_lane ahead links local e c) i (buffer_after (view_buffer v i) (decided_verdict (decisions_of relation v) i)) x) (sym (input-committed (decisions_of relation v) v size i l))
    (settled-input count c v ahead links local e words effects (view_round v) (decisions_of relation v) i shows says (decided_verdict (decisions_of relation v) i) a b g h j k (verdict-planned relation v i l ∙ is)))

-- ---- the sizes stay
abbrev KeepsSize : View → View → Type 0
KeepsSize v w = (w.site ≡ v.site) × (length w.buffers ≡ length v.buffers) × (length w.inputs ≡ length v.inputs) × (length w.outputs ≡ length v.outputs)

keeps-flit : (relation : Routes) (port : ℕ) (flit : Option (ℕ × Flit)) (v : View) → KeepsSize v (with_flit relation port flit v)
keeps-flit relation port None v = (refl, refl, refl, refl)
keeps-flit relation port (Some (vc, f)) v =
    at (has_link v.site port && nat_lt vc v.site.vcs && fits relation v.site.node port vc v.site.depth (view_buffer v (port * v.site.vcs + vc)) (view_input v (port * v.site.vcs + vc)) f)
  where
    at : (b : Bool) → KeepsSize v (if b then with_landed (port * v.site.vcs + vc) f v else with_misfit v)
    at true = (refl, length-set v.buffers (port * v.site.vcs + vc) _, length-set v.inputs (port * v.site.vcs + vc) _, refl)
    at false = (refl, refl, refl, refl)

keeps-credit : (port : ℕ) (credit : Option ℕ) (v : View) → KeepsSize v (with_credit port credit v)
keeps-credit port None v = (refl, refl, refl, refl)
keeps-credit port (Some vc) v = at (has_link v.site port && nat_lt vc v.site.vcs && credit_fits (view_output v (port * v.site.vcs + vc)))
  where
    at : (b : Bool) → KeepsSize v (if b then record v { outputs = slice_set v.outputs (port * v.site.vcs + vc) (output_after_credit (view_output v (port * v.site.vcs + vc))); had_event = true } else with_misfit v)
    at true = (refl, refl, refl, length-set v.outputs (port * v.site.vcs + vc) _)
    at false = (refl, refl, refl, refl)

keeps-both : (u v w : View) → KeepsSize u v → KeepsSize v w → KeepsSize u w
keeps-both u v w a b = (b.0 ∙ a.0, b.1 ∙ a.1, b.2 ∙ a.2, b.3 ∙ a.3)

keeps-taken : (relation : Routes) (port : ℕ) (beats : List Beat) (v : View) → KeepsSize v (view_after_takes_from relation port beats v)
unfolding view_after_take
keeps-taken relation port [] v = (refl, refl, refl, refl)
keeps-taken relation port (beat ∷ beats) v =
    keeps-both v (view_after_take relation port beat v) (view_after_takes_from relation (port + 1) beats (view_after_take relation port beat v))
    (keeps-both v (with_flit relation port beat.flit v) (view_after_take relation port beat v) (keeps-flit relation port beat.flit v) (keeps-credit port beat.credit (with_flit relation port beat.flit v)))
    (keeps-taken relation (port + 1) beats (view_after_take relation port beat v))

pub size-taken : (relation : Routes) (beats : List Beat) (v : View) → HasSize v → HasSize (view_after_takes relation beats v)
unfolding view_after_takes
size-taken relation beats v size =
    let k = keeps-taken relation 0 beats v in
    record {
      some = rw k.0 size.some;
      buffers = k.1 ∙ size.buffers ∙ ap size_of (sym k.0);
      inputs = k.2 ∙ size.inputs ∙ ap size_of (sym k.0);
      outputs = k.3 ∙ size.outputs ∙ ap size_of (sym k.0);
    }

-- where a cycle leaves no misfit, all beats fit, and each channel is as its own beat leaves it
pub beats-fit : (relation : Routes) (v : View) (beats : List Beat) (n : ℕ) → HasSize v → length beats ≤ ports v.site.grid → (local_step relation v beats n).0.misfits ≡ 0
    → HasTaken relation v (view_after_takes relation beats v) (flit_from v.site.vcs 0 beats) (credit_from v.site.vcs 0 beats)
beats-fit relation v beats n size few none = all-taken relation beats v size few (step-none relation v beats n (size-taken relation beats v size) none)
