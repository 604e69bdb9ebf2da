-- A router decides, and its verdicts take effect: the words of a lane show the input channels of
-- the view after it.
use Rattle.std.proofs.Common.{◌≡◌, ℕ, ◌^◌, ◌<◌, Bool, true, false, length, refl, ap, sym, ◌∙◌}
use Rattle.std.specs.Prelude.{◌&&◌, not, is_some}
use Rattle.noc_sets.proofs.StandLemmas.{picked-ready}
use Rattle.noc_theory_bits.proofs.Common.{false≢true, and_parts, ports, has_bit, Routes, arbiter_at, is_given, is_active, is_empty, is_supplied, is_won_from, ask_of, View, size_of, view_buffer, view_input, view_claim, view_round, first_flit, decisions_of, view_after_commit, is_tail, less, ShowsPointer, ArePicked, HasSize, Column, AreWords, ShowsInput, ShowsChannels, Effects, settled_lane, lane_heads, lane_ready, lane_no_flit, lane_no_idle_channel, lane_no_credit, AreFilled, standing, verdicts, AreEffects, verdict_of_bits}
use Rattle.noc_theory_bits.proofs.routers.CommittedLemmas.{input-shows}

-- what is decided by the scalar parts: grants, losses and moves, by the round of the view
pub record AreDecided (picked : ℕ) (c : Column) (v : View) (filled lost_set : ℕ) (e : Effects) : Type 0 where
  pub heads : e.heads ≡ lane_heads filled c
  pub lost_fits : lost_set < 2 ^ 64
  pub granted : (k : ℕ) → k < size_of v.site → has_bit e.granted k ≡ is_given (view_round v).grants (ask_of (view_claim v k)) k
  pub lost : (k : ℕ) → k < size_of v.site → has_bit lost_set k ≡ (not (has_bit e.granted k) && is_some (ask_of (view_claim v k)))
  pub moved : (k : ℕ) → k < size_of v.site → has_bit e.moved k ≡ (has_bit picked k && is_won_from v (view_round v) k (view_input v k).phase)
  pub released : (k : ℕ) → k < size_of v.site → has_bit e.released k ≡ (has_bit e.moved k && is_tail (first_flit v k))

-- what is true of the arbiters of a view
pub record HasTurns (c : Column) (v : View) : Type 0 where
  pub ahead : (p : ℕ) → p < ports v.site.grid → ShowsPointer v.site.vcs c.ahead p (arbiter_at v.arbiters.inputs p).pointer
  pub pointers : (p : ℕ) → p < ports v.site.grid → (arbiter_at v.arbiters.inputs p).pointer < v.site.vcs
  pub arbiters : length v.arbiters.inputs ≡ ports v.site.grid

module _ (relation : Routes) (count : ℕ) (picked ahead : ℕ) (c : Column) (v : View) (filled links local lost_set : ℕ) (e : Effects) (words : AreWords count c) (effects : AreEffects e) (size : HasSize v) (picks : ArePicked v.site.vcs (ports v.site.grid) (lane_ready filled c) c.ahead picked)
    (shows : ShowsChannels c v) (fill : AreFilled v filled) (turns : HasTurns c v) (are : AreDecided picked c v filled lost_set e) where
  -- who moves is active and has a flit
  mover : (k : ℕ) → k < size_of v.site → has_bit e.moved k ≡ true → (is_active (view_input v k).phase ≡ true) × (is_empty (view_buffer v k) ≡ false)
  mover k l here =
      let among = and_parts (has_bit picked k) (is_won_from v (view_round v) k (view_input v k).phase) (sym (are.moved k l) ∙ here) in
      let ready = and_parts (has_bit (lane_ready filled c) k) (has_bit picked k) (sym (picked-ready count c v filled words shows fill picked size.some picks turns.ahead turns.pointers turns.arbiters k) ∙ among.0) in
      let parts = and_parts (is_active (view_input v k).phase) (not (is_empty (view_buffer v k)) && is_supplied v.outputs (view_input v k).phase) (sym ((standing count c v filled words shows fill).ready k l) ∙ ready.0) in
      (parts.0, unnot (is_empty (view_buffer v k)) (and_parts (not (is_empty (view_buffer v k))) (is_supplied v.outputs (view_input v k).phase) parts.1).0)
    where
      unnot : (b : Bool) → not b ≡ true → b ≡ false
      unnot true z = absurd (false≢true z)
      unnot false z = refl

  -- an input channel after the verdicts
  pub inputs-decided : (k : ℕ) → k < size_of v.site → ShowsInput (settled_lane ahead links local e c) k (view_buffer (view_after_commit (decisions_of relation v) v) k) (view_input (view_after_commit (decisions_of relation v) v) k)
  inputs-decided k l =
      input-shows relation count c v ahead links local e words effects size k l (shows.inputs k l)
      (record {
        heads = ap (λ n. has_bit n k) are.heads ∙ (standing count c v filled words shows fill).heads k l;
        granted = are.granted k l;
        moved = mover k l;
        released = are.released k l;
      })
      (has_bit (lane_no_flit filled c) k) (has_bit (lane_no_idle_channel e.granted lost_set c) k) (has_bit lost_set k) (has_bit (lane_no_credit filled c) k) (has_bit (less (lane_ready filled c) picked) k) (has_bit (less picked e.moved) k)
      (sym (verdicts count c v filled words shows fill picked size.some picks turns.ahead turns.pointers turns.arbiters e.granted lost_set e.moved effects.granted are.lost_fits effects.moved are.granted are.lost are.moved k l)
      ∙ ap (λ n. verdict_of_bits (has_bit e.moved k) (has_bit e.granted k) (has_bit n k) (has_bit (lane_no_flit filled c) k) (has_bit (lane_no_idle_channel e.granted lost_set c) k) (has_bit lost_set k) (has_bit (lane_no_credit filled c) k) (has_bit (less (lane_ready filled c) picked) k) (has_bit (less picked e.moved) k)) (sym are.heads))
