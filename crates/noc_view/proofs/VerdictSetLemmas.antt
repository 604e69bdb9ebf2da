-- The verdicts that sets of channels say.
use Rattle.std.proofs.Common.{◌≡◌, ℕ, ◌+◌, ◌/◌, ◌%◌, ◌<◌, ◌≤◌, Bool, true, false, get_or, set, Option, Some, None, refl, ap, ◌∙◌, arith}
use Rattle.std.specs.Prelude.{◌&&◌, not, is_some, if◌then◌else◌}
use Rattle.noc_topo.specs.Lists.{is_some_of, one_if}
use Rattle.noc_packet.specs.Set.{has_bit}
use Rattle.noc_vc.specs.Input.{is_active, is_empty, is_idle_phase, is_waiting}
use Rattle.noc_vc.specs.Output.{has_credit}
use Rattle.noc_vc.specs.declared.input.InputState.{InputState}
use Rattle.noc_vc.specs.declared.input.InputState.TheVariants.{Idle, Waiting, Active}
use Rattle.noc_alloc.specs.Requests.{is_given}
use Rattle.noc_view.specs.States.{is_supplied, is_won_from}
use Rattle.noc_view.specs.ReadySets.{AreReadySetsOf, ReadySets}
use Rattle.noc_view.specs.Verdict.{Round, Unrouted, Waits, Holds, ask_of, verdict_of}
use Rattle.noc_view.specs.VerdictSets.{VerdictSets, sets_with, verdict_by}
use Rattle.noc_view.specs.View.{View, asked_for, claim_in, finding_of, size_of, view_buffer, view_claim, view_input, view_output}
use Rattle.noc_view.specs.declared.verdict.Verdict.{Verdict}
use Rattle.noc_view.specs.declared.verdict.Verdict.TheVariants.{Empty, Routed, Granted, Moved, NoFlit, NoIdleChannel, LostChannel, NoCredit, LostInput, LostSwitch}

-- the first verdict in whose set a channel is, by whether it is in each
unfoldable pub first : Bool → Bool → Bool → Bool → Bool → Bool → Bool → Bool → Bool → Verdict
first moved granted routed no_flit no_idle_channel lost_channel no_credit lost_input lost_switch =
    if moved then Moved
    else if granted then Granted
    else if routed then Routed
    else if no_flit then NoFlit
    else if no_idle_channel then NoIdleChannel
    else if lost_channel then LostChannel
    else if no_credit then NoCredit
    else if lost_input then LostInput
    else if lost_switch then LostSwitch
    else Empty

pub first_by : (sets : VerdictSets) (k : ℕ)
    → verdict_by sets k ≡ first (has_bit sets.moved k) (has_bit sets.granted k) (has_bit sets.routed k) (has_bit sets.no_flit k) (has_bit sets.no_idle_channel k) (has_bit sets.lost_channel k) (has_bit sets.no_credit k)
    (has_bit sets.lost_input k) (has_bit sets.lost_switch k)
unfolding first
first_by sets k = refl

same_first : (a b c d e f g h i p q r s t u v w x : Bool) → a ≡ p → b ≡ q → c ≡ r → d ≡ s → e ≡ t → f ≡ u → g ≡ v → h ≡ w → i ≡ x → first a b c d e f g h i ≡ first p q r s t u v w x
same_first a b c d e f g h i p q r s t u v w x ap_ bq cr ds et fu gv hw ix = cc

-- ---- the verdict on a channel
-- the first verdict of a channel in this state, whose buffer may be empty, and which its port may
-- have picked
abbrev first_in : Bool → Bool → Bool → Bool → Bool → Bool → Bool → Bool → Bool → Verdict
first_in idle waits active supplied won granted asks empty picked =
    let ready = active && (not empty && supplied) in
    let chosen = ready && picked in
    let moved = chosen && won in
    first moved granted (idle && not empty) (active && empty) (not asks && waits) (not granted && asks) (active && (not empty && not supplied)) (not chosen && ready) (not moved && chosen)

idle_verdict : (vcs : ℕ) (round : Round) (k : ℕ) (empty picked : Bool) → first_in true false false false false false false empty picked ≡ verdict_of vcs round k Unrouted (not empty)
unfolding first
idle_verdict vcs round k true picked = refl
idle_verdict vcs round k false picked = refl

waiting_verdict : (vcs : ℕ) (round : Round) (k : ℕ) (ask : Option ℕ) (empty picked : Bool)
    → first_in false true false false false (is_given round.grants ask k) (is_some ask) empty picked ≡ verdict_of vcs round k (Waits ask) (not empty)
unfolding first
waiting_verdict vcs round k None empty picked = refl
waiting_verdict vcs round k (Some o) empty picked = at (is_some_of (get_or round.grants o None) k)
  where
    at : (granted : Bool) → first_in false true false false false granted true empty picked ≡ (if granted then Granted else LostChannel)
    at true = refl
    at false = refl

sent_verdict : (picked won : Bool) → first_in false false true true won false false false picked ≡ (if picked then (if won then Moved else LostSwitch) else LostInput)
unfolding first
sent_verdict true true = refl
sent_verdict true false = refl
sent_verdict false won = refl

active_verdict : (vcs : ℕ) (round : Round) (k o : ℕ) (credit empty picked : Bool) → picked ≡ is_some_of (get_or round.picks (k / vcs) None) (k % vcs)
    → first_in false false true credit (is_some_of (get_or round.wins (o / vcs) None) (k / vcs)) false false empty picked ≡ verdict_of vcs round k (Holds o credit) (not empty)
unfolding first
active_verdict vcs round k o credit true picked is = refl
active_verdict vcs round k o false false picked is = refl
active_verdict vcs round k o true false picked is =
    sent_verdict picked (is_some_of (get_or round.wins (o / vcs) None) (k / vcs))
    ∙ ap (λ b. if b then (if is_some_of (get_or round.wins (o / vcs) None) (k / vcs) then Moved else LostSwitch) else LostInput) is

state_verdict : (v : View) (round : Round) (k : ℕ) (phase : InputState) (empty picked : Bool) → picked ≡ is_some_of (get_or round.picks (k / v.site.vcs) None) (k % v.site.vcs)
    → first_in (is_idle_phase phase) (is_waiting phase) (is_active phase) (is_supplied v.outputs phase) (is_won_from v round k phase) (is_given round.grants (ask_of (claim_in v phase)) k)
    (is_some (ask_of (claim_in v phase))) empty picked
    ≡ verdict_of v.site.vcs round k (claim_in v phase) (not empty)
state_verdict v round k Idle empty picked is = idle_verdict v.site.vcs round k empty picked
state_verdict v round k (Waiting set) empty picked is = waiting_verdict v.site.vcs round k (asked_for v set) empty picked
state_verdict v round k (Active o) empty picked is = active_verdict v.site.vcs round k o (has_credit (view_output v o)) empty picked is

-- in how many sets a channel in this state is
abbrev sets_in : Bool → Bool → Bool → Bool → Bool → Bool → Bool → Bool → Bool → ℕ
sets_in idle waits active supplied won granted asks empty picked =
    let ready = active && (not empty && supplied) in
    let chosen = ready && picked in
    let moved = chosen && won in
    one_if moved + one_if granted + one_if (idle && not empty) + one_if (active && empty) + one_if (not asks && waits) + one_if (not granted && asks) + one_if (active && (not empty && not supplied))
    + one_if (not chosen && ready) + one_if (not moved && chosen)

idle_sets : (empty picked : Bool) → sets_in true false false false false false false empty picked ≤ 1
idle_sets true picked = omega arith
idle_sets false picked = omega arith

waiting_sets : (round : Round) (k : ℕ) (ask : Option ℕ) (empty picked : Bool) → sets_in false true false false false (is_given round.grants ask k) (is_some ask) empty picked ≤ 1
waiting_sets round k None empty picked = omega arith
waiting_sets round k (Some o) empty picked = at (is_some_of (get_or round.grants o None) k)
  where
    at : (granted : Bool) → sets_in false true false false false granted true empty picked ≤ 1
    at true = omega arith
    at false = omega arith

active_sets : (supplied won empty picked : Bool) → sets_in false false true supplied won false false empty picked ≤ 1
active_sets supplied won true picked = omega arith
active_sets false won false picked = omega arith
active_sets true won false false = omega arith
active_sets true true false true = omega arith
active_sets true false false true = omega arith

state_sets : (v : View) (round : Round) (k : ℕ) (phase : InputState) (empty picked : Bool)
    → sets_in (is_idle_phase phase) (is_waiting phase) (is_active phase) (is_supplied v.outputs phase) (is_won_from v round k phase) (is_given round.grants (ask_of (claim_in v phase)) k)
    (is_some (ask_of (claim_in v phase))) empty picked ≤ 1
state_sets v round k Idle empty picked = idle_sets empty picked
state_sets v round k (Waiting set) empty picked = waiting_sets round k (asked_for v set) empty picked
state_sets v round k (Active o) empty picked = active_sets (has_credit (view_output v o)) (is_won_from v round k (Active o)) empty picked

same_sets : (a b c d e f g h i p q r s t u v w x : Bool) → a ≡ p → b ≡ q → c ≡ r → d ≡ s → e ≡ t → f ≡ u → g ≡ v → h ≡ w → i ≡ x
    → one_if p + one_if q + one_if r + one_if s + one_if t + one_if u + one_if v + one_if w + one_if x ≤ 1 → one_if a + one_if b + one_if c + one_if d + one_if e + one_if f + one_if g + one_if h + one_if i ≤ 1
same_sets a b c d e f g h i p q r s t u v w x ap_ bq cr ds et fu gv hw ix few =
    omega (arith, few, ap one_if ap_, ap one_if bq, ap one_if cr, ap one_if ds, ap one_if et, ap one_if fu, ap one_if gv, ap one_if hw, ap one_if ix)

-- the sets of a round, by the sets of what the channels can go on with
pub record AreVerdicts (v : View) (round : Round) (s : ReadySets) (asking picked : ℕ) (sets : VerdictSets) (k : ℕ) : Type 0 where
  pub asks : has_bit asking k ≡ is_some (ask_of (view_claim v k))
  pub draws : has_bit picked k ≡ is_some_of (get_or round.picks (k / v.site.vcs) None) (k % v.site.vcs)
  pub picks : has_bit picked k ≡ (has_bit s.ready k && has_bit picked k)
  pub moved : has_bit sets.moved k ≡ (has_bit picked k && is_won_from v round k (view_input v k).phase)
  pub granted : has_bit sets.granted k ≡ is_given round.grants (ask_of (view_claim v k)) k
  pub routed : sets.routed ≡ s.heads
  pub no_flit : sets.no_flit ≡ s.no_flit
  pub no_idle_channel : has_bit sets.no_idle_channel k ≡ (not (has_bit asking k) && has_bit s.waiting k)
  pub lost_channel : has_bit sets.lost_channel k ≡ (not (has_bit sets.granted k) && has_bit asking k)
  pub no_credit : sets.no_credit ≡ s.no_credit
  pub lost_input : has_bit sets.lost_input k ≡ (not (has_bit picked k) && has_bit s.ready k)
  pub lost_switch : has_bit sets.lost_switch k ≡ (not (has_bit sets.moved k) && has_bit picked k)

-- the sets of a round give each channel its verdict
pub verdict-on : (v : View) (round : Round) (s : ReadySets) (asking picked : ℕ) (sets : VerdictSets) (k : ℕ) → k < size_of v.site → AreReadySetsOf v s → AreVerdicts v round s asking picked sets k
    → verdict_by sets k ≡ (finding_of round v k).verdict
verdict-on v round s asking picked sets k l standing are =
    let heads = standing.heads k l in
    let waits = standing.waiting k l in
    let no_flit = standing.no_flit k l in
    let no_credit = standing.no_credit k l in
    let ready = standing.ready k l in
    first_by sets k ∙ same_first _ _ _ _ _ _ _ _ _ _ _ _ _ _ _ _ _ _ (cc) (cc) (cc) (cc) (cc) (cc) (cc) (cc) (cc)
    ∙ state_verdict v round k (view_input v k).phase (is_empty (view_buffer v k)) (has_bit picked k) are.draws

-- the sets of a round have each channel once at most
pub apart-on : (v : View) (round : Round) (s : ReadySets) (asking picked : ℕ) (sets : VerdictSets) (k : ℕ) → k < size_of v.site → AreReadySetsOf v s → AreVerdicts v round s asking picked sets k
    → sets_with sets k ≤ 1
apart-on v round s asking picked sets k l standing are =
    let heads = standing.heads k l in
    let waits = standing.waiting k l in
    let no_flit = standing.no_flit k l in
    let no_credit = standing.no_credit k l in
    let ready = standing.ready k l in
    same_sets _ _ _ _ _ _ _ _ _ _ _ _ _ _ _ _ _ _ (cc) (cc) (cc) (cc) (cc) (cc) (cc) (cc) (cc)
    (state_sets v round k (view_input v k).phase (is_empty (view_buffer v k)) (has_bit picked k))
