-- What the outcome of a view says of its channels, and the decisions that it is rebuilt to.
use Rattle.std.proofs.Common.{◌≡◌, ℕ, ◌<◌, ◌≤◌, Bool, true, List, [], length, get_or, Option, None, refl, ap, sym, ◌∙◌, arith, subst, ◌+◌}
use Rattle.std.specs.Prelude.{◌&&◌, not, option_map, nat_eq}
use Rattle.noc_topo.specs.Shape.{ports}
use Rattle.noc_topo.specs.Lists.{map_indexed, tabulate}
use Rattle.noc_topo.proofs.ListLemmas.{get_or-map_indexed, get_or-tabulate, length-map_indexed, length-tabulate, map_indexed-from_each, tabulate-from_each}
use Rattle.noc_route.specs.Routes.{Routes}
use Rattle.noc_vc.specs.declared.input.InputState.{InputState}
use Rattle.noc_vc.specs.declared.input.InputState.TheVariants.{Idle, Waiting, Active}
use Rattle.noc_router.specs.Decided.{IsDecidedFor}
use Rattle.noc_router.specs.Settled.{CanTakeEffect, AreContentsFor, decisions_by, effect_of, finding_by, found_with, planned_verdict, view_after_tally, view_after_verdicts}
use Rattle.noc_router.specs.Sound.{out_in}
use Rattle.noc_view.specs.Found.{empty_finding}
use Rattle.noc_view.specs.Verdict.{ask_of, out_of}
use Rattle.noc_view.specs.View.{View, PlanContents, Decisions, claim_in, counts_after, decided_verdict, finding_of, plan_contents, decisions_of, port_and_vc, route_of, size_of, view_claim, view_input, view_round, idle_beats}
use Rattle.noc_view.specs.declared.verdict.Verdict.{Verdict}
use Rattle.noc_view.specs.declared.verdict.Verdict.TheVariants.{Empty}
use Rattle.noc_view.specs.declared.finding.Finding.{Finding}
use Rattle.noc_router.proofs.PlannedLemmas.{outcome-lengths}
use Rattle.noc_view.proofs.PlanLemmas.{asks-at, Lists, lists_of_round, verdict-at}
use Rattle.noc_router.proofs.SettleLemmas.{IsSettling, IsWhole, from_next, next-here, next-less, next-none}
use Rattle.noc_router.proofs.EffectLemmas.{can_settle, settling_first, settling_last, settling_more}

-- ---- the decisions of an outcome
-- the verdict of a channel is that of the outcome
pub decided-outcome : (p : PlanContents) (v : View) (i : ℕ) → i < size_of v.site → decided_verdict (decisions_by p v) i ≡ planned_verdict p i
decided-outcome p v i l =
    verdict-at (decisions_by p v) i (omega (arith, length-tabulate (size_of v.site) (λ k. found_with v (planned_verdict p k) k)))
    ∙ ap (λ (f : Finding). f.verdict) (get_or-tabulate (size_of v.site) i (λ k. found_with v (planned_verdict p k) k) empty_finding l)

decisions-planned : (relation : Routes) (v : View) → decisions_by (plan_contents relation v) v ≡ decisions_of relation v
unfolding plan_contents decisions_of
decisions-planned relation v =
    let f : ℕ → Finding = λ i. found_with v (planned_verdict (plan_contents relation v) i) i in
    ap (λ fs. record { round = view_round v; findings = fs; routes = tabulate (size_of v.site) (route_of relation v) })
    (tabulate-from_each (size_of v.site) (finding_of (view_round v) v) (tabulate (size_of v.site) f) empty_finding (length-tabulate (size_of v.site) f)
    (λ i l. get_or-tabulate (size_of v.site) i f empty_finding l
    ∙ ap (λ x. found_with v x i) (get_or-tabulate (size_of v.site) i (λ k. (finding_of (view_round v) v k).verdict) Empty l)))

-- the decisions of an outcome are what is planned
pub decisions-are : (relation : Routes) (p : PlanContents) (v : View) → p ≡ plan_contents relation v → decisions_by p v ≡ decisions_of relation v
decisions-are relation p v e = ap (λ x. decisions_by x v) e ∙ decisions-planned relation v

-- the decisions of an outcome have the lists of a plan
pub lists_of : (p : PlanContents) (v : View) → AreContentsFor p v → Lists (decisions_by p v) v
lists_of p v is = let P : Decisions → Type 0 = λ d. Lists d v in subst P (sym (decisions-are is.relation p v is.is)) (lists_of_round is.relation v)

-- it has an entry for each channel and port
pub outcome-decided : (p : PlanContents) (v : View) → AreContentsFor p v → IsDecidedFor (ports v.site.grid) v.site.vcs p
outcome-decided p v is = subst (IsDecidedFor (ports v.site.grid) v.site.vcs) (sym is.is) (outcome-lengths is.relation v)

-- ---- what an outcome says of one channel
-- the output channel that it asks for
pub outcome-ask : (p : PlanContents) (v : View) (i : ℕ) → AreContentsFor p v → i < size_of v.site → get_or p.asks i None ≡ ask_of (view_claim v i)
unfolding plan_contents
outcome-ask p v i is l = ap (λ (x : PlanContents). get_or x.asks i None) is.is ∙ asks-at v i l

-- what is found of it, by its state
pub outcome-finding : (p : PlanContents) (v : View) (i : ℕ) → AreContentsFor p v → i < size_of v.site → finding_by p v.site.vcs v.inputs i ≡ found_with v (planned_verdict p i) i
outcome-finding p v i is l =
    ap (λ x. record { verdict = planned_verdict p i; packet = (view_input v i).packet; out = option_map (port_and_vc v.site) x }) (named_in (view_input v i).phase (get_or p.asks i None) (outcome-ask p v i is l))
  where
    named_in : (phase : InputState) (ask : Option ℕ) → ask ≡ ask_of (claim_in v phase) → out_in phase ask ≡ out_of (claim_in v phase)
    named_in Idle ask e = refl
    named_in (Waiting set) ask e = e
    named_in (Active o) ask e = refl

-- ---- all channels are counted
pub counted-outcome : (p : PlanContents) (v : View) (counts : List (List ℕ)) → length counts ≡ size_of v.site
    → map_indexed (λ i xs. counts_after (planned_verdict p i) xs) counts ≡ map_indexed (λ i xs. counts_after (decided_verdict (decisions_by p v) i) xs) counts
counted-outcome p v counts n =
    let f : ℕ → List ℕ → List ℕ = λ i xs. counts_after (planned_verdict p i) xs in
    map_indexed-from_each (λ i xs. counts_after (decided_verdict (decisions_by p v) i) xs) counts (map_indexed f counts) [] [] (length-map_indexed f counts)
    (λ i l. get_or-map_indexed f counts i [] [] l ∙ ap (λ x. counts_after x (get_or counts i [])) (sym (decided-outcome p v i (omega arith))))

pub found-outcome : (p : PlanContents) (v : View) (n : ℕ) → AreContentsFor p v → n ≡ size_of v.site → tabulate n (finding_by p v.site.vcs v.inputs) ≡ (decisions_by p v).findings
found-outcome p v n is e =
    let f : ℕ → Finding = finding_by p v.site.vcs v.inputs in
    tabulate-from_each (size_of v.site) (λ i. found_with v (planned_verdict p i) i) (tabulate n f) empty_finding (length-tabulate n f ∙ e)
    (λ i l. get_or-tabulate n i f empty_finding (omega arith) ∙ outcome-finding p v i is l)

-- counting leaves the outcome as it is
outcome-counted : (relation : Routes) (d : Decisions) (v : View) → plan_contents relation v ≡ plan_contents relation (view_after_tally d v)
unfolding plan_contents view_round
outcome-counted relation d v = refl

pub outcome-tallied : (p : PlanContents) (d : Decisions) (v : View) → AreContentsFor p v → AreContentsFor p (view_after_tally d v)
outcome-tallied p d v is = record {
  relation = is.relation;
  fits = record { grid = is.fits.grid; vcs = is.fits.vcs };
  is = is.is ∙ outcome-counted is.relation d v;
}

-- ---- the verdict of one channel takes effect
-- a verdict that is left can take effect
can_take : (p : PlanContents) (v w : View) (rest rest' : ℕ → Bool) (index : ℕ) → IsWhole v → AreContentsFor p v → ((k : ℕ) → rest' k ≡ (not (nat_eq k index) && rest k)) → rest index ≡ true
    → IsSettling (decisions_by p v) v rest w → CanTakeEffect p w index (planned_verdict p index)
can_take p v w rest rest' index whole is members member so_far =
    let l : index < size_of v.site = so_far.below index member in
    let P : Verdict → Type 0 = λ x. CanTakeEffect p w index x in
    subst P (decided-outcome p v index l) (can_settle p v w rest rest' index whole (lists_of p v is) members member so_far (outcome-ask p v index is l))

-- a verdict that has taken effect is not left
effect_more : (p : PlanContents) (v w : View) (rest rest' : ℕ → Bool) (index : ℕ) (new : View) → IsWhole v → AreContentsFor p v → ((k : ℕ) → rest' k ≡ (not (nat_eq k index) && rest k)) → rest index ≡ true
    → IsSettling (decisions_by p v) v rest w → new ≡ effect_of p index w (planned_verdict p index) → IsSettling (decisions_by p v) v rest' new
effect_more p v w rest rest' index new whole is members member so_far e =
    let d = decisions_by p v in
    let l : index < size_of v.site = so_far.below index member in
    let P : View → Type 0 = λ x. IsSettling d v rest' x in
    subst P (ap (effect_of p index w) (decided-outcome p v index l) ∙ sym e)
    (settling_more p v w rest rest' index whole (lists_of p v is) members member so_far (outcome-ask p v index is l))

-- where all channels are left, nothing has taken effect
pub effect_first : (p : PlanContents) (v : View) → IsWhole v → AreContentsFor p v → v.to_put ≡ idle_beats v.site → IsSettling (decisions_by p v) v (from_next (size_of v.site) 0) v
effect_first p v whole is idle = settling_first (decisions_by p v) v whole (lists_of p v is) idle

-- the next verdict has taken effect
pub effect_next : (p : PlanContents) (v w : View) (q : ℕ) (new : View) → IsWhole v → AreContentsFor p v → q < size_of v.site
    → IsSettling (decisions_by p v) v (from_next (size_of v.site) q) w → new ≡ effect_of p q w (planned_verdict p q) → IsSettling (decisions_by p v) v (from_next (size_of v.site) (q + 1)) new
effect_next p v w q new whole is l so_far e =
    let n = size_of v.site in
    effect_more p v w (from_next n q) (from_next n (q + 1)) q new whole is (next-less n q) (next-here n q l) so_far e

-- the next verdict can take effect
pub can_take-next : (p : PlanContents) (v w : View) (q : ℕ) → IsWhole v → AreContentsFor p v → q < size_of v.site
    → IsSettling (decisions_by p v) v (from_next (size_of v.site) q) w → CanTakeEffect p w q (planned_verdict p q)
can_take-next p v w q whole is l so_far =
    let n = size_of v.site in
    can_take p v w (from_next n q) (from_next n (q + 1)) q whole is (next-less n q) (next-here n q l) so_far

-- all verdicts have taken effect
pub effect_last : (p : PlanContents) (v w : View) (q : ℕ) → IsWhole v → AreContentsFor p v → size_of v.site ≤ q
    → IsSettling (decisions_by p v) v (from_next (size_of v.site) q) w → w ≡ view_after_verdicts (decisions_by p v) v
effect_last p v w q whole is l so_far =
    let n = size_of v.site in
    settling_last (decisions_by p v) v w (from_next n q) whole (lists_of p v is) so_far (λ k. next-none n q k l)
