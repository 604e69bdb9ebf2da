-- The decisions of a view, list by list.
use Rattle.std.proofs.Common.{◌≡◌, ℕ, ◌+◌, ◌*◌, ◌≤◌, Bool, length, List, Option, None, replicate, take, ap, refl, ◌∙◌}
use Rattle.std.proofs.lemmas.List.{take-replicate}
use Rattle.std.specs.Prelude.{is_some, slice_index, slice_index_or}
use Rattle.noc_topo.specs.Lists.{is_some_of, tabulate}
use Rattle.noc_topo.specs.Shape.{ports}
use Rattle.noc_topo.proofs.ListLemmas.{length-tabulate}
use Rattle.noc_route.specs.Routes.{Routes}
use Rattle.noc_alloc.specs.Allocation.{grant_of, pick_of, picked_port, winner_of}
use Rattle.noc_alloc.specs.Arbiter.{RoundRobin, first_in_turn, pointers_of}
use Rattle.noc_alloc.specs.Requests.{AllBelow}
use Rattle.noc_alloc.proofs.RequestLemmas.{below-from}
use Rattle.noc_alloc.proofs.SwitchLemmas.{first_in_turn-below, tabulate-inside}
use Rattle.noc_router.specs.Decided.{IsDecidedFor, empty_plan_contents, verdict_at}
use Rattle.noc_view.specs.Verdict.{asks_of, ready_of}
use Rattle.noc_view.specs.View.{PlanContents, View, plan_contents, route_of, size_of, view_round, view_stands}
use Rattle.noc_view.specs.declared.verdict.Verdict.{Verdict}
use Rattle.noc_view.specs.declared.verdict.Verdict.TheVariants.{Empty}
use Rattle.noc_view.proofs.StandLemmas.{asks_of-stands}

-- those who come first in turn are below the number of requesters
below-firsts : (n m : ℕ) (pointer : ℕ → ℕ) (asks : ℕ → ℕ → Bool) → AllBelow m (tabulate n (λ k. first_in_turn m (pointer k) (asks k)))
below-firsts n m pointer asks =
    below-from m (tabulate n (λ k. first_in_turn m (pointer k) (asks k)))
    (tabulate-inside n m (λ k. first_in_turn m (pointer k) (asks k)) (tabulate n (λ k. first_in_turn m (pointer k) (asks k))) (λ k. first_in_turn-below m (pointer k) (asks k)) refl)

-- the outcome is as long as it should be, and who wins is of the router
pub outcome-lengths : (relation : Routes) (v : View) → IsDecidedFor (ports v.site.grid) v.site.vcs (plan_contents relation v)
unfolding plan_contents view_round
outcome-lengths relation v =
    let ready = ready_of v.site.vcs (view_stands v) in
    let picks = tabulate (ports v.site.grid) (pick_of ready v.site.vcs (pointers_of v.arbiters.inputs)) in
    record {
      grants = length-tabulate _ _;
      picks = length-tabulate _ _;
      wins = length-tabulate _ _;
      asks = ap (λ (xs : List (Option ℕ)). length xs) (asks_of-stands v) ∙ length-tabulate _ _;
      verdicts = length-tabulate _ _;
      routes = length-tabulate _ _;
      granted = below-firsts (size_of v.site) (size_of v.site) (slice_index (pointers_of v.arbiters.channels)) (λ o i. is_some_of (slice_index_or (asks_of (view_stands v)) i None) o);
      picked = below-firsts (ports v.site.grid) v.site.vcs (slice_index (pointers_of v.arbiters.inputs)) (λ port vc. is_some (slice_index_or ready (port * v.site.vcs + vc) None));
      won = below-firsts (ports v.site.grid) (ports v.site.grid) (slice_index (pointers_of v.arbiters.outputs)) (λ port q. is_some_of (picked_port ready v.site.vcs picks q) port);
    }

-- ---- the round, by the lists on which it is decided
pub granted-view : (v : View) (asks grants : List (Option ℕ)) (arbiters : List RoundRobin) → asks ≡ asks_of (view_stands v) → arbiters ≡ v.arbiters.channels → length arbiters ≡ size_of v.site
    → grants ≡ tabulate (length arbiters) (grant_of asks (length asks) (pointers_of arbiters)) → grants ≡ (view_round v).grants
unfolding view_round
granted-view v asks grants arbiters ask are long is =
    let n = size_of v.site in
    let many : length asks ≡ n = ap (λ (xs : List (Option ℕ)). length xs) (ask ∙ asks_of-stands v) ∙ length-tabulate _ _ in
    is
    ∙ ap (λ k. tabulate k (grant_of asks (length asks) (pointers_of arbiters))) long
    ∙ ap (λ k. tabulate n (grant_of asks k (pointers_of arbiters))) many
    ∙ ap (λ xs. tabulate n (grant_of xs n (pointers_of arbiters))) ask
    ∙ ap (λ ts. tabulate n (grant_of (asks_of (view_stands v)) n (pointers_of ts))) are

pub picked-view : (v : View) (ready picks : List (Option ℕ)) (vcs : ℕ) (arbiters : List RoundRobin) → ready ≡ ready_of v.site.vcs (view_stands v) → vcs ≡ v.site.vcs → arbiters ≡ v.arbiters.inputs
    → length arbiters ≡ ports v.site.grid → picks ≡ tabulate (length arbiters) (pick_of ready vcs (pointers_of arbiters)) → picks ≡ (view_round v).picks
unfolding view_round
picked-view v ready picks vcs arbiters can same are long is =
    let n = ports v.site.grid in
    is
    ∙ ap (λ k. tabulate k (pick_of ready vcs (pointers_of arbiters))) long
    ∙ ap (λ xs. tabulate n (pick_of xs vcs (pointers_of arbiters))) can
    ∙ ap (λ k. tabulate n (pick_of (ready_of v.site.vcs (view_stands v)) k (pointers_of arbiters))) same
    ∙ ap (λ ts. tabulate n (pick_of (ready_of v.site.vcs (view_stands v)) v.site.vcs (pointers_of ts))) are

pub won-view : (v : View) (ready picks wins : List (Option ℕ)) (vcs many : ℕ) (arbiters : List RoundRobin) → ready ≡ ready_of v.site.vcs (view_stands v) → vcs ≡ v.site.vcs → many ≡ ports v.site.grid
    → arbiters ≡ v.arbiters.outputs → length arbiters ≡ ports v.site.grid → picks ≡ (view_round v).picks
    → wins ≡ tabulate (length arbiters) (winner_of ready vcs many picks (pointers_of arbiters)) → wins ≡ (view_round v).wins
unfolding view_round
won-view v ready picks wins vcs many arbiters can same all are long picked is =
    let n = ports v.site.grid in
    let able = ready_of v.site.vcs (view_stands v) in
    is
    ∙ ap (λ k. tabulate k (winner_of ready vcs many picks (pointers_of arbiters))) long
    ∙ ap (λ xs. tabulate n (winner_of xs vcs many picks (pointers_of arbiters))) can
    ∙ ap (λ k. tabulate n (winner_of able k many picks (pointers_of arbiters))) same
    ∙ ap (λ k. tabulate n (winner_of able v.site.vcs k picks (pointers_of arbiters))) all
    ∙ ap (λ xs. tabulate n (winner_of able v.site.vcs n xs (pointers_of arbiters))) picked
    ∙ ap (λ ts. tabulate n (winner_of able v.site.vcs n (tabulate n (pick_of able v.site.vcs (pointers_of v.arbiters.inputs))) (pointers_of ts))) are

-- ---- the outcome, by its parts
abbrev pub parts : List (Option ℕ) → List (Option ℕ) → List (Option ℕ) → List (Option ℕ) → List Verdict → List ℕ → PlanContents
parts grants picks wins asks verdicts routes = record { round = record { grants = grants; picks = picks; wins = wins }; asks = asks; verdicts = verdicts; routes = routes }

pub planned-parts : (relation : Routes) (v : View) (grants picks wins asks : List (Option ℕ)) (verdicts : List Verdict) (routes : List ℕ)
    → grants ≡ (view_round v).grants → picks ≡ (view_round v).picks → wins ≡ (view_round v).wins → asks ≡ asks_of (view_stands v)
    → verdicts ≡ tabulate (size_of v.site) (verdict_at (record { grants = grants; picks = picks; wins = wins }) v) → routes ≡ tabulate (size_of v.site) (route_of relation v)
    → parts grants picks wins asks verdicts routes ≡ plan_contents relation v
unfolding plan_contents view_round
planned-parts relation v grants picks wins asks verdicts routes g p w a d r =
    let n = size_of v.site in
    ap (λ xs. parts grants picks wins asks xs routes) d
    ∙ ap (λ xs. parts grants picks wins asks (tabulate n (verdict_at (record { grants = grants; picks = picks; wins = wins }) v)) xs) r
    ∙ ap (λ xs. parts grants picks wins xs (tabulate n (verdict_at (record { grants = grants; picks = picks; wins = wins }) v)) (tabulate n (route_of relation v))) a
    ∙ ap (λ xs. parts xs picks wins (asks_of (view_stands v)) (tabulate n (verdict_at (record { grants = xs; picks = picks; wins = wins }) v)) (tabulate n (route_of relation v))) g
    ∙ ap (λ xs. parts (view_round v).grants xs wins (asks_of (view_stands v)) (tabulate n (verdict_at (record { grants = (view_round v).grants; picks = xs; wins = wins }) v)) (tabulate n (route_of relation v))) p
    ∙ ap (λ xs. parts (view_round v).grants (view_round v).picks xs (asks_of (view_stands v)) (tabulate n (verdict_at (record { grants = (view_round v).grants; picks = (view_round v).picks; wins = xs }) v)) (tabulate n (route_of relation v))) w

-- a plan in which nothing was written
pub empty-plan : (m vcs set : ℕ) → m ≤ 7 → m * vcs ≤ 56 → set ≡ 0
    → parts (take (m * vcs) (replicate 56 None)) (take m (replicate 7 None)) (take m (replicate 7 None)) (take (m * vcs) (replicate 56 None)) (take (m * vcs) (replicate 56 Empty)) (take (m * vcs) (replicate 56 set)) ≡ empty_plan_contents m vcs
empty-plan m vcs set few many none =
    let n = m * vcs in
    let all : take n (replicate 56 None) ≡ replicate n None = take-replicate n 56 None many in
    let each : take m (replicate 7 None) ≡ replicate m None = take-replicate m 7 None few in
    ap (λ xs. parts xs (take m (replicate 7 None)) (take m (replicate 7 None)) xs (take n (replicate 56 Empty)) (take n (replicate 56 set))) all
    ∙ ap (λ xs. parts (replicate n None) xs xs (replicate n None) (take n (replicate 56 Empty)) (take n (replicate 56 set))) each
    ∙ ap (λ xs. parts (replicate n None) (replicate m None) (replicate m None) (replicate n None) xs (take n (replicate 56 set))) (take-replicate n 56 Empty many)
    ∙ ap (λ xs. parts (replicate n None) (replicate m None) (replicate m None) (replicate n None) (replicate n Empty) xs) (ap (λ s. take n (replicate 56 s)) none ∙ take-replicate n 56 0 many)
