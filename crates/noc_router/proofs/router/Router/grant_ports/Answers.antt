use Rattle.std.proofs.Common.{◌≡◌, ◌*◌, List, Option, ℕ, length, ap, sym, take_at, ◌∙◌}
use Rattle.noc_topo.specs.Shape.{ports}
use Rattle.noc_topo.proofs.ListLemmas.{length-tabulate}
use Rattle.noc_alloc.specs.Arbiter.{RoundRobin}
use Rattle.noc_view.specs.View.{View, view_round}
use Rattle.noc_view.proofs.StandLemmas.{ready_of-stands}
use Rattle.noc_router.proofs.PlannedLemmas.{picked-view, won-view}
use Rattle.noc_router.proofs.WholeLemmas.{arbiters_view}
use Rattle.noc_router.proofs.router.Router.grant_ports.Goals as goal

pub allocate_switch-requires-clause-ready : goal.allocate_switch-requires-clause-ready
allocate_switch-requires-clause-ready c =
    let v = c.args.self.now in
    let a = arbiters_view c.self.inside v c.self.view_is c.self.invariant in
    let vcs : c.self.inside.vcs ≡ v.site.vcs = ap (λ (w : View). w.site.vcs) c.self.view_is in
    let inputs : c.deref.result.now ≡ v.arbiters.inputs = c.deref.ensures.value ∙ ap (λ (w : View). w.arbiters.inputs) c.self.view_is in
    let many : length c.deref.result.now ≡ ports v.site.grid = ap (λ (ts : List RoundRobin). length ts) inputs ∙ a.inputs in
    ap (λ (xs : List (Option ℕ)). length xs) (c.requires ∙ ready_of-stands v) ∙ length-tabulate _ _ ∙ sym (ap (λ n. n * c.self.inside.vcs) many ∙ ap (λ n. ports v.site.grid * n) vcs)

picks-are : (c : goal.After-allocate_switch) → c.allocate_switch.new.picks ≡ (view_round c.args.self.now).picks
picks-are c =
    let v = c.args.self.now in
    let a = arbiters_view c.self.inside v c.self.view_is c.self.invariant in
    let inputs : c.deref.result.now ≡ v.arbiters.inputs = c.deref.ensures.value ∙ ap (λ (w : View). w.arbiters.inputs) c.self.view_is in
    picked-view v c.args.ready.now c.allocate_switch.new.picks c.self.inside.vcs c.deref.result.now c.requires (ap (λ (w : View). w.site.vcs) c.self.view_is) inputs
    (ap (λ (ts : List RoundRobin). length ts) inputs ∙ a.inputs) c.allocate_switch.ensures.picks

pub returns-clause-picks : goal.returns-clause-picks
returns-clause-picks c =
    let v = c.args.self.now in
    let a = arbiters_view c.self.inside v c.self.view_is c.self.invariant in
    let inputs : c.deref.result.now ≡ v.arbiters.inputs = c.deref.ensures.value ∙ ap (λ (w : View). w.arbiters.inputs) c.self.view_is in
    take_at c.allocate_switch.new.picks _ (ports v.site.grid) (ap (λ (xs : List (Option ℕ)). length xs) c.allocate_switch.ensures.picks ∙ length-tabulate _ _ ∙ ap (λ (ts : List RoundRobin). length ts) inputs ∙ a.inputs)
    ∙ picks-are c

pub returns-clause-wins : goal.returns-clause-wins
returns-clause-wins c =
    let v = c.args.self.now in
    let a = arbiters_view c.self.inside v c.self.view_is c.self.invariant in
    let inputs : c.deref.result.now ≡ v.arbiters.inputs = c.deref.ensures.value ∙ ap (λ (w : View). w.arbiters.inputs) c.self.view_is in
    let outputs : c.deref-2.result.now ≡ v.arbiters.outputs = c.deref-2.ensures.value ∙ ap (λ (w : View). w.arbiters.outputs) c.self.view_is in
    let all : length c.deref-2.result.now ≡ ports v.site.grid = ap (λ (ts : List RoundRobin). length ts) outputs ∙ a.outputs in
    take_at c.allocate_switch.new.wins _ (ports v.site.grid) (ap (λ (xs : List (Option ℕ)). length xs) c.allocate_switch.ensures.wins ∙ length-tabulate _ _ ∙ all)
    ∙ won-view v c.args.ready.now c.allocate_switch.new.picks c.allocate_switch.new.wins c.self.inside.vcs (length c.deref.result.now) c.deref-2.result.now c.requires (ap (λ (w : View). w.site.vcs) c.self.view_is)
    (ap (λ (ts : List RoundRobin). length ts) inputs ∙ a.inputs) outputs all (picks-are c) c.allocate_switch.ensures.wins
