use Rattle.std.proofs.Common.{◌≡◌, ◌∙◌, ◌-◌, ℕ, List, Option, ap, subst}
use Rattle.noc_topo.specs.Shape.{ports}
use Rattle.noc_view.specs.declared.finding.Finding.{Finding}
use Rattle.noc_files.specs.Trace.{kept_line, over_traced}
use Rattle.noc_files.specs.Writing.{Puts}
use Rattle.noc_files.specs.declared.trace.Traced.{Traced}
use Rattle.noc_files.proofs.PageLemmas.{listing_is}
use Rattle.noc_files.proofs.cycle_lines.put_cycle.Goals as goal

pub returns-clause-puts : goal.returns-clause-puts
returns-clause-puts g c =
    let w = g.W.Sink in
    let run = c.args.network.now in
    let relation = run.net.relation in
    let line = kept_line run c.args.trace.now.0 c.args.trace.now.1 (c.count-cycle.result - 1) in
    let router : c.trace.inside.traced.router ≡ c.args.trace.now.0.router = ap (λ (t : Traced × List (List Finding)). t.0.router) c.trace.view_is in
    let text = listing_is relation.grid (ports relation.grid) relation.vcs c.trace.inside.traced.router line ∙ ap (λ (r : Option ℕ). over_traced relation r line) router
    ∙ ap (λ (k : ℕ). over_traced relation c.args.trace.now.0.router (kept_line run c.args.trace.now.0 c.args.trace.now.1 (k - 1))) c.count-cycle.ensures.value in
    subst (λ (t : List ℕ). Puts w.contents w.has_failed c.args.sink.now c.put_pages.new.sink t c.put_pages.result) text c.put_pages.ensures.puts
