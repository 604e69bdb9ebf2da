use Rattle.std.proofs.Common.{◌≡◌, ◌*◌, length, ap, sym, ◌∙◌, arith, replicate, subst, take}
use Rattle.std.proofs.lemmas.List.{take-replicate}
use Rattle.noc_topo.proofs.ListLemmas.{length-map_indexed}
use Rattle.noc_topo.specs.Lists.{tabulate}
use Rattle.noc_topo.specs.Shape.{local_port}
use Rattle.noc_router.specs.Inside.{view_of}
use Rattle.noc_router.specs.Settled.{AreContentsFor, decisions_by, finding_by, planned_verdict, view_after_tally}
use Rattle.noc_router.specs.Tally.{TallyContents}
use Rattle.noc_view.specs.View.{counts_after, idle_beat, size_of}
use Rattle.noc_router.proofs.OutcomeLemmas.{counted-outcome, found-outcome, outcome-decided}
use Rattle.noc_router.proofs.WholeLemmas.{size_view}
use Rattle.noc_router.proofs.RouterLemmas.{IsRouter-counted}
use Rattle.noc_router.proofs.router.Router.note.Goals as goal

pub note-requires-clause-plan : goal.note-requires-clause-plan
note-requires-clause-plan c =
    let r = c.self.inside in
    let h = c.self.invariant in
    let size : size_of c.args.self.now.site ≡ r.ports * r.vcs = size_view r c.args.self.now c.self.view_is h in
    let own : size_of (view_of r).site ≡ r.ports * r.vcs = ap (λ n. n * r.vcs) (sym h.ports) in
    let decided = outcome-decided c.args.plan.now c.args.self.now c.requires in
    record {
      channels = h.channels ∙ sym h.counts;
      asks = decided.asks ∙ size ∙ sym h.counts;
      verdicts = decided.verdicts ∙ size ∙ sym h.counts;
    }

pub invariant_of-self : goal.invariant_of-self
invariant_of-self c =
    let r = c.self.inside in
    IsRouter-counted r c.note.new.self _ c.self.invariant (ap (λ (x : TallyContents). length x.counts) c.note.ensures ∙ length-map_indexed (λ i xs. counts_after (planned_verdict c.args.plan.now i) xs) r.tally.counts)
    (omega (arith, c.self.invariant.beats))

pub returns : goal.returns
returns c =
    let r = c.self.inside in
    let h = c.self.invariant in
    let v = view_of r in
    let p = c.args.plan.now in
    let d = decisions_by p v in
    let size : size_of v.site ≡ r.ports * r.vcs = ap (λ n. n * r.vcs) (sym h.ports) in
    let n : length v.counts ≡ size_of v.site = h.counts ∙ sym size in
    let idle = c.idle-self-inside.result in
    let is : AreContentsFor p v = subst (AreContentsFor p) (sym c.self.view_is) c.requires in
    ap (λ (x : TallyContents). record v { counts = x.counts; findings = x.findings; to_put = take (local_port r.shape) (replicate 6 idle) }) c.note.ensures
    ∙ ap (λ x. record v { counts = x; findings = tabulate (length v.counts) (finding_by p r.vcs r.channels.inputs.items); to_put = take (local_port r.shape) (replicate 6 idle) }) (counted-outcome p v v.counts n)
    ∙ ap (λ x. record (view_after_tally d v) { findings = x; to_put = take (local_port r.shape) (replicate 6 idle) }) (found-outcome p v (length v.counts) is n)
    ∙ ap (λ x. record (view_after_tally d v) { to_put = x }) (ap (λ beat. take (local_port r.shape) (replicate 6 beat)) c.idle-self-inside.ensures ∙ take-replicate (local_port r.shape) 6 idle_beat (omega (arith, h.grid.few_dimensions)))
    ∙ ap (λ x. view_after_tally (decisions_by p x) x) c.self.view_is
