use Rattle.std.proofs.Common.{◌≡◌, ℕ, ◌+◌, false, List, [], length, ap, sym, subst, ◌∙◌, arith}
use Rattle.std.specs.Prelude.{if◌then◌else◌, nat_eq}
use Rattle.std.specs.Vec.{with_items}
use Rattle.std.proofs.lemmas.Bool.{ne_eqb}
use Rattle.std.proofs.lemmas.List.{with_items_is}
use Rattle.noc_topo.specs.Lists.{map_indexed, tabulate}
use Rattle.noc_router.specs.Settled.{finding_by, planned_verdict}
use Rattle.noc_router.specs.Tally.{IsPlanOf, IsTally, TallyContents}
use Rattle.noc_view.specs.View.{counts_after}
use Rattle.noc_view.specs.declared.finding.Finding.{Finding}
use Rattle.noc_router.proofs.TallyLemmas.{counted-room, found-verdicts, full-same, noted-tally}
use Rattle.noc_router.proofs.tally.VerdictTally.note.Goals as goal

pub find_all-requires-clause-plan : goal.find_all-requires-clause-plan
find_all-requires-clause-plan c =
    let n : length c.deref_mut.result.now ≡ length c.args.self.now.counts = ap length c.deref_mut.ensures.value ∙ c.self.invariant.found ∙ ap (λ (x : TallyContents). length x.counts) c.self.view_is in
    subst (λ m. IsPlanOf c.args.channels.now m c.args.plan.now) (sym n) c.requires.plan

pub count_all-requires-clause-room : goal.count_all-requires-clause-room
count_all-requires-clause-room c =
    let t = c.self.inside in
    counted-room t.cycles t.counts.items t.findings.items _ c.self.invariant c.if-self-lt18446744073709551615.true c.deref_mut-then-self-lt18446744073709551615.ensures.value

pub invariant_of-self : goal.invariant_of-self
invariant_of-self c =
    let t = c.self.inside in
    let verdict = planned_verdict c.args.plan.now in
    let f : ℕ → List ℕ → List ℕ = λ i one. counts_after (verdict i) one in
    let found : List Finding = (with_items t.findings c.find_all.new.findings).items in
    let kept : found ≡ c.find_all.new.findings = with_items_is t.findings c.find_all.new.findings (omega (arith, c.find_all.auto.findings, c.deref_mut.ensures.len)) in
    let g : ℕ → Finding = finding_by c.args.plan.now c.args.vcs c.args.channels.now.inputs.items in
    let n : length c.deref_mut.result.now ≡ length t.counts.items = ap length c.deref_mut.ensures.value ∙ c.self.invariant.found in
    let is : found ≡ tabulate (length t.counts.items) g = kept ∙ c.find_all.ensures ∙ ap (λ m. tabulate m g) n in
    let counted : (with_items t.counts c.count_all.new.counts).items ≡ map_indexed f t.counts.items =
    with_items_is t.counts c.count_all.new.counts (omega (arith, c.count_all.auto.counts, c.deref_mut-then-self-lt18446744073709551615.ensures.len))
    ∙ c.count_all.ensures (planned_verdict c.args.plan.now) (found-verdicts c.args.plan.now c.args.vcs (length t.counts.items) c.args.channels.now.inputs.items c.deref.result.now (c.deref.ensures.value ∙ is)) ∙ ap (map_indexed f) c.deref_mut-then-self-lt18446744073709551615.ensures.value in
    subst (λ xs. IsTally (t.cycles + 1) xs found) (sym counted)
    (noted-tally verdict t.cycles t.counts.items t.findings.items found c.self.invariant (omega (arith, c.if-self-lt18446744073709551615.true))
    (ap length kept ∙ c.find_all.auto.findings ∙ ap length c.deref_mut.ensures.value))

pub invariant_of-self-else-self-lt18446744073709551615 : goal.invariant_of-self-else-self-lt18446744073709551615
invariant_of-self-else-self-lt18446744073709551615 c =
    let t = c.self.inside in
    let h = c.self.invariant in
    let kept = with_items_is t.findings c.find_all.new.findings (omega (arith, c.find_all.auto.findings, c.deref_mut.ensures.len)) in
    record {
      fits = h.fits;
      ten = h.ten;
      sums = h.sums;
      found = ap length kept ∙ c.find_all.auto.findings ∙ ap length c.deref_mut.ensures.value ∙ h.found;
    }

pub returns-then-self-lt18446744073709551615 : goal.returns-then-self-lt18446744073709551615
returns-then-self-lt18446744073709551615 c =
    let t = c.self.inside in
    let f : ℕ → List ℕ → List ℕ = λ i one. counts_after (planned_verdict c.args.plan.now i) one in
    let g : ℕ → Finding = finding_by c.args.plan.now c.args.vcs c.args.channels.now.inputs.items in
    let found : List Finding = (with_items t.findings c.find_all.new.findings).items in
    let n : length c.deref_mut.result.now ≡ length t.counts.items = ap length c.deref_mut.ensures.value ∙ c.self.invariant.found in
    let is : found ≡ tabulate (length t.counts.items) g =
    with_items_is t.findings c.find_all.new.findings (omega (arith, c.find_all.auto.findings, c.deref_mut.ensures.len)) ∙ c.find_all.ensures ∙ ap (λ m. tabulate m g) n in
    let counted : (with_items t.counts c.count_all.new.counts).items ≡ map_indexed f t.counts.items =
    with_items_is t.counts c.count_all.new.counts (omega (arith, c.count_all.auto.counts, c.deref_mut-then-self-lt18446744073709551615.ensures.len))
    ∙ c.count_all.ensures (planned_verdict c.args.plan.now) (found-verdicts c.args.plan.now c.args.vcs (length t.counts.items) c.args.channels.now.inputs.items c.deref.result.now (c.deref.ensures.value ∙ is)) ∙ ap (map_indexed f) c.deref_mut-then-self-lt18446744073709551615.ensures.value in
    let some : nat_eq (t.cycles + 1) 0 ≡ false = ne_eqb (t.cycles + 1) 0 (λ e. absurd (omega (arith, e))) in
    ap (λ xs. record { counts = xs; findings = if nat_eq (t.cycles + 1) 0 then [] else found }) counted
    ∙ ap (λ b. record { counts = map_indexed f t.counts.items; findings = if b then [] else found }) some
    ∙ ap (λ xs. record { counts = map_indexed f t.counts.items; findings = xs }) is
    ∙ ap (λ (x : TallyContents). record { counts = map_indexed f x.counts; findings = tabulate (length x.counts) g }) c.self.view_is

pub returns-else-self-lt18446744073709551615 : goal.returns-else-self-lt18446744073709551615
returns-else-self-lt18446744073709551615 c =
    let t = c.self.inside in
    let f : ℕ → List ℕ → List ℕ = λ i one. counts_after (planned_verdict c.args.plan.now i) one in
    let g : ℕ → Finding = finding_by c.args.plan.now c.args.vcs c.args.channels.now.inputs.items in
    let found : List Finding = (with_items t.findings c.find_all.new.findings).items in
    let n : length c.deref_mut.result.now ≡ length t.counts.items = ap length c.deref_mut.ensures.value ∙ c.self.invariant.found in
    let is : found ≡ tabulate (length t.counts.items) g =
    with_items_is t.findings c.find_all.new.findings (omega (arith, c.find_all.auto.findings, c.deref_mut.ensures.len)) ∙ c.find_all.ensures ∙ ap (λ m. tabulate m g) n in
    let some : nat_eq t.cycles 0 ≡ false = ne_eqb t.cycles 0 (λ e. absurd (omega (arith, e, c.if-self-lt18446744073709551615.false))) in
    ap (λ b. record { counts = t.counts.items; findings = if b then [] else found }) some
    ∙ ap (λ xs. record { counts = xs; findings = found }) (full-same (planned_verdict c.args.plan.now) t.cycles t.counts.items t.findings.items c.self.invariant (omega (arith, c.if-self-lt18446744073709551615.false)))
    ∙ ap (λ xs. record { counts = map_indexed f t.counts.items; findings = xs }) is
    ∙ ap (λ (x : TallyContents). record { counts = map_indexed f x.counts; findings = tabulate (length x.counts) g }) c.self.view_is
