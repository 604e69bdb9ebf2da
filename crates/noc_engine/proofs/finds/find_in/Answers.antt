use Rattle.std.proofs.Common.{◌≡◌, ap, ◌+◌, ◌<◌, set, length, arith, inl, inr, sym, subst, ◌∙◌}
use Rattle.std.proofs.lemmas.Bool.{cases_eq}
use Rattle.std.proofs.lemmas.List.{get_or-set_other, get_or-set_same}
use Rattle.noc_view.specs.Found.{empty_finding, finding_at}
use Rattle.noc_columns.specs.Picks.{channels_of}
use Rattle.noc_counts.specs.Findings.{finding_of}
use Rattle.noc_counts.specs.Told.{told_at}
use Rattle.noc_cycles.specs.Held.{held_at}
use Rattle.noc_engine.specs.Finds.{found_at}
use Rattle.noc_engine.proofs.finds.find_in.Goals as goal

pub loop-channel-preserved : goal.loop-channel-preserved
loop-channel-preserved c =
    let k = c.loop-channel.channel in
    let first = c.args.first in
    let xs = c.loop-channel.found in
    let pattern = c.args.pattern.now in
    let block = c.args.block.now in
    let work = c.args.work.now in
    let router = c.args.router in
    let of = found_at pattern block work router in
    let told = told_at (channels_of pattern.table.ports) block work router in
    let is : c.find.result ≡ of k = c.find.ensures ∙ ap (λ outs. finding_of pattern.table.ports.links.vcs told outs (held_at pattern.table.ports block router) k) c.granted_outs-outs.ensures in
    let few = c.args.pattern.now.table.few in
    let inside : first + k < length xs = omega (arith, c.requires.places, c.loop-channel.auto.found, c.loop-channel-test.true, few) in
    record {
      here = λ i l. elim (cases_eq i k) as (λ q. finding_at (set xs (first + k) c.find.result) (first + i) ≡ of i) [
        | inl same ↦ subst (λ j. finding_at (set xs (first + k) c.find.result) (first + j) ≡ of j) (sym same) (get_or-set_same xs (first + k) c.find.result empty_finding inside ∙ is)
        | inr other ↦ get_or-set_other xs (first + k) (first + i) c.find.result empty_finding (λ e. other (omega (arith, e))) ∙ c.loop-channel.invariant.here i (omega (arith, l, other))
      ];
      before = λ p l. get_or-set_other xs (first + k) p c.find.result empty_finding (λ e. omega (arith, e, l)) ∙ c.loop-channel.invariant.before p l;
    }
