use Rattle.std.proofs.Common.{◌≡◌, ◌∙◌, ap, arith, sym}
use Rattle.noc_sets.specs.Counts.{ByVerdict}
use Rattle.noc_counts.proofs.RowLemmas.{nine-same}
use Rattle.noc_counts.proofs.counts.Counts.totals.Goals as goal

pub returns-clause-counts : goal.returns-clause-counts
returns-clause-counts c = λ had is.
    let routed = ap (λ (v : ByVerdict). v.routed) is.counted in
    let granted : c.saturating_sub.result ≡ had.granted = omega (arith, c.saturating_sub.ensures, c.total-routed.ensures.count, routed, is.granted) in
    nine-same c.total-routed.ensures.count granted c.total.ensures.count c.total-2.ensures.count c.total-3.ensures.count c.total-4.ensures.count c.total-5.ensures.count c.total-6.ensures.count c.total-7.ensures.count
    ∙ sym is.counted

pub returns-clause-small : goal.returns-clause-small
returns-clause-small c = record {
  routed = c.total-routed.ensures.small;
  granted = omega (arith, c.saturating_sub.ensures, c.total-routed.ensures.small);
  moved = c.total.ensures.small;
  no_flit = c.total-2.ensures.small;
  no_idle_channel = c.total-3.ensures.small;
  lost_channel = c.total-4.ensures.small;
  no_credit = c.total-5.ensures.small;
  lost_input = c.total-6.ensures.small;
  lost_switch = c.total-7.ensures.small;
}
