use Rattle.std.proofs.Common.{◌≡◌, ◌++◌, List, ℕ, Some, flat_map, take, get_or, slice_index, ap, sym, ◌∙◌, arith, append_assoc, append-nil}
use Rattle.noc_view.specs.Names.{column_name}
use Rattle.noc_view.specs.declared.verdict.TheConstants.Verdict.{ALL}
use Rattle.noc_view.specs.declared.verdict.Verdict.TheVariants.{Empty}
use Rattle.noc_files.specs.Summary.{summary_line, total_line}
use Rattle.noc_files.proofs.VerdictLemmas.{said-all, said-more}
use Rattle.noc_view.proofs.VerdictOrderLemmas.{column-at}
use Rattle.noc_files.proofs.summary.add_totals.Goals as goal

pub loop-index-init : goal.loop-index-init
loop-index-init c = record { added = sym (append-nil c.args.page.now); short = omega arith }

pub add_line-requires-clause-room : goal.add_line-requires-clause-room
add_line-requires-clause-room c = omega (arith, c.loop-index.invariant.short, c.loop-index-test.true, c.requires)

pub loop-index-preserved : goal.loop-index-preserved
loop-index-preserved c =
    let n = c.loop-index.index in
    let totals = c.args.totals.now in
    let old = c.args.page.now in
    let f = total_line totals in
    let verdict = get_or ALL n Empty in
    let line : c.add_line.new.page ≡ c.loop-index.page ++ f verdict =
    c.add_line.ensures.added
    ∙ ap (λ (name : List ℕ). c.loop-index.page ++ summary_line (name, Some (slice_index totals n))) c.column_name-name.ensures
    ∙ ap (λ (k : ℕ). c.loop-index.page ++ summary_line (column_name verdict, Some (slice_index totals k))) (sym (column-at n Empty c.loop-index-test.true)) in
    record {
      added = line ∙ ap (λ (t : List ℕ). t ++ f verdict) c.loop-index.invariant.added ∙ append_assoc old (flat_map f (take n ALL)) (f verdict)
          ∙ ap (λ (t : List ℕ). old ++ t) (sym (said-more f n Empty c.loop-index-test.true));
      short = omega (arith, c.add_line.ensures.short, c.loop-index.invariant.short);
    }

pub returns : goal.returns
returns c = c.loop-index.invariant.added ∙ ap (λ (t : List ℕ). c.args.page.now ++ t) (said-all (total_line c.args.totals.now) c.loop-index.index c.loop-index-test.false)
