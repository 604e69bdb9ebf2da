use Rattle.std.proofs.Common.{◌≢◌, ◌∙◌, ap, arith, inl, inr, sym}
use Rattle.std.proofs.lemmas.Bool.{cases_eq, false≢true}
use Rattle.std.proofs.lemmas.Slice.Eq.{bytes_eq-Decides}
use Rattle.noc_view.proofs.ColumnLemmas.{column-small}
use Rattle.noc_view.specs.Names.{verdict_name}
use Rattle.noc_view.specs.Verdict.{column}
use Rattle.noc_view.specs.declared.verdict.Verdict.TheVariants.{Empty}
use Rattle.noc_view.proofs.VerdictOrderLemmas.{verdict-at}
use Rattle.noc_commands.proofs.verdicts.verdict_named.Goals as goal

pub loop-verdict-preserved : goal.loop-verdict-preserved
loop-verdict-preserved c = λ v l named.
    elim (cases_eq (column v) c.loop-verdict.verdict-index) [
      | inl here ↦
          let same = c.name.ensures ∙ ap verdict_name (verdict-at v c.loop-verdict.verdict-index Empty here) ∙ sym named in
          false≢true (sym c.if-eq.false ∙ c.eq.ensures ∙ (bytes_eq-Decides c.name.result.now c.args.name.now).1 same)
      | inr before ↦ c.loop-verdict.invariant v (let n : column v ≢ c.loop-verdict.verdict-index = before in omega arith) named
    ]

pub returns-clause-none : goal.returns-clause-none
returns-clause-none c = λ v named. c.loop-verdict.invariant v (omega (arith, column-small v, c.loop-verdict-test.false)) named
