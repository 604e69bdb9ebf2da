use Rattle.std.proofs.Common.{◌∙◌, Option, refl, subst, sym}
use Rattle.std.proofs.lemmas.Bool.{false≢true}
use Rattle.std.proofs.lemmas.Result.{err_from_is_err_and}
use Rattle.std.specs.Prelude.{MatchOption}
use Rattle.noc_route.specs.declared.rule.Entry.{Entry}
use Rattle.noc_rank.specs.Faults.{HasEscapes, IsFirstBare, HasNoDescent, IsFirstDescent}
use Rattle.noc_rank.specs.declared.descent.Descent.{Descent}
use Rattle.noc_rank.proofs.AcceptLemmas.{escape-over, ranked-not_bare, ranked-no_descent, ranked-no_fall}
use Rattle.noc_rank.proofs.RankedLemmas.{full-ranked}
use Rattle.noc_rank.proofs.accept.check.Goals as goal

pub returns-in-None-clause-ok : goal.returns-in-None-clause-ok
returns-in-None-clause-ok g c = full-ranked c.args.relation.now c.is_full.ensures.built c.args.ranks.now c.requires.shape c.requires.vcs (c.is_full.ensures.full.0 c.if-is_full.true) c.in-None.ensures

pub returns-in-Some-clause-err : goal.returns-in-Some-clause-err
returns-in-Some-clause-err g c = rw c.fault.ensures (c.is_full.ensures.full.0 c.if-is_full.true, c.in-Some.ensures)

pub returns-in-Some-clause-accepted : goal.returns-in-Some-clause-accepted
returns-in-Some-clause-accepted g c = λ _ ranked. absurd (ranked-no_fall c.args.relation.now c.args.ranks.now ranked _ _ _ c.in-Some.ensures.fall)

pub returns-in-Some-clause-refused : goal.returns-in-Some-clause-refused
returns-in-Some-clause-refused g c = λ ranked. absurd (ranked-no_fall c.args.relation.now c.args.ranks.now ranked _ _ _ c.in-Some.ensures.fall)

pub returns-in-Some-first_bare-clause-refused : goal.returns-in-Some-first_bare-clause-refused
returns-in-Some-first_bare-clause-refused g c = λ ranked. absurd (ranked-not_bare c.args.relation.now c.args.ranks.now ranked _ c.in-Some-first_bare.ensures.bare)

pub returns-in-None-2-clause-ok : goal.returns-in-None-2-clause-ok
returns-in-None-2-clause-ok g c =
    let routes = c.args.relation.now in
    let k = c.args.ranks.now in
    let B : Option Entry → Type 0 = λ o. MatchOption o (HasEscapes routes k) (IsFirstBare routes k) in
    let D : Option Descent → Type 0 = λ o. MatchOption o (HasNoDescent routes k) (λ d. IsFirstDescent routes k d.from d.to d.rank d.next) in
    escape-over routes k c.requires.shape c.requires.vcs c.is_full.ensures.built (subst B c.in_default.is c.first_bare.ensures) (subst D c.in-None-2.is c.in_ok-first_descent.ensures)

pub returns-in-Some-2-clause-refused : goal.returns-in-Some-2-clause-refused
returns-in-Some-2-clause-refused g c = λ ranked.
    let routes = c.args.relation.now in
    let k = c.args.ranks.now in
    let D : Option Descent → Type 0 = λ o. MatchOption o (HasNoDescent routes k) (λ d. IsFirstDescent routes k d.from d.to d.rank d.next) in
    let first = subst D c.in-Some-2.is c.in_ok-first_descent.ensures in
    absurd (ranked-no_descent routes k ranked _ _ _ _ first.descent)

pub returns-in-Some-first_bare-clause-err : goal.returns-in-Some-first_bare-clause-err
returns-in-Some-first_bare-clause-err g c = (λ full. false≢true (sym c.if-is_full.false ∙ c.is_full.ensures.full.1 full), c.in-Some-first_bare.ensures)

pub returns-in-Some-first_bare-clause-accepted : goal.returns-in-Some-first_bare-clause-accepted
returns-in-Some-first_bare-clause-accepted g c = λ full _. absurd (false≢true (sym c.if-is_full.false ∙ c.is_full.ensures.full.1 full))

pub returns-in_err-first_descent-clause-accepted : goal.returns-in_err-first_descent-clause-accepted
returns-in_err-first_descent-clause-accepted g c = λ full _. absurd (false≢true (sym c.if-is_full.false ∙ c.is_full.ensures.full.1 full))

pub returns-in-Some-2-clause-accepted : goal.returns-in-Some-2-clause-accepted
returns-in-Some-2-clause-accepted g c = λ full _. absurd (false≢true (sym c.if-is_full.false ∙ c.is_full.ensures.full.1 full))

pub returns-in_err-first_descent-clause-ok : goal.returns-in_err-first_descent-clause-ok
returns-in_err-first_descent-clause-ok g c = let p = err_from_is_err_and c.from_residual.result c.from_residual.ensures.1 in rw p.1 tt

pub returns-in_err-first_descent-clause-err : goal.returns-in_err-first_descent-clause-err
returns-in_err-first_descent-clause-err g c =
    let B : Option Entry → Type 0 = λ o. MatchOption o (HasEscapes c.args.relation.now c.args.ranks.now) (IsFirstBare c.args.relation.now c.args.ranks.now) in
    let p = err_from_is_err_and c.from_residual.result c.from_residual.ensures.1 in
    rw (p.1, p.2) (λ full. false≢true (sym c.if-is_full.false ∙ c.is_full.ensures.full.1 full), subst B c.in_default.is c.first_bare.ensures)

pub returns-in_err-first_descent-clause-refused : goal.returns-in_err-first_descent-clause-refused
returns-in_err-first_descent-clause-refused g c = λ _. let p = err_from_is_err_and c.from_residual.result c.from_residual.ensures.1 in rw p.1 p.2

pub returns-in-None-clause-err : goal.returns-in-None-clause-err
returns-in-None-clause-err g c = tt

pub returns-in-None-clause-accepted : goal.returns-in-None-clause-accepted
returns-in-None-clause-accepted g c = λ _ _. refl

pub returns-in-None-clause-refused : goal.returns-in-None-clause-refused
returns-in-None-clause-refused g c = λ _. tt

pub returns-in-Some-clause-ok : goal.returns-in-Some-clause-ok
returns-in-Some-clause-ok g c = tt

pub returns-in-Some-first_bare-clause-ok : goal.returns-in-Some-first_bare-clause-ok
returns-in-Some-first_bare-clause-ok g c = tt

pub returns-in-None-2-clause-err : goal.returns-in-None-2-clause-err
returns-in-None-2-clause-err g c = tt

pub returns-in-None-2-clause-accepted : goal.returns-in-None-2-clause-accepted
returns-in-None-2-clause-accepted g c = λ _ _. refl

pub returns-in-None-2-clause-refused : goal.returns-in-None-2-clause-refused
returns-in-None-2-clause-refused g c = λ _. tt

pub returns-in-Some-2-clause-ok : goal.returns-in-Some-2-clause-ok
returns-in-Some-2-clause-ok g c = tt

pub returns-in-Some-2-clause-err : goal.returns-in-Some-2-clause-err
returns-in-Some-2-clause-err g c =
    let routes = c.args.relation.now in
    let k = c.args.ranks.now in
    let B : Option Entry → Type 0 = λ o. MatchOption o (HasEscapes routes k) (IsFirstBare routes k) in
    let D : Option Descent → Type 0 = λ o. MatchOption o (HasNoDescent routes k) (λ d. IsFirstDescent routes k d.from d.to d.rank d.next) in
    rw c.fault-in-Some-2.ensures (λ full. false≢true (sym c.if-is_full.false ∙ c.is_full.ensures.full.1 full), subst B c.in_default.is c.first_bare.ensures, subst D c.in-Some-2.is c.in_ok-first_descent.ensures)

pub invariant_of-ranked : goal.invariant_of-ranked
invariant_of-ranked g c = record { grid = c.requires.shape; vcs = c.requires.vcs }
