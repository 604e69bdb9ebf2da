use Rattle.std.proofs.Common.{◌≡◌, ℕ, Bool, List, Option, length, sym, subst, ◌∙◌}
use Rattle.std.specs.Vec.{with_items}
use Rattle.std.proofs.lemmas.List.{with_items_is}
use Rattle.std.proofs.lemmas.Result.{err_from_is_err_and}
use Rattle.noc_rank.specs.Ranking.{IsRanking}
use Rattle.noc_rank.specs.Rows.{IsRankingOf}
use Rattle.noc_rank.specs.Entered.{IsWhole, IsFirstGap}
use Rattle.noc_rank.proofs.RowLemmas.{IsRanking-entered, IsRankingOf-entered, IsFaultOfRows-gap, IsFaultOfRows-row}
use Rattle.noc_rank.proofs.ranks.Ranks.from_rows.Goals as goal

pub invariant_of-result : goal.invariant_of-result
invariant_of-result c =
    let entered = c.in_ok-enter.ensures.ok in
    let items : (with_items c.in_ok-ranks.ranks c.enter.new.ranks).items ≡ c.enter.new.ranks = with_items_is c.in_ok-ranks.ranks c.enter.new.ranks (c.enter.auto.ranks ∙ c.deref_mut.ensures.len) in
    let P : List (Option ℕ) → Type 0 = λ l. IsRanking (record { grid = c.args.shape.now; vcs = c.args.vcs; ranks = l }) in
    subst P (sym items) (IsRanking-entered c.args.shape.now c.args.vcs c.args.rows.now c.enter.new.ranks c.enter.new.named entered c.all_ports.ensures.grid)

pub returns-in_err-enter-clause-err : goal.returns-in_err-enter-clause-err
returns-in_err-enter-clause-err c =
    let p = err_from_is_err_and c.from_residual-in_err-enter.result c.from_residual-in_err-enter.ensures.1 in
    rw (p.1, p.2) (IsFaultOfRows-row c.args.shape.now c.args.vcs c.args.rows.now _ c.in_err-enter.ensures.err)

pub returns-in-Some-clause-err : goal.returns-in-Some-clause-err
returns-in-Some-clause-err c =
    let items : (with_items c.in_ok-named.named c.enter.new.named).items ≡ c.enter.new.named = with_items_is c.in_ok-named.named c.enter.new.named (c.enter.auto.named ∙ c.deref_mut-2.ensures.len) in
    let P : List Bool → Type 0 = λ l. IsFirstGap c.args.shape.now c.args.vcs l c.in-Some.fault in
    IsFaultOfRows-gap c.args.shape.now c.args.vcs c.args.rows.now c.enter.new.ranks c.enter.new.named c.in_ok-enter.ensures.ok c.in-Some.fault (subst P (c.deref.ensures.value ∙ items) c.in-Some.ensures.some)

pub returns-in-None-clause-ok : goal.returns-in-None-clause-ok
returns-in-None-clause-ok c =
    let entered = c.in_ok-enter.ensures.ok in
    let items : (with_items c.in_ok-ranks.ranks c.enter.new.ranks).items ≡ c.enter.new.ranks = with_items_is c.in_ok-ranks.ranks c.enter.new.ranks (c.enter.auto.ranks ∙ c.deref_mut.ensures.len) in
    let notes : (with_items c.in_ok-named.named c.enter.new.named).items ≡ c.enter.new.named = with_items_is c.in_ok-named.named c.enter.new.named (c.enter.auto.named ∙ c.deref_mut-2.ensures.len) in
    let W : List Bool → Type 0 = λ l. IsWhole c.args.shape.now c.args.vcs l (length l) in
    let whole : W c.enter.new.named = subst W (c.deref.ensures.value ∙ notes) c.in-None.ensures.none in
    let P : List (Option ℕ) → Type 0 = λ l. IsRankingOf c.args.shape.now c.args.vcs c.args.rows.now (record { grid = c.args.shape.now; vcs = c.args.vcs; ranks = l }) in
    subst P (sym items) (IsRankingOf-entered c.args.shape.now c.args.vcs c.args.rows.now c.enter.new.ranks c.enter.new.named entered c.all_ports.ensures.grid whole)

pub returns-in_err-ranks-clause-ok : goal.returns-in_err-ranks-clause-ok
returns-in_err-ranks-clause-ok c = let p = err_from_is_err_and c.from_residual.result c.from_residual.ensures.1 in rw p.1 tt

pub returns-in_err-ranks-clause-err : goal.returns-in_err-ranks-clause-err
returns-in_err-ranks-clause-err c = let p = err_from_is_err_and c.from_residual.result c.from_residual.ensures.1 in rw (p.1, p.2) tt

pub returns-in_err-named-clause-ok : goal.returns-in_err-named-clause-ok
returns-in_err-named-clause-ok c = let p = err_from_is_err_and c.from_residual-in_err-named.result c.from_residual-in_err-named.ensures.1 in rw p.1 tt

pub returns-in_err-named-clause-err : goal.returns-in_err-named-clause-err
returns-in_err-named-clause-err c = let p = err_from_is_err_and c.from_residual-in_err-named.result c.from_residual-in_err-named.ensures.1 in rw (p.1, p.2) tt

pub returns-in_err-enter-clause-ok : goal.returns-in_err-enter-clause-ok
returns-in_err-enter-clause-ok c = let p = err_from_is_err_and c.from_residual-in_err-enter.result c.from_residual-in_err-enter.ensures.1 in rw p.1 tt

pub returns-in-Some-clause-ok : goal.returns-in-Some-clause-ok
returns-in-Some-clause-ok c = tt

pub returns-in-None-clause-err : goal.returns-in-None-clause-err
returns-in-None-clause-err c = tt
