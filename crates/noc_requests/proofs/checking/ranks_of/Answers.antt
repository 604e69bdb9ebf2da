use Rattle.std.proofs.Common.{◌≡◌, refl, rules, subst}
use Rattle.std.proofs.lemmas.Result.{IfErr-at_err, err_from_is_err_and}
use Rattle.noc_files.specs.Gives.{Gives}
use Rattle.noc_files.specs.Ranks.{ranks_of}
use Rattle.noc_rank.specs.Rows.{IsFaultOfRows}
use Rattle.noc_faults.specs.declared.fault.Fault.TheVariants as fault
use Rattle.noc_requests.specs.Asked.{lent_text, read_by}
use Rattle.noc_requests.specs.Check.{RanksFault, bad_file, bad_rows}
use Rattle.noc_requests.specs.Ending.{Refuses}
use Rattle.noc_requests.proofs.FaultLemmas.{if_fault, value_of}
use Rattle.noc_requests.proofs.checking.ranks_of.Goals as goal

pub returns-in_err-rows-clause-fault : goal.returns-in_err-rows-clause-fault
returns-in_err-rows-clause-fault c =
    let text = lent_text c.args.text in
    let refuses = Refuses (RanksFault c.args.relation.now text) in
    let p = err_from_is_err_and c.from_residual.result c.from_residual.ensures.1 in
    let given = subst (λ g. Gives (λ v. v.items) c.rank_rows_in.result (read_by (ranks_of g) text)) c.shape-shape.ensures.value c.rank_rows_in.ensures in
    rw (p.1, p.2) (IfErr-at_err refuses c.in_err-rows.was
    (if_fault _ c.rank_rows_in.result c.map_err.result refuses c.map_err.ensures.cases
    (λ e d is names. rw names (refl, bad_file (subst (λ r. Gives (λ v. v.items) r (read_by (ranks_of c.args.relation.now.grid) text)) is given)))))

pub returns-clause-fault : goal.returns-clause-fault
returns-clause-fault c =
    let relation = c.args.relation.now in
    let text = lent_text c.args.text in
    let refuses = Refuses (RanksFault relation text) in
    let read = value_of _ c.rank_rows_in.result c.map_err.result c.in_ok-rows.rows c.map_err.ensures.cases c.in_ok-rows.was in
    let said = subst (λ r. Gives (λ v. v.items) r (read_by (ranks_of c.shape-shape.result.now) text)) read c.rank_rows_in.ensures in
    if_fault _ c.from_rows-ranks.result c.map_err-2.result refuses c.map_err-2.ensures.cases (λ e d is names.
    let same : d ≡ fault.Rank e c.shape-shape.result.now = search rules in
    let wrong = IfErr-at_err (IsFaultOfRows c.shape-shape.result.now c.vcs.result c.deref.result.now) is c.from_rows-ranks.ensures.err in
    rw (same, c.shape-shape.ensures.value) (refl, bad_rows {f = e} (rw c.shape-shape.ensures.value at said) (rw (c.shape-shape.ensures.value, c.vcs.ensures.value, c.deref.ensures.value) at wrong)))
