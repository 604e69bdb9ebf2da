use Rattle.std.proofs.Common.{option_map, subst, sym}
use Rattle.std.specs.Option.{IfSome, IsSomeAnd}
use Rattle.std.proofs.lemmas.Result.{err_from_is_err_and}
use Rattle.noc_requests.specs.Asked.{lent_files, lent_text}
use Rattle.noc_requests.specs.Settings.{SettingsFault}
use Rattle.noc_requests.specs.Answer.{TextsFault, in_settings}
use Rattle.noc_requests.specs.Check.{Accepts, RanksFault}
use Rattle.noc_requests.proofs.EndingLemmas.{refuses_more}
use Rattle.noc_requests.proofs.CheckLemmas.{in_checked_ranks}
use Rattle.noc_requests.proofs.checking.checked_relation.Goals as goal

pub returns-in_err-config-clause-fault : goal.returns-in_err-config-clause-fault
returns-in_err-config-clause-fault g c =
    let a = lent_files c.args.files.now in
    let p = err_from_is_err_and c.from_residual.result c.from_residual.ensures.1 in
    rw (p.1, p.2) (refuses_more (SettingsFault a) (TextsFault a) _ (λ first. in_settings first) c.in_err-config.ensures.fault)

pub returns-in_err-accept_if_given-clause-fault : goal.returns-in_err-accept_if_given-clause-fault
returns-in_err-accept_if_given-clause-fault g c =
    let a = lent_files c.args.files.now in
    let ranks = option_map lent_text c.checked_ranks.result in
    let p = err_from_is_err_and c.from_residual-in_err-accept_if_given.result c.from_residual-in_err-accept_if_given.ensures.1 in
    rw (p.1, p.2) (refuses_more (λ f. IsSomeAnd ranks (λ text. RanksFault c.in_ok-config.relation text f)) (TextsFault a) _
    (λ first. in_checked_ranks a _ _ _ ranks c.in_ok-config.ensures.relation (sym c.checked_ranks.ensures) first) c.in_err-accept_if_given.ensures.fault)

pub returns-clause-checked : goal.returns-clause-checked
returns-clause-checked g c = record {
  relation = c.in_ok-config.ensures.relation;
  accepted = subst (λ t. IfSome t (Accepts c.in_ok-config.relation)) c.checked_ranks.ensures c.in_ok-accept_if_given.ensures.accepted;
}
