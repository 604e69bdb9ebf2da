use Rattle.std.proofs.Common.{◌≡◌, option_map, refl, rules}
use Rattle.std.specs.Option.{IsSomeAnd}
use Rattle.std.proofs.lemmas.Result.{IfErr-at_err, err_from_is_err_and}
use Rattle.noc_rank.specs.Faults.{IsFaultOfCheck}
use Rattle.noc_faults.specs.declared.fault.Fault.TheVariants as fault
use Rattle.noc_requests.specs.Asked.{lent_text}
use Rattle.noc_requests.specs.Check.{RanksFault, bad_ranks}
use Rattle.noc_requests.specs.Ending.{Refuses}
use Rattle.noc_requests.proofs.FaultLemmas.{if_fault}
use Rattle.noc_requests.proofs.checking.accept_if_given.Goals as goal

pub returns-in_err-ranks-clause-fault : goal.returns-in_err-ranks-clause-fault
returns-in_err-ranks-clause-fault g c =
    let p = err_from_is_err_and c.from_residual.result c.from_residual.ensures.1 in
    rw (p.1, p.2, c.in-Some.is) c.in_err-ranks.ensures.fault

pub returns-in_err-map_err-clause-fault : goal.returns-in_err-map_err-clause-fault
returns-in_err-map_err-clause-fault g c =
    let relation = c.args.relation.now in
    let ranks = c.in_ok-ranks.ranks in
    let refuses = Refuses (λ f. IsSomeAnd (option_map lent_text c.args.text) (λ t. RanksFault relation t f)) in
    let p = err_from_is_err_and c.from_residual-in_err-map_err.result c.from_residual-in_err-map_err.ensures.1 in
    rw (p.1, p.2) (IfErr-at_err refuses c.in_err-map_err.was
    (if_fault _ c.check.result c.map_err.result refuses c.map_err.ensures.cases (λ e d is names.
    let same : d ≡ fault.Rank e relation.grid = search rules in
    rw (same, c.in-Some.is) (refl, bad_ranks c.in_ok-ranks.ensures.ranks (IfErr-at_err (IsFaultOfCheck relation ranks) is c.check.ensures.err)))))
