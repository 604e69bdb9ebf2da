use Rattle.std.proofs.Common.{◌≡◌, refl, rules}
use Rattle.std.proofs.lemmas.Result.{IfErr-at_err, MatchResult-at_err, err_from_is_err_and}
use Rattle.noc_route.specs.Built.{IsRelationOfRule, routing_of}
use Rattle.noc_route.specs.Relation.{IsFaultOf}
use Rattle.noc_faults.specs.declared.fault.Fault.TheVariants as fault
use Rattle.noc_requests.specs.Asked.{lent_files}
use Rattle.noc_requests.specs.Ending.{Refuses}
use Rattle.noc_requests.specs.Settings.{RefusesTable, SettingsFault, bad_relation, in_table}
use Rattle.noc_requests.proofs.EndingLemmas.{refuses_more}
use Rattle.noc_requests.proofs.FaultLemmas.{if_fault}
use Rattle.noc_requests.proofs.settings.relation_of.Goals as goal

pub returns-in_err-rule-clause-fault : goal.returns-in_err-rule-clause-fault
returns-in_err-rule-clause-fault c =
    let a = lent_files c.args.files.now in
    let p = err_from_is_err_and c.from_residual-in_err-rule.result c.from_residual-in_err-rule.ensures.1 in
    rw (p.1, p.2) (refuses_more (RefusesTable a.table c.in_ok-config.field-0.shape c.in_ok-config.field-0.config.rule) (SettingsFault a) _
    (λ first. in_table c.in_ok-config.ensures.shape first) c.in_err-rule.ensures.fault)

pub returns-in_err-relation-clause-fault : goal.returns-in_err-relation-clause-fault
returns-in_err-relation-clause-fault c =
    let a = lent_files c.args.files.now in
    let l = c.in_ok-config.field-0 in
    let g = routing_of l.shape l.config.channels l.config.classes c.in_ok-rule.rule in
    let p = err_from_is_err_and c.from_residual-in_err-relation.result c.from_residual-in_err-relation.ensures.1 in
    rw (p.1, p.2) (IfErr-at_err (Refuses (SettingsFault a)) c.in_err-relation.was
    (if_fault _ c.build-built.result c.map_err.result (Refuses (SettingsFault a)) c.map_err.ensures.cases (λ e d is names.
    let same : d ≡ fault.Relation e l.shape = search rules in
    rw same (refl, bad_relation c.in_ok-config.ensures.shape c.in_ok-rule.ensures.rule (MatchResult-at_err (IsRelationOfRule g) (IsFaultOf g) e is c.build-built.ensures.exact)))))
