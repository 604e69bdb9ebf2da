use Rattle.std.proofs.Common.{option_map, ap, refl, subst, sym}
use Rattle.noc_files.specs.Gives.{Gives}
use Rattle.noc_files.specs.Table.{table_of}
use Rattle.noc_requests.specs.Asked.{lent_text, read_by}
use Rattle.noc_requests.specs.Ending.{Refuses}
use Rattle.noc_requests.specs.Settings.{IsRuleOf, RefusesTable, bad_table, named, tabled}
use Rattle.noc_route.proofs.NameLemmas.{only_table}
use Rattle.noc_requests.proofs.FaultLemmas.{if_fault, if_value, made_of, same_fault}
use Rattle.noc_requests.proofs.settings.rule_of.Goals as goal

pub returns-in-Some-default-clause-rule : goal.returns-in-Some-default-clause-rule
returns-in-Some-default-clause-rule c = named (sym c.in-Some-default.ensures)

pub returns-in-None-Some-clause-rule : goal.returns-in-None-Some-clause-rule
returns-in-None-Some-clause-rule c =
    let table = option_map lent_text c.args.table in
    if_value _ c.map.result c.map_err.result (IsRuleOf table c.args.shape.now c.args.name) c.map_err.ensures.cases (λ rule is.
    let m = made_of _ c.route_rows_in.result c.map.result rule c.map.ensures.cases is in
    let said = subst (λ r. Gives (λ v. v.items) r (read_by (table_of c.args.shape.now) (lent_text c.in-None-Some.text))) m.1 c.route_rows_in.ensures in
    rw (m.2, only_table _ (sym c.in-None-Some.ensures)) (tabled (ap (option_map lent_text) c.in-None-Some.is-1) said))

pub returns-in-None-Some-clause-fault : goal.returns-in-None-Some-clause-fault
returns-in-None-Some-clause-fault c =
    let table = option_map lent_text c.args.table in
    if_fault _ c.map.result c.map_err.result (Refuses (RefusesTable table c.args.shape.now c.args.name)) c.map_err.ensures.cases (λ e d is names.
    let same = same_fault _ c.route_rows_in.result c.map.result e c.map.ensures.cases is in
    let unread = subst (λ r. Gives (λ v. v.items) r (read_by (table_of c.args.shape.now) (lent_text c.in-None-Some.text))) same c.route_rows_in.ensures in
    rw (names, only_table _ (sym c.in-None-Some.ensures)) (refl, bad_table (ap (option_map lent_text) c.in-None-Some.is-1) unread))
