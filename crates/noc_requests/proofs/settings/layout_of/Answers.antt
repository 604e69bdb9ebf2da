use Rattle.std.proofs.Common.{◌∙◌, refl, subst, sym}
use Rattle.std.proofs.lemmas.Result.{IfErr-at_err, err_from_is_err_and}
use Rattle.noc_files.specs.Configuration.{config_of, settings}
use Rattle.noc_files.specs.Gives.{Gives}
use Rattle.noc_requests.specs.Asked.{lent_files, read_by}
use Rattle.noc_requests.specs.Ending.{Refuses}
use Rattle.noc_requests.specs.Settings.{AsksForSettings, SettingsFault, bad_config, bad_option, bad_late_option, bad_shape}
use Rattle.noc_requests.proofs.AskedLemmas.{is_some-lent}
use Rattle.noc_requests.proofs.FaultLemmas.{if_fault, value_of}
use Rattle.noc_requests.proofs.settings.layout_of.Goals as goal

pub returns-in_err-config-clause-fault : goal.returns-in_err-config-clause-fault
returns-in_err-config-clause-fault c =
    let a = lent_files c.args.files.now in
    let p = err_from_is_err_and c.from_residual.result c.from_residual.ensures.1 in
    rw (p.1, p.2) (IfErr-at_err (Refuses (SettingsFault a)) c.in_err-config.was
    (if_fault _ c.config_in.result c.map_err.result (Refuses (SettingsFault a)) c.map_err.ensures.cases
    (λ e d is names. rw names (refl, bad_config (subst (λ r. Gives settings r (read_by config_of a.config)) is c.config_in.ensures.value)))))

pub returns-in-Some-clause-fault : goal.returns-in-Some-clause-fault
returns-in-Some-clause-fault c =
    let a = lent_files c.args.files.now in
    let is = value_of _ c.config_in.result c.map_err.result c.in_ok-config.config c.map_err.ensures.cases c.in_ok-config.was in
    let said = subst (λ r. Gives settings r (read_by config_of a.config)) is c.config_in.ensures.value in
    (refl, bad_option said (rw (is_some-lent c.args.files.now.table, ← c.is_some.ensures) (sym c.in-Some.ensures)))

pub returns-in_err-shape-clause-fault : goal.returns-in_err-shape-clause-fault
returns-in_err-shape-clause-fault c =
    let a = lent_files c.args.files.now in
    let is = value_of _ c.config_in.result c.map_err.result c.in_ok-config.config c.map_err.ensures.cases c.in_ok-config.was in
    let said = subst (λ r. Gives settings r (read_by config_of a.config)) is c.config_in.ensures.value in
    let asked : AsksForSettings a (settings c.in_ok-config.config) = record { configuration = said; options = rw (is_some-lent c.args.files.now.table, ← c.is_some.ensures) (sym c.in_default.ensures) } in
    let p = err_from_is_err_and c.from_residual-in_err-shape.result c.from_residual-in_err-shape.ensures.1 in
    rw (p.1, p.2) (IfErr-at_err (Refuses (SettingsFault a)) c.in_err-shape.was
    (if_fault _ c.new.result c.map_err-2.result (Refuses (SettingsFault a)) c.map_err-2.ensures.cases
    (λ e d is names. rw names (refl, bad_shape {f = e} asked (rw (← c.as_slice.ensures.value) (sym c.new.ensures.value ∙ is))))))

pub returns-in-Some-late_fault-clause-fault : goal.returns-in-Some-late_fault-clause-fault
returns-in-Some-late_fault-clause-fault c =
    let a = lent_files c.args.files.now in
    let is = value_of _ c.config_in.result c.map_err.result c.in_ok-config.config c.map_err.ensures.cases c.in_ok-config.was in
    let said = subst (λ r. Gives settings r (read_by config_of a.config)) is c.config_in.ensures.value in
    let made = value_of _ c.new.result c.map_err-2.result c.in_ok-shape.shape c.map_err-2.ensures.cases c.in_ok-shape.was in
    let asked : AsksForSettings a (settings c.in_ok-config.config) = record { configuration = said; options = rw (is_some-lent c.args.files.now.table, ← c.is_some.ensures) (sym c.in_default.ensures) } in
    (refl, bad_late_option asked (rw (← c.as_slice.ensures.value) (sym c.new.ensures.value ∙ made)) (sym c.in-Some-late_fault.ensures))
