use Rattle.std.proofs.Common.{◌≡◌, refl, rules, subst, sym}
use Rattle.std.proofs.lemmas.Result.{IfErr-at_err, IfOk-at_ok, err_from_is_err_and}
use Rattle.noc_files.specs.Configuration.{settings}
use Rattle.noc_faults.specs.declared.fault.Fault.TheVariants as fault
use Rattle.noc_requests.specs.Asked.{lent_files}
use Rattle.noc_requests.specs.Settings.{SettingsFault}
use Rattle.noc_requests.specs.Answer.{TextsFault, in_formula, in_settings, ranks}
use Rattle.noc_requests.specs.Ending.{Refuses, at_fault}
use Rattle.noc_rank.specs.declared.fault.RankFault.TheVariants.{NoGenerated}
use Rattle.noc_rank.specs.Formulas.{IsFaultOfFormula, IsGenerated}
use Rattle.noc_requests.proofs.EndingLemmas.{answered, refuses_more}
use Rattle.noc_requests.proofs.FaultLemmas.{if_fault, value_of}
use Rattle.noc_answers.proofs.formula.answer_ranks.Goals as goal

pub returns-in_err-config : goal.returns-in_err-config
returns-in_err-config g c =
    let a = lent_files c.args.files.now in
    let p = err_from_is_err_and c.from_residual.result c.from_residual.ensures.1 in
    rw (p.1, p.2) (at_fault refl (refuses_more (SettingsFault a) (TextsFault a) _ (λ first. in_settings first) c.in_err-config.ensures.fault))

pub returns-in_default : goal.returns-in_default
returns-in_default g c =
    at_fault refl (refl, rw c.shape-shape.ensures.value (in_formula {f = NoGenerated} c.requires c.in_ok-config.ensures.relation (rw (← c.in_default.ensures) refl)))

pub returns-in_err-ranks : goal.returns-in_err-ranks
returns-in_err-ranks g c =
    let s = settings c.in_ok-config.config in
    let shape = c.shape-shape.result.now in
    let refuses = Refuses (TextsFault (lent_files c.args.files.now)) in
    let p = err_from_is_err_and c.from_residual-in_err-ranks.result c.from_residual-in_err-ranks.ensures.1 in
    rw (p.1, p.2) (at_fault refl (IfErr-at_err refuses c.in_err-ranks.was
    (if_fault _ c.generated-generated.result c.map_err.result refuses c.map_err.ensures.cases (λ e d is names.
    let same : d ≡ fault.Rank e shape = search rules in
    let wrong = IfErr-at_err (IsFaultOfFormula shape s.channels s.classes c.in-Some.rule) is c.generated-generated.ensures.err in
    rw (same, c.shape-shape.ensures.value) (refl, in_formula {f = e} c.requires c.in_ok-config.ensures.relation (rw (← c.in-Some.ensures) (rw c.shape-shape.ensures.value at wrong)))))))

pub returns : goal.returns
returns g c =
    let s = settings c.in_ok-config.config in
    let shape = c.shape-shape.result.now in
    let is = value_of _ c.generated-generated.result c.map_err.result c.in_ok-ranks.ranks c.map_err.ensures.cases c.in_ok-ranks.was in
    let made = IfOk-at_ok (IsGenerated shape s.channels s.classes c.in-Some.rule) is c.generated-generated.ensures.ok in
    let generated = subst (λ g. IsGenerated g s.channels s.classes c.in-Some.rule c.in_ok-ranks.ranks) c.shape-shape.ensures.value made in
    answered g.W.Sink.contents g.W.Sink.has_failed c.args.sink.now c.write_ranks.new.sink (lent_files c.args.files.now) _ _ c.write_ranks.result c.ended.result
    (ranks c.requires c.in_ok-config.ensures.relation (record { routing = c.in-Some.rule; named = sym c.in-Some.ensures; generated = generated })) c.write_ranks.ensures c.ended.ensures
