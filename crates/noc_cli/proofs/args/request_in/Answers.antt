use Rattle.std.proofs.Common.{inr, refl, rules, subst, sym}
use Rattle.clap.specs.Words.{found_of, kind_of, rows_of}
use Rattle.noc_cli.specs.Args.{IsNoRequest}
use Rattle.noc_cli.proofs.CommandLemmas.{met, none-met}
use Rattle.noc_cli.proofs.args.request_in.Goals as goal

pub returns-in-Ok-clause-said : goal.returns-in-Ok-clause-said
returns-in-Ok-clause-said c = record {
  name = c.in-Some.name.now;
  found = found_of c.in-Some.of.now;
  said = met c.args.matches.now c.in-Some.name.now (rows_of (found_of c.in-Some.of.now)) c.in-Some.ensures.name c.in-Some.ensures.rows;
  command = search rules;
  files = search rules;
}

pub returns-in_default-clause-refused : goal.returns-in_default-clause-refused
returns-in_default-clause-refused c =
    inr (subst (λ m. IsNoRequest m (kind_of c.in_ok-refusal.field-0)) (sym (none-met c.args.matches.now c.in_default.ensures.rows)) c.in_ok-refusal.ensures)

pub returns-in_ok-refusal-in-Err-clause-refused : goal.returns-in_ok-refusal-in-Err-clause-refused
returns-in_ok-refusal-in-Err-clause-refused c =
    let m = met c.args.matches.now c.in-Some.name.now (rows_of (found_of c.in-Some.of.now)) c.in-Some.ensures.name c.in-Some.ensures.rows in
    inr (subst (λ m. IsNoRequest m (kind_of c.in_ok-refusal-in-Err.field-0)) (sym m) (found_of c.in-Some.of.now, refl, c.in-Err.ensures.err, c.in_ok-refusal-in-Err.ensures))
