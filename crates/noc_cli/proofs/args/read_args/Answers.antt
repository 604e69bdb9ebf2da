use Rattle.std.proofs.Common.{◌∙◌, ap, inl, inr, map, string_bytes, subst}
use Rattle.std.proofs.lemmas.Result.{IfErr-weaker, IfOk-weaker, err_from_is_err_and}
use Rattle.clap.specs.Words.{App, is_simple, is_simple_and_free, kind_of, subcommand_of}
use Rattle.noc_cli.specs.Args.{IsNoRequest, IsRequestIn}
use Rattle.noc_cli.proofs.CommandLemmas.{has_workers, line_is_free, line_is_simple, refused-by, refused-in}
use Rattle.noc_cli.proofs.args.read_args.Goals as goal

pub returns-in_err-matches-clause-refused : goal.returns-in_err-matches-clause-refused
returns-in_err-matches-clause-refused c =
    let line = c.in_ok-program.ensures in
    let p = err_from_is_err_and c.from_residual-in_err-matches.result c.from_residual-in_err-matches.ensures.1 in
    let kinds = c.in_err-matches.ensures.kinds (ap is_simple_and_free line.2 ∙ line_is_free line.0) in
    rw (p.1, p.2) (refused-by line.0 line.1 _ line.2 (map string_bytes c.args.args.now) c.in_err-matches.field-0.0 kinds)

pub returns-clause-workers : goal.returns-clause-workers
returns-clause-workers c =
    IfOk-weaker c.request_in.result _ _ (λ args said. has_workers said.found said.name args.command said.command) c.request_in.ensures.said

pub returns-clause-said : goal.returns-clause-said
returns-clause-said c =
    let line = c.in_ok-program.ensures in
    let texts = map string_bytes c.args.args.now in
    let exact = c.in_ok-matches.ensures.matches (ap is_simple line.2 ∙ line_is_simple line.0) in
    let same = exact.1 ∙ ap (λ (a : App). subcommand_of a texts) line.2 in
    IfOk-weaker c.request_in.result _ _ (λ args said. (line.0, line.1, subst (λ met. IsRequestIn met args) same said)) c.request_in.ensures.said

pub returns-clause-refused : goal.returns-clause-refused
returns-clause-refused c =
    let line = c.in_ok-program.ensures in
    let texts = map string_bytes c.args.args.now in
    let exact = c.in_ok-matches.ensures.matches (ap is_simple line.2 ∙ line_is_simple line.0) in
    let same = exact.1 ∙ ap (λ (a : App). subcommand_of a texts) line.2 in
    IfErr-weaker c.request_in.result _ _ (λ error refused. refused-in line.0 line.1 texts error (elim refused [
      | inl memory ↦ inl memory
      | inr none ↦ inr (subst (λ met. IsNoRequest met (kind_of error)) same none)
    ])) c.request_in.ensures.refused
