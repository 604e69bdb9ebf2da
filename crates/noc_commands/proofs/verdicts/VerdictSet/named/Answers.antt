use Rattle.std.proofs.Common.{arith, rules}
use Rattle.std.proofs.lemmas.Str.Pattern.{split_parts}
use Rattle.noc_commands.proofs.NameLemmas.{all_read, last_none_read, next_read, none_read}
use Rattle.noc_commands.proofs.verdicts.VerdictSet.named.Goals as goal

pub names-preserved : goal.names-preserved
names-preserved c =
    let l = c.names in
    let cut = rw c.in-Some.is at (split_parts 44 l.rest.now c.split_once.result c.split_once.ensures.cases (omega arith)) in
    record {
      read = next_read c.args.text.now l.rest.now l.set l.invariant.read c.in-Some.name.now c.in-Some.more.now cut.0 cut.1 c.in_ok-verdict_named.field-0 c.insert.new.self
          c.in_ok-verdict_named.ensures.some c.insert.ensures;
      utf8 = search rules;
    }

pub returns-in_err-verdict_named-clause-none : goal.returns-in_err-verdict_named-clause-none
returns-in_err-verdict_named-clause-none c =
    let l = c.names in
    let cut = rw c.in-Some.is at (split_parts 44 l.rest.now c.split_once.result c.split_once.ensures.cases (omega arith)) in
    rw c.from_residual.ensures (none_read c.args.text.now l.rest.now l.set l.invariant.read c.in-Some.name.now c.in-Some.more.now cut.0 cut.1 c.in_err-verdict_named.ensures.none)

pub returns-in_err-verdict_named-2-clause-none : goal.returns-in_err-verdict_named-2-clause-none
returns-in_err-verdict_named-2-clause-none c =
    let l = c.names in
    let single = rw c.in_default.is at (split_parts 44 l.rest.now c.split_once.result c.split_once.ensures.cases (omega arith)) in
    rw c.from_residual-in_err-verdict_named-2.ensures (last_none_read c.args.text.now l.rest.now l.set l.invariant.read single c.in_err-verdict_named-2.ensures.none)

pub returns-clause-some : goal.returns-clause-some
returns-clause-some c =
    let l = c.names in
    let single = rw c.in_default.is at (split_parts 44 l.rest.now c.split_once.result c.split_once.ensures.cases (omega arith)) in
    all_read c.args.text.now l.rest.now l.set l.invariant.read single c.in_ok-verdict_named-2.field-0 _ c.in_ok-verdict_named-2.ensures.some c.insert-2.ensures
