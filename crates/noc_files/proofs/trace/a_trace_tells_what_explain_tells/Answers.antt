use Rattle.noc_files.proofs.TraceLemmas.{explained, traced}
use Rattle.noc_files.proofs.trace.a_trace_tells_what_explain_tells.Goals as goal

pub returns-clause-explained : goal.returns-clause-explained
returns-clause-explained c = λ relation findings port vc f found. explained relation findings port vc f found

pub returns-clause-traced : goal.returns-clause-traced
returns-clause-traced c = λ net first n r port vc f found. traced net first n r port vc f found
