use Rattle.noc_files.proofs.TraceLemmas.{is_itself, same_is}
use Rattle.noc_files.proofs.trace.a_line_is_left_out_where_the_same_is_told.Goals as goal

pub returns-clause-same : goal.returns-clause-same
returns-clause-same c = λ f h e. same_is f h e

pub returns-clause-itself : goal.returns-clause-itself
returns-clause-itself c = λ f. is_itself f
