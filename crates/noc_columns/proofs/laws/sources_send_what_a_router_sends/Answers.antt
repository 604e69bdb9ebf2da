use Rattle.noc_columns.proofs.SourceLemmas.{sends-and-begins}
use Rattle.noc_columns.proofs.laws.sources_send_what_a_router_sends.Goals as goal

pub returns : goal.returns
returns c = λ starts injected begins s fits one. sends-and-begins starts injected begins s fits one
