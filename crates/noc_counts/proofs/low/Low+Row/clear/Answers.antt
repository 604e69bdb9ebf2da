use Rattle.std.proofs.Common.{arith}
use Rattle.std.proofs.lemmas.List.{get_or-replicate}
use Rattle.noc_counts.proofs.LowLemmas.{none-in}
use Rattle.noc_counts.proofs.low.Low+Row.clear.Goals as goal

pub returns : goal.returns
returns c = λ j r few. omega (arith, none-in _ r (get_or-replicate 32 j 0 0 few))
