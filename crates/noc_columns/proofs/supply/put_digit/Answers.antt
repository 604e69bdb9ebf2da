use Rattle.std.proofs.Common.{arith}
use Rattle.noc_columns.proofs.BitLemmas.{copied-is}
use Rattle.noc_columns.proofs.supply.put_digit.Goals as goal

pub returns : goal.returns
returns c = λ k r. copied-is c.args.words.now c.args.index c.args.router (omega arith) c.requires.index c.requires.router c.either.result c.args.digit k r c.either.ensures
