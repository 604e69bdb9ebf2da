use Rattle.std.proofs.Common.{arith}
use Rattle.noc_columns.proofs.NearLemmas.{turned-is}
use Rattle.noc_columns.proofs.over_links.turned.Goals as goal

pub returns : goal.returns
returns c = λ r few. turned-is c.args.word c.args.distance r (omega arith) c.requires.near few c.args.back c.args.mask c.requires.back
