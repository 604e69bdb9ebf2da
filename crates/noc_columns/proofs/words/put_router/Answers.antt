use Rattle.std.proofs.Common.{arith}
use Rattle.noc_columns.proofs.BitLemmas.{put-is}
use Rattle.noc_columns.proofs.words.put_router.Goals as goal

pub returns : goal.returns
returns c = λ k r. put-is c.args.words.now c.args.index c.args.router (omega arith) c.requires.index c.requires.router k r
