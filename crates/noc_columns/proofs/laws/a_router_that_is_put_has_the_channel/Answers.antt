use Rattle.noc_columns.proofs.BitLemmas.{put-set}
use Rattle.noc_columns.proofs.laws.a_router_that_is_put_has_the_channel.Goals as goal

pub returns : goal.returns
returns c = λ n words new k router r apart few is. put-set n words new k router apart few r is
