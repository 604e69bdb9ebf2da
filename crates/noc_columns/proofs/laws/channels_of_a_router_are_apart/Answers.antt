use Rattle.noc_columns.proofs.ChannelLemmas.{channels-apart}
use Rattle.noc_columns.proofs.laws.channels_of_a_router_are_apart.Goals as goal

pub returns : goal.returns
returns c = λ ports. channels-apart ports
