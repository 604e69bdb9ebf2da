use Rattle.noc_columns.proofs.AllocatedLemmas.{shows-owned}
use Rattle.noc_columns.proofs.laws.allotments_show_who_owns_a_channel.Goals as goal

pub returns : goal.returns
returns c = λ ports vcs active a b m some few waits idles clear apart owned has shows. shows-owned ports vcs active a b m some few waits idles clear apart owned has shows
