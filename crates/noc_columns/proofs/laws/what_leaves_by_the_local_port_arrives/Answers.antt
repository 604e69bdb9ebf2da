use Rattle.noc_columns.proofs.WalkLemmas.{arrived-is}
use Rattle.noc_columns.proofs.laws.what_leaves_by_the_local_port_arrives.Goals as goal

pub returns : goal.returns
returns c = λ n r local to_local arrived moved last port is shows. arrived-is n r local arrived moved last port to_local is shows
