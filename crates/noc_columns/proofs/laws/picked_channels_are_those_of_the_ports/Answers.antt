use Rattle.noc_columns.proofs.ShownLemmas.{shown-picks}
use Rattle.noc_columns.proofs.laws.picked_channels_are_those_of_the_ports.Goals as goal

pub returns : goal.returns
returns c = λ ports r ready ahead picked past last sends picks m have shows. shown-picks ports r ready ahead picked past last sends picks m have.first have.has have.any shows
