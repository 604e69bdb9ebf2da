-- What a network is made from, as code has it and as clauses remember it.
use Rattle.noc_theory.specs.Network.{Setup}
use Rattle.noc_engine.specs.declared.origin.Origin.{Origin}
use Rattle.noc_engine.specs.declared.origin.Setup.{Setup as Made}

-- the network that is made from this
abbrev pub setup_by : Made → Setup
setup_by made = record {
  relation = made.relation.now;
  depth = made.depth;
  packets = made.packets.now.items;
}

-- .. and of which this is remembered
abbrev pub net_in : Origin → Setup
net_in origin = record {
  relation = origin.relation.value;
  depth = origin.depth.value;
  packets = origin.packets.value.items;
}
