use Rattle.noc_files.proofs.TrafficLemmas.{traffic_back}
use Rattle.noc_files.proofs.traffic.written_traffic_is_read_back.Goals as goal

pub returns : goal.returns
returns c packets h = traffic_back packets h
