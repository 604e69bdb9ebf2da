use Rattle.noc_files.proofs.TrafficFaultLemmas.{fault_traffic, traffic_fault}
use Rattle.noc_files.proofs.TrafficLemmas.{is_traffic, traffic_is}
use Rattle.noc_files.proofs.traffic.traffic_is_read_exactly.Goals as goal

pub returns : goal.returns
returns c = record {
  reads = λ text packets. (traffic_is text packets, is_traffic text packets);
  refuses = λ text fault. (traffic_fault text fault, fault_traffic text fault);
}
