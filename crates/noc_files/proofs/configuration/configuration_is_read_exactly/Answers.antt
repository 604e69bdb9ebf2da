use Rattle.noc_files.proofs.ConfigurationFaultLemmas.{configuration_fault, fault_configuration}
use Rattle.noc_files.proofs.ConfigurationLemmas.{configuration_is, is_configuration}
use Rattle.noc_files.proofs.configuration.configuration_is_read_exactly.Goals as goal

pub returns : goal.returns
returns c = record {
  reads = λ text s. (configuration_is text s, is_configuration text s);
  refuses = λ text fault. (configuration_fault text fault, fault_configuration text fault);
}
