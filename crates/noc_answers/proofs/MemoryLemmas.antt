-- What it means that a fault is not that of memory.
use Rattle.std.proofs.Common.{◌≡◌, ◌≢◌, false, ap}
use Rattle.noc_bytes.specs.declared.input_fault.InputFault.{InputFault}
use Rattle.noc_bytes.specs.declared.input_fault.InputFault.TheVariants as input
use Rattle.noc_net.specs.declared.net_fault.NetFault.{NetFault}
use Rattle.noc_net.specs.declared.net_fault.NetFault.TheVariants as net
use Rattle.noc_faults.specs.Status.{is_memory}
use Rattle.noc_faults.specs.declared.fault.Fault.TheVariants as fault

pub config_not_memory : (f : InputFault) → is_memory (fault.Config f) ≡ false → f ≢ input.Memory
config_not_memory f h e = let r = ap (λ x. is_memory (fault.Config x)) e in cc

pub table_not_memory : (f : InputFault) → is_memory (fault.Table f) ≡ false → f ≢ input.Memory
table_not_memory f h e = let r = ap (λ x. is_memory (fault.Table x)) e in cc

pub ranks_not_memory : (f : InputFault) → is_memory (fault.RankFile f) ≡ false → f ≢ input.Memory
ranks_not_memory f h e = let r = ap (λ x. is_memory (fault.RankFile x)) e in cc

pub traffic_not_memory : (f : InputFault) → is_memory (fault.Traffic f) ≡ false → f ≢ input.Memory
traffic_not_memory f h e = let r = ap (λ x. is_memory (fault.Traffic x)) e in cc

pub network_not_memory : (f : NetFault) → is_memory (fault.Network f) ≡ false → f ≢ net.Memory
network_not_memory f h e = let r = ap (λ x. is_memory (fault.Network x)) e in cc
