-- The number and the name of a fault of packets or of a run (docs/FORMATS.md, "Fault lines").
use Rattle.std.specs.Prelude.{ℕ, List, codes}
use Rattle.noc_net.specs.declared.net_fault.NetFault.{NetFault}
use Rattle.noc_net.specs.declared.net_fault.NetFault.TheVariants as net
use Rattle.noc_net.specs.declared.workers.RunFault.{RunFault}
use Rattle.noc_net.specs.declared.workers.RunFault.TheVariants as run

abbrev pub net_title : NetFault → List ℕ
net_title (net.SelfPacket row) = codes "1 SelfPacket"
net_title (net.BadNode row) = codes "2 BadNode"
net_title (net.BadClass row) = codes "3 BadClass"
net_title (net.BadLength row) = codes "4 BadLength"
net_title net.TooMany = codes "5 TooMany"
net_title net.Memory = codes "6 Memory"
net_title (net.BadDue row) = codes "7 BadDue"

abbrev pub run_title : RunFault → List ℕ
run_title run.Memory = codes "1 Memory"
run_title run.NoWorker = codes "2 NoWorker"
run_title run.LostWorker = codes "3 LostWorker"
