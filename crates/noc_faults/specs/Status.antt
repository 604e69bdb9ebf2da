-- The exit statuses (docs/FORMATS.md, "Exit statuses").
use Rattle.std.specs.Prelude.{ℕ, Bool, true, false, if◌then◌else◌}
use Rattle.noc_bytes.specs.declared.input_fault.InputFault.TheVariants as input
use Rattle.noc_net.specs.declared.net_fault.NetFault.TheVariants as net
use Rattle.noc_rank.specs.declared.fault.RankFault.TheVariants as rank
use Rattle.noc_route.specs.declared.rule.RouteFault.TheVariants as route
use Rattle.noc_net.specs.declared.workers.RunFault.TheVariants as run
use Rattle.noc_faults.specs.declared.status.Status.{Status}
use Rattle.noc_faults.specs.declared.status.Status.TheVariants.{Done, Stuck}
use Rattle.noc_faults.specs.declared.fault.Fault.{Fault}
use Rattle.noc_faults.specs.declared.fault.Fault.TheVariants as fault

-- how a request that was answered has ended
abbrev pub status_code : Status → ℕ
status_code Done = 0
status_code Stuck = 5

-- memory was refused
abbrev pub is_memory : Fault → Bool
is_memory (fault.Joined input.Memory) = true
is_memory (fault.Config input.Memory) = true
is_memory (fault.Table input.Memory) = true
is_memory (fault.RankFile input.Memory) = true
is_memory (fault.Traffic input.Memory) = true
is_memory (fault.Relation route.Memory shape) = true
is_memory (fault.Rank rank.Memory shape) = true
is_memory (fault.Network net.Memory) = true
is_memory (fault.Run run.Memory) = true
is_memory _ = false

-- the status of each family where memory was not refused
abbrev pub family_status : Fault → ℕ
family_status (fault.Relation f shape) = 4
family_status (fault.Rank f shape) = 4
family_status (fault.Run f) = 6
family_status (fault.Write f) = 7
family_status _ = 3

-- the exit status of a fault
abbrev pub status_of_fault : Fault → ℕ
status_of_fault f = if is_memory f then 6 else family_status f
