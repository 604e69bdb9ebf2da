-- The names of the verdicts.
use Rattle.std.specs.Prelude.{ℕ, List, codes}
use Rattle.noc_view.specs.declared.verdict.Verdict.{Verdict}
use Rattle.noc_view.specs.declared.verdict.Verdict.TheVariants.{Empty, Routed, Granted, Moved, NoFlit, NoIdleChannel, LostChannel, NoCredit, LostInput, LostSwitch}

-- as findings and traces write it
abbrev pub verdict_name : Verdict → List ℕ
verdict_name Empty = codes "Empty"
verdict_name Routed = codes "Routed"
verdict_name Granted = codes "Granted"
verdict_name Moved = codes "Moved"
verdict_name NoFlit = codes "NoFlit"
verdict_name NoIdleChannel = codes "NoIdleChannel"
verdict_name LostChannel = codes "LostChannel"
verdict_name NoCredit = codes "NoCredit"
verdict_name LostInput = codes "LostInput"
verdict_name LostSwitch = codes "LostSwitch"

-- the name of its column in the stall report
abbrev pub column_name : Verdict → List ℕ
column_name Empty = codes "empty"
column_name Routed = codes "routed"
column_name Granted = codes "granted"
column_name Moved = codes "moved"
column_name NoFlit = codes "no_flit"
column_name NoIdleChannel = codes "no_idle_channel"
column_name LostChannel = codes "lost_channel"
column_name NoCredit = codes "no_credit"
column_name LostInput = codes "lost_input"
column_name LostSwitch = codes "lost_switch"
