-- What a router's input and output channels hold, whom they belong to, and where they send.
use Rattle.std.specs.Prelude.{ℕ, Bool, false, List, nat_eq, slice_index_or, ◌/◌, Option, Some, None}
use Rattle.noc_vc.specs.Output.{Output, ejection_output, has_credit}
use Rattle.noc_vc.specs.declared.input.InputState.{InputState}
use Rattle.noc_vc.specs.declared.input.InputState.TheVariants.{Idle, Waiting, Active}
use Rattle.noc_vc.specs.declared.output.OutputState.{OutputState}
use Rattle.noc_vc.specs.declared.output.OutputState.TheVariants.{Idle as Free, Owned, Draining}
use Rattle.noc_alloc.specs.Allocation.{is_won_by}
use Rattle.noc_view.specs.Verdict.{Round}
use Rattle.noc_view.specs.View.{View}

-- whether the packet of an input channel in this state owns output channel o
abbrev pub owns : InputState → ℕ → Bool
owns Idle o = false
owns (Waiting set) o = false
owns (Active output) o = nat_eq output o

-- whether an output channel in this state is owned from input channel i
abbrev pub is_owned_from : OutputState → ℕ → Bool
is_owned_from Free i = false
is_owned_from (Owned input packet) i = nat_eq input i
is_owned_from Draining i = false

-- whether the packet of an input channel in this state owns an output channel that has a credit
abbrev pub is_supplied : List Output → InputState → Bool
is_supplied outputs Idle = false
is_supplied outputs (Waiting set) = false
is_supplied outputs (Active output) = has_credit (slice_index_or outputs output ejection_output)

-- the output port to which a channel in this state sends
abbrev pub way_in : ℕ → InputState → Option ℕ
way_in vcs Idle = None
way_in vcs (Waiting set) = None
way_in vcs (Active o) = Some (o / vcs)

-- whether the input port of a channel in this state won the output port to which the channel sends
abbrev pub is_won_from : View → Round → ℕ → InputState → Bool
is_won_from v round i phase = is_won_by round.wins (i / v.site.vcs) (way_in v.site.vcs phase)
