-- The verdict of an input channel, by the sets of those that have each verdict.
use Rattle.std.specs.Prelude.{◌≡◌, ℕ, ◌+◌, IsTrue, if◌then◌else◌}
use Rattle.noc_packet.specs.Set.{has_bit}
use Rattle.noc_topo.specs.Lists.{one_if}
use Rattle.noc_view.specs.declared.verdict.Verdict.{Verdict}
use Rattle.noc_view.specs.declared.verdict.Verdict.TheVariants.{Empty, Routed, Granted, Moved, NoFlit, NoIdleChannel, LostChannel, NoCredit, LostInput, LostSwitch}

-- for each verdict but Empty the input channels that have it
pub record VerdictSets : Type 0 where
  pub routed : ℕ
  pub granted : ℕ
  pub moved : ℕ
  pub no_flit : ℕ
  pub no_idle_channel : ℕ
  pub lost_channel : ℕ
  pub no_credit : ℕ
  pub lost_input : ℕ
  pub lost_switch : ℕ

-- the first verdict in whose set channel i is
abbrev pub verdict_by : VerdictSets → ℕ → Verdict
verdict_by sets i =
    if has_bit sets.moved i then Moved
    else if has_bit sets.granted i then Granted
    else if has_bit sets.routed i then Routed
    else if has_bit sets.no_flit i then NoFlit
    else if has_bit sets.no_idle_channel i then NoIdleChannel
    else if has_bit sets.lost_channel i then LostChannel
    else if has_bit sets.no_credit i then NoCredit
    else if has_bit sets.lost_input i then LostInput
    else if has_bit sets.lost_switch i then LostSwitch
    else Empty

-- in how many of the sets channel i is
abbrev pub sets_with : VerdictSets → ℕ → ℕ
sets_with sets i =
    one_if (has_bit sets.moved i) + one_if (has_bit sets.granted i) + one_if (has_bit sets.routed i)
    + one_if (has_bit sets.no_flit i) + one_if (has_bit sets.no_idle_channel i)
    + one_if (has_bit sets.lost_channel i) + one_if (has_bit sets.no_credit i)
    + one_if (has_bit sets.lost_input i) + one_if (has_bit sets.lost_switch i)

-- channel i has the verdict in whose set it is, and Empty where it is in none of them
abbrev pub HasVerdict : VerdictSets → ℕ → Verdict → Type 0
HasVerdict sets i Empty = sets_with sets i ≡ 0
HasVerdict sets i Routed = IsTrue (has_bit sets.routed i)
HasVerdict sets i Granted = IsTrue (has_bit sets.granted i)
HasVerdict sets i Moved = IsTrue (has_bit sets.moved i)
HasVerdict sets i NoFlit = IsTrue (has_bit sets.no_flit i)
HasVerdict sets i NoIdleChannel = IsTrue (has_bit sets.no_idle_channel i)
HasVerdict sets i LostChannel = IsTrue (has_bit sets.lost_channel i)
HasVerdict sets i NoCredit = IsTrue (has_bit sets.no_credit i)
HasVerdict sets i LostInput = IsTrue (has_bit sets.lost_input i)
HasVerdict sets i LostSwitch = IsTrue (has_bit sets.lost_switch i)
