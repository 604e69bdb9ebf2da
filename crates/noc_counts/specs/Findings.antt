-- What is found of an input channel in a cycle: its packet and its output channel follow from its
-- verdict.
use Rattle.std.specs.Prelude.{◌≡◌, ℕ, ◌+◌, ◌*◌, ◌/◌, ◌%◌, ◌^◌, true, false, Option, Some, None, option_map, if◌then◌else◌}
use Rattle.noc_packet.specs.Set.{has_bit}
use Rattle.noc_alloc.specs.Members.{MembersAreBelow}
use Rattle.noc_view.specs.VerdictSets.{verdict_by}
use Rattle.noc_view.specs.declared.finding.Finding.{Finding}
use Rattle.noc_view.specs.declared.verdict.Verdict.{Verdict}
use Rattle.noc_view.specs.declared.verdict.Verdict.TheVariants.{Empty, Routed, Granted, Moved, NoFlit, NoIdleChannel, LostChannel, NoCredit, LostInput, LostSwitch}
use Rattle.noc_sets.specs.Counts.{ByVerdict, verdict_sets}
use Rattle.noc_sets.specs.Cycle.{Still}
use Rattle.noc_sets.specs.Found.{found_in}
use Rattle.noc_sets.specs.Grants.{asked_of}
use Rattle.noc_sets.specs.Unions.{union_from}
use Rattle.noc_cycles.specs.Held.{Held}
use Rattle.noc_cycles.specs.declared.pattern.Pattern.{Pattern}

-- the packet that holds the channel, if it is not empty
abbrev pub packet_by : Verdict → ℕ → Option ℕ
packet_by Empty packet = None
packet_by verdict packet = Some packet

-- the output channel: what a channel that waits asks for, and what an active one owns
abbrev pub out_by : Verdict → Option (ℕ × ℕ) → ℕ × ℕ → Option (ℕ × ℕ)
out_by Empty asked owned = None
out_by Routed asked owned = None
out_by Granted asked owned = asked
out_by NoIdleChannel asked owned = asked
out_by LostChannel asked owned = asked
out_by Moved asked owned = Some owned
out_by NoFlit asked owned = Some owned
out_by NoCredit asked owned = Some owned
out_by LostInput asked owned = Some owned
out_by LostSwitch asked owned = Some owned

-- all of channel i, where these were the sets of verdicts, the router holds h after the cycle, and
-- these output channels were granted in it
abbrev pub finding_of : ℕ → ByVerdict → ℕ → Held → ℕ → Finding
finding_of vcs told outs h i =
    let verdict = verdict_by (verdict_sets told) i in
    record {
      verdict = verdict;
      packet = packet_by verdict (h.packet i);
      out = out_by verdict (option_map (λ o. (o / vcs, o % vcs)) (asked_of outs (h.set i)))
          (h.out_port i, h.out_vc i);
    }

-- the output channels that were granted in the cycle: those by which these input channels send, of
-- so many
abbrev pub outs_of : ℕ → ℕ → ℕ → Held → ℕ
outs_of size vcs granted h =
    union_from 0 size (λ k. if has_bit granted k then 2 ^ (h.out_port k * vcs + h.out_vc k) else 0)

-- ---- what is found by the words of a router before the cycle takes effect
-- of a router with so many channels no active one waits, and all that waiting ones may take is
-- wanted
pub record WantsAll (size : ℕ) (a : Held) : Type 0 where
  pub apart : (i : ℕ) → has_bit a.inputs.active i ≡ true → has_bit a.waiting i ≡ false
  pub waiting_below : MembersAreBelow size a.waiting
  pub idle_below : MembersAreBelow size a.idle
  pub wanted : (i o : ℕ) → has_bit a.waiting i ≡ true → has_bit (a.set i) o ≡ true
      → has_bit a.wanted o ≡ true

-- the same is found of each channel by its verdicts, and by the input channels that were granted
-- an output channel
abbrev pub FindsAll : Pattern → ByVerdict → ℕ → Still → Held → Type 0
FindsAll pattern told granted s n =
    let vcs = pattern.table.ports.links.vcs in
    let size = (pattern.table.ports.links.width + 1) * vcs in
    (i : ℕ)
    → finding_of vcs told (outs_of size vcs granted n) n i
    ≡ found_in vcs told s.filled s.column s.marks i
