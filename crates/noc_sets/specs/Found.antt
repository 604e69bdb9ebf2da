-- What is found of an input channel in a cycle, that is its verdict, packet and output channel, by
-- the words of its router before the verdicts take effect.
use Rattle.std.specs.Prelude.{ℕ, ◌/◌, ◌%◌, Option, Some, None, option_map, bit_or, if◌then◌else◌}
use Rattle.noc_packet.specs.Set.{has_bit}
use Rattle.noc_view.specs.VerdictSets.{verdict_by}
use Rattle.noc_view.specs.declared.finding.Finding.{Finding}
use Rattle.noc_sets.specs.Column.{Column, RouterMarks}
use Rattle.noc_sets.specs.Counts.{ByVerdict, verdict_sets}
use Rattle.noc_sets.specs.Grants.{asked_of}
use Rattle.noc_sets.specs.Sets.{least}

-- the output channel that its packet asks for, or owns
abbrev pub out_in : Column → RouterMarks → ℕ → Option ℕ
out_in c m i =
    if has_bit c.waiting i then asked_of c.idle (m.set i)
    else if has_bit c.active i then Some (least (m.taken i))
    else None

-- its packet: that which holds it, where it waits, is active or has a flit
abbrev pub packet_in : ℕ → Column → RouterMarks → ℕ → Option ℕ
packet_in filled c m i =
    if has_bit (bit_or (bit_or c.waiting c.active) filled) i then Some (m.packet i) else None

-- all of it, where these are the sets of verdicts; the output channel by port and virtual channel
abbrev pub found_in : ℕ → ByVerdict → ℕ → Column → RouterMarks → ℕ → Finding
found_in vcs sets filled c m i = record {
  verdict = verdict_by (verdict_sets sets) i;
  packet = packet_in filled c m i;
  out = option_map (λ o. (o / vcs, o % vcs)) (out_in c m i);
}
