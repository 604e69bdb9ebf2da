-- The trace: what was found of each input channel in each cycle of a span.
use Rattle.std.specs.Prelude.{◌≡◌, ℕ, ◌+◌, ◌-◌, ◌*◌, ◌/◌, ◌%◌, ◌==◌, ◌<◌, ◌≤◌, Bool, true, false, ◌&&◌, ◌||◌, not, List, [], ◌∷◌, ◌++◌, codes, count_by, decimal, nat_eq, Option, Some, None, option_and_then, option_map, length, replicate, slice_get, unwrap_or, nat_lt, if◌then◌else◌}
use Rattle.std.specs.List.{flat_map, list_any}
use Rattle.noc_topo.specs.Shape.{Grid, nodes, ports}
use Rattle.noc_topo.specs.Lists.{below, is_some_of, tabulate}
use Rattle.noc_packet.specs.Set.{has_bit}
use Rattle.noc_packet.specs.declared.packet.Packet.{Packet}
use Rattle.noc_route.specs.Routes.{Routes, set_at}
use Rattle.noc_view.specs.Found.{empty_finding}
use Rattle.noc_view.specs.Verdict.{column}
use Rattle.noc_view.specs.declared.finding.Finding.{Finding}
use Rattle.noc_view.specs.declared.verdict.TheConstants.{VERDICTS}
use Rattle.noc_view.specs.declared.verdict.Verdict.{Verdict}
use Rattle.noc_view.specs.declared.verdict.Verdict.TheVariants.{Empty, Granted, LostChannel, NoIdleChannel}
use Rattle.noc_theory.specs.Network.{Run, Setup, size}
use Rattle.noc_theory.specs.Lockstep.{findings_before, findings_in_cycle}
use Rattle.noc_files.specs.Channels.{lines_listed}
use Rattle.noc_files.specs.Findings.{out_name, verdict_text}
use Rattle.noc_files.specs.Ports.{name_of_port}
use Rattle.noc_files.specs.Writing.{comma, text_of_pieces, line_end}
use Rattle.noc_files.specs.declared.trace.Traced.{Traced}
use Rattle.noc_commands.specs.Verdicts.{is_member}
use Rattle.noc_commands.specs.declared.verdicts.VerdictSet.{VerdictSet}

unfoldable pub trace_header : List ℕ
trace_header = codes "cycle,router,port,vc,verdict,packet,out,permitted\n"

-- ---- what is told of a channel

abbrev pub finds_empty : Verdict → Bool
finds_empty Empty = true
finds_empty _ = false

-- whether a channel with this packet is one of those that are traced: any, or
-- those that hold one packet
abbrev pub is_traced : Option ℕ → Option ℕ → Bool
is_traced None held = true
is_traced (Some packet) held = is_some_of held packet

-- what a trace tells of a channel: what was found of it, and nothing where it is Empty or not one
-- of those that are traced
abbrev pub traced_finding : Option ℕ → Finding → Option Finding
traced_finding packet f =
    if finds_empty f.verdict || not (is_traced packet f.packet) then None else Some f

-- what a trace tells in cycle n of the input channel with index i of router r
abbrev pub told_at : Setup → Traced → ℕ → ℕ → ℕ → Option Finding
told_at net traced n r i =
    option_and_then (traced_finding traced.packet) (slice_get (findings_in_cycle net n r) i)

-- what was told of it in the cycle before, in a trace of changes that begins with cycle `first`
abbrev pub told_before : Setup → Traced → ℕ → ℕ → ℕ → ℕ → Option Finding
told_before net traced first n r i =
    if traced.changes && nat_lt first n then told_at net traced (n - 1) r i else None

-- ---- whether the same is told

abbrev pub is_same_number : Option ℕ → Option ℕ → Bool
is_same_number None None = true
is_same_number (Some a) (Some b) = a == b
is_same_number _ _ = false

abbrev pub is_same_channel : Option (ℕ × ℕ) → Option (ℕ × ℕ) → Bool
is_same_channel None None = true
is_same_channel (Some a) (Some b) = a.0 == b.0 && a.1 == b.1
is_same_channel _ _ = false

abbrev pub is_same : Option Finding → Option Finding → Bool
is_same None None = true
is_same (Some f) (Some h) =
    column f.verdict == column h.verdict && is_same_number f.packet h.packet
    && is_same_channel f.out h.out
is_same _ _ = false

-- ---- the line of a channel

-- whether a packet of this verdict asked for an output channel, or found none to ask for
abbrev pub is_asking : Verdict → Bool
is_asking Granted = true
is_asking NoIdleChannel = true
is_asking LostChannel = true
is_asking _ = false

-- the output channels that the relation permits to a packet of an input channel
abbrev pub set_for : Routes → ℕ → ℕ → ℕ → Packet → ℕ
set_for relation r port vc p = set_at relation p.class r port vc p.destination

-- the output channels that the relation permits to the packet of a finding, where it asks
abbrev pub permitted_to : Setup → ℕ → ℕ → ℕ → Finding → Option ℕ
permitted_to net r port vc f =
    if is_asking f.verdict
    then option_map (set_for net.relation r port vc)
    (option_and_then (slice_get net.packets) f.packet) else None

-- whether a set has a member below k
abbrev pub has_below : ℕ → ℕ → Bool
has_below set k = list_any (has_bit set) (below k)

-- output channel k where it is a member of the set, with a space before it unless it is the first
abbrev pub member_text : Grid → ℕ → ℕ → ℕ → List ℕ
member_text g vcs set k =
    if has_bit set k
    then text_of_pieces ((if has_below set k then codes " " else []) ∷ name_of_port g (k / vcs)
    ∷ codes "." ∷ decimal (k % vcs) ∷ [])
    else []

-- the output channels of a set, by rising index, with a space between
abbrev pub set_text : Routes → ℕ → List ℕ
set_text relation set =
    flat_map (member_text relation.grid relation.vcs set)
    (below (ports relation.grid * relation.vcs))

-- the output channels of a set, or a dash where there is no set; and the end of the line
abbrev pub permitted_text : Routes → Option ℕ → List ℕ
permitted_text relation None = text_of_pieces (codes "-" ∷ line_end ∷ [])
permitted_text relation (Some set) = set_text relation set ++ line_end

-- the output channel of a finding, and what was permitted
abbrev pub way_text : Setup → ℕ → ℕ → ℕ → Finding → List ℕ
way_text net r port vc f =
    out_name net.relation.grid f.out ++ comma
    ++ permitted_text net.relation (permitted_to net r port vc f)

-- what is told of an input channel
abbrev pub told_text : Setup → ℕ → ℕ → ℕ → Finding → List ℕ
told_text net r port vc f = verdict_text net.relation.grid port vc f ++ way_text net r port vc f

-- the cycle and the router of a line
abbrev pub when_text : ℕ → ℕ → List ℕ
when_text n r = text_of_pieces (decimal n ∷ comma ∷ decimal r ∷ comma ∷ [])

-- the line of an input channel in cycle n
abbrev pub trace_line : Setup → ℕ → ℕ → ℕ → ℕ → Finding → List ℕ
trace_line net n r port vc f = when_text n r ++ told_text net r port vc f

-- whether lines with a verdict are written: all are, or those with the verdicts of a set
abbrev pub is_wanted : Option VerdictSet → Verdict → Bool
is_wanted None verdict = true
is_wanted (Some set) verdict = is_member set verdict

-- the line of an input channel in cycle n, if lines with its verdict are written
abbrev pub line_if_wanted : Setup → Option VerdictSet → ℕ → ℕ → ℕ → ℕ → Finding → List ℕ
line_if_wanted net verdicts n r port vc f =
    if is_wanted verdicts f.verdict then trace_line net n r port vc f else []

-- the same, if another thing is told of the channel than before
abbrev pub line_if_new : Setup → Option VerdictSet → ℕ → ℕ → ℕ → ℕ → Option Finding → Option Finding
    → List ℕ
line_if_new net verdicts n r port vc before now =
    if is_same before now then []
    else line_if_wanted net verdicts n r port vc (unwrap_or now empty_finding)

-- ---- the trace of a span

-- what is said of the channels of one router or of all
abbrev pub over_traced : Routes → Option ℕ → (ℕ → ℕ → ℕ → List ℕ) → List ℕ
over_traced relation router said =
    lines_listed relation.grid (ports relation.grid) relation.vcs router said

-- the line of an input channel in cycle n of a trace that begins with cycle `first`, if it has one
abbrev pub traced_line : Setup → Traced → ℕ → ℕ → ℕ → ℕ → ℕ → List ℕ
traced_line net traced first n r port vc =
    line_if_new net traced.verdicts n r port vc
    (told_before net traced first n r (port * net.relation.vcs + vc))
    (told_at net traced n r (port * net.relation.vcs + vc))

-- the lines of cycle n
abbrev pub cycle_text : Setup → Traced → ℕ → ℕ → List ℕ
cycle_text net traced first n =
    over_traced net.relation traced.router (traced_line net traced first n)

-- the trace of a run from cycle `first` to its last one: the header, and the lines of each cycle
abbrev pub trace_text : Run → ℕ → Traced → List ℕ
trace_text u first traced =
    trace_header
    ++ flat_map (λ k. cycle_text u.net traced first (first + k)) (below (u.count - first))

-- a trace that began with a run was cut off after so many bytes in the run after it: that of the
-- fewest cycles more whose trace has more bytes
pub record IsCutOff (before : Run) (traced : Traced) (written : ℕ) (after : Run) : Type 0 where
  pub cycles : ℕ
  pub run : after ≡ record before { count = before.count + cycles }
  pub longer : written < length (trace_text after before.count traced)
  pub fewest : (k : ℕ) → k < cycles
      → length (trace_text (record before { count = before.count + k }) before.count traced)
      ≤ written

-- ---- what is kept of the cycle before

-- nothing was found of any channel; only a trace of changes keeps it
abbrev pub nothing_found : Setup → Bool → List (List Finding)
nothing_found net changes =
    if changes then replicate (nodes net.relation.grid) (replicate (size net) empty_finding) else []

-- each list has a finding for each input channel of a router
abbrev pub HaveChannels : ℕ → List (List Finding) → Type 0
HaveChannels channels lists =
    (r : ℕ) (one : List Finding) → slice_get lists r ≡ Some one → length one ≡ channels

-- what is kept of an input channel
abbrev pub kept_at : List (List Finding) → ℕ → ℕ → Option Finding
kept_at lists r i = option_and_then (λ one. slice_get one i) (slice_get lists r)

-- the line of an input channel in the last cycle of a run, if another thing is told
-- of it than of what is kept
abbrev pub kept_line : Run → Traced → List (List Finding) → ℕ → ℕ → ℕ → ℕ → List ℕ
kept_line u traced lists n r port vc =
    line_if_new u.net traced.verdicts n r port vc (option_and_then (traced_finding traced.packet)
    (kept_at lists r (port * u.net.relation.vcs + vc)))
    (option_and_then (traced_finding traced.packet)
    (slice_get (findings_before u.net u.count r) (port * u.net.relation.vcs + vc)))

-- ---- what the laws of a trace speak of

-- a trace of all channels, with a line in each cycle
abbrev pub whole : Traced
whole = record { router = None; packet = None; verdicts = None; changes = false }

-- what a trace and `explain` both say of an input channel
abbrev pub said_by_both : Grid → ℕ → ℕ → Finding → List ℕ
said_by_both g port vc f = verdict_text g port vc f ++ out_name g f.out

-- the verdict that is told of a channel, Empty where nothing is
abbrev pub told_verdict : Option Finding → Verdict
told_verdict None = Empty
told_verdict (Some f) = f.verdict

-- in how many cycles of the whole trace of a run each verdict is told of an input channel
abbrev pub told_counts : Run → ℕ → ℕ → List ℕ
told_counts u r i =
    tabulate VERDICTS
    (λ k. count_by (λ n. nat_eq (column (told_verdict (told_at u.net whole n r i))) k)
    (below u.count))
