-- The report of a router's findings in one cycle.
use Rattle.std.specs.Prelude.{ℕ, ◌+◌, ◌*◌, slice_get, List, [], ◌∷◌, ◌++◌, decimal, codes, Option, Some, None, unwrap_or}
use Rattle.noc_theory.specs.Network.{Run}
use Rattle.noc_theory.specs.Lockstep.{findings_before}
use Rattle.noc_topo.specs.Shape.{Grid}
use Rattle.noc_route.specs.Routes.{Routes}
use Rattle.noc_view.specs.declared.finding.Finding.{Finding}
use Rattle.noc_view.specs.Names.{verdict_name}
use Rattle.noc_files.specs.Channels.{over_router}
use Rattle.noc_files.specs.Ports.{name_of_port, port_text}
use Rattle.noc_files.specs.Writing.{comma, dash_or, text_of_pieces, line_end}

unfoldable pub finding_header : List ℕ
finding_header = codes "port,vc,verdict,packet,out\n"

-- an output channel as port, full stop and number, or a dash
abbrev pub out_name : Grid → Option (ℕ × ℕ) → List ℕ
out_name g None = codes "-"
out_name g (Some (port, vc)) =
    text_of_pieces (unwrap_or (port_text g port) (codes "-") ∷ codes "." ∷ decimal vc ∷ [])

-- an input channel by its port and its VC, its verdict, and its packet
abbrev pub verdict_text : Grid → ℕ → ℕ → Finding → List ℕ
verdict_text g port vc f =
    text_of_pieces (name_of_port g port ∷ comma ∷ decimal vc ∷ comma ∷ verdict_name f.verdict
    ∷ comma ∷ dash_or f.packet ∷ comma ∷ [])

-- the line of an input channel: its verdict, its packet, and the output channel
-- that the verdict speaks of
abbrev pub finding_line : Grid → ℕ → ℕ → Finding → List ℕ
finding_line g port vc f = verdict_text g port vc f ++ out_name g f.out ++ line_end

-- the line of an input channel, if something was found of it
abbrev pub line_if_found : Grid → ℕ → ℕ → Option Finding → List ℕ
line_if_found g port vc None = []
line_if_found g port vc (Some f) = finding_line g port vc f

abbrev pub found_line : Routes → List Finding → ℕ → ℕ → List ℕ
found_line relation findings port vc =
    line_if_found relation.grid port vc (slice_get findings (port * relation.vcs + vc))

-- the report of a router, whose findings go by the index port*V + vc: the header, and a
-- line for each input channel
abbrev pub finding_report : Routes → ℕ → List Finding → List ℕ
finding_report relation router findings =
    finding_header ++ over_router relation router (found_line relation findings)

-- the report of a router of a run, which has found nothing before its first cycle
abbrev pub findings_text : Run → ℕ → List ℕ
findings_text u router = finding_report u.net.relation router (findings_before u.net u.count router)
