-- The stall report.
use Rattle.std.specs.Prelude.{ℕ, ◌+◌, ◌*◌, List, [], ◌∷◌, ◌++◌, decimal, codes}
use Rattle.std.specs.List.{flat_map}
use Rattle.noc_theory.specs.Network.{Run}
use Rattle.noc_theory.specs.Lockstep.{counts_before}
use Rattle.noc_view.specs.Names.{column_name}
use Rattle.noc_view.specs.declared.verdict.TheConstants.Verdict.{ALL}
use Rattle.noc_view.specs.declared.verdict.Verdict.{Verdict}
use Rattle.noc_files.specs.Channels.{over_routers}
use Rattle.noc_files.specs.Ports.{name_of_port}
use Rattle.noc_files.specs.Writing.{comma, text_of_pieces, line_end}

-- where a channel is, and a column for each verdict
unfoldable pub stall_header : List ℕ
stall_header =
    (codes "router,port,vc" ++ flat_map (λ (verdict : Verdict). comma ++ column_name verdict) ALL)
    ++ line_end

-- an input channel by its router, the name of its port, and its VC
abbrev pub input_columns : ℕ → List ℕ → ℕ → List ℕ
input_columns router port vc =
    text_of_pieces (decimal router ∷ comma ∷ port ∷ comma ∷ decimal vc ∷ [])

-- a count after a comma
abbrev pub count_text : ℕ → List ℕ
count_text count = text_of_pieces (comma ∷ decimal count ∷ [])

-- the line of an input channel, with how often it had each verdict
abbrev pub stall_line : ℕ → List ℕ → ℕ → List ℕ → List ℕ
stall_line router port vc counts =
    input_columns router port vc ++ flat_map count_text counts ++ line_end

-- in how many cycles of a run an input channel had each verdict
unfoldable pub channel_counts : Run → ℕ → ℕ → ℕ → List ℕ
channel_counts u router port vc =
    counts_before u.net u.count router (port * u.net.relation.vcs + vc)

-- the line of an input channel of a run
unfoldable pub channel_line : Run → ℕ → ℕ → ℕ → List ℕ
channel_line u router port vc =
    stall_line router (name_of_port u.net.relation.grid port) vc (channel_counts u router port vc)

-- the report of a run: the header, and a line for each input channel
abbrev pub stalls_text : Run → List ℕ
stalls_text u = stall_header ++ over_routers u.net.relation (channel_line u)
