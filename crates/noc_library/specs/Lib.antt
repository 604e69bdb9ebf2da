-- Shapes and sets of channels.
pub use Rattle.noc_topo.specs.Shape
pub use Rattle.noc_topo.specs.Titles as ShapeTitles
pub use Rattle.noc_packet.specs.Set
-- Relations and ranks.
pub use Rattle.noc_route.specs.Built
pub use Rattle.noc_route.specs.Names as RuleNames
pub use Rattle.noc_route.specs.Ranks
pub use Rattle.noc_route.specs.Relation
pub use Rattle.noc_route.specs.Routes
pub use Rattle.noc_route.specs.Titles as RouteTitles
pub use Rattle.noc_rank.specs.Faults as RankFaults
pub use Rattle.noc_rank.specs.Formulas
pub use Rattle.noc_rank.specs.Ranking
pub use Rattle.noc_rank.specs.Rows as RankRows
pub use Rattle.noc_rank.specs.Titles as RankTitles
-- Networks.
pub use Rattle.noc_view.specs.Names as VerdictNames
pub use Rattle.noc_view.specs.View
pub use Rattle.noc_theory.specs.Core
pub use Rattle.noc_theory.specs.Good
pub use Rattle.noc_theory.specs.Lockstep
pub use Rattle.noc_theory.specs.Network
pub use Rattle.noc_theory.specs.Progress
pub use Rattle.noc_net.specs.Faults as NetFaults
pub use Rattle.noc_net.specs.Latency as PacketLatency
pub use Rattle.noc_net.specs.Limit
pub use Rattle.noc_net.specs.Titles as NetTitles
-- Files.
pub use Rattle.noc_commands.specs.Reports as ReportNames
pub use Rattle.noc_commands.specs.Verdicts
pub use Rattle.noc_files.specs.Configuration
pub use Rattle.noc_files.specs.Findings
pub use Rattle.noc_files.specs.Gives
pub use Rattle.noc_bytes.specs.Joined
pub use Rattle.noc_bytes.specs.Keys
pub use Rattle.noc_files.specs.Latency
pub use Rattle.noc_files.specs.Ports
pub use Rattle.noc_files.specs.Ranks as RankFiles
pub use Rattle.noc_bytes.specs.Reading
pub use Rattle.noc_files.specs.Reports
pub use Rattle.noc_files.specs.Stalls
pub use Rattle.noc_files.specs.Summary
pub use Rattle.noc_files.specs.Table
pub use Rattle.noc_bytes.specs.Titles as FileTitles
pub use Rattle.noc_files.specs.Trace
pub use Rattle.noc_files.specs.Traffic
pub use Rattle.noc_files.specs.Writing
