-- The texts of reports.
use Rattle.std.specs.Prelude.{ℕ, List}
use Rattle.noc_theory.specs.Network.{Run}
use Rattle.noc_files.specs.Latency.{latency_text}
use Rattle.noc_files.specs.Stalls.{stalls_text}
use Rattle.noc_files.specs.Summary.{summary_text}
use Rattle.noc_commands.specs.declared.report.Report.{Report}
use Rattle.noc_commands.specs.declared.report.Report.TheVariants as report

-- a report of a run
abbrev pub report_text : Report → Run → List ℕ
report_text report.Summary run = summary_text run
report_text report.Latency run = latency_text run
report_text report.Stalls run = stalls_text run
