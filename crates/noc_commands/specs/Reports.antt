-- The reports of a run, with their names.
use Rattle.std.specs.Prelude.{ℕ, List, [], ◌∷◌, codes, map}
use Rattle.noc_commands.specs.declared.report.Report.{Report}
use Rattle.noc_commands.specs.declared.report.Report.TheVariants.{Latency, Stalls, Summary}

-- all reports, in the order of their names
abbrev pub all_reports : List Report
all_reports = Summary ∷ Latency ∷ Stalls ∷ []

-- the name of a report
abbrev pub name_of : Report → List ℕ
name_of Summary = codes "summary"
name_of Latency = codes "latency"
name_of Stalls = codes "stalls"

abbrev pub report_names : List (List ℕ)
report_names = map name_of all_reports
