use Rattle.noc_files.proofs.FindingLemmas.{header_alone}
use Rattle.noc_files.proofs.findings.findings_before_the_first_cycle_are_the_header.Goals as goal

pub returns : goal.returns
returns c u router first = header_alone u router first
