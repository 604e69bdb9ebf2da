use Rattle.noc_files.specs.Findings.{finding_header}
use Rattle.noc_files.proofs.findings.write_findings.Goals as goal

pub returns : goal.returns
unfolding finding_header
returns g c = rw (c.relation-relation.ensures, c.findings.ensures) at c.write_lines.ensures
