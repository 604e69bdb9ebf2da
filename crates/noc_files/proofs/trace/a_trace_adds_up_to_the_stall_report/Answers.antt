use Rattle.noc_files.proofs.TraceLemmas.{adds_up}
use Rattle.noc_files.proofs.trace.a_trace_adds_up_to_the_stall_report.Goals as goal

pub returns : goal.returns
returns c = λ u r port vc p v. adds_up u r port vc p v
