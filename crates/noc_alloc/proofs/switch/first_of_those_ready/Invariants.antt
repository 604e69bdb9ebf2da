use Rattle.std.proofs.Common.{◌+◌, None, get_or}
use Rattle.std.specs.Prelude.{is_some}
use Rattle.noc_alloc.proofs.ArbiterLemmas.{IsNearest}
use Rattle.noc_alloc.proofs.switch.first_of_those_ready.Given as goal

abbrev pub invariant-loop-vc : goal.invariant-loop-vc
invariant-loop-vc l = IsNearest l.arbiter.size l.arbiter.pointer (λ v. is_some (get_or l.ready (l.first + v) None)) l.vc l.held
