use Rattle.std.proofs.Common.{◌≡◌, ◌+◌, ◌*◌, ℕ, sum}
use Rattle.noc_theory.specs.Network.{Run}
use Rattle.noc_theory.proofs.join.CoreOpeningLemmas.{counts-sum}
use Rattle.noc_files.specs.Stalls.{channel_counts}
use Rattle.noc_files.proofs.stalls.the_counts_of_a_line_add_up.Goals as goal

adds-up : (u : Run) (router port vc : ℕ) → sum (channel_counts u router port vc) ≡ u.count
unfolding channel_counts
adds-up u router port vc = counts-sum u.net u.count router (port * u.net.relation.vcs + vc)

pub returns : goal.returns
returns c = λ u router port vc. adds-up u router port vc
