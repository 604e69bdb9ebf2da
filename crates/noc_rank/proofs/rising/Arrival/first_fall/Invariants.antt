use Rattle.std.proofs.Common.{ℕ, ◌<◌}
use Rattle.noc_route.specs.Routes.{set_at}
use Rattle.noc_rank.specs.NotRising.{link_output_count, HasNone}
use Rattle.noc_rank.specs.Arriving.{falls_in}
use Rattle.noc_rank.proofs.rising.Arrival.first_fall.Given as goal

abbrev pub invariant-loop-dst : goal.invariant-loop-dst
invariant-loop-dst l = (t : ℕ) → t < l.dst → HasNone (falls_in l.self (set_at l.self.ranked.now.relation.now l.self.class l.self.router l.self.in_port l.self.in_vc t)) (link_output_count l.self.ranked.now.ranks.now)
