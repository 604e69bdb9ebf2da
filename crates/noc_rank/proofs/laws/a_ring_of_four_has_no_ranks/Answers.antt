use Rattle.noc_route.specs.Ranks.{rank_at}
use Rattle.noc_rank.proofs.RingLemmas.{ring, ring-bare, ring-none}
use Rattle.noc_rank.proofs.laws.a_ring_of_four_has_no_ranks.Goals as goal

pub returns-clause-none : goal.returns-clause-none
returns-clause-none c = λ routes ranks made ranked. ring-none (rank_at ranks) ((c.a_relation_is_ranked_as_its_rule.ensures ring routes ranks made).0 ranked)

pub returns-clause-bare : goal.returns-clause-bare
returns-clause-bare c = λ routes ranks made some. ring-bare routes ranks made some
