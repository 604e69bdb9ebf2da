use Rattle.std.proofs.Common.{arith}
use Rattle.noc_rank.proofs.IndexLemmas.{rank_index-below}
use Rattle.noc_rank.proofs.channel.rank_index.Goals as goal

pub overflow_mul-result-2 : goal.overflow_mul-result-2
overflow_mul-result-2 c =
    let below = rank_index-below c.args.shape.now c.args.vcs c.args.router c.args.port c.args.vc c.requires.channel in
    rw c.link_ports.ensures.value (omega (arith, below, c.requires.few))

pub overflow_add-result-2 : goal.overflow_add-result-2
overflow_add-result-2 c =
    let below = rank_index-below c.args.shape.now c.args.vcs c.args.router c.args.port c.args.vc c.requires.channel in
    rw c.link_ports.ensures.value (omega (arith, below, c.requires.few))

pub returns-clause-within : goal.returns-clause-within
returns-clause-within c = rw c.link_ports.ensures.value (rank_index-below c.args.shape.now c.args.vcs c.args.router c.args.port c.args.vc c.requires.channel)
