use Rattle.noc_answers.proofs.ArrivingLemmas.{IsLeftBefore}
use Rattle.noc_answers.proofs.arriving.left_for.Given as goal

-- what the packets so far say
abbrev pub invariant-loop-packet : goal.invariant-loop-packet
invariant-loop-packet l = IsLeftBefore l.network.net l.network.count l.node l.packet l.left.flits l.left.longest
