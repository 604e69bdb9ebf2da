use Rattle.std.proofs.Common.{◌≡◌, ℕ, ◌+◌, ◌<◌, ◌≤◌, false}
use Rattle.noc_requests.specs.Drain.{is_out_at}
use Rattle.noc_answers.proofs.drain.undue_cycles.Given as goal

-- as far as the packets so far say
abbrev pub invariant-loop-number : goal.invariant-loop-number
invariant-loop-number l = (k : ℕ) → 0 < k → k ≤ l.cycles → is_out_at l.network.net (l.network.count + k) ≡ false
