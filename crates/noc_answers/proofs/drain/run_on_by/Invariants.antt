use Rattle.std.proofs.Common.{◌≡◌, ℕ, ◌-◌}
use Rattle.noc_requests.specs.Drain.{DrainsBy}
use Rattle.noc_answers.proofs.drain.run_on_by.Given as goal

-- where the run drains from here, it drains from where it began
abbrev pub invariant-loop-network : goal.invariant-loop-network
invariant-loop-network g l = record {
  net : l.network.net ≡ l.initial.network.net;
  on : (end : ℕ) → DrainsBy l.initial.network.net l.limit l.network.count end → DrainsBy l.initial.network.net l.limit l.initial.network.count end;
}

abbrev pub decreases-loop-network : goal.decreases-loop-network
decreases-loop-network g l = l.limit - l.network.count
