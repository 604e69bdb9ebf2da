use Rattle.std.proofs.Common.{◌≡◌, ◌<◌, ℕ, None, get_or, length}
use Rattle.noc_alloc.specs.Arbiter.{pointers_of}
use Rattle.noc_alloc.specs.Allocation.{pick_of}
use Rattle.noc_alloc.proofs.OfferLemmas.{AllNearest, port_of_pick}
use Rattle.noc_alloc.proofs.switch.allocate_switch.Given as goal

-- the input ports below have picked, and their picks have been offered
abbrev pub invariant-loop-port : goal.invariant-loop-port
invariant-loop-port l = record {
  picks : (k : ℕ) → k < l.port → get_or l.picks k None ≡ pick_of l.ready l.vcs (pointers_of l.inputs) k;
  wins : AllNearest (length l.inputs) l.outputs (port_of_pick l.ready l.vcs (pointers_of l.inputs)) l.port l.wins;
  each : length l.wins ≡ length l.outputs;
}
