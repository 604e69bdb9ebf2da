use Rattle.std.proofs.Common.{◌≡◌, ◌<◌, ℕ, false}
use Rattle.std.specs.Prelude.{◌&&◌}
use Rattle.noc_packet.specs.Set.{has_bit}
use Rattle.noc_vc.specs.Output.{is_free}
use Rattle.noc_router.specs.Sound.{nth_output}
use Rattle.noc_router.proofs.channels.Channels.least_idle.Given as goal

-- no output channel of the set so far is idle
abbrev pub invariant-loop-output : goal.invariant-loop-output
invariant-loop-output l = (k : ℕ) → k < l.output → (has_bit l.set k && is_free (nth_output l.self.outputs.items k).holder) ≡ false
