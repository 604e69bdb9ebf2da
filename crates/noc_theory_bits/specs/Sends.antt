-- What a router of a network sends over its links in a cycle.
use Rattle.std.specs.Prelude.{◌≡◌, ℕ, ◌+◌, ◌*◌, ◌<◌, Option}
use Rattle.noc_packet.specs.declared.packet.Beat.{Beat}
use Rattle.noc_view.specs.View.{beat_out, decisions_of}
use Rattle.noc_sets.specs.Cycle.{Links}
use Rattle.noc_theory.specs.Network.{Setup}
use Rattle.noc_theory_bits.specs.Owners.{frozen_of, granted_to}
use Rattle.noc_theory_bits.specs.Wires.{ShowsBeat}

-- the beat that router s puts on the link of a port in cycle n
abbrev pub beat_of : Setup → ℕ → ℕ → ℕ → Beat
beat_of net n s port =
    beat_out (decisions_of net.relation (frozen_of net n s)) (frozen_of net n s) port

-- router s sends these by a port in cycle n: the beat that it puts, and by output channel the
-- packet to which it is granted
pub record Sends (net : Setup) (n s port : ℕ) (left : Links) (tells : ℕ → Option ℕ) : Type 0 where
  pub beat : ShowsBeat net.relation.vcs port (beat_of net n s port) left
  pub told : (vc : ℕ) → vc < net.relation.vcs
      → tells (port * net.relation.vcs + vc) ≡ granted_to net n s (port * net.relation.vcs + vc)
