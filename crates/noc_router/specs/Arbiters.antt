-- The arbiters of a router as one record.
use Rattle.std.specs.Prelude.{ℕ, ◌<◌, ◌≤◌}
use Rattle.noc_packet.specs.declared.limits.TheConstants.{MAX_CHANNELS, MAX_PORTS}
use Rattle.noc_view.specs.Verdict.{ArbiterStates}
use Rattle.noc_router.specs.declared.arbiters.Arbiters.{Arbiters}

-- a router has 1 to 7 ports, each with 1 to 8 virtual channels
pub record IsSizedRouter (ports vcs : ℕ) : Type 0 where
  pub some_port : 0 < ports
  pub few_ports : ports ≤ MAX_PORTS
  pub some_vc : 0 < vcs
  pub few_vcs : vcs ≤ MAX_CHANNELS

abbrev pub arbiter_states_in : Arbiters → ArbiterStates
arbiter_states_in a = record {
  channels = a.channels.items;
  inputs = a.inputs.items;
  outputs = a.outputs.items;
}

-- the arbiters of a router with so many ports and virtual channels
pub record SizedArbiters : Type 0 where
  pub ports : ℕ
  pub vcs : ℕ
  pub states : ArbiterStates

abbrev pub sized_arbiters_in : Arbiters → SizedArbiters
sized_arbiters_in a = record { ports = a.ports; vcs = a.vcs; states = arbiter_states_in a }
