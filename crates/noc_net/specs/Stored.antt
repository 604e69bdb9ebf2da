-- Which event core the fields of a core stand for, and what is true of these fields.
use Rattle.std.specs.Prelude.{◌≡◌, vec_len}
use Rattle.noc_topo.specs.Shape.{local_port, nodes}
use Rattle.noc_net.specs.declared.event_core.Core.TheInside.{Inside}
use Rattle.noc_theory.specs.declared.limits.TheConstants.{CYCLE_LIMIT}
use Rattle.noc_net.specs.declared.parts.Parts.{Parts}
use Rattle.noc_theory.specs.Core.{CoreState}
use Rattle.noc_theory.specs.Good.{IsGoodSetup}
use Rattle.noc_theory.specs.InStep.{AreWithin, IsInStep}
use Rattle.noc_net.specs.Parts.{setup_in}
use Rattle.noc_wires.specs.Room.{posts_of}

-- the core with these parts
abbrev pub core_in : Parts → CoreState
core_in parts = record {
  net = setup_in parts;
  posts = posts_of (local_port parts.relation.grid) parts.routers.items parts.room.items;
}

abbrev pub core_of : Inside → CoreState
core_of c = core_in c.parts

-- the setup is good, the core is in step and no router past the limit, and there are room
-- and beats for each router
pub record IsCore (c : Inside) : Type 0 where
  pub good : IsGoodSetup (setup_in c.parts)
  pub in_step : IsInStep CYCLE_LIMIT (core_in c.parts)
  pub within : AreWithin CYCLE_LIMIT (core_in c.parts)
  pub routers : vec_len c.parts.routers ≡ nodes c.parts.relation.grid
  pub beats : vec_len c.parts.beats ≡ nodes c.parts.relation.grid
  pub room : vec_len c.parts.room ≡ nodes c.parts.relation.grid
