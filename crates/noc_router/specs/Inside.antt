-- Which view the fields of a router stand for, and what is true of these fields.
use Rattle.std.specs.Prelude.{◌≡◌, ℕ, ◌+◌, ◌-◌, ◌*◌, ◌<◌, ◌≤◌, true, List, length, take, Option, None, slice_index_or}
use Rattle.std.specs.Option.{ForSome}
use Rattle.std.specs.List.{zip}
use Rattle.noc_packet.specs.declared.packet.Packet.{Packet}
use Rattle.noc_packet.specs.declared.limits.TheConstants.{MAX_CHANNELS}
use Rattle.noc_topo.specs.Shape.{IsGrid, nodes, ports, local_port, neighbour}
use Rattle.noc_topo.specs.declared.limits.TheConstants.{LINKS}
use Rattle.noc_router.specs.declared.router.Router.TheInside.{Inside}
use Rattle.noc_router.specs.declared.source.Source.{Source}
use Rattle.noc_router.specs.Queue.{queue_from, sending_from}
use Rattle.noc_router.specs.Sound.{is_awaiting}
use Rattle.noc_view.specs.View.{View}

-- the packets with a flit still at the source
abbrev pub queue_of : Source → List (ℕ × Packet)
queue_of source = queue_from source.front source.begun source.packets.items

-- the local virtual channel of the first of them, once it has begun, and its next index
abbrev pub sending_of : Source → Option (ℕ × ℕ)
sending_of source = sending_from source.vc source.index

abbrev pub view_of : Inside → View
view_of r = record {
  site = record { grid = r.shape; node = r.node; vcs = r.vcs; depth = r.depth };
  buffers = r.channels.bank.rings;
  inputs = r.channels.inputs.items;
  outputs = r.channels.outputs.items;
  arbiters = record {
    channels = r.arbiters.channels.items;
    inputs = r.arbiters.inputs.items;
    outputs = r.arbiters.outputs.items;
  };
  queue = queue_of r.source;
  sending = sending_of r.source;
  ends = zip r.arrivals.ends.items r.arrivals.cycles.items;
  misfits = r.misfits;
  last_event = r.last_event;
  counts = r.tally.counts;
  findings = r.tally.findings;
  given = r.cycle;
  had_event = r.had_event;
  to_put = take (local_port r.shape) r.to_put;
}

-- the parts of a router are of one size
pub record IsRouter (r : Inside) : Type 0 where
  pub grid : IsGrid r.shape
  pub node : r.node < nodes r.shape
  pub ports : r.ports ≡ ports r.shape
  pub neighbours : (port : ℕ) → port < local_port r.shape
      → slice_index_or r.neighbours port None ≡ neighbour r.shape r.node port
  pub some_vc : 0 < r.vcs
  pub few_vcs : r.vcs ≤ MAX_CHANNELS
  pub channels : r.channels.size ≡ r.ports * r.vcs
  pub depth : r.channels.bank.capacity ≡ r.depth
  pub beats : length r.to_put ≡ LINKS
  pub sending : ForSome r.source.vc (λ vc. vc < r.vcs)
  -- the local channel that the source sends on awaits the next flit
  pub awaiting : ForSome r.source.vc
      (λ vc. is_awaiting r.channels.inputs.items ((r.ports - 1) * r.vcs + vc) ≡ true)
  pub counts : length r.tally.counts ≡ r.ports * r.vcs
  pub arbiter_ports : r.arbiters.ports ≡ r.ports
  pub arbiter_vcs : r.arbiters.vcs ≡ r.vcs
