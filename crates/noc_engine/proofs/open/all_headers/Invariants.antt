use Rattle.std.proofs.Common.{◌≡◌, ◌≤◌, length, map, take, vec_capacity}
use Rattle.noc_columns.specs.Routing.{header_of}
use Rattle.noc_engine.proofs.open.all_headers.Given as goal

abbrev pub invariant-loop-packet : goal.invariant-loop-packet
invariant-loop-packet l = record {
  are : l.all.items ≡ map header_of (take l.packet-index l.packets);
  room : length l.packets ≤ vec_capacity l.all;
}
