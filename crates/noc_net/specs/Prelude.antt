-- What clauses of many files name, from one place.
pub use Rattle.std.specs.List.{list_all}
pub use Rattle.noc_topo.specs.Lists.{map_indexed, tabulate}
pub use Rattle.noc_topo.specs.Shape.{local_port, neighbour, nodes, ports}
pub use Rattle.noc_packet.specs.ByNode.{ends_of, starts_of}
pub use Rattle.noc_route.specs.Ranks.{IsRankedBy, Ranking}
pub use Rattle.noc_view.specs.View.{idle_beat, opening_view, view_after_takes, IsRelationOf, View}
pub use Rattle.noc_router.specs.Decided.{empty_plan_contents}
pub use Rattle.noc_theory.specs.Good.{IsGoodPacket, IsGoodSetup}
pub use Rattle.noc_theory.specs.Halves.{beat_at, incoming, sent_on, view_after_decide}
pub use Rattle.noc_theory.specs.Halves.{view_after_puts, wire_after_puts, HasItsBeats}
pub use Rattle.noc_theory.specs.Halves.{HaveTheirBeats, IsLinked, IsSilent}
pub use Rattle.noc_theory.specs.Lockstep.{beat_from, beats_at, counts_before, findings_before}
pub use Rattle.noc_theory.specs.Network.{arrival_in, packet_at, state_at, Setup}
pub use Rattle.noc_theory.specs.Progress.{budget, is_pending, is_stuck, last_event_before}
pub use Rattle.noc_queues.specs.Queues.{AreByNode}
