-- The names that clauses of this crate cite, passed on from one place. It declares nothing.
pub use Rattle.noc_topo.specs.Shape.{nodes, ports}
pub use Rattle.noc_topo.specs.declared.limits.TheConstants.{MAX_NODES}
pub use Rattle.noc_packet.specs.ByNode.{starts_of}
pub use Rattle.noc_packet.specs.Packet.{IsWithinLimits}
pub use Rattle.noc_packet.specs.Set.{has_bit}
pub use Rattle.noc_packet.specs.declared.limits.TheConstants.{MAX_BUFFER, MAX_PACKETS}
pub use Rattle.noc_view.specs.Found.{finding_at}
pub use Rattle.noc_sets.specs.Cycle.{Router, Turn}
pub use Rattle.noc_sets.specs.Unions.{some_below}
pub use Rattle.noc_theory.specs.Good.{IsGoodSetup}
pub use Rattle.noc_theory.specs.Lockstep.{counts_before, findings_before}
pub use Rattle.noc_theory.specs.Network.{Setup, arrival_in, state_at}
pub use Rattle.noc_theory.specs.Progress.{last_event_before}
pub use Rattle.noc_theory.specs.declared.limits.TheConstants.{CYCLE_LIMIT}
pub use Rattle.noc_theory_bits.specs.Starts.{starts_list}
pub use Rattle.noc_columns.specs.Heads.{packet_in}
pub use Rattle.noc_columns.specs.Picks.{channels_of}
pub use Rattle.noc_columns.specs.Routing.{header_in, header_of}
pub use Rattle.noc_columns.specs.Sources.{starts_by}
pub use Rattle.noc_columns.specs.Words.{set_of}
pub use Rattle.noc_columns.specs.declared.sets.TheConstants.{CHANNELS}
pub use Rattle.noc_cycles.specs.Concluding.{HaveArrived}
pub use Rattle.noc_cycles.specs.Told.{HaveRoom}
pub use Rattle.noc_cycles.specs.declared.block.Block.{Block}
pub use Rattle.noc_cycles.specs.declared.block.Work.{Work}
pub use Rattle.noc_cycles.specs.declared.pattern.Pattern.{Pattern}
pub use Rattle.noc_counts.specs.declared.counts.Counts.{Counts}
pub use Rattle.noc_queues.specs.Queues.{AreByNode, IsKept}
pub use Rattle.noc_engine.specs.Finds.{HaveFindings, found_at}
pub use Rattle.noc_engine.specs.Opened.{IsOpenedTile}
pub use Rattle.noc_engine.specs.Origins.{net_in, setup_by}
pub use Rattle.noc_engine.specs.Passes.{AreAllNotes, HasCounted, HaveGathered, HaveTurned, MayTurnAll, TellAll, TellLeaving, arrived_of, packets_of}
pub use Rattle.noc_engine.specs.Runs.{AreFindings, HasJustRun, HasRepeated, IsNextDue, MayRun, ShowsRun}
pub use Rattle.noc_engine.specs.Shows.{IsPlanOf, ShowsAt, has_block}
pub use Rattle.noc_engine.specs.Steps.{HasRunCycle}
pub use Rattle.noc_engine.specs.Tiles.{AreNear, HasBehind, HasRunTile, HasStepped, HasTurnedTile, IsCut, IsJoined, IsTold, MayRunTile, Shows}
pub use Rattle.noc_engine.specs.Turns.{HasTurnedBlock, MayTurn, happens_in}
pub use Rattle.noc_engine.specs.declared.plan.Plan.{Plan}
