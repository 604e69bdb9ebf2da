-- What clauses of many files name, from one place.
pub use Rattle.noc_topo.specs.Lists.{map_indexed}
pub use Rattle.noc_topo.specs.Shape.{local_port, neighbour, nodes, IsGrid}
pub use Rattle.noc_view.specs.Finish.{view_after_finish}
pub use Rattle.noc_view.specs.View.{idle_beat, view_after_takes}
pub use Rattle.noc_theory.specs.Halves.{beat_at, incoming, view_after_puts, wire_after_puts}
pub use Rattle.noc_theory.specs.Lockstep.{beats_at}
pub use Rattle.noc_theory.specs.Network.{Setup}
