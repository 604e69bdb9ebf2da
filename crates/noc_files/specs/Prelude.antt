-- What clauses of many files name, from one place.
pub use Rattle.std.specs.List.{flat_map, list_all}
pub use Rattle.csv.specs.Records.{fields_of}
pub use Rattle.noc_topo.specs.Lists.{below, tabulate, Each}
pub use Rattle.noc_topo.specs.Shape.{local_port, nodes, ports, Grid, IsGrid}
pub use Rattle.noc_view.specs.declared.finding.Finding.{Finding}
pub use Rattle.noc_theory.specs.Lockstep.{findings_before, findings_in_cycle}
pub use Rattle.noc_theory.specs.Network.{size, Run, Setup}
pub use Rattle.noc_bytes.specs.declared.input_fault.InputFault.{InputFault}
pub use Rattle.noc_files.specs.Gives.{result_map, Gives, IsReadAs}
pub use Rattle.noc_files.specs.Writing.{comma, dash_or, line_end, number_or, taken}
pub use Rattle.noc_files.specs.Writing.{text_of_pieces, Puts, Wrote}
