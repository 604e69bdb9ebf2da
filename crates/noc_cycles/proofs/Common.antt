-- The names that proofs of this crate cite most, passed on from one place. Declares nothing.
pub use Rattle.std.proofs.Math.Pow.{pow_mono}
pub use Rattle.std.proofs.lemmas.Bool.{and_parts, cases_eq, cases_lt, eq-eqb, eqb-true, le-ltb, lt-ltb, ne_eqb, true≢false}
pub use Rattle.std.proofs.lemmas.List.{length-set}
pub use Rattle.std.proofs.lemmas.Nat.{div-mul-add, mod-mul-add}
pub use Rattle.noc_topo.specs.Shape.{Grid, local_port, neighbour, nodes, opposite}
pub use Rattle.noc_packet.specs.Set.{has_bit}
pub use Rattle.noc_packet.proofs.SetLemmas.{both_members, either_members, has_bit-zero, zero_from_none}
pub use Rattle.noc_sets.specs.Column.{RouterMarks}
pub use Rattle.noc_sets.specs.Cycle.{Still}
pub use Rattle.noc_sets.specs.Layout.{Layout}
pub use Rattle.noc_sets.specs.Planes.{any_from, wrong_from}
pub use Rattle.noc_sets.specs.Sets.{less, lowest, up_by}
pub use Rattle.noc_sets.specs.Source.{Source, Start, start_in}
pub use Rattle.noc_sets.specs.Unions.{some_below}
pub use Rattle.noc_sets.proofs.MemberLemmas.{less_members, or-zero, same-word, up_members, up_none}
pub use Rattle.noc_columns.specs.Allotted.{ShowsOwned}
pub use Rattle.noc_columns.specs.Heads.{packet_in}
pub use Rattle.noc_columns.specs.Picks.{channels_of, links_of, port_at}
pub use Rattle.noc_columns.specs.Planes.{list_of, planes_by}
pub use Rattle.noc_columns.specs.Sources.{begun_if, sent_if, source_in, starts_by}
pub use Rattle.noc_columns.specs.Words.{Numbering, all_of, set_alike, set_below, set_of, word}
pub use Rattle.noc_columns.specs.declared.channels.Inputs.{Inputs}
pub use Rattle.noc_columns.specs.declared.channels.Links.{Links}
pub use Rattle.noc_columns.specs.declared.channels.Outputs.{Outputs}
pub use Rattle.noc_columns.specs.declared.channels.Standing.{Standing}
pub use Rattle.noc_columns.specs.declared.neighbours.Far.{Far}
pub use Rattle.noc_columns.specs.declared.planes.Planes.{Planes}
pub use Rattle.noc_columns.specs.declared.ports.RouterPorts.{RouterPorts}
pub use Rattle.noc_columns.proofs.ChannelLemmas.{part, port-below}
pub use Rattle.noc_columns.proofs.FlitLemmas.{blank}
pub use Rattle.noc_columns.proofs.PickLemmas.{apart, find-first, none-each}
pub use Rattle.noc_columns.proofs.PortLemmas.{link-index, member-below}
pub use Rattle.noc_columns.proofs.RouterLemmas.{below-fits}
pub use Rattle.noc_columns.proofs.SetLemmas.{below-members}
pub use Rattle.noc_columns.proofs.SupplyLemmas.{member-is}
pub use Rattle.noc_cycles.specs.Around.{far_by, number_or_nowhere}
pub use Rattle.noc_cycles.specs.Gathered.{AreLed, left_by}
pub use Rattle.noc_cycles.specs.Held.{Held, ShowsStill, held_at, links_at}
pub use Rattle.noc_cycles.specs.Taking.{FitsLayout}
pub use Rattle.noc_cycles.specs.Told.{NotesSome}
pub use Rattle.noc_cycles.specs.declared.block.Block.{Block}
pub use Rattle.noc_cycles.specs.declared.pattern.Pattern.{Pattern}
