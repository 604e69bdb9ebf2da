-- The names that most clauses about columns cite, passed on from one place. It declares nothing.
pub use Rattle.noc_packet.specs.Set.{has_bit}
pub use Rattle.noc_topo.specs.Lists.{one_if}
pub use Rattle.noc_alloc.specs.Members.{MembersAreBelow}
pub use Rattle.noc_sets.specs.Sets.{less, lowest}
pub use Rattle.noc_sets.specs.Unions.{rest_from, some_below, union_from}
pub use Rattle.noc_columns.specs.Picks.{channels_of, links_of, output_of, port_at, port_of}
pub use Rattle.noc_columns.specs.Words.{AreApart, IsWithin, Numbering, all_of, set_alike, set_below, set_by, set_of, word}
pub use Rattle.noc_columns.specs.declared.sets.TheConstants.{CHANNELS}
pub use Rattle.noc_columns.specs.declared.words.TheConstants.{GROUP, ROUTERS, WORDS}
