-- What clauses of many files name, from one place.
pub use Rattle.noc_files.specs.Configuration.{config_of, settings, KeepsLimits}
pub use Rattle.noc_files.specs.Gives.{Gives}
pub use Rattle.noc_files.specs.Ranks.{ranks_of}
pub use Rattle.noc_files.specs.Table.{table_of}
pub use Rattle.noc_files.specs.Traffic.{traffic_of}
pub use Rattle.noc_requests.specs.Answer.{runs, IsAnswered, TextsFault}
pub use Rattle.noc_requests.specs.Asked.{files_of, lent_files, lent_text, owned_text, read_by}
pub use Rattle.noc_requests.specs.Ending.{ended, Refuses}
pub use Rattle.noc_requests.specs.Run.{ending, IsNetworkOf, Opens, PacketsFault}
