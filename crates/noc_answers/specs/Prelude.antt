-- What clauses of many files name, from one place.
pub use Rattle.noc_theory.specs.Good.{IsGoodSetup}
pub use Rattle.noc_theory.specs.Network.{arrival_in, packet_at, state_at, Run}
pub use Rattle.noc_theory.specs.Progress.{events}
pub use Rattle.noc_net.specs.Limit.{are_all_out}
pub use Rattle.noc_commands.specs.Workers.{workers_of, HasWorkers}
pub use Rattle.noc_files.specs.Latency.{latency_line, packet_start}
pub use Rattle.noc_files.specs.Trace.{nothing_found}
pub use Rattle.noc_files.specs.Writing.{comma, line_end, text_of_pieces}
pub use Rattle.noc_faults.specs.Status.{is_memory}
pub use Rattle.noc_requests.specs.Answer.{by_workers, runs, Asks, FirstFault, IsAnswered, TextsFault}
pub use Rattle.noc_requests.specs.Asked.{lent_files, ReadsAs}
pub use Rattle.noc_requests.specs.Drain.{is_out_at, DrainsBy, RunsTo}
pub use Rattle.noc_requests.specs.Ending.{Refuses}
pub use Rattle.noc_requests.specs.Run.{report_of, runs_until_out, Opens}
pub use Rattle.noc_answers.specs.Answered.{IsRequestAnswered}
