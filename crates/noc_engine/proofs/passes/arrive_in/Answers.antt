use Rattle.std.proofs.Common.{◌≡◌, arith, slice_index}
use Rattle.noc_columns.specs.Heads.{packet_in}
use Rattle.noc_columns.specs.Picks.{channels_of}
use Rattle.noc_cycles.proofs.ArrivalLemmas.{none-arrive}
use Rattle.noc_engine.proofs.passes.arrive_in.Goals as goal

pub returns-else-work-ne0 : goal.returns-else-work-ne0
returns-else-work-ne0 c =
    let zero : c.args.work.now.leaving ≡ 0 = omega arith in
    none-arrive c.args.cycle (channels_of c.args.pattern.now.table.ports) c.args.work.now.arrived (packet_in c.args.packets.now) (slice_index c.args.arrivals.now) (c.requires.leaving zero)
