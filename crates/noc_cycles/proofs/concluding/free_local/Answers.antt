use Rattle.std.proofs.Common.{◌≡◌, ◌+◌, ◌*◌, arith, refl, slice_index}
use Rattle.noc_columns.specs.Supply.{digits_by, number_in}
use Rattle.noc_cycles.proofs.Common.{channels_of, set_of}
use Rattle.noc_cycles.proofs.ConcludingLemmas.{none-back}
use Rattle.noc_cycles.proofs.concluding.free_local.Goals as goal

pub returns-else-routers-ne0 : goal.returns-else-routers-ne0
returns-else-routers-ne0 c =
    let ports = c.args.ports.now in
    let all = channels_of ports in
    let none : c.args.routers ≡ 0 = omega arith in
    record {
      idle = λ r few.
          none-back (slice_index c.args.marks.now.idle r) ((ports.links.width + 1) * ports.links.vcs) (ports.links.width * ports.links.vcs) (set_of all r c.args.arrived.now) (number_in (digits_by (set_of all r) c.args.vc.now)) (c.requires none r);
      kept = record { waiting = refl; wanted = refl; sets = refl; turns = refl };
    }
