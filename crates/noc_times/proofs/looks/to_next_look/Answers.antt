use Rattle.std.proofs.Common.{◌-◌, ◌/◌, arith}
use Rattle.noc_times.proofs.looks.to_next_look.Goals as goal

pub returns-clause-look : goal.returns-clause-look
returns-clause-look c =
    let found = c.next_multiple_of.ensures in
    (c.next_multiple_of.result / 64 - 1, omega (arith, found.multiple, found.lower_bound, c.max.ensures), omega (arith, found.multiple, found.upper_bound, c.max.ensures))
