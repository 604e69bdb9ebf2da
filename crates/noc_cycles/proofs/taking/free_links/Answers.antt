use Rattle.std.proofs.Common.{◌≡◌, ◌∙◌, ap, arith, bit_or, slice_index, sym}
use Rattle.noc_cycles.proofs.Common.{or-zero}
use Rattle.noc_cycles.proofs.taking.free_links.Goals as goal

pub returns-else-routers-ne0-clause-idle : goal.returns-else-routers-ne0-clause-idle
returns-else-routers-ne0-clause-idle c = λ r few.
    let none : c.args.routers ≡ 0 = omega arith in
    sym (ap (bit_or (slice_index c.args.marks.now.idle r)) (c.requires none r few) ∙ or-zero (slice_index c.args.marks.now.idle r))
