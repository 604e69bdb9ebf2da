use Rattle.std.proofs.Common.{arith}
use Rattle.std.proofs.lemmas.Option.{slice_get_within}
use Rattle.noc_cycles.proofs.HearLemmas.{heard-elsewhere, heard-here}
use Rattle.noc_cycles.proofs.hears.hear_note.Goals as goal
use Rattle.noc_cycles.proofs.hears.hear_note.Goals.{else-first-number-via-then-first-number+else-number-first, else-first-number-via-else-first-number}

pub returns-then-number-first : goal.returns-then-number-first
returns-then-number-first c = heard-here c.args.one.now c.args.first c.args.blocks.now _ c.index-blocks-number.result c.hold.new.packets (omega arith) c.if-number-first.true c.hold.ensures

pub returns-else-first-number : goal.returns-else-first-number
returns-else-first-number c = λ b old new was is.
    let inside = slice_get_within c.args.blocks.now b old was in
    heard-elsewhere c.args.one.now c.args.first c.args.blocks.now b old new
    (λ e. elim c.else-first-number.branch [
      | else-first-number-via-then-first-number+else-number-first w ↦ omega (arith, e, inside)
      | else-first-number-via-else-first-number w ↦ omega (arith, e, inside)
    ])
    was is
