use Rattle.noc_columns.specs.Words.{word}
use Rattle.noc_counts.specs.Counted.{HasNoted}
use Rattle.noc_counts.specs.Rows.{row_of}
use Rattle.noc_counts.specs.Told.{told_by}
use Rattle.noc_counts.proofs.GroupLemmas.{AreDone}
use Rattle.noc_counts.proofs.counts.note_all.Given as goal

abbrev pub invariant-loop-group : goal.invariant-loop-group
invariant-loop-group l = AreDone (λ g old new. HasNoted l.slot (row_of (λ j. told_by (word j) l.block l.work) g) old new) l.fn.of l.of l.group
