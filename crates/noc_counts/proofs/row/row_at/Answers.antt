use Rattle.std.proofs.Common.{◌∙◌, ap}
use Rattle.noc_sets.specs.Counts.{nine_counts}
use Rattle.noc_counts.specs.Rows.{row_with}
use Rattle.noc_counts.proofs.row.row_at.Goals as goal

pub returns : goal.returns
returns c = λ x. row_with ((c.list-a.ensures ∙ ap nine_counts c.words_at.ensures) x) ((c.list-b.ensures ∙ ap nine_counts c.words_at-2.ensures) x)
    ((c.list-c.ensures ∙ ap nine_counts c.words_at-3.ensures) x) ((c.list-d.ensures ∙ ap nine_counts c.words_at-4.ensures) x)
