-- The verdicts of the routers of a block, by the words that it has after a cycle.
use Rattle.std.specs.Prelude.{ℕ, List}
use Rattle.noc_sets.specs.Counts.{ByVerdict}
use Rattle.noc_columns.specs.Channels.{decided_by, standing_by, verdicts_by}
use Rattle.noc_columns.specs.Words.{Numbering, set_of}
use Rattle.noc_cycles.specs.Turning.{verdict_sets_by}
use Rattle.noc_cycles.specs.declared.block.Block.{Block}
use Rattle.noc_cycles.specs.declared.block.Work.{Work}

-- each set as what f makes of words
abbrev pub told_by : (List ℕ → ℕ) → Block → Work → ByVerdict
told_by f b w =
    verdict_sets_by (standing_by f w.standing) (decided_by f w.decided) (verdicts_by f w.verdicts)
    (f b.inputs.waiting) (f b.grants.granted) (f w.lost)

-- the sets of router r
abbrev pub told_at : Numbering → Block → Work → ℕ → ByVerdict
told_at n b w r = told_by (set_of n r) b w
