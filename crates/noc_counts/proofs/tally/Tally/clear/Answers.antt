use Rattle.std.proofs.Common.{replicate}
use Rattle.std.proofs.lemmas.List.{get_or-replicate}
use Rattle.noc_counts.proofs.TallyLemmas.{counted-none}
use Rattle.noc_counts.proofs.tally.Tally.clear.Goals as goal

pub returns : goal.returns
returns c = λ i r few. counted-none c.clear_levels.new.levels c.clear_levels-2.new.levels (replicate 32 0) (replicate 32 0) i r (get_or-replicate 32 i 0 0 few) (get_or-replicate 32 i 0 0 few) (λ k l. c.clear_levels.ensures k i l few) (λ k l. c.clear_levels-2.ensures k i l few)
