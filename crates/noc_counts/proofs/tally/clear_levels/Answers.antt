use Rattle.std.proofs.Common.{◌≡◌, ◌≢◌, ℕ, ◌<◌, ◌∙◌, ap, arith, List, set, replicate, [], slice_index_or, get_or-set_same, get_or-set_other}
use Rattle.std.proofs.lemmas.List.{get_or-replicate, length-set}
use Rattle.noc_columns.specs.Words.{word}
use Rattle.noc_columns.proofs.PassLemmas.{all-next}
use Rattle.noc_counts.proofs.tally.clear_levels.Goals as goal

pub loop-level-preserved : goal.loop-level-preserved
loop-level-preserved c =
    let level = c.loop-level.level in
    let inv = c.loop-level.invariant in
    let levels = c.loop-level.levels in
    let none : List ℕ = replicate 32 0 in
    record {
      size = length-set levels level none ∙ inv.size;
      done = all-next (λ k. (i : ℕ) → i < 32 → word i (slice_index_or (set levels level none) k []) ≡ 0) level
          (λ k l i few. let other : k ≢ level = omega (arith, l) in ap (word i) (get_or-set_other levels level k none [] other) ∙ inv.done k l i few)
          (λ i few. ap (word i) (get_or-set_same levels level none [] (omega (arith, inv.size))) ∙ get_or-replicate 32 i 0 0 few);
    }

pub returns : goal.returns
returns c = λ level i l few. c.loop-level.invariant.done level (omega arith) i few
