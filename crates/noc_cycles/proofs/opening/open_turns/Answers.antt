use Rattle.std.proofs.Common.{◌≡◌, ◌≢◌, ℕ, ◌-◌, ◌^◌, ◌<◌, ◌∙◌, ap, arith, List, set, replicate, [], slice_index, slice_index_or, get_or-set_same, get_or-set_other}
use Rattle.std.proofs.lemmas.List.{get_or-replicate}
use Rattle.noc_columns.proofs.PassLemmas.{all-next}
use Rattle.noc_cycles.proofs.Common.{length-set}
use Rattle.noc_cycles.proofs.opening.open_turns.Goals as goal

pub loop-r-preserved : goal.loop-r-preserved
loop-r-preserved c =
    let r = c.loop-r.r in
    let inv = c.loop-r.invariant in
    let turns = c.loop-r.turns in
    let whole : List ℕ = replicate 64 (2 ^ 64 - 1) in
    record {
      size = length-set turns r whole ∙ inv.size;
      done = all-next (λ k. (o : ℕ) → o < 64 → slice_index (slice_index_or (set turns r whole) k []) o ≡ 2 ^ 64 - 1) r
          (λ k l o few. let other : k ≢ r = omega (arith, l) in ap (λ row. slice_index row o) (get_or-set_other turns r k whole [] other) ∙ inv.done k l o few)
          (λ o few. ap (λ row. slice_index row o) (get_or-set_same turns r whole [] (omega (arith, inv.size))) ∙ get_or-replicate 64 o (2 ^ 64 - 1) 0 few);
    }

pub returns : goal.returns
returns c = λ r o l few. c.loop-r.invariant.done r (omega arith) o few
