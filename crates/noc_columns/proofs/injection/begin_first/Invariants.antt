use Rattle.std.proofs.Common.{◌≡◌, ◌+◌, length}
use Rattle.noc_sets.specs.Sets.{less}
use Rattle.noc_sets.specs.Unions.{union_from}
use Rattle.noc_columns.specs.Words.{word}
use Rattle.noc_columns.proofs.PassLemmas.{IsPassed}
use Rattle.noc_columns.proofs.injection.begin_first.Given as goal

abbrev pub invariant-loop-v : goal.invariant-loop-v
invariant-loop-v l = record {
  size : length l.begun ≡ 72;
  before : l.before ≡ union_from 0 l.v (λ k. word (l.local.first + k) l.fn.begun);
  passed : IsPassed (λ k. less (word (l.local.first + k) l.fn.begun) (union_from 0 k (λ j. word (l.local.first + j) l.fn.begun))) (λ k. word (l.local.first + k) l.fn.begun) (λ k. word (l.local.first + k) l.begun) l.v;
}
