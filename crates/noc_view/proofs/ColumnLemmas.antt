-- The column of a verdict in the counts of a channel.
use Rattle.std.proofs.Common.{◌≡◌, ℕ, ◌+◌, ◌<◌, List, length, get_or, set, sum, arith}
use Rattle.std.proofs.lemmas.List.Sums.{sum_by-set}
use Rattle.noc_view.specs.declared.verdict.Verdict.{Verdict}
use Rattle.noc_view.specs.declared.verdict.Verdict.TheVariants.{Empty}
use Rattle.noc_view.specs.Verdict.{column}

pub sum-raised : (xs : List ℕ) (k : ℕ) → k < length xs → sum (set xs k (get_or xs k 0 + 1)) ≡ sum xs + 1
sum-raised xs k l = omega (arith, sum_by-set (λ x. x) xs k (get_or xs k 0 + 1) 0 l)

-- a verdict has a place below ten
pub column-small : (v : Verdict) → column v < 10
column-small Empty = omega arith
column-small _ = omega arith
