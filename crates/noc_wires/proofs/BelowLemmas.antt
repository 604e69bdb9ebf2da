-- Tests of all numbers below another one.
use Rattle.std.proofs.Common.{◌≡◌, ℕ, ◌+◌, ◌<◌, ◌≤◌, Bool, true, false, length, get_or, take, ap, sym, ◌∙◌, arith}
use Rattle.std.specs.Prelude.{◌&&◌}
use Rattle.std.specs.List.{list_all}
use Rattle.std.proofs.lemmas.List.{take_all}
use Rattle.std.proofs.lemmas.List.Folds.{list_all_more, list_all_at}
use Rattle.noc_topo.specs.Lists.{below}
use Rattle.noc_topo.proofs.ListLemmas.{length-below, get_or-below}

-- one number more passes
pub all_more : (test : ℕ → Bool) (n k : ℕ) → k < n → list_all test (take k (below n)) ≡ true → test k ≡ true → list_all test (take (k + 1) (below n)) ≡ true
all_more test n k l all here =
    list_all_more test (below n) k 0 (let c = length-below n in omega arith)
    ∙ ap (λ b. b && test (get_or (below n) k 0)) all
    ∙ ap test (get_or-below n k 0 l) ∙ here

pub one_not : (test : ℕ → Bool) (n k : ℕ) → k < n → test k ≡ false → list_all test (below n) ≡ false
one_not test n k l here = list_all_at test (below n) k 0 (let c = length-below n in omega arith) (ap test (get_or-below n k 0 l) ∙ here)

pub all_all : (test : ℕ → Bool) (n k : ℕ) → n ≤ k → list_all test (take k (below n)) ≡ true → list_all test (below n) ≡ true
all_all test n k l all = ap (list_all test) (sym (take_all k (below n) (let c = length-below n in omega arith))) ∙ all
