-- Totals that are raised, again and again.
use Rattle.std.proofs.Common.{◌≡◌, ℕ, ◌+◌, ◌*◌, ◌^◌, ◌≤◌, List, arith}
use Rattle.noc_files.specs.Summary.{AreRaised, AreUpTo}

-- by nothing
pub raised-none : (f : ℕ → ℕ) (totals : List ℕ) → ((column : ℕ) → f column ≡ 0) → AreRaised f 0 totals totals
raised-none f totals none = record {
  more = λ column l. omega (arith, none column);
  bound = λ column l. omega (arith, none column);
}

-- once more
pub raised-more : (f g h : ℕ → ℕ) (j k n : ℕ) (a b c : List ℕ) → ((column : ℕ) → h column ≡ f column + g column) → n ≡ j + k
    → AreRaised f j a b → AreRaised g k b c → AreRaised h n a c
raised-more f g h j k n a b c is count first then = record {
  more = λ column l. omega (arith, first.more column l, then.more column l, is column);
  bound = λ column l. omega (arith, first.bound column l, then.bound column l, is column, count);
}

-- by the same, in other words
pub raised-as : (f g : ℕ → ℕ) (j k : ℕ) (a b : List ℕ) → ((column : ℕ) → f column ≡ g column) → j ≤ k → AreRaised f j a b → AreRaised g k a b
raised-as f g j k a b same wider raised = record {
  more = λ column l. omega (arith, raised.more column l, same column);
  bound = λ column l. omega (arith, raised.bound column l, same column, wider);
}

-- so far that no total is above a greater number
pub raised-up-to : (f : ℕ → ℕ) (j m n : ℕ) (a b : List ℕ) → AreRaised f j a b → AreUpTo m a → m + j * 2 ^ 64 ≤ n → AreUpTo n b
raised-up-to f j m n a b raised low fits = λ column l. omega (arith, raised.more column l, raised.bound column l, low column l)
