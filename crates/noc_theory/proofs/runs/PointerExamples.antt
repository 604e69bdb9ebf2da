-- The pointer of an arbiter, where two channels ask for the same one twice.
use Rattle.std.proofs.Common.{◌≡◌, ℕ, [], ◌∷◌, refl}
use Rattle.std.specs.Prelude.{slice_index_or}
use Rattle.noc_view.specs.Verdict.{opening_arbiters}
use Rattle.noc_theory.proofs.Common.{Setup}
use Rattle.noc_theory.proofs.runs.ArrivalExamples.{state_after}
use Rattle.noc_theory.proofs.runs.NetworkExamples.{contended}

-- the pointer of the arbiter of output channel o of router r, at count n
abbrev pointer_at : Setup → ℕ → ℕ → ℕ → ℕ
pointer_at net n r o = (slice_index_or (slice_index_or (state_after net n).arbiters r (opening_arbiters 0 0)).channels o (record { size = 0; pointer = 0 })).pointer

-- index 2 wins in cycle 4 and moves it from 0 to 3, where it stays up to cycle 24; then index
-- 4 wins and moves it to 5
contended-pointer : pointer_at contended 4 1 0 ∷ pointer_at contended 5 1 0 ∷ pointer_at contended 24 1 0 ∷ pointer_at contended 25 1 0 ∷ [] ≡ 0 ∷ 3 ∷ 3 ∷ 5 ∷ []
unfolding contended state_after
contended-pointer = refl
