-- The verdicts in their order.
use Rattle.std.proofs.Common.{◌≡◌, ℕ, zero, suc, ◌<◌, get_or, refl, ap, sym, ◌∙◌, arith}
use Rattle.noc_view.specs.Verdict.{column}
use Rattle.noc_view.specs.declared.verdict.TheConstants.Verdict.{ALL}
use Rattle.noc_view.specs.declared.verdict.Verdict.{Verdict}
use Rattle.noc_view.specs.declared.verdict.Verdict.TheVariants.{Empty, Routed, Granted, Moved, NoFlit, NoIdleChannel, LostChannel, NoCredit, LostInput, LostSwitch}

-- the verdict of a column
pub verdict-at : (v : Verdict) (n : ℕ) (d : Verdict) → column v ≡ n → get_or ALL n d ≡ v
verdict-at v n d e = ap (λ (k : ℕ). get_or ALL k d) (sym e) ∙ at v
  where
    at : (v : Verdict) → get_or ALL (column v) d ≡ v
    at Empty = refl
    at Routed = refl
    at Granted = refl
    at Moved = refl
    at NoFlit = refl
    at NoIdleChannel = refl
    at LostChannel = refl
    at NoCredit = refl
    at LostInput = refl
    at LostSwitch = refl

-- the column of a verdict
pub column-at : (n : ℕ) (d : Verdict) → n < 10 → column (get_or ALL n d) ≡ n
column-at zero d l = refl
column-at (suc zero) d l = refl
column-at (suc (suc zero)) d l = refl
column-at (suc (suc (suc zero))) d l = refl
column-at (suc (suc (suc (suc zero)))) d l = refl
column-at (suc (suc (suc (suc (suc zero))))) d l = refl
column-at (suc (suc (suc (suc (suc (suc zero)))))) d l = refl
column-at (suc (suc (suc (suc (suc (suc (suc zero))))))) d l = refl
column-at (suc (suc (suc (suc (suc (suc (suc (suc zero)))))))) d l = refl
column-at (suc (suc (suc (suc (suc (suc (suc (suc (suc zero))))))))) d l = refl
column-at (suc (suc (suc (suc (suc (suc (suc (suc (suc (suc n)))))))))) d l = absurd (omega (arith, l))
