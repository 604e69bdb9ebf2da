-- What is said of the ten verdicts, one after the other.
use Rattle.std.proofs.Common.{◌≡◌, ℕ, ◌+◌, ◌<◌, ◌≤◌, List, [], ◌∷◌, ◌++◌, flat_map, length, take, get_or, ap, ◌∙◌, arith, append-nil}
use Rattle.std.proofs.lemmas.Grind.{flat_map-append}
use Rattle.std.proofs.lemmas.List.{take_more, take_all}
use Rattle.noc_view.specs.Names.{column_name}
use Rattle.noc_view.specs.declared.verdict.TheConstants.Verdict.{ALL}
use Rattle.noc_view.specs.declared.verdict.Verdict.{Verdict}
use Rattle.noc_view.specs.declared.verdict.Verdict.TheVariants.{Empty, Routed, Granted, Moved, NoFlit, NoIdleChannel, LostChannel, NoCredit, LostInput, LostSwitch}

-- the name of a column has at most fifteen bytes
pub name-short : (v : Verdict) → length (column_name v) ≤ 15
name-short Empty = omega arith
name-short Routed = omega arith
name-short Granted = omega arith
name-short Moved = omega arith
name-short NoFlit = omega arith
name-short NoIdleChannel = omega arith
name-short LostChannel = omega arith
name-short NoCredit = omega arith
name-short LostInput = omega arith
name-short LostSwitch = omega arith

-- what is said of the verdicts of one column more
pub said-more : (f : Verdict → List ℕ) (n : ℕ) (d : Verdict) → n < 10
    → flat_map f (take (n + 1) ALL) ≡ flat_map f (take n ALL) ++ f (get_or ALL n d)
said-more f n d l =
    ap (flat_map f) (take_more ALL n d l) ∙ flat_map-append f (take n ALL) (get_or ALL n d ∷ [])
    ∙ ap (λ (t : List ℕ). flat_map f (take n ALL) ++ t) (append-nil (f (get_or ALL n d)))

-- what is said of all of them
pub said-all : (f : Verdict → List ℕ) (n : ℕ) → 10 ≤ n → flat_map f (take n ALL) ≡ flat_map f ALL
said-all f n l = ap (flat_map f) (take_all n ALL l)
