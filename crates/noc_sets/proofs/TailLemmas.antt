-- Consecutive flits of one packet: where a tail can be among them.
use Rattle.std.proofs.Common.{◌≡◌, suc, Bool, true, false, List, [], ◌∷◌, ◌++◌, length, Option, Some, None, refl, ap, sym, ◌∙◌, arith}
use Rattle.std.specs.Prelude.{◌&&◌, ◌||◌, drop, nat_eq, not, slice_get}
use Rattle.std.proofs.lemmas.Bool.{ne_eqb}
use Rattle.noc_packet.specs.declared.packet.Flit.{Flit}
use Rattle.noc_view.specs.View.{is_tail}
use Rattle.noc_sets.specs.Taken.{with_one}
use Rattle.noc_sets.specs.Ended.{AreConsecutive, holds_tail}
use Rattle.noc_sets.proofs.MemberLemmas.{and-false, and-true, or-false}

-- the first of them is the tail only where it is the only one
pub tail-first : (flits : List Flit) → AreConsecutive flits → is_tail (slice_get flits 0) ≡ (holds_tail flits && nat_eq (length flits) 1)
tail-first [] are = refl
tail-first (f ∷ []) are = by f.last
  where
    by : (b : Bool) → b ≡ ((b || false) && true)
    by true = refl
    by false = refl
tail-first (f ∷ g ∷ rest) are =
    are.0.inner ∙ sym (ap (λ b. holds_tail (f ∷ g ∷ rest) && b) (ne_eqb (suc (suc (length rest))) 1 (λ e. absurd (omega (arith, e)))) ∙ and-false (holds_tail (f ∷ g ∷ rest)))

-- one flit more
pub tail-joined : (flits : List Flit) (one : Option Flit) → holds_tail (with_one flits one) ≡ (holds_tail flits || is_tail one)
tail-joined flits None = sym (or-false (holds_tail flits))
tail-joined flits (Some f) = behind flits
  where
    or-assoc : (a b c : Bool) → (a || (b || c)) ≡ ((a || b) || c)
    or-assoc true b c = refl
    or-assoc false b c = refl

    behind : (fs : List Flit) → holds_tail (fs ++ f ∷ []) ≡ (holds_tail fs || f.last)
    behind [] = or-false f.last
    behind (g ∷ gs) = ap (λ b. g.last || b) (behind gs) ∙ or-assoc g.last (holds_tail gs) f.last

-- one flit less: a tail in front is gone, and none behind
pub tail-left : (flits : List Flit) → AreConsecutive flits → holds_tail (drop 1 flits) ≡ (holds_tail flits && not (is_tail (slice_get flits 0)))
tail-left [] are = refl
tail-left (f ∷ []) are = by f.last
  where
    by : (b : Bool) → false ≡ ((b || false) && not b)
    by true = refl
    by false = refl
tail-left (f ∷ g ∷ rest) are = sym (ap (λ b. (b || holds_tail (g ∷ rest)) && not b) are.0.inner ∙ and-true (holds_tail (g ∷ rest)))
