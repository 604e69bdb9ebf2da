-- What counts say of one channel, bit by bit, they say of another with the same bits.
use Rattle.std.proofs.Common.{◌≡◌, ℕ, Bool, true, false, List, [], ◌∷◌, refl, ap₂, sym, ◌∙◌, bit_or, bit_xor}
use Rattle.std.specs.Prelude.{◌||◌}
use Rattle.noc_sets.specs.Sets.{differ}
use Rattle.noc_sets.proofs.MemberLemmas.{xor_members}
use Rattle.noc_cycles.proofs.Common.{has_bit, either_members, any_from, wrong_from, list_of, planes_by, Planes}

-- bit x of these planes is bit y of those
abbrev pub AreAt : ℕ → ℕ → List ℕ → List ℕ → Type 0
AreAt x y [] [] = Unit {0}
AreAt x y [] (q ∷ qs) = ⊥
AreAt x y (p ∷ ps) [] = ⊥
AreAt x y (p ∷ ps) (q ∷ qs) = (has_bit p x ≡ has_bit q y) × AreAt x y ps qs

pub planes-at : {A : Type 0} (deep : Bool) (planes : Planes A) (f g : A → ℕ) (x y : ℕ) → ((w : A) → has_bit (f w) x ≡ has_bit (g w) y)
    → AreAt x y (list_of deep (planes_by f planes)) (list_of deep (planes_by g planes))
planes-at true planes f g x y same = (same planes.ones, (same planes.twos, (same planes.fours, (same planes.eights, (same planes.sixteens, tt)))))
planes-at false planes f g x y same = (same planes.ones, (same planes.twos, (same planes.fours, tt)))

pub any-at : (x y : ℕ) (ps qs : List ℕ) (a b : ℕ) → AreAt x y ps qs → has_bit a x ≡ has_bit b y → has_bit (any_from a ps) x ≡ has_bit (any_from b qs) y
any-at x y [] [] a b are e = e
any-at x y [] (q ∷ qs) a b are e = absurd are
any-at x y (p ∷ ps) [] a b are e = absurd are
any-at x y (p ∷ ps) (q ∷ qs) a b are e =
    any-at x y ps qs (bit_or a p) (bit_or b q) are.1 (either_members a p x ∙ ap₂ (λ s t. s || t) e are.0 ∙ sym (either_members b q y))

pub wrong-at : (x y : ℕ) (ps qs os us : List ℕ) (a b : ℕ) → AreAt x y ps qs → AreAt x y os us → has_bit a x ≡ has_bit b y → has_bit (wrong_from a ps os) x ≡ has_bit (wrong_from b qs us) y
wrong-at x y [] [] os us a b are also e = e
wrong-at x y [] (q ∷ qs) os us a b are also e = absurd are
wrong-at x y (p ∷ ps) [] os us a b are also e = absurd are
wrong-at x y (p ∷ ps) (q ∷ qs) [] [] a b are also e = e
wrong-at x y (p ∷ ps) (q ∷ qs) [] (u ∷ us) a b are also e = absurd also
wrong-at x y (p ∷ ps) (q ∷ qs) (o ∷ os) [] a b are also e = absurd also
wrong-at x y (p ∷ ps) (q ∷ qs) (o ∷ os) (u ∷ us) a b are also e =
    wrong-at x y ps qs os us (bit_or a (bit_xor p o)) (bit_or b (bit_xor q u)) are.1 also.1
    (either_members a (bit_xor p o) x
    ∙ ap₂ (λ s t. s || t) e (xor_members p o x ∙ ap₂ differ are.0 also.0 ∙ sym (xor_members q u y))
    ∙ sym (either_members b (bit_xor q u) y))

pub same-at : (x : ℕ) (ps : List ℕ) → AreAt x x ps ps
same-at x [] = tt
same-at x (p ∷ ps) = (refl, same-at x ps)
