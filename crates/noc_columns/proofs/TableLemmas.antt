-- The channels of a set are put into the words one by one.
use Rattle.std.proofs.Common.{◌≡◌, ℕ, Bool, true, false, Some, ap, ap₂, sym, ◌∙◌, refl, bit_or, ◌^◌}
use Rattle.std.specs.Prelude.{◌&&◌, ◌||◌, not, if◌then◌else◌}
use Rattle.noc_packet.specs.Set.{has_bit, IsLeast}
use Rattle.noc_packet.proofs.SetLemmas.{either_members, has_bit-zero}
use Rattle.noc_sets.specs.Sets.{less, lowest}
use Rattle.noc_sets.proofs.MemberLemmas.{less_members, or-zero, power-members, same-word}
use Rattle.noc_sets.proofs.UnionLemmas.{or-assoc}
use Rattle.noc_columns.proofs.LoopLemmas.{all-done, none-left, not-left}

-- none of a set, and all of it
pub less-self : (set : ℕ) → less set set ≡ 0
less-self set = same-word _ 0 (λ k. less_members set set k ∙ none-left set k ∙ sym (has_bit-zero k))

pub less-none : (set rest : ℕ) → rest ≡ 0 → less set rest ≡ set
less-none set rest none = same-word _ set (λ k. less_members set rest k ∙ all-done set rest k none)

-- two sets one after the other
pub or-joined : (a b d : ℕ) → bit_or (bit_or a b) d ≡ bit_or a (bit_or b d)
or-joined a b d = same-word _ _ (λ k.
    either_members (bit_or a b) d k
    ∙ ap (λ x. x || has_bit d k) (either_members a b k)
    ∙ or-assoc (has_bit a k) (has_bit b k) (has_bit d k)
    ∙ sym (either_members a (bit_or b d) k ∙ ap (λ x. has_bit a k || x) (either_members b d k)))

pub put-none : (old set : ℕ) (b : Bool) → old ≡ (if b then bit_or old (less set set) else old)
put-none old set true = sym (ap (bit_or old) (less-self set) ∙ or-zero old)
put-none old set false = refl

-- the least of those that are left is put
pub put-next : (b : Bool) (now old set rest left t : ℕ) → IsLeast (has_bit rest) (Some t) → ((k : ℕ) → has_bit rest k ≡ true → has_bit set k ≡ true) → left ≡ less rest (lowest rest)
    → now ≡ (if b then bit_or old (less set rest) else old)
    → (if b then bit_or now (2 ^ t) else now) ≡ (if b then bit_or old (less set left) else old)
put-next false now old set rest left t least part left_is is = is
put-next true now old set rest left t least part left_is is =
    ap (λ x. bit_or x (2 ^ t)) is
    ∙ or-joined old (less set rest) (2 ^ t)
    ∙ ap (bit_or old) (same-word _ _ (λ k.
    either_members (less set rest) (2 ^ t) k
    ∙ ap₂ (λ x y. x || y) (less_members set rest k) (power-members t k)
    ∙ sym (not-left set rest t k least part)
    ∙ ap (λ w. has_bit set k && not (has_bit w k)) (sym left_is)
    ∙ sym (less_members set left k)))

pub put-all : (b : Bool) (now old set rest : ℕ) → rest ≡ 0 → now ≡ (if b then bit_or old (less set rest) else old) → now ≡ (if b then bit_or old set else old)
put-all true now old set rest none is = is ∙ ap (bit_or old) (less-none set rest none)
put-all false now old set rest none is = is
