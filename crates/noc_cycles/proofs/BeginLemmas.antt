-- The numbers of packets that begin are written.
use Rattle.std.proofs.Common.{◌≡◌, ◌≢◌, ℕ, suc, ◌+◌, ◌-◌, ◌*◌, ◌^◌, ◌<◌, ◌≤◌, Bool, true, false, List, [], length, arith, refl, ap, ap₂, sym, ◌∙◌, inl, inr, set, get_or-set_same, get_or-set_other}
use Rattle.std.specs.Prelude.{◌⊎◌, ◌&&◌, ◌||◌, nat_eq, if◌then◌else◌}
use Rattle.noc_sets.proofs.MemberLemmas.{and-false, power-members}
use Rattle.noc_cycles.proofs.Common.{cases_eq, cases_lt, eq-eqb, ne_eqb, has_bit, either_members, has_bit-zero, up_by, up_members, up_none, packet_in, set_below, word}

-- the row of one router
pub row-here : (packets : List (List ℕ)) (row : List ℕ) (t k : ℕ) → t < length packets → packet_in (set packets t row) t k ≡ word k row
row-here packets row t k within = ap (word k) (get_or-set_same packets t row [] within)

pub row-other : (packets : List (List ℕ)) (row : List ℕ) (t r k : ℕ) → r ≢ t → packet_in (set packets t row) r k ≡ packet_in packets r k
row-other packets row t r k other = ap (word k) (get_or-set_other packets t r row [] other)

pub both-tests : (a b : Bool) (x y : ℕ) → (if a then (if b then x else y) else y) ≡ (if a && b then x else y)
both-tests true b x y = refl
both-tests false b x y = refl

-- ---- of the local channels, one more
one-members : (b : Bool) (n k : ℕ) → has_bit (if b then 2 ^ n else 0) k ≡ (b && nat_eq k n)
one-members true n k = power-members n k
one-members false n k = has_bit-zero k

pub up-next : (links v : ℕ) (test : ℕ → Bool) (k : ℕ) → has_bit (up_by (set_below (v + 1) test) links) k ≡ ((test v && nat_eq k (links + v)) || has_bit (up_by (set_below v test) links) k)
up-next links v test k = (let e : v + 1 ≡ suc v = omega arith in ap (λ n. has_bit (up_by (set_below n test) links) k) e) ∙ at (cases_lt k links)
  where
    turn : (a b : Bool) → (a || b) ≡ (b || a)
    turn true true = refl
    turn true false = refl
    turn false true = refl
    turn false false = refl

    moved : links ≤ k → nat_eq (k - links) v ≡ nat_eq k (links + v)
    moved m = elim (cases_eq k (links + v)) [
      | inl same ↦ eq-eqb (k - links) v (omega (arith, same)) ∙ sym (eq-eqb k (links + v) same)
      | inr other ↦ ne_eqb (k - links) v (λ e. other (omega (arith, e, m))) ∙ sym (ne_eqb k (links + v) other)
    ]

    at : (k < links) ⊎ (links ≤ k) → has_bit (up_by (set_below (suc v) test) links) k ≡ ((test v && nat_eq k (links + v)) || has_bit (up_by (set_below v test) links) k)
    at (inl l) =
        up_none (set_below (suc v) test) links k l
        ∙ sym (ap₂ (λ a b. (test v && a) || b) (ne_eqb k (links + v) (omega (arith, l))) (up_none (set_below v test) links k l) ∙ ap (λ b. b || false) (and-false (test v)))
    at (inr m) =
        up_members (set_below (suc v) test) links k m
        ∙ either_members (set_below v test) (if test v then 2 ^ v else 0) (k - links)
        ∙ turn (has_bit (set_below v test) (k - links)) (has_bit (if test v then 2 ^ v else 0) (k - links))
        ∙ ap₂ (λ a b. a || b) (one-members (test v) v (k - links) ∙ ap (λ b. test v && b) (moved m)) (sym (up_members (set_below v test) links k m))

-- .. the number of its packet is written
pub begun-next : (a b : Bool) (x y : ℕ) (now : ℕ) → now ≡ (if b then x else y) → (if a then x else now) ≡ (if a || b then x else y)
begun-next true b x y now e = refl
begun-next false b x y now e = e

pub none-up : (links : ℕ) (test : ℕ → Bool) (k : ℕ) → has_bit (up_by (set_below 0 test) links) k ≡ false
none-up links test k = (let e : 0 * 2 ^ links ≡ 0 = omega arith in ap (λ w. has_bit w k) e) ∙ has_bit-zero k
