-- The channels and the places of a pattern, as a router sees them.
use Rattle.std.proofs.Common.{◌≡◌, ℕ, ◌+◌, ◌-◌, ◌*◌, ◌/◌, ◌%◌, ◌^◌, ◌<◌, ◌≤◌, Bool, true, false, refl, ap, ap₂, sym, ◌∙◌, subst, arith, inl, inr, length, mul-le-mul_right}
use Rattle.std.specs.Prelude.{◌⊎◌, ◌&&◌, ◌||◌, nat_eq, nat_le, nat_lt, bit_or, if◌then◌else◌}
use Rattle.std.proofs.Math.Nat.{mul-le-mul}
use Rattle.std.proofs.lemmas.Bool.{le-leb, lt-leb}
use Rattle.noc_topo.specs.Lists.{one_if}
use Rattle.noc_sets.specs.Planes.{ArePlanes, plane_number}
use Rattle.noc_sets.proofs.MemberLemmas.{and-true, ones-members}
use Rattle.noc_cycles.proofs.Common.{pow_mono, cases_eq, cases_lt, eq-eqb, le-ltb, lt-ltb, ne_eqb, has_bit, either_members, has_bit-zero, Layout, up_by, same-word, up_members, up_none, channels_of, list_of, planes_by, Numbering, all_of, set_alike, set_below, Planes, below-fits, below-members, FitsLayout, Pattern}
use Rattle.noc_cycles.specs.Alike.{all_if, same_count}
use Rattle.noc_cycles.specs.Taking.{links_count}

-- how many bits a count has
abbrev bits_if : Bool → ℕ
bits_if deep = if deep then 5 else 3

-- ---- a count that is the same in all routers
all-bit : (b : Bool) (r : ℕ) → r < 64 → has_bit (all_if b) r ≡ b
all-bit true r few = ones-members 64 r ∙ lt-ltb r 64 few
all-bit false r few = has_bit-zero r

odd-is : (m : ℕ) → one_if (nat_eq (m % 2) 1) ≡ m % 2
odd-is m = elim (cases_eq (m % 2) 1) [
  | inl e ↦ ap one_if (eq-eqb (m % 2) 1 e) ∙ sym e
  | inr o ↦ ap one_if (ne_eqb (m % 2) 1 o) ∙ omega (arith, o)
]

odd-bit : (m r : ℕ) → r < 64 → one_if (has_bit (all_if (nat_eq (m % 2) 1)) r) ≡ m % 2
odd-bit m r few = ap one_if (all-bit (nat_eq (m % 2) 1) r few) ∙ odd-is m

same-number : (deep : Bool) (count r : ℕ) → count < 2 ^ bits_if deep → r < 64 → plane_number (list_of deep (same_count count)) r ≡ count
same-number true m r l few =
    let a = odd-bit m r few in let b = odd-bit (m / 2) r few in let c = odd-bit (m / 4) r few in let d = odd-bit (m / 8) r few in let e = odd-bit (m / 16) r few in
    omega (arith, a, b, c, d, e, l)
same-number false m r l few = let a = odd-bit m r few in let b = odd-bit (m / 2) r few in let c = odd-bit (m / 4) r few in omega (arith, a, b, c, l)

-- as many bits as a number needs are enough for it
enough-bits : (deep : Bool) (count : ℕ) → count < 2 ^ 5 → deep ≡ nat_lt 7 count → count < 2 ^ bits_if deep
enough-bits deep count few e = subst (λ d. count < 2 ^ bits_if d) (sym e) (at (cases_lt 7 count))
  where
    at : (7 < count) ⊎ (count ≤ 7) → count < 2 ^ bits_if (nat_lt 7 count)
    at (inl l) = subst (λ d. count < 2 ^ bits_if d) (sym (lt-ltb 7 count l)) few
    at (inr l) = subst (λ d. count < 2 ^ bits_if d) (sym (le-ltb 7 count l)) (omega (arith, l))

pub places-are : (deep : Bool) (places : Planes ℕ) (count r : ℕ) → count < 2 ^ 5 → deep ≡ nat_lt 7 count → places ≡ same_count count → r < 64 → plane_number (list_of deep places) r ≡ count
places-are deep places count r room is same few =
    ap (λ (p : Planes ℕ). plane_number (list_of deep p) r) same ∙ same-number deep count r (enough-bits deep count room is) few

-- ---- the same count of each channel, as a router sees it
pub alike-bit : (n : Numbering) (word r x : ℕ) → x < n.size → has_bit (set_alike n r word) x ≡ has_bit word r
alike-bit n word r x l = below-members n.size (λ c. has_bit word r) x ∙ ap (λ b. b && has_bit word r) (lt-ltb x n.size l)

pub alike-number : (n : Numbering) (deep : Bool) (places : Planes ℕ) (r x : ℕ) → x < n.size
    → plane_number (list_of deep (planes_by (set_alike n r) places)) x ≡ plane_number (list_of deep places) r
alike-number n true p r x l =
    let a = bit p.ones in let b = bit p.twos in let c = bit p.fours in let d = bit p.eights in let e = bit p.sixteens in
    omega (arith, a, b, c, d, e)
  where
    bit : (w : ℕ) → one_if (has_bit (set_alike n r w) x) ≡ one_if (has_bit w r)
    bit w = ap one_if (alike-bit n w r x l)
alike-number n false p r x l = let a = bit p.ones in let b = bit p.twos in let c = bit p.fours in omega (arith, a, b, c)
  where
    bit : (w : ℕ) → one_if (has_bit (set_alike n r w) x) ≡ one_if (has_bit w r)
    bit w = ap one_if (alike-bit n w r x l)

pub below-whole : (n : ℕ) (test : ℕ → Bool) → n ≤ 64 → set_below n test < 2 ^ 64
below-whole n test few =
    let l = below-fits n test in
    let p : 2 ^ n ≤ 2 ^ 64 = pow_mono {j = 64} few in
    omega (arith, l, p)

pub alike-fit : (n : Numbering) (deep : Bool) (places : Planes ℕ) (r : ℕ) → n.size ≤ 64 → ArePlanes (list_of deep (planes_by (set_alike n r) places))
alike-fit n deep p r few = at deep
  where
    fits : (w : ℕ) → set_alike n r w < 2 ^ 64
    fits w = below-whole n.size (λ c. has_bit w r) few

    at : (deep : Bool) → ArePlanes (list_of deep (planes_by (set_alike n r) p))
    at true = (fits p.ones, (fits p.twos, (fits p.fours, (fits p.eights, (fits p.sixteens, tt)))))
    at false = (fits p.ones, (fits p.twos, (fits p.fours, tt)))

pub list-many : (deep : Bool) (planes others : Planes ℕ) → length (list_of deep planes) ≡ length (list_of deep others)
list-many true planes others = refl
list-many false planes others = refl

-- ---- the channels
pub all-members : (n : ℕ) (k : ℕ) → has_bit (set_below n (λ c. true)) k ≡ nat_lt k n
all-members n k = below-members n (λ c. true) k ∙ and-true (nat_lt k n)

-- those from one on
pub from-members : (n from k : ℕ) → has_bit (up_by (set_below n (λ c. true)) from) k ≡ (nat_le from k && nat_lt k (from + n))
from-members n from k = elim (cases_lt k from) [
  | inl l ↦ up_none (set_below n (λ c. true)) from k l ∙ sym (ap (λ b. b && nat_lt k (from + n)) (lt-leb from k l))
  | inr u ↦
      up_members (set_below n (λ c. true)) from k u ∙ all-members n (k - from) ∙ moved (cases_lt k (from + n)) u
      ∙ sym (ap (λ b. b && nat_lt k (from + n)) (le-leb from k u))
]
  where
    moved : (k < from + n) ⊎ (from + n ≤ k) → from ≤ k → nat_lt (k - from) n ≡ nat_lt k (from + n)
    moved (inl l) u = lt-ltb (k - from) n (omega (arith, l, u)) ∙ sym (lt-ltb k (from + n) l)
    moved (inr m) u = le-ltb (k - from) n (omega (arith, m)) ∙ sym (le-ltb k (from + n) m)

-- all of them are those below one and those from it on
pub all-parts : (n m : ℕ) → set_below (n + m) (λ c. true) ≡ bit_or (set_below n (λ c. true)) (up_by (set_below m (λ c. true)) n)
all-parts n m = same-word _ _ (λ k. all-members (n + m) k ∙ at k (cases_lt k n) (cases_lt k (n + m)) ∙ sym (either_members (set_below n (λ c. true)) (up_by (set_below m (λ c. true)) n) k ∙ ap₂ (λ a b. a || b) (all-members n k) (from-members m n k)))
  where
    at : (k : ℕ) → (k < n) ⊎ (n ≤ k) → (k < n + m) ⊎ (n + m ≤ k) → nat_lt k (n + m) ≡ (nat_lt k n || (nat_le n k && nat_lt k (n + m)))
    at k (inl l) v = lt-ltb k (n + m) (omega (arith, l)) ∙ sym (ap (λ b. b || (nat_le n k && nat_lt k (n + m))) (lt-ltb k n l))
    at k (inr u) v = sym (ap₂ (λ a b. a || (b && nat_lt k (n + m))) (le-ltb k n u) (le-leb n k u))

-- ---- of a pattern
module _ (pattern : Pattern) where
  abbrev pub size_in : ℕ
  size_in = (pattern.table.ports.links.width + 1) * pattern.table.ports.links.vcs

  pub few-channels : size_in ≤ 56
  few-channels =
      let room = pattern.table.ports.room in
      let pairs = pattern.table.ports.pairs in
      let width : pattern.table.ports.links.width + 1 ≤ 7 = omega (arith, room, pairs) in
      let vcs : pattern.table.ports.links.vcs ≤ 8 = pattern.table.ports.few in
      mul-le-mul width vcs

  pub few-links : links_count pattern ≤ 64
  few-links =
      let all = few-channels in
      let part : links_count pattern ≤ size_in = mul-le-mul_right pattern.table.ports.links.vcs (omega arith) in
      omega (arith, all, part)

  pub channels-parts : (layout : Layout) → FitsLayout pattern layout → all_of (channels_of pattern.table.ports) ≡ bit_or layout.links layout.local
  channels-parts layout fits =
      ap (λ n. set_below n (λ c. true)) (let e : size_in ≡ links_count pattern + pattern.table.ports.links.vcs = omega arith in e)
      ∙ all-parts (links_count pattern) pattern.table.ports.links.vcs
      ∙ ap (λ v. bit_or (set_below (links_count pattern) (λ c. true)) (up_by (set_below v (λ c. true)) (links_count pattern))) (sym pattern.table.ports.alike)
      ∙ sym (ap₂ bit_or fits.links fits.local)
