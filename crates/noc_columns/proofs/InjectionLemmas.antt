-- What the source of a router injects.
use Rattle.std.proofs.Common.{◌≡◌, ◌⊎◌, ℕ, ◌+◌, ◌*◌, ◌<◌, ◌≤◌, Bool, true, false, List, arith, ap, ap₂, sym, ◌∙◌, refl, inl, inr, bit_and, bit_or}
use Rattle.std.specs.Prelude.{◌&&◌, not, nat_eq, nat_lt, if◌then◌else◌}
use Rattle.std.proofs.lemmas.Bool.{cases_lt, le-ltb}
use Rattle.noc_packet.specs.Set.{has_bit}
use Rattle.noc_packet.proofs.SetLemmas.{both_members, has_bit-zero}
use Rattle.noc_sets.specs.Planes.{any_from, wrong_from}
use Rattle.noc_sets.specs.Sets.{less, lowest}
use Rattle.noc_sets.specs.Unions.{some_below, union_from}
use Rattle.noc_sets.proofs.MemberLemmas.{and-false, and-true, less_members, not-not, same-word}
use Rattle.noc_columns.specs.Picks.{port_at}
use Rattle.noc_columns.specs.Planes.{list_of, planes_by}
use Rattle.noc_columns.specs.Words.{Numbering, all_of, set_alike, set_below, set_by, set_of, word}
use Rattle.noc_columns.specs.declared.channels.Inputs.{Inputs}
use Rattle.noc_columns.specs.declared.planes.Planes.{Planes}
use Rattle.noc_columns.specs.declared.ports.Ports.{Ports}
use Rattle.noc_columns.proofs.PassLemmas.{some-same}
use Rattle.noc_columns.proofs.PickLemmas.{below-some, chain-lowest, find-first, none-each, some-asks, some-each, union-members}
use Rattle.noc_columns.proofs.PlaneLemmas.{any_term, leaves, likes, value-any, value-leaves, value-likes, value-wrong, wrong_term}
use Rattle.noc_columns.proofs.SetLemmas.{Term, alike, below-members, below-same, both, by-term, either, leaf, none, sets-are, value, without}

-- where one passes, one is the first
first-exists : (n : ℕ) (test : ℕ → Bool) → some_below n test ≡ some_below n (λ c. test c && not (some_below c test))
first-exists n test = elim (find-first n test) [
  | inl free ↦ some-same n test _ (λ k l. none-each n test free k l ∙ sym (ap (λ b. b && not (some_below k test)) (none-each n test free k l)))
  | inr found ↦
      some-each n test found.0 found.1 found.2
      ∙ sym (some-each n (λ c. test c && not (some_below c test)) found.0 found.1 (ap₂ (λ a b. a && not b) found.2 found.3))
]

-- the routers in which a packet may begin in a channel
abbrev pub free_word : Bool → Inputs (List ℕ) → ℕ → ℕ → ℕ
free_word deep inputs starts index = less starts (bit_or (bit_or (word index inputs.waiting) (word index inputs.active)) (any_from 0 (list_of deep (planes_by (word index) inputs.len))))

-- the routers in which a flit is injected into a channel
abbrev pub room_word : Bool → Planes ℕ → Inputs (List ℕ) → List ℕ → ℕ → ℕ
room_word deep places inputs injecting index = bit_and (word index injecting) (wrong_from 0 (list_of deep (planes_by (word index) inputs.len)) (list_of deep places))

module _ (deep : Bool) (places : Planes ℕ) (inputs : Inputs (List ℕ)) (injecting : List ℕ) where
  room-term : Term
  room-term = both (leaf injecting) (wrong_term none (leaves deep inputs.len) (likes deep places))

  value-room : (of : List ℕ → ℕ) (one : ℕ → ℕ) → value of one room-term ≡ bit_and (of injecting) (wrong_from 0 (list_of deep (planes_by of inputs.len)) (list_of deep (planes_by one places)))
  unfolding room-term
  value-room of one =
      ap (bit_and (of injecting))
      (value-wrong of one none (leaves deep inputs.len) (likes deep places) ∙ ap₂ (wrong_from 0) (value-leaves of one deep inputs.len) (value-likes of one deep places))

  pub went-is : (n : Numbering) (r : ℕ) (went : List ℕ)
      → ((c : ℕ) → c < n.size → word (n.index c) went ≡ bit_and (word (n.index c) injecting) (wrong_from 0 (list_of deep (planes_by (word (n.index c)) inputs.len)) (list_of deep places)))
      → set_of n r went ≡ bit_and (set_of n r injecting) (wrong_from 0 (list_of deep (planes_by (set_of n r) inputs.len)) (list_of deep (planes_by (set_alike n r) places)))
  went-is n r went is =
      sets-are n r room-term went (λ c l. is c l ∙ sym (value-room (word (n.index c)) (λ w. w)))
      ∙ value-room (set_of n r) (set_alike n r)

module _ (deep : Bool) (inputs : Inputs (List ℕ)) where
  free-term : ℕ → Term
  free-term starts = without (alike starts) (either (either (leaf inputs.waiting) (leaf inputs.active)) (any_term none (leaves deep inputs.len)))

  value-free : (starts : ℕ) (of : List ℕ → ℕ) (one : ℕ → ℕ) → value of one (free-term starts) ≡ less (one starts) (bit_or (bit_or (of inputs.waiting) (of inputs.active)) (any_from 0 (list_of deep (planes_by of inputs.len))))
  unfolding free-term
  value-free starts of one = ap (λ x. less (one starts) (bit_or (bit_or (of inputs.waiting) (of inputs.active)) x)) (value-any of one none (leaves deep inputs.len) ∙ ap (any_from 0) (value-leaves of one deep inputs.len))

  free-sets : (n : Numbering) (r starts : ℕ) → set_by n r (free_word deep inputs starts) ≡ less (set_alike n r starts) (bit_or (bit_or (set_of n r inputs.waiting) (set_of n r inputs.active)) (any_from 0 (list_of deep (planes_by (set_of n r) inputs.len))))
  free-sets n r starts =
      below-same n.size _ _ (λ k l. ap (λ w. has_bit w r) (sym (value-free starts (word (n.index k)) (λ w. w))))
      ∙ by-term n r (free-term starts)
      ∙ value-free starts (set_of n r) (set_alike n r)

  -- a packet begins in the first channel that is free
  begins-chain : (n : Numbering) (r starts : ℕ) (begun : List ℕ)
      → ((c : ℕ) → c < n.size → word (n.index c) begun ≡ less (free_word deep inputs starts (n.index c)) (union_from 0 c (λ k. free_word deep inputs starts (n.index k))))
      → set_of n r begun ≡ set_below n.size (λ c. has_bit (free_word deep inputs starts (n.index c)) r && not (some_below c (λ k. has_bit (free_word deep inputs starts (n.index k)) r)))
  begins-chain n r starts begun is = below-same n.size _ _ (λ c l.
      ap (λ w. has_bit w r) (is c l)
      ∙ less_members (free_word deep inputs starts (n.index c)) _ r
      ∙ ap (λ b. has_bit (free_word deep inputs starts (n.index c)) r && not b) (union-members c (λ k. free_word deep inputs starts (n.index k)) r))

  pub begun-is : (n : Numbering) (r starts : ℕ) (begun : List ℕ)
      → ((c : ℕ) → c < n.size → word (n.index c) begun ≡ less (free_word deep inputs starts (n.index c)) (union_from 0 c (λ k. free_word deep inputs starts (n.index k))))
      → set_of n r begun ≡ lowest (less (set_alike n r starts) (bit_or (bit_or (set_of n r inputs.waiting) (set_of n r inputs.active)) (any_from 0 (list_of deep (planes_by (set_of n r) inputs.len)))))
  begun-is n r starts begun is =
      begins-chain n r starts begun is
      ∙ chain-lowest n.size (λ c. has_bit (free_word deep inputs starts (n.index c)) r)
      ∙ ap lowest (free-sets n r starts)

  pub some-begun : (n : Numbering) (r starts : ℕ) (begun : List ℕ)
      → ((c : ℕ) → c < n.size → word (n.index c) begun ≡ less (free_word deep inputs starts (n.index c)) (union_from 0 c (λ k. free_word deep inputs starts (n.index k))))
      → has_bit (union_from 0 n.size (λ k. free_word deep inputs starts (n.index k))) r ≡ not (nat_eq (set_of n r begun) 0)
  some-begun n r starts begun is =
      let test = λ (c : ℕ). has_bit (free_word deep inputs starts (n.index c)) r in
      let chain = λ (c : ℕ). test c && not (some_below c test) in
      union-members n.size (λ k. free_word deep inputs starts (n.index k)) r
      ∙ first-exists n.size test
      ∙ sym (ap not (below-some n.size chain) ∙ not-not (some_below n.size chain))
      ∙ ap (λ s. not (nat_eq s 0)) (sym (begins-chain n r starts begun is))

-- all of them, or none
pub alike-is : (n : Numbering) (r starts : ℕ) (b : Bool) → has_bit starts r ≡ b → set_alike n r starts ≡ (if b then all_of n else 0)
alike-is n r starts true e = below-same n.size _ _ (λ k l. e)
alike-is n r starts false e = same-word _ 0 (λ k. below-members n.size (λ c. has_bit starts r) k ∙ ap (λ b. nat_lt k n.size && b) e ∙ and-false (nat_lt k n.size) ∙ sym (has_bit-zero k))

pub begins-is : (n : Numbering) (r starts rest : ℕ) (b : Bool) → has_bit starts r ≡ b → less (set_alike n r starts) rest ≡ (if b then less (all_of n) rest else 0)
begins-is n r starts rest true e = ap (λ a. less a rest) (alike-is n r starts true e)
begins-is n r starts rest false e = ap (λ a. less a rest) (alike-is n r starts false e) ∙ same-word _ 0 (λ k. less_members 0 rest k ∙ ap (λ b. b && not (has_bit rest k)) (has_bit-zero k) ∙ sym (has_bit-zero k))

pub starts-is : (n : Numbering) (r due busy : ℕ) (injecting : List ℕ) (b : Bool) → has_bit due r ≡ b
    → has_bit busy r ≡ some_below n.size (λ c. has_bit (word (n.index c) injecting) r)
    → has_bit (less due busy) r ≡ (b && nat_eq (set_of n r injecting) 0)
starts-is n r due busy injecting b e f =
    less_members due busy r
    ∙ ap₂ (λ x y. x && not y) e (f ∙ some-asks n r injecting)
    ∙ ap (λ x. b && x) (not-not (nat_eq (set_of n r injecting) 0))

-- ---- what is injected comes
pub side-index : (local : Ports) (k : ℕ) → local.width ≡ 1 → (port_at local 0).index k ≡ local.first + k
side-index local k one = let f : k * local.width ≡ k * 1 = ap (λ w. k * w) one in omega (arith, f)

-- the tails, where all that comes to a router is one, or nothing
pub tails-are : (n : Numbering) (r last : ℕ) (flits tails : List ℕ) → ((c : ℕ) → c < n.size → word (n.index c) tails ≡ bit_and (word (n.index c) flits) last)
    → set_of n r tails ≡ (if has_bit last r then set_of n r flits else 0)
tails-are n r last flits tails is = at (has_bit last r) refl
  where
    here : (c : ℕ) (b : Bool) → c < n.size → has_bit last r ≡ b → has_bit (word (n.index c) tails) r ≡ (has_bit (word (n.index c) flits) r && b)
    here c b l e = ap (λ w. has_bit w r) (is c l) ∙ both_members (word (n.index c) flits) last r ∙ ap (λ x. has_bit (word (n.index c) flits) r && x) e

    at : (b : Bool) → has_bit last r ≡ b → set_of n r tails ≡ (if b then set_of n r flits else 0)
    at true e = below-same n.size _ _ (λ k l. here k true l e ∙ and-true (has_bit (word (n.index k) flits) r))
    at false e = same-word _ 0 (λ k. below-members n.size (λ c. has_bit (word (n.index c) tails) r) k ∙ none k (cases_lt k n.size) ∙ sym (has_bit-zero k))
      where
        none : (k : ℕ) → (k < n.size) ⊎ (n.size ≤ k) → (nat_lt k n.size && has_bit (word (n.index k) tails) r) ≡ false
        none k (inl l) = ap (λ b. nat_lt k n.size && b) (here k false l e ∙ and-false (has_bit (word (n.index k) flits) r)) ∙ and-false (nat_lt k n.size)
        none k (inr l) = ap (λ b. b && has_bit (word (n.index k) tails) r) (le-ltb k n.size l)
