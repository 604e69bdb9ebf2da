-- A rule has one first fault, and none where it has a relation.
use Rattle.std.proofs.Common.{◌≡◌, ◌≢◌, ℕ, false, List, [], ◌∷◌, length, get_or, Some, None, refl, sym, ap, ◌∙◌, arith, inl, inr}
use Rattle.std.specs.Prelude.{◌⊎◌, All}
use Rattle.std.proofs.lemmas.List.Elements.{All-contains}
use Rattle.std.proofs.lemmas.Bool.{false≢true}
use Rattle.std.proofs.lemmas.Bool.Decides.{nat_tests}
use Rattle.noc_route.specs.Built.{IsFaultless, IsRelationOfRule}
use Rattle.noc_route.specs.Order.{numbers_before, row_numbers, entry_numbers}
use Rattle.noc_route.specs.Relation.{RelationParts, is_right, IsFaultOf, IsFirstRow, IsFirstNoWay, table_rows_of, row_fault}
use Rattle.noc_route.specs.Routes.{Routes}
use Rattle.noc_route.specs.declared.rule.Entry.{Entry}
use Rattle.noc_route.specs.declared.rule.RouteRow.{RouteRow}
use Rattle.noc_route.specs.declared.rule.RouteFault.{RouteFault}
use Rattle.noc_route.specs.declared.rule.RouteFault.TheVariants.{WrongShape, NoLink, NotMinimal, EarlyEject, LateHop, NoWay, Memory}

-- ---- the order of numbers

-- lists of numbers of which neither comes before the other begin alike
begin_alike : (x y : ℕ) (xs ys : List ℕ) → numbers_before (x ∷ xs) (y ∷ ys) ≡ false → numbers_before (y ∷ ys) (x ∷ xs) ≡ false
    → (x ≡ y) × (numbers_before xs ys ≡ false) × (numbers_before ys xs ≡ false)
begin_alike x y xs ys h k = (grind (arith, nat_tests), grind (arith, nat_tests), grind (arith, nat_tests))

-- they are the same, if they are equally long
pub one_place : (xs ys : List ℕ) → length xs ≡ length ys → numbers_before xs ys ≡ false → numbers_before ys xs ≡ false → xs ≡ ys
one_place [] [] e h k = refl
one_place [] (y ∷ ys) e h k = absurd (omega (arith, e))
one_place (x ∷ xs) [] e h k = absurd (omega (arith, e))
one_place (x ∷ xs) (y ∷ ys) e h k =
    let a = begin_alike x y xs ys h k in
    let rest = one_place xs ys (omega (arith, e)) a.1 a.2 in
    λ i. a.0 i ∷ rest i

-- the row and the entry with these numbers
row_with : List ℕ → RouteRow
row_with ns = record { class = get_or ns 0 0; router = get_or ns 1 0; in_port = get_or ns 2 0; in_vc = get_or ns 3 0; dst = get_or ns 4 0; out_port = get_or ns 5 0; out_vc = get_or ns 6 0 }

entry_with : List ℕ → Entry
entry_with ns = record { class = get_or ns 0 0; router = get_or ns 1 0; in_port = get_or ns 2 0; in_vc = get_or ns 3 0; dst = get_or ns 4 0 }

-- of two rows, or entries, that are not the same one comes first
pub one_row : (x y : RouteRow) → numbers_before (row_numbers x) (row_numbers y) ≡ false → numbers_before (row_numbers y) (row_numbers x) ≡ false → x ≡ y
unfolding row_with
one_row x y h k = ap row_with (one_place (row_numbers x) (row_numbers y) refl h k)

pub one_entry : (x y : Entry) → numbers_before (entry_numbers x) (entry_numbers y) ≡ false → numbers_before (entry_numbers y) (entry_numbers x) ≡ false → x ≡ y
unfolding entry_with
one_entry x y h k = ap entry_with (one_place (entry_numbers x) (entry_numbers y) refl h k)

-- ---- faults

-- what a fault other than of memory says of a rule
data Says (g : RelationParts) (f : RouteFault) : Type 0 where
  wrong : f ≡ WrongShape → is_right g.grid g.vcs g.classes g.rule ≡ false → Says g f
  bad : IsFirstRow g f → Says g f
  no_way : {e : Entry} → f ≡ NoWay e → IsFirstNoWay g e → Says g f

says : (g : RelationParts) (f : RouteFault) → IsFaultOf g f → (f ≡ Memory) ⊎ Says g f
says g WrongShape h = inr (wrong refl h)
says g (NoLink row) h = inr (bad h)
says g (NotMinimal row) h = inr (bad h)
says g (EarlyEject row) h = inr (bad h)
says g (LateHop row) h = inr (bad h)
says g (NoWay e) h = inr (no_way refl h)
says g Memory h = inl refl

-- a bad row is not among rows that are all good
no_bad : (g : RelationParts) (f : RouteFault) → All (λ row. row_fault g.grid g.vcs g.classes row ≡ None) (table_rows_of g.rule) → IsFirstRow g f → ⊥
no_bad g f good h =
    let none : row_fault g.grid g.vcs g.classes h.first.row ≡ None = All-contains (λ row. row_fault g.grid g.vcs g.classes row ≡ None) (table_rows_of g.rule) h.first.row good h.first.there in
    let some = h.first.faulty in
    cc

faultless : (g : RelationParts) (f : RouteFault) → IsFaultless g → Says g f → ⊥
faultless g f good (wrong e h) = false≢true (sym h ∙ good.right)
faultless g f good (bad h) = no_bad g f good.rows h
faultless g f good (no_way {e = e} is h) = good.ways e h.here

pub only-memory : (g : RelationParts) (routes : Routes) (f : RouteFault) → IsRelationOfRule g routes → IsFaultOf g f → f ≡ Memory
only-memory g routes f good h =
    elim (says g f h) [
      | inl e ↦ e
      | inr s ↦ absurd (faultless g f good.faultless s)
    ]

-- no bad row comes before this one
abbrev IsAfter : RelationParts → RouteRow → RouteRow → Type 0
IsAfter g first row = (row_fault g.grid g.vcs g.classes row ≡ None) ⊎ (numbers_before (row_numbers row) (row_numbers first) ≡ false)

-- a bad row does not come before the first
after_first : (g : RelationParts) (f k : RouteFault) (a : IsFirstRow g f) (b : IsFirstRow g k) → numbers_before (row_numbers b.first.row) (row_numbers a.first.row) ≡ false
after_first g f k a b = at (All-contains (IsAfter g a.first.row) (table_rows_of g.rule) b.first.row a.first.first b.first.there)
  where
    at : IsAfter g a.first.row b.first.row → numbers_before (row_numbers b.first.row) (row_numbers a.first.row) ≡ false
    at (inl none) = (let some = b.first.faulty in cc)
    at (inr after) = after

one_says : (g : RelationParts) (f k : RouteFault) → Says g f → Says g k → f ≡ k
one_says g f k (wrong e h) (wrong d u) = e ∙ sym d
one_says g f k (wrong e h) (bad u) = absurd (false≢true (sym h ∙ u.right))
one_says g f k (wrong e h) (no_way d u) = absurd (false≢true (sym h ∙ u.right))
one_says g f k (bad h) (wrong d u) = absurd (false≢true (sym u ∙ h.right))
one_says g f k (bad h) (bad u) =
    let rows : h.first.row ≡ u.first.row = one_row h.first.row u.first.row (after_first g k f u h) (after_first g f k h u) in
    let both : Some f ≡ Some k = sym h.first.faulty ∙ ap (row_fault g.grid g.vcs g.classes) rows ∙ u.first.faulty in
    cc
one_says g f k (bad h) (no_way d u) = absurd (no_bad g f u.rows h)
one_says g f k (no_way e h) (wrong d u) = absurd (false≢true (sym u ∙ h.right))
one_says g f k (no_way e h) (bad u) = absurd (no_bad g k h.rows u)
one_says g f k (no_way {e = x} e h) (no_way {e = y} d u) = e ∙ ap NoWay (one_entry x y (u.first x h.here) (h.first y u.here)) ∙ sym d

pub one-fault : (g : RelationParts) (f k : RouteFault) → f ≢ Memory → k ≢ Memory → IsFaultOf g f → IsFaultOf g k → f ≡ k
one-fault g f k p q h u = at (says g f h) (says g k u)
  where
    at : (f ≡ Memory) ⊎ Says g f → (k ≡ Memory) ⊎ Says g k → f ≡ k
    at (inl e) _ = absurd (p e)
    at (inr a) (inl e) = absurd (q e)
    at (inr a) (inr b) = one_says g f k a b
