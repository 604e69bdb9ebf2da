-- Counts of a router out of counts of words.
use Rattle.std.proofs.Common.{◌≡◌, ℕ, suc, ◌<◌, Bool, true, false, List, [], ◌∷◌, length, arith, ap, ap₂, sym, ◌∙◌, refl, bit_xor}
use Rattle.std.specs.Prelude.{map}
use Rattle.noc_sets.specs.Planes.{any_from, lowered_by, more_than_one, raised_by, wrong_from}
use Rattle.noc_columns.specs.Planes.{list_of, planes_by}
use Rattle.noc_columns.specs.Words.{Numbering, set_alike, set_of, word}
use Rattle.noc_columns.specs.declared.planes.Planes.{Planes}
use Rattle.noc_columns.proofs.SetLemmas.{Term, leaf, alike, none, both, either, other, without, set_value, sets-are, value, word_value}

abbrev pub raised_terms : List Term → Term → List Term
raised_terms [] set = []
raised_terms (plane ∷ planes) set = other plane set ∷ raised_terms planes (both set plane)

abbrev pub lowered_terms : List Term → Term → List Term
lowered_terms [] set = []
lowered_terms (plane ∷ planes) set = other plane set ∷ lowered_terms planes (without set plane)

abbrev pub any_term : Term → List Term → Term
any_term any [] = any
any_term any (plane ∷ planes) = any_term (either any plane) planes

abbrev pub more_term : List Term → Term
more_term [] = none
more_term (plane ∷ planes) = any_term none planes

abbrev pub wrong_term : Term → List Term → List Term → Term
wrong_term wrong [] others = wrong
wrong_term wrong (plane ∷ planes) [] = wrong
wrong_term wrong (plane ∷ planes) (one ∷ others) = wrong_term (either wrong (other plane one)) planes others

-- the planes of a block, and planes that are the same for all channels
abbrev pub leaves : Bool → Planes (List ℕ) → List Term
leaves deep planes = map leaf (list_of deep planes)

abbrev pub likes : Bool → Planes ℕ → List Term
likes deep planes = map alike (list_of deep planes)

map-list : {A B : Type 0} (f : A → B) (deep : Bool) (planes : Planes A) → map f (list_of deep planes) ≡ list_of deep (planes_by f planes)
map-list f true planes = refl
map-list f false planes = refl

module _ (of : List ℕ → ℕ) (one : ℕ → ℕ) where
  pub value-leaves : (deep : Bool) (planes : Planes (List ℕ)) → map (value of one) (leaves deep planes) ≡ list_of deep (planes_by of planes)
  value-leaves true planes = refl
  value-leaves false planes = refl

  pub value-likes : (deep : Bool) (planes : Planes ℕ) → map (value of one) (likes deep planes) ≡ list_of deep (planes_by one planes)
  value-likes true planes = refl
  value-likes false planes = refl

  pub value-raised : (planes : List Term) (set : Term) → map (value of one) (raised_terms planes set) ≡ raised_by (map (value of one) planes) (value of one set)
  value-raised [] set = refl
  value-raised (plane ∷ planes) set = ap (λ rest. bit_xor (value of one plane) (value of one set) ∷ rest) (value-raised planes (both set plane))

  pub value-lowered : (planes : List Term) (set : Term) → map (value of one) (lowered_terms planes set) ≡ lowered_by (map (value of one) planes) (value of one set)
  value-lowered [] set = refl
  value-lowered (plane ∷ planes) set = ap (λ rest. bit_xor (value of one plane) (value of one set) ∷ rest) (value-lowered planes (without set plane))

  pub value-any : (any : Term) (planes : List Term) → value of one (any_term any planes) ≡ any_from (value of one any) (map (value of one) planes)
  value-any any [] = refl
  value-any any (plane ∷ planes) = value-any (either any plane) planes

  pub value-more : (planes : List Term) → value of one (more_term planes) ≡ more_than_one (map (value of one) planes)
  value-more [] = refl
  value-more (plane ∷ planes) = value-any none planes

  pub value-wrong : (wrong : Term) (planes others : List Term) → value of one (wrong_term wrong planes others) ≡ wrong_from (value of one wrong) (map (value of one) planes) (map (value of one) others)
  value-wrong wrong [] others = refl
  value-wrong wrong (plane ∷ planes) [] = refl
  value-wrong wrong (plane ∷ planes) (by ∷ others) = value-wrong (either wrong (other plane by)) planes others

-- ---- planes that are terms, plane by plane
head-same : {x y : ℕ} {xs ys : List ℕ} → (x ∷ xs) ≡ (y ∷ ys) → x ≡ y
head-same e = ap first e
  where
    first : List ℕ → ℕ
    first [] = 0
    first (x ∷ xs) = x

tail-same : {x y : ℕ} {xs ys : List ℕ} → (x ∷ xs) ≡ (y ∷ ys) → xs ≡ ys
tail-same e = ap rest e
  where
    rest : List ℕ → List ℕ
    rest [] = []
    rest (x ∷ xs) = xs

pub lists-are : (n : Numbering) (r : ℕ) (now : List (List ℕ)) (terms : List Term) → length now ≡ length terms
    → ((c : ℕ) → c < n.size → map (word (n.index c)) now ≡ map (word_value (n.index c)) terms)
    → map (set_of n r) now ≡ map (set_value n r) terms
lists-are n r [] [] e is = refl
lists-are n r [] (t ∷ terms) e is = absurd (omega (arith, e))
lists-are n r (words ∷ now) [] e is = absurd (omega (arith, e))
lists-are n r (words ∷ now) (t ∷ terms) e is = ap₂ (λ x xs. x ∷ xs) (sets-are n r t words (λ c l. head-same (is c l))) (lists-are n r now terms (omega (arith, e)) (λ c l. tail-same (is c l)))

raised-length : (planes : List Term) (set : Term) → length (raised_terms planes set) ≡ length planes
raised-length [] set = refl
raised-length (plane ∷ planes) set = ap suc (raised-length planes (both set plane))

lowered-length : (planes : List Term) (set : Term) → length (lowered_terms planes set) ≡ length planes
lowered-length [] set = refl
lowered-length (plane ∷ planes) set = ap suc (lowered-length planes (without set plane))

list-length : {A B : Type 0} (deep : Bool) (a : Planes A) (b : Planes B) (f : B → Term) → length (list_of deep a) ≡ length (map f (list_of deep b))
list-length true a b f = refl
list-length false a b f = refl

-- counts that are raised channel by channel are raised in each router
module _ (n : Numbering) (r : ℕ) (deep : Bool) (old new : Planes (List ℕ)) (set : Term) where
  pub planes-raised : ((c : ℕ) → c < n.size → list_of deep (planes_by (word (n.index c)) new) ≡ raised_by (list_of deep (planes_by (word (n.index c)) old)) (word_value (n.index c) set))
      → list_of deep (planes_by (set_of n r) new) ≡ raised_by (list_of deep (planes_by (set_of n r) old)) (set_value n r set)
  planes-raised is =
      sym (map-list (set_of n r) deep new)
      ∙ lists-are n r (list_of deep new) (raised_terms (leaves deep old) set) (list-length deep new old leaf ∙ sym (raised-length (leaves deep old) set))
      (λ c l. map-list (word (n.index c)) deep new ∙ is c l ∙ sym (value-raised (word (n.index c)) (λ w. w) (leaves deep old) set ∙ ap (λ ps. raised_by ps (word_value (n.index c) set)) (value-leaves (word (n.index c)) (λ w. w) deep old)))
      ∙ value-raised (set_of n r) (set_alike n r) (leaves deep old) set
      ∙ ap (λ ps. raised_by ps (set_value n r set)) (value-leaves (set_of n r) (set_alike n r) deep old)

  pub planes-lowered : ((c : ℕ) → c < n.size → list_of deep (planes_by (word (n.index c)) new) ≡ lowered_by (list_of deep (planes_by (word (n.index c)) old)) (word_value (n.index c) set))
      → list_of deep (planes_by (set_of n r) new) ≡ lowered_by (list_of deep (planes_by (set_of n r) old)) (set_value n r set)
  planes-lowered is =
      sym (map-list (set_of n r) deep new)
      ∙ lists-are n r (list_of deep new) (lowered_terms (leaves deep old) set) (list-length deep new old leaf ∙ sym (lowered-length (leaves deep old) set))
      (λ c l. map-list (word (n.index c)) deep new ∙ is c l ∙ sym (value-lowered (word (n.index c)) (λ w. w) (leaves deep old) set ∙ ap (λ ps. lowered_by ps (word_value (n.index c) set)) (value-leaves (word (n.index c)) (λ w. w) deep old)))
      ∙ value-lowered (set_of n r) (set_alike n r) (leaves deep old) set
      ∙ ap (λ ps. lowered_by ps (set_value n r set)) (value-leaves (set_of n r) (set_alike n r) deep old)
