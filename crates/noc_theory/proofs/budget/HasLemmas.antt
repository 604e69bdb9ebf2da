-- Members of lists by recursion, and what filters, finds and counts say of them.
use Rattle.std.proofs.Common.{◌≡◌, ℕ, ◌+◌, ◌<◌, ◌≤◌, Bool, true, false, cond, List, [], ◌∷◌, map, Option, Some, None, refl, ap, sym, ◌∙◌, arith, inl, inr}
use Rattle.std.specs.Prelude.{find, nat_le, ◌⊎◌, count_by}
use Rattle.noc_theory.proofs.Common.{leb-true, leb-false, sum_by-cons, Has, least_by, lesser_by}

pub map-has : {X Y : Type 0} (f : X → Y) (y : Y) (xs : List X) → Has y (map f xs) → (x : X) × Has x xs × (y ≡ f x)
map-has f y [] h = absurd h
map-has f y (z ∷ zs) (inl s) = (z, inl refl, s)
map-has f y (z ∷ zs) (inr h) = let r = map-has f y zs h in (r.0, inr r.1, r.2)

neither : (b : Bool) (n : ℕ) → cond b 1 0 + n ≡ 0 → (b ≡ false) × (n ≡ 0)
neither true n e = absurd (omega arith)
neither false n e = (refl, omega arith)

pub none-counted : {X : Type 0} (t : X → Bool) (xs : List X) → count_by t xs ≡ 0 → (x : X) → Has x xs → t x ≡ false
none-counted t [] e x h = absurd h
none-counted t (y ∷ ys) e x (inl s) = ap t s ∙ (neither (t y) (count_by t ys) (sym (sum_by-cons (λ z. cond (t z) 1 0) y ys) ∙ e)).0
none-counted t (y ∷ ys) e x (inr s) = none-counted t ys (neither (t y) (count_by t ys) (sym (sum_by-cons (λ z. cond (t z) 1 0) y ys) ∙ e)).1 x s

pub find-has : {X : Type 0} (t : X → Bool) (xs : List X) (x : X) → find t xs ≡ Some x → Has x xs × (t x ≡ true)
find-has t [] x e = absurd (cc e)
find-has t (y ∷ ys) x e = at (t y) refl (find-has t ys x)
  where
    at : (b : Bool) → t y ≡ b → (find t ys ≡ Some x → Has x ys × (t x ≡ true)) → Has x (y ∷ ys) × (t x ≡ true)
    at true k rest = let s : Some y ≡ Some x = sym (rw k) ∙ e in let yx : y ≡ x = cc in (inl (sym yx), ap t (sym yx) ∙ k)
    at false k rest = let r = rest (sym (rw k) ∙ e) in (inr r.0, r.1)

-- and where a list has an element, it has a least one, no larger
pub least-some : {X : Type 0} (key : X → ℕ) (xs : List X) (x : X) → Has x xs → (y : X) × (least_by key xs ≡ Some y) × (key y ≤ key x)
unfolding least_by
least-some key [] x h = absurd h
least-some {X = X} key (z ∷ zs) x h = at (least_by key zs) refl (least-some key zs x) h
  where
    at : (o : Option X) → least_by key zs ≡ o → (Has x zs → (y : X) × (least_by key zs ≡ Some y) × (key y ≤ key x)) → (x ≡ z) ⊎ Has x zs
        → (y : X) × (Some (lesser_by key z (least_by key zs)) ≡ Some y) × (key y ≤ key x)
    at None e rest (inl s) = (z, rw e, let k : key x ≡ key z = ap key s in omega arith)
    at None e rest (inr s) = let g : None ≡ Some (rest s).0 = sym e ∙ (rest s).1 in absurd (cc g)
    at (Some w) e rest s = two (nat_le (key z) (key w)) refl s
      where
        two : (b : Bool) → nat_le (key z) (key w) ≡ b → (x ≡ z) ⊎ Has x zs → (y : X) × (Some (lesser_by key z (least_by key zs)) ≡ Some y) × (key y ≤ key x)
        two true k (inl s') = (z, rw (e, k), let q : key x ≡ key z = ap key s' in omega arith)
        two true k (inr s') =
            let same : Some w ≡ Some (rest s').0 = sym e ∙ (rest s').1 in
            let kw : key w ≡ key (rest s').0 = ap key (cc same) in
            let le : key z ≤ key w = leb-true (key z) (key w) k in
            let le2 : key (rest s').0 ≤ key x = (rest s').2 in
            (z, rw (e, k), omega arith)
        two false k (inl s') =
            let q : key x ≡ key z = ap key s' in
            let lt : key w < key z = leb-false (key z) (key w) k in
            (w, rw (e, k), omega arith)
        two false k (inr s') =
            let same : Some w ≡ Some (rest s').0 = sym e ∙ (rest s').1 in
            let wr : w ≡ (rest s').0 = cc in
            let le2 : key (rest s').0 ≤ key x = (rest s').2 in
            ((rest s').0, rw (e, k) (ap Some wr), le2)
