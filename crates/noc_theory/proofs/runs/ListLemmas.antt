-- A list whose elements are changed one after another.
use Rattle.std.proofs.Common.{◌≡◌, ℕ, ◌<◌, ◌≤◌, List, length, get_or, map, sym, ◌∙◌, arith}
use Rattle.noc_theory.proofs.Common.{length-map, get_or-map, same_lists, map_indexed, length-map_indexed, get_or-map_indexed}

-- the first i elements of xs are changed by f, which is given the index, and the others are not
pub record IsDoneTo {X : Type 0} (f : ℕ → X → X) (xs ys : List X) (i : ℕ) : Type 0 where
  pub count : length ys ≡ length xs
  pub before : (k : ℕ) (d : X) → k < i → k < length xs → get_or ys k d ≡ f k (get_or xs k d)
  pub behind : (k : ℕ) (d : X) → i ≤ k → get_or ys k d ≡ get_or xs k d

pub done_all : {X : Type 0} (f : ℕ → X → X) (xs ys : List X) → IsDoneTo f xs ys (length xs) → ys ≡ map_indexed f xs
done_all f xs ys done =
    same_lists ys (map_indexed f xs) (done.count ∙ sym (length-map_indexed f xs))
    (λ k d l. done.before k d (omega (arith, done.count)) (omega (arith, done.count)) ∙ sym (get_or-map_indexed f xs k d d (omega (arith, done.count))))

pub done_all-map : {X : Type 0} (f : X → X) (xs ys : List X) → IsDoneTo (λ k x. f x) xs ys (length xs) → ys ≡ map f xs
done_all-map f xs ys done =
    same_lists ys (map f xs) (done.count ∙ sym (length-map xs f))
    (λ k d l. done.before k d (omega (arith, done.count)) (omega (arith, done.count)) ∙ sym (get_or-map f xs k d d (omega (arith, done.count))))
