-- The sizes of arbiters, and those who have won, who are below them.
use Rattle.std.proofs.Common.{◌≡◌, ℕ, ◌<◌, List, length, get_or, replicate, Option, Some, None, refl, ap, ◌∙◌, arith}
use Rattle.std.specs.Prelude.{IfSome}
use Rattle.std.specs.List.{All}
use Rattle.std.proofs.lemmas.List.{get_or-replicate, length-replicate}
use Rattle.noc_alloc.specs.Arbiter.{RoundRobin, arbiter_at}
use Rattle.noc_alloc.specs.Requests.{AllBelow}
use Rattle.noc_alloc.proofs.RequestLemmas.{below-at}

-- arbiters that are alike are of one size
pub opened-sizes : (n size : ℕ) (ts : List RoundRobin) → ts ≡ replicate n (record { size = size; pointer = 0 }) → All (λ (t : RoundRobin). t.size ≡ size) ts
opened-sizes n size ts is k d l =
    let one : RoundRobin = record { size = size; pointer = 0 } in
    ap (λ (xs : List RoundRobin). (get_or xs k d).size) is
    ∙ ap (λ (t : RoundRobin). t.size) (get_or-replicate n k one d (omega (arith, l, ap (λ (xs : List RoundRobin). length xs) is, length-replicate n one)))

pub below-size : (xs : List (Option ℕ)) (ts : List RoundRobin) (n k : ℕ) → AllBelow n xs → All (λ (t : RoundRobin). t.size ≡ n) ts → k < length ts → IfSome (get_or xs k None) (λ w. w < (arbiter_at ts k).size)
below-size xs ts n k below sizes l = at (get_or xs k None) refl
  where
    at : (x : Option ℕ) → get_or xs k None ≡ x → IfSome x (λ w. w < (arbiter_at ts k).size)
    at None e = tt
    at (Some w) e =
        let u : w < n = below-at n xs k below w e in
        let s : (arbiter_at ts k).size ≡ n = sizes k (record { size = 0; pointer = 0 }) l in
        omega arith

pub all-below : (xs : List (Option ℕ)) (n : ℕ) → AllBelow n xs → All (λ x. IfSome x (λ q. q < n)) xs
all-below xs n below k d l = at (get_or xs k d) refl
  where
    at : (x : Option ℕ) → get_or xs k d ≡ x → IfSome x (λ q. q < n)
    at None e = tt
    at (Some q) e = below k d l q e
