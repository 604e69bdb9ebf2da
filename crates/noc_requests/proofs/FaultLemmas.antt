-- What a call gives, by what is given in its place: its fault under another name (`map_err`), or
-- what is made of its value (`map`).
use Rattle.std.proofs.Common.{◌≡◌, Result, Ok, Err, refl}
use Rattle.std.specs.Result.{IfErr, IfOk, IsErrAnd, IsOkAnd, MatchResult}

module _ {X E D : Type 0} (Names : E → D → Type 0) where
  -- the call gave a value that is given
  pub value_of : (call : Result X E) (given : Result X D) (x : X) → MatchResult call (λ y. given ≡ Ok y) (λ e. IsErrAnd given (Names e)) → given ≡ Ok x → call ≡ Ok x
  value_of (Ok y) (Ok z) x is ok = let same : ◌≡◌ {A = Result X D} (Ok z) (Ok y) = is in cc
  value_of (Ok y) (Err d) x is ok = absurd cc
  value_of (Err e) (Ok z) x is ok = absurd is
  value_of (Err e) (Err d) x is ok = absurd cc

  -- .. and one of which this holds
  pub if_value : (call : Result X E) (given : Result X D) (Q : X → Type 0) → MatchResult call (λ y. given ≡ Ok y) (λ e. IsErrAnd given (Names e))
      → ((x : X) → call ≡ Ok x → Q x) → IfOk given Q
  if_value call (Ok x) Q is so = so x (value_of call (Ok x) x is refl)
  if_value call (Err d) Q is so = tt

  -- it gave the fault that is given under another name
  pub if_fault : (call : Result X E) (given : Result X D) (Q : D → Type 0) → MatchResult call (λ y. given ≡ Ok y) (λ e. IsErrAnd given (Names e))
      → ((e : E) (d : D) → call ≡ Err e → Names e d → Q d) → IfErr given Q
  if_fault call (Ok x) Q is so = tt
  if_fault (Ok y) (Err d) Q is so = absurd cc
  if_fault (Err e) (Err d) Q is so = so e d refl is

module _ {X Y E : Type 0} (Makes : X → Y → Type 0) where
  -- the call gave a value of which another is made
  pub made_of : (call : Result X E) (given : Result Y E) (y : Y) → MatchResult call (λ x. IsOkAnd given (Makes x)) (λ e. given ≡ Err e) → given ≡ Ok y
      → (x : X) × (call ≡ Ok x) × Makes x y
  made_of (Ok x) (Ok z) y is ok = let same : z ≡ y = cc in (x, refl, rw (← same) is)
  made_of (Ok x) (Err d) y is ok = absurd is
  made_of (Err e) (Ok z) y is ok = absurd cc
  made_of (Err e) (Err d) y is ok = absurd cc

  -- it gave the fault that is given
  pub same_fault : (call : Result X E) (given : Result Y E) (e : E) → MatchResult call (λ x. IsOkAnd given (Makes x)) (λ d. given ≡ Err d) → given ≡ Err e
      → call ≡ Err e
  same_fault (Ok x) (Ok z) e is err = absurd cc
  same_fault (Ok x) (Err d) e is err = absurd is
  same_fault (Err c) (Ok z) e is err = absurd cc
  same_fault (Err c) (Err d) e is err = let same : ◌≡◌ {A = Result Y E} (Err d) (Err c) = is in cc
