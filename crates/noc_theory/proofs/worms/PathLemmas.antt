-- Paths along a minimal relation: what stands behind what, filters that keep a path, and one
-- more channel at its end.
use Rattle.std.proofs.Common.{◌≡◌, ℕ, ◌<◌, Bool, true, false, cond, List, [], ◌∷◌, ◌++◌, refl, ap, sym, ◌∙◌, inl, inr, subst, arith}
use Rattle.std.specs.Prelude.{filter, IsTrue}
use Rattle.noc_theory.proofs.Common.{false≢true, Channel, Link, Inject, Eject, permits, Setup, end_distance, leads_from, IsPath, Has}
use Rattle.noc_theory.proofs.worms.BuiltRecordLemmas.{IsBuilt}
use Rattle.noc_theory.proofs.worms.StateWordLemmas.{IsEject}

module _ (net : Setup) (built : IsBuilt net) (m t : ℕ) where
  abbrev pub far : Channel → ℕ
  far c = end_distance net.relation c t

  -- how d stands to a channel before it on a path
  abbrev pub IsBehind : Channel → Channel → Type 0
  IsBehind c (Link r p v) = far (Link r p v) < far c
  IsBehind c (Inject n v) = ⊥
  IsBehind c (Eject n v) = Unit {0}

  pub step-behind : (c o : Channel) → IsTrue (permits net.relation m c t o) → IsBehind c o
  step-behind c (Link r p v) e = let s = built.shorter m t c r p v e in omega arith
  step-behind c (Inject n v) e = false≢true (built.leads m t c (Inject n v) e)
  step-behind c (Eject n v) e = tt

  pub no-inject : (c : Channel) (n v : ℕ) → IsTrue (permits net.relation m c t (Inject n v)) → ⊥
  no-inject c n v e = false≢true (built.leads m t c (Inject n v) e)

  -- nothing leads on from an ejection channel
  pub ends-at-eject : (o q : Channel) → IsEject o → IsTrue (permits net.relation m o t q) → ⊥
  ends-at-eject (Link r p v) q k e = elim k [ ]
  ends-at-eject (Inject n v) q k e = elim k [ ]
  ends-at-eject (Eject n v) (Link r p w) k e = false≢true (built.leads m t (Eject n v) (Link r p w) e)
  ends-at-eject (Eject n v) (Inject a w) k e = false≢true (built.leads m t (Eject n v) (Inject a w) e)
  ends-at-eject (Eject n v) (Eject a w) k e = false≢true (built.leads m t (Eject n v) (Eject a w) e)

  behind-on : (c o d : Channel) → IsBehind c o → (IsEject o → ⊥) → IsBehind o d → IsBehind c d
  behind-on c (Link r p v) (Link a q w) h deny k = omega arith
  behind-on c (Inject n v) (Link a q w) h deny k = elim h [ ]
  behind-on c (Eject n v) (Link a q w) h deny k = absurd (deny tt)
  behind-on c o (Inject n v) h deny k = k
  behind-on c o (Eject n v) h deny k = tt

  pub path-behind : (c : Channel) (rest : List Channel) → IsPath net m t (c ∷ rest) → (d : Channel) → Has d rest → IsBehind c d
  path-behind c [] path d h = elim h [ ]
  path-behind c (o ∷ rest) path d (inl e) = subst (λ (x : Channel). IsBehind c x) (sym e) (step-behind c o path.0)
  path-behind c (o ∷ rest) path d (inr h) = behind-on c o d (step-behind c o path.0) (not-end rest path.1 h) (path-behind o rest path.1 d h)
    where
      not-end : (rest : List Channel) → IsPath net m t (o ∷ rest) → Has d rest → IsEject o → ⊥
      not-end [] p k e = k
      not-end (q ∷ rest) p k e = ends-at-eject o q e p.0

  pub path-tail : (c : Channel) (rest : List Channel) → IsPath net m t (c ∷ rest) → IsPath net m t rest
  path-tail c [] path = tt
  path-tail c (o ∷ rest) path = path.1

  -- a filter keeps a path where what it drops next to what it keeps is the end of the path
  pub path-filter : (keep : Channel → Bool) (xs : List Channel) → IsPath net m t xs
      → ((c o : Channel) → Has c xs → Has o xs → IsTrue (permits net.relation m c t o) → keep c ≡ true → keep o ≡ false → IsEject o)
      → IsPath net m t (filter keep xs)
  path-filter keep [] path k = tt
  path-filter keep (c ∷ []) path k = at (keep c)
    where
      at : (b : Bool) → IsPath net m t (cond b (c ∷ []) [])
      at true = tt
      at false = tt
  path-filter keep (c ∷ o ∷ rest) path k =
      at (keep c) refl (keep o) refl rest path.1 (path-filter keep (o ∷ rest) path.1 (λ a b h g. k a b (inr h) (inr g))) (k c o (inl refl) (inr (inl refl)) path.0)
    where
      at : (b : Bool) → keep c ≡ b → (d : Bool) → keep o ≡ d → (rest : List Channel) → IsPath net m t (o ∷ rest) → IsPath net m t (filter keep (o ∷ rest))
          → (keep c ≡ true → keep o ≡ false → IsEject o)
          → IsPath net m t (cond b (c ∷ filter keep (o ∷ rest)) (filter keep (o ∷ rest)))
      at false e d f rest p ih last = ih
      at true e true f rest p ih last =
          let ih' : IsPath net m t (o ∷ filter keep rest) = rw f at ih in
          rw f (path.0, ih')
      at true e false f [] p ih last = rw f tt
      at true e false f (q ∷ rest) p ih last = absurd (ends-at-eject o q (last e f) p.0)

  -- c is the last channel
  abbrev pub IsLast : Channel → List Channel → Type 0
  IsLast c [] = ⊥
  IsLast c (d ∷ []) = d ≡ c
  IsLast c (d ∷ o ∷ rest) = IsLast c (o ∷ rest)

  -- a member from which nothing of the path leads on is the last
  pub path-last : (c : Channel) (xs : List Channel) → IsPath net m t xs → Has c xs → ((d : Channel) → Has d xs → leads_from net c d ≡ false) → IsLast c xs
  path-last c [] path h deny = h
  path-last c (d ∷ []) path (inl e) deny = sym e
  path-last c (d ∷ []) path (inr h) deny = elim h [ ]
  path-last c (d ∷ o ∷ rest) path (inl e) deny =
      absurd (false≢true (sym (deny o (inr (inl refl))) ∙ ap (λ (x : Channel). leads_from net x o) e ∙ built.leads m t d o path.0))
  path-last c (d ∷ o ∷ rest) path (inr h) deny = path-last c (o ∷ rest) path.1 h (λ x k. deny x (inr k))

  pub path-append : (c o : Channel) (xs : List Channel) → IsPath net m t xs → IsLast c xs → IsTrue (permits net.relation m c t o) → IsPath net m t (xs ++ o ∷ [])
  path-append c o [] path last e = tt
  path-append c o (d ∷ []) path last e = (subst (λ (x : Channel). IsTrue (permits net.relation m x t o)) (sym last) e, tt)
  path-append c o (d ∷ q ∷ rest) path last e = (path.0, path-append c o (q ∷ rest) path.1 last e)

  pub last-kept : (keep : Channel → Bool) (c : Channel) (xs : List Channel) → IsLast c xs → keep c ≡ true → IsLast c (filter keep xs)
  last-kept keep c [] last e = last
  last-kept keep c (d ∷ []) last e = let k : keep d ≡ true = ap keep last ∙ e in rw k last
  last-kept keep c (d ∷ o ∷ rest) last e = at (keep d) (filter keep (o ∷ rest)) (last-kept keep c (o ∷ rest) last e)
    where
      at : (b : Bool) (ys : List Channel) → IsLast c ys → IsLast c (cond b (d ∷ ys) ys)
      at true [] h = absurd h
      at true (y ∷ ys) h = h
      at false ys h = h
