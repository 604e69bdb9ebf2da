-- Owners and next channels of a state, from who holds what.
use Rattle.std.proofs.Common.{◌≡◌, ℕ, Bool, true, false, List, [], ◌∷◌, ◌++◌, Option, Some, None, refl, ap, sym, ◌∙◌}
use Rattle.std.specs.Prelude.{filter, ◌&&◌, ◌||◌}
use Rattle.noc_theory.proofs.Common.{none-some, Has, Channel, same_channel, Setup, State, place_of_flit, owner_of, next_channel, has_channel}
use Rattle.noc_theory.proofs.worms.BuiltRecordLemmas.{IsBuilt}
use Rattle.noc_theory.proofs.worms.BufferLemmas.{same_channel-true}
use Rattle.noc_theory.proofs.worms.MoveLemmas.{IsNext, next-is}
use Rattle.noc_theory.proofs.worms.OwnedLemmas.{owner-has, owner-is}
use Rattle.noc_theory.proofs.worms.StateWordLemmas.{IsKeyed}
use Rattle.noc_theory.proofs.worms.WormRecordLemmas.{IsWorm}
use Rattle.noc_theory.proofs.worms.NextLemmas.{next-from}

-- what a filter and a join leave of a list of channels
pub channel-filter : (t : Channel → Bool) (c : Channel) (xs : List Channel) → has_channel (filter t xs) c ≡ (has_channel xs c && t c)
channel-filter t c [] = refl
channel-filter t c (x ∷ xs) = at (t x) refl (same_channel c x) refl (channel-filter t c xs)
  where
    at : (a : Bool) → t x ≡ a → (b : Bool) → same_channel c x ≡ b → has_channel (filter t xs) c ≡ (has_channel xs c && t c) → has_channel (filter t (x ∷ xs)) c ≡ (has_channel (x ∷ xs) c && t c)
    at true e true k rest = let s : t c ≡ true = ap t (same_channel-true c x k) ∙ e in rw e (rw k (sym s))
    at true e false k rest = rw e (rw k rest)
    at false e true k rest =
        let s : t c ≡ false = ap t (same_channel-true c x k) ∙ e in
        rw e (rest ∙ ap (λ b. has_channel xs c && b) s ∙ none (has_channel xs c) ∙ sym (ap (λ b. (same_channel c x || has_channel xs c) && b) s ∙ none (same_channel c x || has_channel xs c)))
      where
        none : (b : Bool) → (b && false) ≡ false
        none true = refl
        none false = refl
    at false e false k rest = rw e (rw k rest)

pub channel-append : (c : Channel) (xs ys : List Channel) → has_channel (xs ++ ys) c ≡ (has_channel xs c || has_channel ys c)
channel-append c [] ys = refl
channel-append c (x ∷ xs) ys = at (same_channel c x) (channel-append c xs ys)
  where
    at : (b : Bool) → has_channel (xs ++ ys) c ≡ (has_channel xs c || has_channel ys c) → (b || has_channel (xs ++ ys) c) ≡ ((b || has_channel xs c) || has_channel ys c)
    at true e = refl
    at false e = e

module _ (net : Setup) (built : IsBuilt net) (S : State) (keyed : IsKeyed net S.at) (w : IsWorm net S.own (place_of_flit net S)) where
  abbrev pub Next : ℕ → Channel → Channel → Type 0
  Next p c o = IsNext net built S keyed w p c o

  pub owner-at : (c : Channel) (p : ℕ) → Has (c, p) S.own → owner_of net S c ≡ Some p
  owner-at c p h = owner-is net S c p w.once h

  pub owner-none : (c : Channel) → ((p : ℕ) → Has (c, p) S.own → ⊥) → owner_of net S c ≡ None
  owner-none c never = at (owner_of net S c) refl
    where
      at : (o : Option ℕ) → owner_of net S c ≡ o → owner_of net S c ≡ None
      at None e = e
      at (Some p) e = absurd (never p (owner-has net S c p e))

  pub next-none : (p : ℕ) (c : Channel) → Has (c, p) S.own → ((o : Channel) → Next p c o → ⊥) → next_channel net S c ≡ None
  next-none p c h never = at (next_channel net S c) refl
    where
      at : (o : Option Channel) → next_channel net S c ≡ o → next_channel net S c ≡ None
      at None e = e
      at (Some o) e = absurd (never o (next-is net built S keyed w p c o h e))

  pub no-next : (p : ℕ) (c o : Channel) → Has (c, p) S.own → next_channel net S c ≡ None → Next p c o → ⊥
  no-next p c o h e m = none-some o (sym e ∙ next-from net built S keyed w p c o h m)
