-- The list of owners: what a filter and a join leave of a packet's channels
-- and of a channel's owner.
use Rattle.std.proofs.Common.{◌≡◌, ℕ, Bool, true, false, cond, List, [], ◌∷◌, ◌++◌, map, Option, Some, None, refl, ap, sym, ◌∙◌, inl, inr, subst}
use Rattle.std.specs.Prelude.{filter, find, option_map, nat_eq}
use Rattle.std.proofs.lemmas.List.Elements.{filter-append}
use Rattle.noc_theory.proofs.Common.{eqb-true, eq-eqb, none-some, same_Some, map-append, Channel, same_channel, Setup, State, owner_of, Has, Pairs}
use Rattle.noc_theory.proofs.worms.BufferLemmas.{same_channel-refl, same_channel-true, find-passes}
use Rattle.noc_theory.proofs.worms.MemberLemmas.{Has-filter, Has-kept, Has-map, Has-mapped, find-has, find-some, each-at}
use Rattle.noc_theory.proofs.worms.StateWordLemmas.{IsOtherChannel}

-- no channel twice
abbrev pub IsOnce : List (Channel × ℕ) → Type 0
IsOnce own = Pairs IsOtherChannel own

pub pair-same : (x : Channel × ℕ) (c : Channel) (p : ℕ) → x.0 ≡ c → x.1 ≡ p → x ≡ (c, p)
pair-same x c p e f = ap (λ (d : Channel). (d, x.1)) e ∙ ap (λ (q : ℕ). (c, q)) f

-- the channels of packet p
abbrev pub of : ℕ → List (Channel × ℕ) → List Channel
of p own = map (λ (pair : Channel × ℕ). pair.0) (filter (λ pair. nat_eq p pair.1) own)

pub of-append : (p : ℕ) (xs ys : List (Channel × ℕ)) → of p (xs ++ ys) ≡ of p xs ++ of p ys
of-append p xs ys = rw (filter-append (λ (pair : Channel × ℕ). nat_eq p pair.1) xs ys) (map-append (λ (pair : Channel × ℕ). pair.0) (filter (λ pair. nat_eq p pair.1) xs) (filter (λ pair. nat_eq p pair.1) ys))

pub of-filter : (p : ℕ) (keep : Channel × ℕ → Bool) (xs : List (Channel × ℕ)) → of p (filter keep xs) ≡ filter (λ c. keep (c, p)) (of p xs)
of-filter p keep [] = refl
of-filter p keep (x ∷ xs) = at (nat_eq p x.1) refl (keep x) refl (of-filter p keep xs)
  where
    at : (b : Bool) → nat_eq p x.1 ≡ b → (k : Bool) → keep x ≡ k → of p (filter keep xs) ≡ filter (λ c. keep (c, p)) (of p xs)
        → of p (cond (keep x) (x ∷ filter keep xs) (filter keep xs)) ≡ filter (λ c. keep (c, p)) (of p (x ∷ xs))
    at true e true k rest =
        let s : p ≡ x.1 = eqb-true p x.1 e in
        let k' : keep (x.0, p) ≡ true = ap (λ (q : ℕ). keep (x.0, q)) s ∙ k in
        rw k (rw e (rw k' (ap (λ cs. x.0 ∷ cs) rest)))
    at true e false k rest =
        let s : p ≡ x.1 = eqb-true p x.1 e in
        let k' : keep (x.0, p) ≡ false = ap (λ (q : ℕ). keep (x.0, q)) s ∙ k in
        rw k (rw e (rw k' rest))
    at false e true k rest = rw k (rw e rest)
    at false e false k rest = rw k (rw e rest)

pub of-has : (c : Channel) (p : ℕ) (xs : List (Channel × ℕ)) → Has c (of p xs) → Has (c, p) xs
of-has c p xs h =
    let m = Has-map (λ (pair : Channel × ℕ). pair.0) c (filter (λ pair. nat_eq p pair.1) xs) h in
    let f = Has-filter (λ (pair : Channel × ℕ). nat_eq p pair.1) m.0 xs m.1 in
    let s : p ≡ m.0.1 = eqb-true p m.0.1 f.1 in
    let same : m.0 ≡ (c, p) = pair-same m.0 c p m.2 (sym s) in
    subst (λ (x : Channel × ℕ). Has x xs) same f.0

pub has-of : (c : Channel) (p : ℕ) (xs : List (Channel × ℕ)) → Has (c, p) xs → Has c (of p xs)
has-of c p xs h = Has-mapped (λ (pair : Channel × ℕ). pair.0) (c, p) (filter (λ pair. nat_eq p pair.1) xs) (Has-kept (λ (pair : Channel × ℕ). nat_eq p pair.1) (c, p) xs h (eq-eqb p p refl))

-- a member is the only pair of its channel
pub once-same : (a b : Channel × ℕ) (xs : List (Channel × ℕ)) → IsOnce xs → Has a xs → Has b xs → a.0 ≡ b.0 → a ≡ b
once-same a b [] once h k e = elim h [ ]
once-same a b (x ∷ xs) once (inl s) (inl t) e = s ∙ sym t
once-same a b (x ∷ xs) once (inl s) (inr t) e = absurd (each-at (IsOtherChannel x) xs b once.0 t (ap (λ (z : Channel × ℕ). z.0) (sym s) ∙ e))
once-same a b (x ∷ xs) once (inr s) (inl t) e = absurd (each-at (IsOtherChannel x) xs a once.0 s (ap (λ (z : Channel × ℕ). z.0) (sym t) ∙ sym e))
once-same a b (x ∷ xs) once (inr s) (inr t) e = once-same a b xs once.1 s t e

module _ (net : Setup) (S : State) where
  pub owner-has : (c : Channel) (p : ℕ) → owner_of net S c ≡ Some p → Has (c, p) S.own
  owner-has c p e = at (find (λ (pair : Channel × ℕ). same_channel c pair.0) S.own) refl e
    where
      at : (o : Option (Channel × ℕ)) → find (λ (pair : Channel × ℕ). same_channel c pair.0) S.own ≡ o → option_map (λ (pair : Channel × ℕ). pair.1) o ≡ Some p → Has (c, p) S.own
      at None f g = absurd (none-some p g)
      at (Some x) f g =
          let same : c ≡ x.0 = same_channel-true c x.0 (find-passes (λ (pair : Channel × ℕ). same_channel c pair.0) S.own x f) in
          let num : x.1 ≡ p = same_Some x.1 p g in
          let pair : x ≡ (c, p) = pair-same x c p (sym same) num in
          subst (λ (z : Channel × ℕ). Has z S.own) pair (find-has (λ (pair : Channel × ℕ). same_channel c pair.0) S.own x f)

  pub owner-is : (c : Channel) (p : ℕ) → IsOnce S.own → Has (c, p) S.own → owner_of net S c ≡ Some p
  owner-is c p once h =
      let found = find-some (λ (pair : Channel × ℕ). same_channel c pair.0) S.own (c, p) h (same_channel-refl c) in
      let x : Channel × ℕ = found.0 in
      let same : c ≡ x.0 = same_channel-true c x.0 (find-passes (λ (pair : Channel × ℕ). same_channel c pair.0) S.own x found.1) in
      let pair : x ≡ (c, p) = once-same x (c, p) S.own once (find-has (λ (pair : Channel × ℕ). same_channel c pair.0) S.own x found.1) h (sym same) in
      ap (option_map (λ (y : Channel × ℕ). y.1)) (found.1 ∙ ap Some pair)

  pub idle-none : (c : Channel) (p : ℕ) → owner_of net S c ≡ None → Has (c, p) S.own → ⊥
  idle-none c p e h =
      let found = find-some (λ (pair : Channel × ℕ). same_channel c pair.0) S.own (c, p) h (same_channel-refl c) in
      let f : owner_of net S c ≡ Some found.0.1 = ap (option_map (λ (y : Channel × ℕ). y.1)) found.1 in
      none-some found.0.1 (sym e ∙ f)
