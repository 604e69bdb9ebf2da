-- The next channel of a channel is one, and a packet owns one ejection channel at most.
use Rattle.std.proofs.Common.{◌≡◌, ℕ, true, List, [], ◌∷◌, Some, ap, sym, ◌∙◌, inl, inr, subst, arith}
use Rattle.std.specs.Prelude.{find, option_and_then}
use Rattle.noc_theory.proofs.Common.{false≢true, same_Some, distance, Channel, Link, Inject, Eject, Setup, State, place_of_flit, leads_from, next_channel, owned_by, IsPath, Has}
use Rattle.noc_theory.proofs.worms.BuiltRecordLemmas.{IsBuilt}
use Rattle.noc_theory.proofs.worms.OwnedLemmas.{of, of-has, has-of, owner-is}
use Rattle.noc_theory.proofs.worms.MemberLemmas.{find-some, find-has}
use Rattle.noc_theory.proofs.worms.BufferLemmas.{find-passes}
use Rattle.noc_theory.proofs.worms.StateWordLemmas.{IsEject, IsKeyed, class_of, goal, far_of}
use Rattle.noc_theory.proofs.worms.PathLemmas.{path-tail, ends-at-eject}
use Rattle.noc_theory.proofs.worms.WormRecordLemmas.{IsWorm}
use Rattle.noc_theory.proofs.worms.MoveLemmas.{IsNext, leads-end, end-far, same-far, far-link, far-eject}

module _ (net : Setup) (built : IsBuilt net) (F : State) (keyed : IsKeyed net F.at) (w : IsWorm net F.own (place_of_flit net F)) where
  -- two channels from which one leads end equally far
  pub leads-far : (p : ℕ) (c d o : Channel) → leads_from net c o ≡ true → leads_from net d o ≡ true → far_of net p c ≡ far_of net p d
  leads-far p c d o x y =
      let l = leads-end net c o x in
      let k = leads-end net d o y in
      let same : l.0 ≡ k.0 = same_Some l.0 k.0 (sym l.1 ∙ k.1) in
      end-far net c l.0 (goal net p) l.2 ∙ ap (λ z. distance net.relation.grid z (goal net p)) same ∙ sym (end-far net d k.0 (goal net p) k.2)

  pub two-ejects : (p m u a v : ℕ) (xs : List Channel) → IsPath net (class_of net p) (goal net p) xs → Has (Eject m u) xs → Has (Eject a v) xs → Eject m u ≡ Eject a v
  two-ejects p m u a v [] path h k = elim h [ ]
  two-ejects p m u a v (x ∷ xs) path (inl s) (inl t) = s ∙ sym t
  two-ejects p m u a v (x ∷ xs) path (inl s) (inr t) = absurd (after x xs path (subst (λ (y : Channel). IsEject y) s tt) (Eject a v) t)
    where
      after : (y : Channel) (ys : List Channel) → IsPath net (class_of net p) (goal net p) (y ∷ ys) → IsEject y → (z : Channel) → Has z ys → ⊥
      after y [] q e z k = k
      after y (b ∷ ys) q e z k = ends-at-eject net built (class_of net p) (goal net p) y b e q.0
  two-ejects p m u a v (x ∷ xs) path (inr s) (inl t) = absurd (after x xs path (subst (λ (y : Channel). IsEject y) t tt) (Eject m u) s)
    where
      after : (y : Channel) (ys : List Channel) → IsPath net (class_of net p) (goal net p) (y ∷ ys) → IsEject y → (z : Channel) → Has z ys → ⊥
      after y [] q e z k = k
      after y (b ∷ ys) q e z k = ends-at-eject net built (class_of net p) (goal net p) y b e q.0
  two-ejects p m u a v (x ∷ xs) path (inr s) (inr t) = two-ejects p m u a v xs (path-tail net built (class_of net p) (goal net p) x xs path) s t

  -- at most one channel of a packet begins at the end of another
  pub one-next : (c o q : Channel) (p : ℕ) → IsNext net built F keyed w p c o → IsNext net built F keyed w p c q → o ≡ q
  one-next c (Link a b u) (Link d e v) p x y =
      let f = far-link net built F keyed w p c a b u x in
      let g = far-link net built F keyed w p c d e v y in
      same-far net built F keyed w p (Link a b u) (Link d e v) x.owns y.owns (λ z. z) (λ z. z) (omega arith)
  one-next c (Link a b u) (Eject d v) p x y = let f = far-link net built F keyed w p c a b u x in let g = far-eject net built F keyed w p c d v y in absurd (omega arith)
  one-next c (Eject a u) (Link d e v) p x y = let f = far-eject net built F keyed w p c a u x in let g = far-link net built F keyed w p c d e v y in absurd (omega arith)
  one-next c (Eject a u) (Eject d v) p x y = two-ejects p a u d v (of p F.own) (w.path p) (has-of (Eject a u) p F.own x.owns) (has-of (Eject d v) p F.own y.owns)
  one-next c (Inject a u) q p x y = absurd (false≢true x.leads)
  one-next c o (Inject a u) p x y = absurd (false≢true y.leads)

  -- so a channel of p that begins at the end of c is the next channel of c
  pub next-from : (p : ℕ) (c o : Channel) → Has (c, p) F.own → IsNext net built F keyed w p c o → next_channel net F c ≡ Some o
  next-from p c o h x =
      let found = find-some (leads_from net c) (owned_by net F p) o (has-of o p F.own x.owns) x.leads in
      let y : IsNext net built F keyed w p c found.0 = record {
        owns = of-has found.0 p F.own (find-has (leads_from net c) (owned_by net F p) found.0 found.1);
        leads = find-passes (leads_from net c) (owned_by net F p) found.0 found.1;
      } in
      ap (option_and_then (λ q. find (leads_from net c) (owned_by net F q))) (owner-is net F c p w.once h) ∙ found.1 ∙ ap Some (one-next c found.0 o p y x)
