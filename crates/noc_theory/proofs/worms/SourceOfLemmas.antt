-- An owned channel that no tail has reached has a channel of its packet before it.
use Rattle.std.proofs.Common.{◌≡◌, ℕ, ◌<◌, ◌≤◌, true, false, List, [], ◌∷◌, refl, ap, sym, ◌∙◌, inl, inr, subst, arith}
use Rattle.std.specs.Prelude.{IsTrue}
use Rattle.noc_theory.proofs.Common.{true≢false, ltb-false, Channel, Link, Inject, Eject, permits, Setup, Place, Source, On, In, Out, packet_at, is_past, leads_from, IsPath, Has}
use Rattle.noc_theory.proofs.worms.BuiltRecordLemmas.{IsBuilt}
use Rattle.noc_theory.proofs.worms.OwnedLemmas.{of, has-of, of-has}
use Rattle.noc_theory.proofs.worms.PathLemmas.{IsBehind, path-behind}
use Rattle.noc_theory.proofs.worms.WormRecordLemmas.{IsWorm, valid-last}
use Rattle.noc_theory.proofs.worms.StateWordLemmas.{IsPlaced, class_of, goal, last_of, far_of}

module _ (net : Setup) (built : IsBuilt net) (own : List (Channel × ℕ)) (at : ℕ → ℕ → Place) (w : IsWorm net own at) where
  -- what is not the first of a path has one before it
  path-before : (m t : ℕ) (x o : Channel) (xs : List Channel) → IsPath net m t (x ∷ xs) → Has o xs → (c : Channel) × Has c (x ∷ xs) × IsTrue (permits net.relation m c t o)
  path-before m t x o [] path h = elim h [ ]
  path-before m t x o (y ∷ ys) path (inl e) = (x, inl refl, subst (λ (z : Channel). IsTrue (permits net.relation m x t z)) (sym e) path.0)
  path-before m t x o (y ∷ ys) path (inr h) = let r = path-before m t y o ys path.1 h in (r.0, inr r.1, r.2)

  source-from : (p : ℕ) (o d : Channel) (xs : List Channel) → IsPath net (class_of net p) (goal net p) xs → Has o xs → Has d xs → (d ≡ o → ⊥)
      → (IsBehind net built (class_of net p) (goal net p) o d → ⊥) → (c : Channel) × Has c xs × IsTrue (permits net.relation (class_of net p) c (goal net p) o)
  source-from p o d [] path h k a b = elim h [ ]
  source-from p o d (x ∷ xs) path (inl e) (inl f) a b = absurd (a (f ∙ sym e))
  source-from p o d (x ∷ xs) path (inl e) (inr k) a b =
      absurd (b (subst (λ (z : Channel). IsBehind net built (class_of net p) (goal net p) z d) (sym e) (path-behind net built (class_of net p) (goal net p) x xs path d k)))
  source-from p o d (x ∷ xs) path (inr h) k a b = path-before (class_of net p) (goal net p) x o xs path h

  -- o is owned by p, and p's tail is not on it, in it or past it
  pub has-source : (o : Channel) (p : ℕ) → Has (o, p) own → ((n v : ℕ) → o ≡ Inject n v → ⊥)
      → (at p (last_of net p) ≡ On o → ⊥) → (at p (last_of net p) ≡ In o → ⊥) → is_past net o (goal net p) (at p (last_of net p)) ≡ false
      → (c : Channel) × Has (c, p) own × (leads_from net c o ≡ true)
  has-source o p h none not_on not_in behind = cases (at p (last_of net p)) refl (w.placed p (last_of net p) (valid-last net built p (w.known o p h)))
    where
      from : (d : Channel) → Has (d, p) own → (d ≡ o → ⊥) → (IsBehind net built (class_of net p) (goal net p) o d → ⊥) → (c : Channel) × Has (c, p) own × (leads_from net c o ≡ true)
      from d k a b =
          let r = source-from p o d (of p own) (w.path p) (has-of o p own h) (has-of d p own k) a b in
          (r.0, of-has r.0 p own r.1, built.leads (class_of net p) (goal net p) r.0 o r.2)

      not_behind : (d : Channel) → far_of net p o ≤ far_of net p d → Has (d, p) own → (r a v : ℕ) → d ≡ Link r a v → IsBehind net built (class_of net p) (goal net p) o d → ⊥
      not_behind d l k r a v e b =
          let z : far_of net p (Link r a v) < far_of net p o = subst (λ (x : Channel). IsBehind net built (class_of net p) (goal net p) o x) e b in
          let f : far_of net p d ≡ far_of net p (Link r a v) = ap (far_of net p) e in omega arith

      cases : (x : Place) → at p (last_of net p) ≡ x → IsPlaced net own p x → (c : Channel) × Has (c, p) own × (leads_from net c o ≡ true)
      cases Source e k =
          let r = w.holds p (w.known o p h) (w.begun o p h) e in
          from (Inject (packet_at net p).source r.0) r.1 (λ z. none (packet_at net p).source r.0 (sym z)) (λ b. b)
      cases (On (Link r a v)) e k =
          let l : far_of net p o ≤ far_of net p (Link r a v) = ltb-false _ _ (ap (is_past net o (goal net p)) (sym e) ∙ behind) in
          from (Link r a v) k (λ z. not_on (e ∙ ap On z)) (not_behind (Link r a v) l k r a v refl)
      cases (On (Inject n v)) e k = elim k [ ]
      cases (On (Eject n v)) e k = elim k [ ]
      cases (In (Link r a v)) e k =
          let l : far_of net p o ≤ far_of net p (Link r a v) = ltb-false _ _ (ap (is_past net o (goal net p)) (sym e) ∙ behind) in
          from (Link r a v) k (λ z. not_in (e ∙ ap In z)) (not_behind (Link r a v) l k r a v refl)
      cases (In (Inject n v)) e k = from (Inject n v) k (λ z. none n v (sym z)) (λ b. b)
      cases (In (Eject n v)) e k = elim k [ ]
      cases (Out n) e k = absurd (true≢false (ap (is_past net o (goal net p)) (sym e) ∙ behind))
