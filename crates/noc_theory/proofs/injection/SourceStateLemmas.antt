-- What waits at a source in a state, and the injection channel of a packet.
use Rattle.std.proofs.Common.{◌≡◌, ℕ, Bool, true, cond, List, [], ◌∷◌, map, length, Option, Some, None, refl, ap, ◌∙◌, inl, inr, subst}
use Rattle.std.specs.Prelude.{filter, find, ◌&&◌, ◌||◌, nat_eq}
use Rattle.noc_theory.proofs.Common.{list_any, false≢true, eq-eqb, eqb-true, below, Has, least_by, Packet, Channel, Link, Inject, Eject, has_flit_at_source, Setup, State, Located, packet_at, place_of_flit, flits_of, owned_by, is_at_source, is_injection_of, first_waiting}
use Rattle.noc_theory.proofs.worms.BuiltRecordLemmas.{IsBuilt}
use Rattle.noc_theory.proofs.worms.BufferLemmas.{find-passes}
use Rattle.noc_theory.proofs.worms.InjectionPhaseLemmas.{two-injects}
use Rattle.noc_theory.proofs.worms.MemberLemmas.{find-has, find-some}
use Rattle.noc_theory.proofs.worms.OwnedLemmas.{of-has, has-of}
use Rattle.noc_theory.proofs.worms.StateWordLemmas.{IsKeyed}
use Rattle.noc_theory.proofs.worms.WormRecordLemmas.{IsWorm}

-- two tests that agree on a list leave the same of it
pub filter-same : {X : Type 0} (t u : X → Bool) (xs : List X) → ((y : X) → Has y xs → t y ≡ u y) → filter t xs ≡ filter u xs
filter-same t u [] same = refl
filter-same t u (x ∷ xs) same = ap (λ b. cond b (x ∷ filter t xs) (filter t xs)) (same x (inl refl)) ∙ ap (λ ys. cond (u x) (x ∷ ys) ys) (filter-same t u xs (λ y h. same y (inr h)))

pub any-map : {X Y : Type 0} (t : Y → Bool) (f : X → Y) (xs : List X) → list_any t (map f xs) ≡ list_any (λ x. t (f x)) xs
any-map t f [] = refl
any-map t f (x ∷ xs) = ap (λ b. t (f x) || b) (any-map t f xs)

-- an injection channel of a node
pub injection-is : (net : Setup) (node : ℕ) (c : Channel) → is_injection_of net node c ≡ true → (v : ℕ) × (c ≡ Inject node v)
injection-is net node (Link a b w) e = absurd (false≢true e)
injection-is net node (Inject m w) e = (w, ap (λ k. Inject k w) (eqb-true m node e))
injection-is net node (Eject m w) e = absurd (false≢true e)

module _ (net : Setup) (built : IsBuilt net) (S : State) (keyed : IsKeyed net S.at) (w : IsWorm net S.own (place_of_flit net S)) where
  pub injection-at : (p node v : ℕ) → Has (Inject node v, p) S.own → find (is_injection_of net node) (owned_by net S p) ≡ Some (Inject node v)
  injection-at p node v h =
      let r = find-some (is_injection_of net node) (owned_by net S p) (Inject node v) (has-of (Inject node v) p S.own h) (eq-eqb node node refl) in
      let i = injection-is net node r.0 (find-passes (is_injection_of net node) (owned_by net S p) r.0 r.1) in
      let own : Has (Inject node i.0, p) S.own = subst (λ (c : Channel). Has (c, p) S.own) i.1 (of-has r.0 p S.own (find-has (is_injection_of net node) (owned_by net S p) r.0 r.1)) in
      r.1 ∙ ap Some (i.1 ∙ two-injects net built S.own (place_of_flit net S) w p node i.0 node v own h)

  pub injection-own : (p node : ℕ) (c : Channel) → find (is_injection_of net node) (owned_by net S p) ≡ Some c → (v : ℕ) × (c ≡ Inject node v) × Has (Inject node v, p) S.own
  injection-own p node c e =
      let i = injection-is net node c (find-passes (is_injection_of net node) (owned_by net S p) c e) in
      (i.0, i.1, subst (λ (d : Channel). Has (d, p) S.own) i.1 (of-has c p S.own (find-has (is_injection_of net node) (owned_by net S p) c e)))

  pub injection-none : (p node : ℕ) → ((v : ℕ) → Has (Inject node v, p) S.own → ⊥) → find (is_injection_of net node) (owned_by net S p) ≡ None
  injection-none p node never = at (find (is_injection_of net node) (owned_by net S p)) refl
    where
      at : (o : Option Channel) → find (is_injection_of net node) (owned_by net S p) ≡ o → find (is_injection_of net node) (owned_by net S p) ≡ None
      at None e = e
      at (Some c) e = let r = injection-own p node c e in absurd (never r.0 r.2)

-- two states in which the same flits are at their sources have the same packets waiting
module _ (net : Setup) (S T : State) (same : (p : ℕ) → list_any (λ (f : Located). is_at_source f.place) (flits_of net T p) ≡ list_any (λ (f : Located). is_at_source f.place) (flits_of net S p)) where
  pub waiting-same : (node : ℕ) → first_waiting net T node ≡ first_waiting net S node
  waiting-same node =
      ap (least_by (λ p. (packet_at net p).due))
      (filter-same (λ p. nat_eq (packet_at net p).source node && list_any (λ (f : Located). is_at_source f.place) (flits_of net T p))
      (λ p. nat_eq (packet_at net p).source node && list_any (λ (f : Located). is_at_source f.place) (flits_of net S p)) (below (length net.packets)) (λ p h. ap (λ b. nat_eq (packet_at net p).source node && b) (same p)))

  pub queue-same : (xs : List (ℕ × Packet)) → filter (has_flit_at_source net T) xs ≡ filter (has_flit_at_source net S) xs
  queue-same xs = filter-same (has_flit_at_source net T) (has_flit_at_source net S) xs (λ one h. same one.0)
