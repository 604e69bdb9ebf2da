-- Where each link channel has a rank, a relation is ranked exactly where its steps rise.
use Rattle.std.proofs.Common.{◌≡◌, ◌≢◌, ℕ, ◌<◌, Option, Some, None, true, refl, sym, subst, ap, ◌∙◌}
use Rattle.std.specs.Prelude.{IsTrue, is_some, ◌&&◌}
use Rattle.std.proofs.lemmas.Bool.{lt-ltb, false≢true}
use Rattle.noc_topo.specs.Shape.{neighbour}
use Rattle.noc_route.specs.Channel.{Channel, Link, Inject, Eject, arrival_of}
use Rattle.noc_route.specs.Ranks.{is_port_channel, is_channel, LeadsTo, direct, through, IsRanked, AreAllRanked, IsRising}
use Rattle.noc_route.specs.Routes.{Routes, permits, IsRelation}
use Rattle.noc_route.proofs.BuiltLemmas.{set_at-member}
use Rattle.noc_route.proofs.PermitsLemmas.{PermitsLink-from_test, PermitsEject-from_test, permits-inject, permits-home, permits-nearer}
use Rattle.noc_route.proofs.OptionLemmas.{some-value}

-- a link channel that is permitted exists
pub permits-channel : (routes : Routes) → IsRelation routes → (m : ℕ) (c : Channel) (t r p v : ℕ) → permits routes m c t (Link r p v) ≡ true → is_channel routes.grid routes.vcs r p v ≡ true
permits-channel routes built m c t r p v e =
    let h = PermitsLink-from_test routes m c t r p v e in
    let hop = permits-nearer routes built m c t r p v e in
    let there = (set_at-member routes m r h.in_port _ t _ h.member).0 in
    let router = lt-ltb _ _ there.place.router in
    let port = lt-ltb _ _ h.port in
    let vc = lt-ltb _ _ h.vc in
    let place : is_port_channel routes.grid routes.vcs r p v ≡ true = rw (router, port, vc) refl in
    ap (λ b. b && is_some (neighbour routes.grid r p)) place ∙ ap (is_some {T = ℕ × ℕ}) hop.link

module _ (routes : Routes) (ranks : ℕ → ℕ → ℕ → Option ℕ) (built : IsRelation routes) (all : AreAllRanked routes.grid routes.vcs ranks) where
  -- a packet that may go on away from its destination may go on by a link channel
  escapes : (m t : ℕ) (c o : Channel) (r q : ℕ) → IsTrue (permits routes m c t o) → arrival_of routes.grid c ≡ Some (r, q) → r ≢ t
      → (p : ℕ) × (v : ℕ) × (n : ℕ) × IsTrue (permits routes m c t (Link r p v)) × (ranks r p v ≡ Some n)
  escapes m t c (Link a p v) r q e arrives away =
      let h = PermitsLink-from_test routes m c t a p v e in
      let same : Some (a, h.in_port) ≡ Some (r, q) = sym h.arrives ∙ arrives in
      let here : a ≡ r = ap (λ (o : Option (ℕ × ℕ)). elim o [ None ↦ a | Some place ↦ place.0 ]) same in
      let permitted : permits routes m c t (Link r p v) ≡ true = subst (λ (x : ℕ). permits routes m c t (Link x p v) ≡ true) here e in
      let rank = some-value (ranks r p v) (all r p v (permits-channel routes built m c t r p v permitted)) in
      (p, v, rank.0, permitted, rank.1)
  escapes m t c (Eject a v) r q e arrives away =
      let h = PermitsEject-from_test routes m c t a v e in
      let same : Some (a, h.in_port) ≡ Some (r, q) = sym h.arrives ∙ arrives in
      let here : a ≡ r = ap (λ (o : Option (ℕ × ℕ)). elim o [ None ↦ a | Some place ↦ place.0 ]) same in
      absurd (away (sym here ∙ permits-home routes built m c t a v e))
  escapes m t c (Inject a v) r q e arrives away = absurd (permits-inject routes m c t a v e)

  -- no channel lies between
  rises : IsRising routes ranks → (m t : ℕ) (c e : Channel) (r p v a q w n l : ℕ) → LeadsTo (λ m c t o. IsTrue (permits routes m c t o)) ranks m t c e
      → c ≡ Link r p v → e ≡ Link a q w → ranks r p v ≡ Some n → ranks a q w ≡ Some l → n < l
  rises rising m t c (Link b x y) r p v a q w n l (direct h) from to one other =
      let P : Channel → Type 0 = λ d. permits routes m d t (Link b x y) ≡ true in
      let Q : Channel → Type 0 = λ d. permits routes m (Link r p v) t d ≡ true in
      rising m t r p v a q w n l (subst Q to (subst P from h)) one other
  rises rising m t c e r p v a q w n l (through {r = b} {p = x} {v = y} h none rest) from to one other =
      absurd (false≢true (sym (ap (is_some {T = ℕ}) none) ∙ all b x y (permits-channel routes built m c t b x y h)))

  pub rising-ranked : IsRising routes ranks → IsRanked (λ m c t o. IsTrue (permits routes m c t o)) routes.grid ranks
  rising-ranked rising = record {
    escape = escapes;
    rising = λ m t r p v a q w n l leads one other. rises rising m t (Link r p v) (Link a q w) r p v a q w n l leads refl refl one other;
  }

-- a single step leads
pub ranked-rising : (routes : Routes) (ranks : ℕ → ℕ → ℕ → Option ℕ) → IsRanked (λ m c t o. IsTrue (permits routes m c t o)) routes.grid ranks → IsRising routes ranks
ranked-rising routes ranks ranked m t r p v a q w n l h one other = ranked.rising m t r p v a q w n l (direct h) one other
