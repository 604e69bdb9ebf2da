-- A ring of four routers under dimension order has no ranks.
use Rattle.std.proofs.Common.{◌≡◌, ◌≢◌, ℕ, zero, suc, ◌<◌, true, [], ◌∷◌, Option, Some, None, refl, ap, sym, subst, ◌∙◌, lit<, arith, inl, inr}
use Rattle.std.specs.Prelude.{nat_le, nat_lt, ◌&&◌, ◌⊎◌, is_some}
use Rattle.std.proofs.lemmas.Bool.{and_parts, ltb-true}
use Rattle.std.proofs.lemmas.Option.{same_Some}
use Rattle.noc_topo.specs.Shape.{coordinates, neighbour}
use Rattle.noc_route.specs.Built.{IsRelationOfRule, routing_of}
use Rattle.noc_route.specs.Channel.{Link, Inject, arrival_of}
use Rattle.noc_route.specs.Ranks.{AreAllRanked, IsRankedRule, Ranking, direct, is_channel, is_port_channel, rank_at}
use Rattle.noc_route.specs.Relation.{RelationParts, IsReached, injected, led_on, rule_has, dor_port}
use Rattle.noc_route.specs.Routes.{Routes}
use Rattle.noc_route.specs.declared.rule.Entry.{Entry}
use Rattle.noc_route.specs.declared.rule.Rule.TheVariants.{Dor}
use Rattle.noc_rank.specs.Faults.{IsBare}
use Rattle.noc_route.proofs.NamedLemmas.{some_of-true}
use Rattle.noc_rank.proofs.LedLemmas.{is_led-on, rule_has-led}

abbrev pub ring : RelationParts
ring = routing_of (record { wraps = true; radix = 4 ∷ [] }) 1 1 Dor

-- a packet to the router opposite goes two hops up
started : (n t : ℕ) → n < 4 → t < 4 → t ≢ n → IsReached ring 0 (Inject n 0) t
started n t a b c = injected (lit< tt) a (lit< tt) b c

begun-0 : IsReached ring 0 (Link 0 0 0) 2
begun-0 = led_on (started 0 2 (lit< tt) (lit< tt) (λ (e : 2 ≡ 0). omega arith)) refl

begun-1 : IsReached ring 0 (Link 1 0 0) 3
begun-1 = led_on (started 1 3 (lit< tt) (lit< tt) (λ (e : 3 ≡ 1). omega arith)) refl

begun-2 : IsReached ring 0 (Link 2 0 0) 0
begun-2 = led_on (started 2 0 (lit< tt) (lit< tt) (λ (e : 0 ≡ 2). omega arith)) refl

begun-3 : IsReached ring 0 (Link 3 0 0) 1
begun-3 = led_on (started 3 1 (lit< tt) (lit< tt) (λ (e : 1 ≡ 3). omega arith)) refl

-- from where it starts it may take one channel alone
only-channel : (way n t p v : ℕ) → dor_port ring.grid (coordinates ring.grid.radix n) (coordinates ring.grid.radix t) ≡ Some way → rule_has ring 0 (Inject n 0) t (Link n p v) ≡ true → (p ≡ way) × (v ≡ 0)
only-channel way n t p v up e =
    let has = rule_has-led ring 0 (Inject n 0) t n p v e in
    let led = is_led-on ring 0 n t p v has.link has.led in
    let port : p ≡ way = same_Some p way (sym (some_of-true _ p led.port) ∙ up) in
    let class = and_parts (nat_le 0 v && nat_lt v 1) true led.channel in
    let vc : v < 1 = ltb-true v 1 (and_parts (nat_le 0 v) (nat_lt v 1) class.0).1 in
    (port, omega (arith, vc))

-- so that channel has a rank
escape-rank : (ranks : ℕ → ℕ → ℕ → Option ℕ) → IsRankedRule ring ranks → (n t : ℕ) → n < 4 → t < 4 → t ≢ n
    → dor_port ring.grid (coordinates ring.grid.radix n) (coordinates ring.grid.radix t) ≡ Some 0 → rule_has ring 0 (Inject n 0) t (Link n 0 0) ≡ true → (l : ℕ) × (ranks n 0 0 ≡ Some l)
escape-rank ranks ranked n t a b away up has =
    let e = ranked.escape 0 t (Inject n 0) (Link n 0 0) n 2 (started n t a b away, has) refl (λ same. away (sym same)) in
    let only = only-channel 0 n t e.0 e.1 up e.3.1 in
    (e.2, subst (λ p. ranks n p 0 ≡ Some e.2) only.0 (subst (λ v. ranks n e.0 v ≡ Some e.2) only.1 e.4))

-- four such hops close a circle
pub ring-none : (ranks : ℕ → ℕ → ℕ → Option ℕ) → IsRankedRule ring ranks → ⊥
ring-none ranks ranked =
    let x = escape-rank ranks ranked 0 2 (lit< tt) (lit< tt) (λ (e : 2 ≡ 0). omega arith) refl refl in
    let y = escape-rank ranks ranked 1 3 (lit< tt) (lit< tt) (λ (e : 3 ≡ 1). omega arith) refl refl in
    let z = escape-rank ranks ranked 2 0 (lit< tt) (lit< tt) (λ (e : 0 ≡ 2). omega arith) refl refl in
    let w = escape-rank ranks ranked 3 1 (lit< tt) (lit< tt) (λ (e : 1 ≡ 3). omega arith) refl refl in
    let a : x.0 < y.0 = ranked.rising 0 2 0 0 0 1 0 0 x.0 y.0 (direct (begun-0, refl)) x.1 y.1 in
    let b : y.0 < z.0 = ranked.rising 0 3 1 0 0 2 0 0 y.0 z.0 (direct (begun-1, refl)) y.1 z.1 in
    let c : z.0 < w.0 = ranked.rising 0 0 2 0 0 3 0 0 z.0 w.0 (direct (begun-2, refl)) z.1 w.1 in
    let d : w.0 < x.0 = ranked.rising 0 1 3 0 0 0 0 0 w.0 x.0 (direct (begun-3, refl)) w.1 x.1 in
    omega (arith, a, b, c, d)

-- ---- a channel without a rank

module _ (routes : Routes) (ranks : Ranking) (made : IsRelationOfRule ring routes) where
  -- some entry has no escape
  abbrev Bare : Type 0
  Bare = (e : Entry) × IsBare routes ranks e

  -- a channel has a rank, or the packet of a router to the neighbour at its end has no escape
  ranked-or : (n t p : ℕ) → n < 4 → t < 4 → t ≢ n → dor_port ring.grid (coordinates ring.grid.radix n) (coordinates ring.grid.radix t) ≡ Some p
      → rule_has ring 0 (Inject n 0) t (Link n p 0) ≡ true → (is_some (rank_at ranks n p 0) ≡ true) ⊎ Bare
  ranked-or n t p a b away way has = by (rank_at ranks n p 0) refl
    where
      by : (o : Option ℕ) → rank_at ranks n p 0 ≡ o → (is_some (rank_at ranks n p 0) ≡ true) ⊎ Bare
      by (Some l) e = inl (ap is_some e)
      by None e = inr (
        record { class = 0; router = n; in_port = 2; in_vc = 0; dst = t },
        record {
          from = Inject n 0;
          input = ap (λ g. arrival_of g (Inject n 0)) made.grid;
          channel = refl;
          next = Link n p 0;
          permitted = (made.exact 0 (Inject n 0) t (Link n p 0)).1 (started n t a b away, has);
          away = λ same. away (sym same);
          none = λ q v h.
              let only = only-channel p n t q v way ((made.exact 0 (Inject n 0) t (Link n q v)).0 h).1 in
              ap (λ k. rank_at ranks n k v) only.0 ∙ ap (rank_at ranks n p) only.1 ∙ e;
        },
      )

  both : {A B : Type 0} → A ⊎ Bare → B ⊎ Bare → (A × B) ⊎ Bare
  both (inl a) (inl b) = inl (a, b)
  both (inr x) other = inr x
  both (inl a) (inr x) = inr x

  -- the channels up and down of a router have ranks
  abbrev AreRanked : ℕ → Type 0
  AreRanked n = (is_some (rank_at ranks n 0 0) ≡ true) × (is_some (rank_at ranks n 1 0) ≡ true)

  below-four : (P : ℕ → Type 0) → P 0 → P 1 → P 2 → P 3 → (n : ℕ) → n < 4 → P n
  below-four P a b c d zero l = a
  below-four P a b c d (suc zero) l = b
  below-four P a b c d (suc (suc zero)) l = c
  below-four P a b c d (suc (suc (suc zero))) l = d
  below-four P a b c d (suc (suc (suc (suc n)))) l = absurd (omega arith)

  port-of : (n p v : ℕ) → p < 2 → v < 1 → AreRanked n → is_some (rank_at ranks n p v) ≡ true
  port-of n zero v l u h = let z : v ≡ 0 = omega arith in ap (λ w. is_some (rank_at ranks n 0 w)) z ∙ h.0
  port-of n (suc zero) v l u h = let z : v ≡ 0 = omega arith in ap (λ w. is_some (rank_at ranks n 1 w)) z ∙ h.1
  port-of n (suc (suc p)) v l u h = absurd (omega arith)

  all-ranked : AreRanked 0 → AreRanked 1 → AreRanked 2 → AreRanked 3 → AreAllRanked routes.grid routes.vcs (rank_at ranks)
  all-ranked a b c d r p v is =
      let here : is_channel ring.grid 1 r p v ≡ true = sym (ap (λ g. is_channel g 1 r p v) made.grid) ∙ sym (ap (λ k. is_channel routes.grid k r p v) made.vcs) ∙ is in
      let place = (and_parts (is_port_channel ring.grid 1 r p v) (is_some (neighbour ring.grid r p)) here).0 in
      let two = and_parts (nat_lt r 4 && nat_lt p 2) (nat_lt v 1) place in
      let one = and_parts (nat_lt r 4) (nat_lt p 2) two.0 in
      port-of r p v (ltb-true p 2 one.1) (ltb-true v 1 two.1) (below-four AreRanked a b c d r (ltb-true r 4 one.0))

  pub ring-bare : (AreAllRanked routes.grid routes.vcs (rank_at ranks) → ⊥) → Bare
  ring-bare some =
      let r0 = both (ranked-or 0 1 0 (lit< tt) (lit< tt) (λ (e : 1 ≡ 0). omega arith) refl refl) (ranked-or 0 3 1 (lit< tt) (lit< tt) (λ (e : 3 ≡ 0). omega arith) refl refl) in
      let r1 = both (ranked-or 1 2 0 (lit< tt) (lit< tt) (λ (e : 2 ≡ 1). omega arith) refl refl) (ranked-or 1 0 1 (lit< tt) (lit< tt) (λ (e : 0 ≡ 1). omega arith) refl refl) in
      let r2 = both (ranked-or 2 3 0 (lit< tt) (lit< tt) (λ (e : 3 ≡ 2). omega arith) refl refl) (ranked-or 2 1 1 (lit< tt) (lit< tt) (λ (e : 1 ≡ 2). omega arith) refl refl) in
      let r3 = both (ranked-or 3 0 0 (lit< tt) (lit< tt) (λ (e : 0 ≡ 3). omega arith) refl refl) (ranked-or 3 2 1 (lit< tt) (lit< tt) (λ (e : 2 ≡ 3). omega arith) refl refl) in
      by (both (both r0 r1) (both r2 r3))
    where
      by : ((AreRanked 0 × AreRanked 1) × (AreRanked 2 × AreRanked 3)) ⊎ Bare → Bare
      by (inr x) = x
      by (inl all) = absurd (some (all-ranked all.0.0 all.0.1 all.1.0 all.1.1))
