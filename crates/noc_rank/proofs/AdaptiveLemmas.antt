-- The ranks by formula of the rule `adaptive` make its relation ranked.
use Rattle.std.proofs.Common.{◌≡◌, ◌≢◌, ℕ, ◌+◌, ◌/◌, ◌<◌, ◌≤◌, true, false, List, Some, refl, sym, ap, subst, ◌∙◌, arith}
use Rattle.std.specs.Prelude.{IsTrue, nat_eq, nat_lt}
use Rattle.std.proofs.lemmas.Bool.{eq-eqb, ne_eqb, lt-ltb, and_from}
use Rattle.noc_topo.specs.Shape.{Grid, IsGrid, nodes, dimensions, coordinates, local_port, neighbour}
use Rattle.noc_topo.proofs.ShapeLemmas.{length-coordinates}
use Rattle.noc_topo.proofs.LinkLemmas.{AreRadices, AreRadices-from_test, IsWithin-coordinates, hop_of}
use Rattle.noc_topo.proofs.DistanceLemmas.{hop-coordinates}
use Rattle.noc_route.specs.Channel.{Channel, Link, arrival_of, channel_vc}
use Rattle.noc_route.specs.Relation.{RelationParts, rule_offers, rule_has, is_led, is_right, is_escape}
use Rattle.noc_route.specs.Routes.{Routes, permits}
use Rattle.noc_route.specs.Built.{IsRelationOfRule, routing_of}
use Rattle.noc_route.specs.Ranks.{Ranking, LeadsTo, direct, through, is_channel, rank_at, IsRankedBy}
use Rattle.noc_route.specs.declared.rule.Rule.TheVariants.{Adaptive}
use Rattle.noc_route.proofs.AdaptiveLemmas.{Nearer-from_test}
use Rattle.noc_route.proofs.BuiltLemmas.{set_at-member}
use Rattle.noc_route.proofs.PermitsLemmas.{PermitsLink-from_test}
use Rattle.noc_route.proofs.RisingLemmas.{permits-channel}
use Rattle.noc_rank.specs.Formulas.{has_ranks, formula, formula_at}
use Rattle.noc_rank.proofs.FormulaLemmas.{has_ranks-right}
use Rattle.noc_rank.proofs.BareLemmas.{member-at}
use Rattle.noc_rank.proofs.LedLemmas.{IsLedOn, is_led-on, rule_has-led, reached-led, formula-parts}
use Rattle.noc_rank.proofs.RiseLemmas.{IsOrderPort, order-port, order_rank}
use Rattle.noc_rank.proofs.ClimbLemmas.{escape_rank, IsAtLeast, rises-on, keeps-on}
use Rattle.noc_rank.proofs.EscapeLemmas.{dor_port-found, order-nearer, escape-found, escape-taken}

module _ (grid : Grid) (vcs classes : ℕ) (routes : Routes) (k : Ranking) (made : IsRelationOfRule (routing_of grid vcs classes Adaptive) routes) (ruled : has_ranks grid vcs classes Adaptive ≡ true)
    (given : (r p v : ℕ) → rank_at k r p v ≡ formula_at grid vcs classes Adaptive r p v) where
  abbrev g : RelationParts
  g = routing_of grid vcs classes Adaptive

  abbrev Permits : ℕ → Channel → ℕ → Channel → Type 0
  Permits m c t o = IsTrue (permits routes m c t o)

  abbrev at_node : ℕ → List ℕ
  at_node n = coordinates grid.radix n

  sound : IsGrid grid
  sound = subst IsGrid made.grid made.built.table.grid

  radices : AreRadices grid.radix
  radices = AreRadices-from_test grid.radix sound.sizes

  -- ---- ranks rise

  -- a permitted link channel is one to which the rule leads
  permitted-led : (m : ℕ) (c : Channel) (t r p v : ℕ) → Permits m c t (Link r p v) → IsLedOn g m r t p v
  permitted-led m c t r p v e =
      let has = rule_has-led g m c t r p v ((made.exact m c t (Link r p v)).0 e).1 in
      is_led-on g m r t p v has.link has.led

  -- and so is one on which packets are
  coming-led : (m t r p v : ℕ) (o : Channel) → Permits m (Link r p v) t o → IsLedOn g m r t p v
  coming-led m t r p v o e =
      let has = reached-led g m t r p v ((made.exact m (Link r p v) t o).0 e).0 in
      is_led-on g m r t p v has.1.link has.1.led

  -- where it has a rank, it is the escape channel of the port of dimension order
  ranked-escape : (m t r p v n : ℕ) → IsLedOn g m r t p v → rank_at k r p v ≡ Some n → IsOrderPort grid (at_node r) (at_node t) p × (escape_rank grid (at_node r) (at_node t) p ≡ n)
  ranked-escape m t r p v n led e =
      let parts = formula-parts grid vcs classes Adaptive r p v n (sym (given r p v) ∙ e) in
      let escape = escape-taken grid vcs classes m (at_node r) (at_node t) p v led.channel parts.0 in
      (escape.0, ap (order_rank grid (at_node r) p) (sym escape.1) ∙ parts.1)

  -- the rank of the escape channel rises over a hop on an escape channel
  escape-hop : (t r p b q : ℕ) → neighbour grid r p ≡ Some (b, q) → IsOrderPort grid (at_node r) (at_node t) p → IsAtLeast grid (at_node b) (at_node t) (escape_rank grid (at_node r) (at_node t) p + 1)
  escape-hop t r p b q link order =
      let hop = hop_of grid r p b q sound link in
      let P : List ℕ → Type 0 = λ ys. IsAtLeast grid ys (at_node t) (escape_rank grid (at_node r) (at_node t) p + 1) in
      subst P (sym (hop-coordinates grid r p b q sound hop))
      (rises-on grid (at_node r) (at_node t) p hop.coordinate radices (IsWithin-coordinates grid.radix r radices) (IsWithin-coordinates grid.radix t radices) (length-coordinates grid.radix r) hop.moved order)

  -- and does not fall over any other
  any-hop : (m t r p v b q n : ℕ) → neighbour grid r p ≡ Some (b, q) → IsLedOn g m r t p v → IsAtLeast grid (at_node r) (at_node t) n → IsAtLeast grid (at_node b) (at_node t) n
  any-hop m t r p v b q n link led low =
      let hop = hop_of grid r p b q sound link in
      let inside : p / 2 < dimensions grid = omega (arith, hop.link) in
      let P : List ℕ → Type 0 = λ ys. IsAtLeast grid ys (at_node t) n in
      subst P (sym (hop-coordinates grid r p b q sound hop))
      (keeps-on grid (at_node r) (at_node t) p hop.coordinate radices (IsWithin-coordinates grid.radix r radices) (IsWithin-coordinates grid.radix t radices) (length-coordinates grid.radix r) hop.moved
      n inside (Nearer-from_test grid (at_node r) (at_node t) p led.port) low)

  -- so the next channel with a rank, through whatever adaptive channels, has rank n at least
  climbs : (m t n : ℕ) (c : Channel) (a q w l : ℕ) → LeadsTo Permits (rank_at k) m t c (Link a q w) → ((r i : ℕ) → arrival_of grid c ≡ Some (r, i) → IsAtLeast grid (at_node r) (at_node t) n)
      → rank_at k a q w ≡ Some l → n ≤ l
  climbs m t n c a q w l (direct h) low e =
      let from = PermitsLink-from_test routes m c t a q w h in
      let last = ranked-escape m t a q w l (permitted-led m c t a q w h) e in
      omega (arith, low a from.in_port (ap (λ x. arrival_of x c) (sym made.grid) ∙ from.arrives) q last.0, last.1)
  climbs m t n c a q w l (through {r = b} {p = x} {v = y} h none rest) low e =
      let from = PermitsLink-from_test routes m c t b x y h in
      let here = low b from.in_port (ap (λ x. arrival_of x c) (sym made.grid) ∙ from.arrives) in
      climbs m t n (Link b x y) a q w l rest (λ r i link. any-hop m t b x y r i n link (permitted-led m c t b x y h) here) e

  -- the first channel is one on which packets are
  begins : (m t r p v : ℕ) (e : Channel) → LeadsTo Permits (rank_at k) m t (Link r p v) e → IsLedOn g m r t p v
  begins m t r p v e (direct {r = b} {p = x} {v = y} h) = coming-led m t r p v (Link b x y) h
  begins m t r p v e (through {r = b} {p = x} {v = y} h none rest) = coming-led m t r p v (Link b x y) h

  rises : (m t r p v a q w n l : ℕ) → LeadsTo Permits (rank_at k) m t (Link r p v) (Link a q w) → rank_at k r p v ≡ Some n → rank_at k a q w ≡ Some l → n < l
  rises m t r p v a q w n l leads one other =
      let first = ranked-escape m t r p v n (begins m t r p v (Link a q w) leads) one in
      let next = climbs m t (escape_rank grid (at_node r) (at_node t) p + 1) (Link r p v) a q w l leads (λ b i link. escape-hop t r p b i link first.0) other in
      omega (arith, next, first.1)

  -- ---- an escape channel is permitted

  right : is_right grid vcs classes Adaptive ≡ true
  right = has_ranks-right grid vcs classes Adaptive ruled

  -- the rule leads to the escape channel of the port of dimension order
  record HasEscape (m : ℕ) (c : Channel) (t r : ℕ) : Type 0 where
    port : ℕ
    vc : ℕ
    led : rule_has g m c t (Link r port vc) ≡ true
    escape : is_escape grid vcs classes vc ≡ true

  has-escape : (m : ℕ) (c : Channel) (t r q : ℕ) → arrival_of grid c ≡ Some (r, q) → r < nodes grid → t < nodes grid → r ≢ t → HasEscape m c t r
  has-escape m c t r q arrives here there away =
      let found = dor_port-found grid r t sound here there away in
      let order = order-port grid (at_node r) (at_node t) found.0 found.1 in
      let channel = escape-found grid vcs classes m (at_node r) (at_node t) found.0 right found.1 in
      let away_test : nat_eq r t ≡ false = ne_eqb r t away in
      let led : is_led g m r t found.0 channel.0 ≡ true = rw away_test (and_from _ _ (order-nearer grid (at_node r) (at_node t) found.0 order) channel.1) in
      let self : nat_eq r r ≡ true = eq-eqb r r refl in
      let link : nat_lt found.0 (local_port grid) ≡ true = lt-ltb _ _ (omega (arith, order.inside)) in
      record {
        port = found.0;
        vc = channel.0;
        led = ap (λ from. rule_offers g m from (channel_vc c) t (Link r found.0 channel.0)) arrives ∙ rw (self, link) led;
        escape = channel.2;
      }

  -- it has a rank where it is permitted
  escape-ranked : (m : ℕ) (c : Channel) (t r p v : ℕ) → Permits m c t (Link r p v) → is_escape grid vcs classes v ≡ true → rank_at k r p v ≡ Some (formula grid vcs classes Adaptive r p v)
  escape-ranked m c t r p v permitted escape =
      let there : is_channel routes.grid routes.vcs r p v ≡ true = permits-channel routes made.built m c t r p v permitted in
      let same : is_channel routes.grid routes.vcs r p v ≡ is_channel grid vcs r p v = ap (λ x. is_channel x routes.vcs r p v) made.grid ∙ ap (λ x. is_channel grid x r p v) made.vcs in
      let channel : is_channel grid vcs r p v ≡ true = sym same ∙ there in
      given r p v ∙ rw (channel, escape) refl

  -- the router and the destination of an entry that permits something
  entry-nodes : (m : ℕ) (c : Channel) (t : ℕ) (o : Channel) (r q : ℕ) → Permits m c t o → arrival_of routes.grid c ≡ Some (r, q) → (r < nodes grid) × (t < nodes grid)
  entry-nodes m c t o r q h arrives =
      let member = member-at routes made.built m c t o r q (channel_vc c) h arrives refl in
      let place = (set_at-member routes m r q (channel_vc c) t member.0 member.1).0.place in
      let size : nodes routes.grid ≡ nodes grid = ap nodes made.grid in
      (omega (arith, place.router, size), omega (arith, place.dst, size))

  escapes : (m t : ℕ) (c o : Channel) (r q : ℕ) → Permits m c t o → arrival_of routes.grid c ≡ Some (r, q) → r ≢ t
      → (p : ℕ) × (v : ℕ) × (n : ℕ) × Permits m c t (Link r p v) × (rank_at k r p v ≡ Some n)
  escapes m t c o r q h arrives away =
      let there = entry-nodes m c t o r q h arrives in
      let found = has-escape m c t r q (ap (λ x. arrival_of x c) (sym made.grid) ∙ arrives) there.0 there.1 away in
      let permitted : Permits m c t (Link r found.port found.vc) = (made.exact m c t (Link r found.port found.vc)).1 (((made.exact m c t o).0 h).0, found.led) in
      (found.port, found.vc, formula grid vcs classes Adaptive r found.port found.vc, permitted, escape-ranked m c t r found.port found.vc permitted found.escape)

  pub adaptive-ranked : IsRankedBy routes k
  adaptive-ranked = record { escape = escapes; rising = rises }
