-- What a network has that was built: its relation leads on, its channels are wired, and every
-- owned channel is an input.
use Rattle.std.proofs.Common.{◌≡◌, ℕ, ◌+◌, ◌*◌, ◌/◌, ◌<◌, Bool, true, false, List, [], ◌∷◌, length, Some, refl, ap, sym, ◌∙◌, arith}
use Rattle.std.specs.Prelude.{IsTrue, option_map}
use Rattle.noc_topo.specs.Shape.{coordinates, distance_in, distance_of}
use Rattle.noc_route.proofs.BuiltLemmas.{set_at-member}
use Rattle.noc_route.proofs.PermitsLemmas.{permits-inject, permits-nearer, permits-home}
use Rattle.noc_theory.proofs.Common.{eq-eqb, Grid, distance, Channel, Link, Inject, Eject, arrival_of, permits, PermitsLink-from_test, PermitsEject-from_test, Setup, packet_at, leads_from, end_of, IsGoodSetup, IsWellFormedSetup}
use Rattle.noc_theory.specs.Good.{IsWellFormedPacket}
use Rattle.noc_theory.proofs.worms.BuiltRecordLemmas.{IsBuilt}
use Rattle.noc_theory.proofs.worms.GrantLemmas.{IsWired}
use Rattle.noc_theory.proofs.worms.InputLemmas.{input-is, input-low, same-input, inputs-apart, inject-input, link-input}
use Rattle.noc_theory.proofs.worms.MoveLemmas.{end-far}
use Rattle.noc_theory.proofs.worms.RoutedStateLemmas.{IsCovering}

distance_in-none : (wraps : Bool) (k x : ℕ) → distance_in wraps k x x ≡ 0
distance_in-none true k x = omega arith
distance_in-none false k x = omega arith

distance_of-none : (wraps : Bool) (ks xs : List ℕ) → distance_of wraps ks xs xs ≡ 0
distance_of-none wraps [] xs = refl
distance_of-none wraps (k ∷ ks) [] = refl
distance_of-none wraps (k ∷ ks) (x ∷ xs) = let a = distance_in-none wraps k x in let b = distance_of-none wraps ks xs in omega arith

-- a node is no distance from itself
pub distance-none : (g : Grid) (a : ℕ) → distance g a a ≡ 0
distance-none g a = distance_of-none g.wraps g.radix (coordinates g.radix a)

-- a good setup is well-formed
pub well-formed : (net : Setup) → IsGoodSetup net → IsWellFormedSetup net
well-formed net good = record {
  relation = good.relation;
  some_depth = good.some_depth;
  packets = λ p none l.
      let k = good.packets p none l in
      record { source = k.source; destination = k.destination; apart = k.apart; class = k.class; some_flit = k.some_flit };
}

module _ (net : Setup) (good : IsWellFormedSetup net) where
  -- no packet has a fault
  pub good-packet : (p : ℕ) → p < length net.packets → IsWellFormedPacket net.relation (packet_at net p)
  good-packet p low = good.packets p (record { source = 0; destination = 0; class = 0; length = 0; due = 0 }) low

  -- where a channel arrives it ends
  ends-at : (c : Channel) (r p : ℕ) → arrival_of net.relation.grid c ≡ Some (r, p) → end_of net.relation c ≡ Some r
  ends-at c r p e = ap (option_map (λ (place : ℕ × ℕ). place.0)) e

  leads-on : (m t : ℕ) (c o : Channel) → IsTrue (permits net.relation m c t o) → leads_from net c o ≡ true
  leads-on m t c (Link r p v) e =
      let h = PermitsLink-from_test net.relation m c t r p v e in
      let ends = ends-at c r h.in_port h.arrives in
      rw ends (eq-eqb r r refl)
  leads-on m t c (Eject n v) e =
      let h = PermitsEject-from_test net.relation m c t n v e in
      let ends = ends-at c n h.in_port h.arrives in
      rw ends (eq-eqb n n refl)
  leads-on m t c (Inject n v) e = absurd (permits-inject net.relation m c t n v e)

  pub good-built : IsBuilt net
  good-built = record {
    leads = leads-on;
    shorter = λ m t c r p v e.
        let h = PermitsLink-from_test net.relation m c t r p v e in
        let hop = permits-nearer net.relation good.relation m c t r p v e in
        let here = end-far net c r t (ends-at c r h.in_port h.arrives) in
        let there = end-far net (Link r p v) hop.to.0 t (ends-at (Link r p v) hop.to.0 hop.to.1 hop.link) in
        ap (λ d. d + 1) there ∙ hop.nearer ∙ sym here;
    home = λ m t c n v e.
        let h = PermitsEject-from_test net.relation m c t n v e in
        let same : n ≡ t = permits-home net.relation good.relation m c t n v e in
        end-far net c n t (ends-at c n h.in_port h.arrives) ∙ ap (λ x. distance net.relation.grid x t) same ∙ distance-none net.relation.grid t;
    some_depth = let l = good.some_depth in omega arith;
    some_flit = λ p low. let l = (good-packet p low).some_flit in omega arith;
  }

  pub good-wired : IsWired net
  good-wired = record {
    apart = inputs-apart net.relation.grid net.relation.vcs good.relation.table.grid;
    low = λ c h. input-low net.relation.grid net.relation.vcs good.relation.table.grid c (input-is net.relation.grid net.relation.vcs good.relation.table.grid c h);
    found = λ c d h k a v.
        same-input net.relation.grid net.relation.vcs good.relation.table.grid c d
        (input-is net.relation.grid net.relation.vcs good.relation.table.grid c h) (input-is net.relation.grid net.relation.vcs good.relation.table.grid d k) a v;
  }

  pub good-covering : IsCovering net
  good-covering = record {
    link = λ m t c r a v e.
        let h = PermitsLink-from_test net.relation m c t r a v e in
        let hop = permits-nearer net.relation good.relation m c t r a v e in
        let place = (set_at-member net.relation m r h.in_port _ t (a * net.relation.vcs + v) h.member).0.place in
        link-input net.relation.grid net.relation.vcs good.relation.table.grid r a v hop.to place.router h.vc hop.link;
    inject = λ node v low l. inject-input net.relation.grid net.relation.vcs good.relation.table.grid node v low l;
    arrives = λ c h.
        let x = input-is net.relation.grid net.relation.vcs good.relation.table.grid c h in
        ((x.router, x.index / net.relation.vcs), x.arrives);
  }
