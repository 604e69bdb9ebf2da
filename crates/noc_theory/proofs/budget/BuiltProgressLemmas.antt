-- A network over a relation that was built, whose packets have no fault, has
-- what progress needs of it.
use Rattle.std.proofs.Common.{◌≡◌, ℕ, ◌+◌, ◌*◌, ◌/◌, ◌%◌, true, Some, refl, ap, sym, ◌∙◌, arith}
use Rattle.std.specs.Prelude.{IsTrue}
use Rattle.noc_route.specs.Routes.{is_sent}
use Rattle.noc_route.proofs.BuiltLemmas.{set_at-member}
use Rattle.noc_route.proofs.PermitsLemmas.{permits-inject, permits-nearer, member-permits}
use Rattle.noc_theory.proofs.Common.{lt-ltb, div-mul-add, mod-mul-add, local_port, neighbour, link_back, has_bit, Channel, Link, Inject, Eject, arrival_of, channel_vc, permits, set_at, IsRelation, PermitsLink-from_test, PermitsEject-from_test, Setup, packet_at, IsWellFormedSetup}
use Rattle.noc_theory.proofs.worms.BuiltLemmas.{good-built, good-packet}
use Rattle.noc_theory.proofs.budget.ProgressRecordLemmas.{IsReal, IsBuilt, LeadsOn}
use Rattle.noc_theory.proofs.budget.WormChainLemmas.{IsNearing}

module _ (net : Setup) (made : IsRelation net.relation) where
  -- what is permitted is an output channel of the network
  pub permitted-real : (m : ℕ) (c : Channel) (t : ℕ) (o : Channel) → IsTrue (permits net.relation m c t o) → IsReal net o
  permitted-real m c t (Link r q v) e =
      let h = PermitsLink-from_test net.relation m c t r q v e in
      let there = (set_at-member net.relation m r h.in_port (channel_vc c) t (q * net.relation.vcs + v) h.member).0 in
      let hop = permits-nearer net.relation made m c t r q v e in
      (there.place.router, h.vc, hop.to, hop.link)
  permitted-real m c t (Eject n v) e =
      let h = PermitsEject-from_test net.relation m c t n v e in
      let there = (set_at-member net.relation m n h.in_port (channel_vc c) t (local_port net.relation.grid * net.relation.vcs + v) h.member).0 in
      (there.place.router, h.vc)
  permitted-real m c t (Inject n v) e = absurd (permits-inject net.relation m c t n v e)

  -- each member of the set where a channel arrives is led to
  led-by : (m : ℕ) (c : Channel) (t r p k : ℕ) → is_sent net.relation c ≡ true → arrival_of net.relation.grid c ≡ Some (r, p)
      → has_bit (set_at net.relation m r p (channel_vc c) t) k ≡ true → LeadsOn net m c t r
  led-by m c t r p k sent e has = (k, made.real m r p (channel_vc c) t k has, member-permits net.relation made m c t r p k sent e has)

  -- each entry that a permitted link leads to permits something
  pub leads-on : (m : ℕ) (c : Channel) (t r q v a b : ℕ) → IsTrue (permits net.relation m c t (Link r q v)) → neighbour net.relation.grid r q ≡ Some (a, b) → LeadsOn net m (Link r q v) t a
  leads-on m c t r q v a b e n =
      let h = PermitsLink-from_test net.relation m c t r q v e in
      let port : (q * net.relation.vcs + v) / net.relation.vcs ≡ q = div-mul-add q net.relation.vcs v h.vc in
      let number : (q * net.relation.vcs + v) % net.relation.vcs ≡ v = mod-mul-add q net.relation.vcs v h.vc in
      let there = (set_at-member net.relation m r h.in_port (channel_vc c) t (q * net.relation.vcs + v) h.member).0 in
      let found = made.led_on m r h.in_port (channel_vc c) t (q * net.relation.vcs + v) a b h.member (ap (neighbour net.relation.grid r) port ∙ n) in
      led-by m (Link r q v) t a b found.0 (lt-ltb _ _ there.place.router) n (ap (λ x. has_bit (set_at net.relation m a b x t) found.0) (sym number) ∙ found.1)

-- each permitted hop brings the packet nearer
pub nearer-good : (net : Setup) → IsWellFormedSetup net → IsNearing net
nearer-good net good m c t r q v e = let s = (good-built net good).shorter m t c r q v e in omega arith

-- a good network
pub built-good : (net : Setup) → IsWellFormedSetup net → IsBuilt net
built-good net good = record {
  depth = good.some_depth;
  vcs = let v = good.relation.table.some_vcs in omega arith;
  sources = λ p l. (good-packet net good p l).source;
  linked = λ r q a b l e. let back = link_back net.relation.grid r q a b good.relation.table.grid l e in (back.node, back.back);
  real = permitted-real net good.relation;
  starts = λ p v l lv.
      let k = good-packet net good p l in
      let found = good.relation.injected (packet_at net p).class (packet_at net p).source v (packet_at net p).destination k.class k.source lv k.destination
      k.apart in
      led-by net good.relation (packet_at net p).class (Inject (packet_at net p).source v) (packet_at net p).destination (packet_at net p).source (local_port net.relation.grid) found.0 refl refl found.1;
  goes_on = leads-on net good.relation;
}
