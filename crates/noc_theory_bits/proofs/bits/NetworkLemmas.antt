-- A network by the words of its routers: after a cycle, and after many.
use Rattle.std.proofs.Common.{◌≡◌, ℕ, zero, suc, ◌<◌, ◌≤◌, Bool, true, refl, sym, ◌∙◌, arith, [], subst}
use Rattle.std.specs.Prelude.{slice_index_or}
use Rattle.noc_theory_bits.proofs.Common.{eq-eqb, true≢false, nodes, get_or-tabulate, empty_finding, CYCLE_LIMIT, IsGoodSetup, counts_before, findings_before, view_at, view_in, Setup, packet_at, size, ten_counts, Router, Turn, IsLayoutOf, Layout, ShowsNetwork, ShowsRouter, Words, all_starts}
use Rattle.noc_theory_bits.specs.Network.{AreJoined, HasRun, HasRunTo, ShowsOwn, tells_in, with_router}
use Rattle.noc_theory_bits.proofs.bits.OwnLemmas.{last-of-all, last-of-own, own-next}
use Rattle.noc_theory_bits.proofs.bits.OpeningLemmas.{network-opens}
use Rattle.noc_theory_bits.proofs.bits.ThroughLemmas.{through}

-- ---- some of the routers, and all
pub network-own : {count : ℕ} (net : Setup) → IsGoodSetup net → (own : ℕ → Bool) (n : ℕ) (w : Words) → ShowsNetwork count net n w → ShowsOwn count net own n w
network-own net setup own n w shows = record {
  limit = shows.limit;
  routers = λ r k. shows.routers r k.0;
  last = last-of-own net setup own n w.last shows.last;
  arrivals = λ p low ours. shows.arrivals p low;
}

pub own-network : {count : ℕ} (net : Setup) → IsGoodSetup net → (n : ℕ) (w : Words) → ShowsOwn count net (λ r. true) n w → ShowsNetwork count net n w
own-network net setup n w shows = record {
  limit = shows.limit;
  routers = λ r l. shows.routers r (l, refl);
  last = last-of-all net setup n w.last shows.last;
  arrivals = λ p low. shows.arrivals p low refl;
}

-- parts that together have all routers show it together
pub parts-network : {count : ℕ} (net : Setup) → IsGoodSetup net → (part : ℕ → ℕ) (n : ℕ) (parts : ℕ → Words) (w : Words)
    → ((r : ℕ) → r < nodes net.relation.grid → ShowsOwn count net (with_router part r) n (parts (part r))) → AreJoined net part parts w → ShowsNetwork count net n w
parts-network {count = count} net setup part n parts w shows joined = own-network net setup n w (record {
  limit = (shows joined.last.0 joined.last.1).limit;
  routers = λ r k. subst (λ (x : Router). ShowsRouter count net n r (all_starts net) x) (sym (joined.routers r k.0)) ((shows r k.0).routers r (k.0, eq-eqb (part r) (part r) refl));
  last = record {
    event = λ m e. (shows joined.last.0 joined.last.1).last.event m (sym joined.last.2 ∙ e);
    none = λ m r low l k. (shows r k.0).last.none m r (let latest = joined.latest r k.0 in omega (arith, latest, low)) l (k.0, eq-eqb (part r) (part r) refl);
  };
  arrivals = λ p low ours.
      let d = (packet_at net p).destination in
      joined.arrivals p low ∙ (shows d (setup.packets p _ low).destination).arrivals p low (eq-eqb (part d) (part d) refl);
})

-- ---- a cycle of all
-- where the words show the network, and it runs a cycle, they show it again
pub network-next : {count : ℕ} (net : Setup) (setup : IsGoodSetup net) (layout : Layout) (is_layout : IsLayoutOf count net.relation net.depth layout) (n : ℕ) (b : Words) (t : ℕ → Turn) (next : Words)
    → n < CYCLE_LIMIT → ShowsNetwork count net n b → HasRun net layout n b t next → ShowsNetwork count net (suc n) next
network-next {count = count} net setup layout is_layout n b t next few shows run =
    own-network net setup (suc n) next
    (own-next net setup layout is_layout (λ r. true) n b t (λ s. (t s).left) (λ s. tells_in net layout n (b.routers s) (t s)) next few (network-own net setup (λ r. true) n b shows) (record {
      turns = λ r k. run.turns r k.0;
      left_are = λ s k. refl;
      told_are = λ s o k u. refl;
      sent = λ r q s port k e no. absurd (true≢false no);
      gathered_are = λ r k. run.gathered_are r k.0;
      are = λ r k. run.are r k.0;
      last = record { some = λ r k. run.last.some r k.0; none = λ none. run.last.none (λ r l. none r (l, refl)) };
      arrivals = record { some = λ r i k. run.arrivals.some r i k.0; others = λ p none. run.arrivals.others p (λ r i l. none r i (l, refl)) };
    }))

-- a run from the opening on shows the network at each count
pub run-shows : {count : ℕ} (net : Setup) (setup : IsGoodSetup net) (layout : Layout) (is_layout : IsLayoutOf count net.relation net.depth layout) (end : ℕ) (w : ℕ → Words)
    → end ≤ CYCLE_LIMIT → HasRunTo count net layout end w → (n : ℕ) → n ≤ end → ShowsNetwork count net n (w n)
run-shows {count = count} net setup layout is_layout end w few run zero l = network-opens count net setup layout is_layout (w 0) run.opened
run-shows {count = count} net setup layout is_layout end w few run (suc n) l =
    let one = run.cycles n (omega (arith, l)) in
    network-next net setup layout is_layout n (w n) one.0 (w (suc n)) (omega (arith, l, few)) (run-shows net setup layout is_layout end w few run n (omega (arith, l))) one.1

-- ---- what is read
-- what was counted of a channel
pub counts-read : {count : ℕ} (net : Setup) (n : ℕ) (w : Words) → ShowsNetwork count net n w → (r i : ℕ) → r < nodes net.relation.grid → i < size net → ten_counts n ((w.routers r).counts i) ≡ counts_before net n r i
unfolding view_at view_in
counts-read net n w shows r i l u = sym ((shows.routers r l).counts i u).0 ∙ get_or-tabulate (size net) i (counts_before net n r) [] u

-- what was found of it in a cycle
pub found-read : {count : ℕ} (net : Setup) (setup : IsGoodSetup net) (layout : Layout) (is_layout : IsLayoutOf count net.relation net.depth layout) (n : ℕ) (b : Words) (t : ℕ → Turn) (next : Words)
    → n < CYCLE_LIMIT → ShowsNetwork count net n b → HasRun net layout n b t next → (r i : ℕ) → r < nodes net.relation.grid → i < size net → (t r).found i ≡ slice_index_or (findings_before net (suc n) r) i empty_finding
found-read net setup layout is_layout n b t next few shows run r i l u = (through net setup n few layout is_layout (all_starts net) r l (b.routers r) (shows.routers r l) (t r) (run.turns r l)).found i u
