-- A cycle of some of the routers of a network, its own: where their words show it at a count, those
-- after the cycle show it at the next, if what comes from the others is right.
use Rattle.std.proofs.Common.{◌≡◌, ℕ, zero, suc, ◌+◌, ◌*◌, ◌<◌, ◌≤◌, Bool, true, false, length, Option, Some, refl, ap, sym, ◌∙◌, subst, arith, inl, inr}
use Rattle.std.specs.Prelude.{◌⊎◌, ◌&&◌, nat_lt, if◌then◌else◌}
use Rattle.noc_theory.specs.Progress.{events, last_event_before}
use Rattle.noc_theory.proofs.join.LastEventLemmas.{event-here, event-somewhere}
use Rattle.noc_sets.specs.Counts.{ShowsLastEvent}
use Rattle.noc_theory_bits.proofs.Common.{and_parts, cases_lt, false≢true, lt-ltb, ltb-true, true≢false, mul-add-lt, neighbour, nodes, ports, link_back, CYCLE_LIMIT, IsGoodSetup, has_event_at, Setup, arrival_in, packet_at, state_at, Links, Turn, IsLayoutOf, Layout, Words, all_starts, numbers_in, beat_of, ShowsBeat}
use Rattle.noc_theory_bits.specs.Network.{HasRunOwn, IsOwn, ShowsLastOf, ShowsOwn}
use Rattle.noc_theory_bits.specs.Sends.{Sends}
use Rattle.noc_theory_bits.proofs.bits.ThroughLemmas.{IsThrough, router-next, sends, through}
use Rattle.noc_theory_bits.proofs.network.ArrivalLemmas.{TailOut, no-arrival, out-or-not, tail-arrives, tail-ends}
use Rattle.noc_theory_bits.proofs.network.NetworkLemmas.{good}

-- a test holds of one of so many, or of none
one-or-none : (m : ℕ) (test : ℕ → Bool) → ((r : ℕ) × (r < m) × (test r ≡ true)) ⊎ ((r : ℕ) → r < m → test r ≡ false)
one-or-none zero test = inr (λ r l. absurd (omega (arith, l)))
one-or-none (suc m) test = at (test m) refl (one-or-none m test)
  where
    at : (b : Bool) → test m ≡ b → ((r : ℕ) × (r < m) × (test r ≡ true)) ⊎ ((r : ℕ) → r < m → test r ≡ false)
        → ((r : ℕ) × (r < suc m) × (test r ≡ true)) ⊎ ((r : ℕ) → r < suc m → test r ≡ false)
    at true e rest = inl (m, omega arith, e)
    at false e (inl found) = let l = found.1 in inl (found.0, omega (arith, l), found.2)
    at false e (inr none) = inr (λ r l. by r l (cases_lt r m))
      where
        by : (r : ℕ) → r < suc m → (r < m) ⊎ (m ≤ r) → test r ≡ false
        by r l (inl low) = none r low
        by r l (inr past) = let same : m ≡ r = omega (arith, l, past) in ap test (sym same) ∙ e

false-where : (a b : Bool) → a ≡ true → (a && b) ≡ false → b ≡ false
false-where true b e h = h
false-where false b e h = absurd (false≢true e)

-- ---- the last event, of all routers
-- a cycle without an event has none in any router
quiet-here : (net : Setup) → IsGoodSetup net → (m r : ℕ) → r < nodes net.relation.grid → nat_lt 0 (events net m (state_at net m)) ≡ false → has_event_at net m r ≡ false
quiet-here net setup m r l e = at (has_event_at net m r) refl
  where
    at : (y : Bool) → has_event_at net m r ≡ y → y ≡ false
    at true h = absurd (true≢false (sym (lt-ltb 0 (events net m (state_at net m)) (event-here net setup m r l h)) ∙ e))
    at false h = refl

pub last-of-own : (net : Setup) → IsGoodSetup net → (own : ℕ → Bool) (n word : ℕ) → ShowsLastEvent word (last_event_before net n) → ShowsLastOf net own n word
last-of-own net setup own zero word is = record {
  event = λ m e. absurd (omega (arith, is, e));
  none = λ m r low l k. absurd (omega (arith, l));
}
last-of-own net setup own (suc n) word is = at (nat_lt 0 (events net n (state_at net n))) refl is (last-of-own net setup own n word)
  where
    at : (b : Bool) → nat_lt 0 (events net n (state_at net n)) ≡ b → ShowsLastEvent word (if b then Some n else last_event_before net n) → (ShowsLastEvent word (last_event_before net n) → ShowsLastOf net own n word) → ShowsLastOf net own (suc n) word
    at true e is rest = record {
      event = λ m h.
          let same : n ≡ m = omega (arith, is, h) in
          (omega (arith, same), subst (λ x. 0 < events net x (state_at net x)) same (ltb-true 0 (events net n (state_at net n)) e));
      none = λ m r low l k. absurd (omega (arith, is, low, l));
    }
    at false e is rest =
        let old = rest is in
        record {
          event = λ m h. let one = old.event m h in (let l = one.0 in omega (arith, l), one.1);
          none = λ m r low l k. by m r low l k (cases_lt m n);
        }
      where
        by : (m r : ℕ) → word ≤ m → m < suc n → IsOwn net own r → (m < n) ⊎ (n ≤ m) → has_event_at net m r ≡ false
        by m r low l k (inl before) = (rest is).none m r low before k
        by m r low l k (inr past) = let same : n ≡ m = omega (arith, l, past) in subst (λ x. has_event_at net x r ≡ false) same (quiet-here net setup n r k.0 e)

pub last-of-all : (net : Setup) → IsGoodSetup net → (n word : ℕ) → ShowsLastOf net (λ r. true) n word → ShowsLastEvent word (last_event_before net n)
last-of-all net setup zero zero shows = refl
last-of-all net setup zero (suc m) shows = let one = shows.event m (omega arith) in absurd (let l = one.0 in omega (arith, l))
last-of-all net setup (suc n) word shows = at (nat_lt 0 (events net n (state_at net n))) refl (last-of-all net setup n word)
  where
    at : (b : Bool) → nat_lt 0 (events net n (state_at net n)) ≡ b → (ShowsLastOf net (λ r. true) n word → ShowsLastEvent word (last_event_before net n)) → ShowsLastEvent word (if b then Some n else last_event_before net n)
    at true e rest = by (cases_lt n word)
      where
        here : (r : ℕ) × (r < nodes net.relation.grid) × (has_event_at net n r ≡ true)
        here = event-somewhere net setup n (ltb-true 0 (events net n (state_at net n)) e)

        upper : (v : ℕ) → word ≡ v → word ≤ suc n
        upper zero h = omega (arith, h)
        upper (suc m) h = let one = shows.event m (omega (arith, h)) in (let l = one.0 in omega (arith, l, h))

        by : (n < word) ⊎ (word ≤ n) → word ≡ n + 1
        by (inl l) = let most = upper word refl in omega (arith, l, most)
        by (inr low) = absurd (false≢true (sym (shows.none n here.0 low (omega arith) (here.1, refl)) ∙ here.2))
    at false e rest = rest (record {
      event = λ m h. let one = shows.event m h in (by m one.0 one.1 (cases_lt m n), one.1);
      none = λ m r low l k. shows.none m r low (omega (arith, l)) k;
    })
      where
        by : (m : ℕ) → m < suc n → 0 < events net m (state_at net m) → (m < n) ⊎ (n ≤ m) → m < n
        by m l some (inl before) = before
        by m l some (inr past) =
            let same : m ≡ n = omega (arith, l, past) in
            absurd (true≢false (sym (lt-ltb 0 (events net n (state_at net n)) (subst (λ x. 0 < events net x (state_at net x)) same some)) ∙ e))

-- ---- a cycle
module _ {count : ℕ} (net : Setup) (setup : IsGoodSetup net) (layout : Layout) (is_layout : IsLayoutOf count net.relation net.depth layout) (own : ℕ → Bool) (n : ℕ) (b : Words) (t : ℕ → Turn) (left : ℕ → Links) (tells : ℕ → ℕ → Option ℕ) (next : Words)
    (few : n < CYCLE_LIMIT) (shows : ShowsOwn count net own n b) (run : HasRunOwn net layout own n b t left tells next) where
  abbrev packets : ℕ → ℕ → ℕ
  packets s = numbers_in net layout n (b.routers s)

  all-through : (r : ℕ) → IsOwn net own r → IsThrough count net n r (all_starts net) (packets r) (t r)
  all-through r k = through net setup n few layout is_layout (all_starts net) r k.0 (b.routers r) (shows.routers r k) (t r) (run.turns r k)

  -- what own routers send is right
  own-sends : (s port : ℕ) → IsOwn net own s → port < ports net.relation.grid → Sends net n s port (left s) (tells s)
  own-sends s port k low =
      let one = sends net setup n (all_starts net) s k.0 (packets s) (t s) (all-through s k) port low in
      record {
        beat = subst (λ (x : Links). ShowsBeat net.relation.vcs port (beat_of net n s port) x) (sym (run.left_are s k)) one.beat;
        told = λ vc u.
            run.told_are s (port * net.relation.vcs + vc) k (let m = mul-add-lt port net.relation.vcs vc (ports net.relation.grid) low u in omega (arith, m))
            ∙ one.told vc u;
      }

  -- so what all neighbours send to them is
  all-sent : (r : ℕ) → IsOwn net own r → (q s port : ℕ) → neighbour net.relation.grid r q ≡ Some (s, port) → Sends net n s port (left s) (tells s)
  all-sent r k q s port e = by (own s) refl
    where
      by : (x : Bool) → own s ≡ x → Sends net n s port (left s) (tells s)
      by true is =
          let back = link_back net.relation.grid r q s port (good net setup).relation.table.grid k.0 e in
          own-sends s port (back.node, is) (let low = back.port in omega (arith, low))
      by false is = run.sent r q s port k e is

  -- ---- the last event
  last-next : ShowsLastOf net own (suc n) next.last
  last-next = by (one-or-none (nodes net.relation.grid) (λ r. own r && (t r).happened))
    where
      by : ((r : ℕ) × (r < nodes net.relation.grid) × ((own r && (t r).happened) ≡ true)) ⊎ ((r : ℕ) → r < nodes net.relation.grid → (own r && (t r).happened) ≡ false) → ShowsLastOf net own (suc n) next.last
      by (inl (r, l, e)) =
          let both = and_parts (own r) (t r).happened e in
          let is : next.last ≡ n + 1 = run.last.some r (l, both.0) both.1 in
          let some : 0 < events net n (state_at net n) = event-here net setup n r l (sym (all-through r (l, both.0)).happened ∙ both.1) in
          record {
            event = λ m h.
                let same : n ≡ m = omega (arith, is, h) in
                (omega (arith, same), subst (λ x. 0 < events net x (state_at net x)) same some);
            none = λ m s low u k. absurd (omega (arith, is, low, u));
          }
      by (inr none) =
          let is : next.last ≡ b.last = run.last.none (λ r k. false-where (own r) (t r).happened k.1 (none r k.0)) in
          record {
            event = λ m h. let one = shows.last.event m (sym is ∙ h) in (let l = one.0 in omega (arith, l), one.1);
            none = λ m r low u k. at m r (omega (arith, is, low)) u k (cases_lt m n);
          }
        where
          at : (m r : ℕ) → b.last ≤ m → m < suc n → IsOwn net own r → (m < n) ⊎ (n ≤ m) → has_event_at net m r ≡ false
          at m r low u k (inl before) = shows.last.none m r low before k
          at m r low u k (inr past) =
              let same : n ≡ m = omega (arith, u, past) in
              subst (λ x. has_event_at net x r ≡ false) same (sym (all-through r k).happened ∙ false-where (own r) (t r).happened k.1 (none r k.0))

  -- ---- arrivals
  arrivals-next : (p : ℕ) → p < length net.packets → own (packet_at net p).destination ≡ true → next.arrivals p ≡ arrival_in net (state_at net (suc n)) p
  arrivals-next p low ours = by (out-or-not net setup n p low)
    where
      by : TailOut net n p ⊎ (TailOut net n p → ⊥) → next.arrivals p ≡ arrival_in net (state_at net (suc n)) p
      by (inl x) =
          let k : IsOwn net own x.router = (x.goes.known, subst (λ r. own r ≡ true) (tail-ends net setup n p x) ours) in
          let is = (all-through x.router k).arrived.comes x.channel x.goes x.last in
          subst (λ q. next.arrivals q ≡ Some n) (is.1 ∙ x.packet) (run.arrivals.some x.router x.channel k x.goes.mover.channel is.0)
          ∙ sym (tail-arrives net setup n p x)
      by (inr never) =
          run.arrivals.others p (λ r i k u bit same.
          let out = (all-through r k).arrived.goes i u bit in
          never (record { router = r; channel = i; goes = out.0; last = out.1; packet = sym out.2 ∙ same }))
          ∙ shows.arrivals p low ours
          ∙ sym (no-arrival net setup n p low never)

  -- where the words show own routers, and these run a cycle, they show them again
  pub own-next : ShowsOwn count net own (suc n) next
  own-next = record {
    limit = omega (arith, few);
    routers = λ r k. router-next net setup n (all_starts net) r k.0 (packets r) (t r) (all-through r k) few left tells (all-sent r k) (next.routers r) (run.gathered_are r k) (run.are r k);
    last = last-next;
    arrivals = arrivals-next;
  }
