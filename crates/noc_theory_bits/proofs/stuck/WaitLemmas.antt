-- After a cycle in which nothing happened the words show the network as long as no packet comes to
-- be due, with what is counted meanwhile.
use Rattle.std.proofs.Common.{◌≡◌, ℕ, zero, suc, ◌+◌, ◌<◌, ◌≤◌, Bool, true, false, length, Option, Some, refl, ap, sym, ◌∙◌, subst, arith, inl, inr}
use Rattle.std.specs.Prelude.{◌⊎◌, find, nat_eq, nat_lt, option_and_then, if◌then◌else◌}
use Rattle.noc_theory.specs.Lockstep.{last_event_at}
use Rattle.noc_theory.specs.Progress.{events, last_event_before}
use Rattle.noc_theory.proofs.join.LastEventLemmas.{event-here, event-somewhere}
use Rattle.noc_theory.proofs.join.ArrivalLemmas.{arrival-noted}
use Rattle.noc_sets.specs.Counts.{ShowsLastEvent}
use Rattle.noc_theory_bits.proofs.Common.{cases_lt, false≢true, lt-ltb, ltb-true, nodes, IsHeldBefore, takes_effect, Site, View, size_of, CYCLE_LIMIT, IsGoodSetup, IsSilent, beats_at, beats_in, has_event_at, view_at, view_in, Setup, arrival_in, packet_at, state_at, view_at-seen, ShowsNetwork, ShowsRouter, Words, all_starts, ShowsHolders}
use Rattle.noc_theory_bits.specs.Network.{HasWaited, MayWait}
use Rattle.noc_theory_bits.proofs.bits.CountedLemmas.{last-before}
use Rattle.noc_theory_bits.proofs.stuck.HolderStayLemmas.{holders-next}
use Rattle.noc_theory_bits.proofs.stuck.QuietLemmas.{quiet-effect, quiet-held, quiet-silent}
use Rattle.noc_theory_bits.proofs.stuck.StillShownLemmas.{shows-on, stays-on}

-- the last event of a router is none before one that it has had
event-last : (net : Setup) (n r m : ℕ) → m < n → has_event_at net m r ≡ true → (k : ℕ) × (last_event_at net n r ≡ Some k) × (m ≤ k)
event-last net zero r m l e = absurd (omega (arith, l))
event-last net (suc n) r m l e = by (has_event_at net n r) refl (cases_lt m n) (λ below. event-last net n r m below e)
  where
    by : (b : Bool) → has_event_at net n r ≡ b → (m < n) ⊎ (n ≤ m) → (m < n → (k : ℕ) × (last_event_at net n r ≡ Some k) × (m ≤ k))
        → (k : ℕ) × ((if b then Some n else last_event_at net n r) ≡ Some k) × (m ≤ k)
    by true h c rest = (n, refl, omega (arith, l))
    by false h (inl below) rest = rest below
    by false h (inr past) rest = let same : m ≡ n = omega (arith, past, l) in absurd (false≢true (sym h ∙ ap (λ x. has_event_at net x r) (sym same) ∙ e))

module _ {count : ℕ} (net : Setup) (setup : IsGoodSetup net) (n t end : ℕ) (sums : n + suc t ≡ end) (limit : end ≤ CYCLE_LIMIT) (was is later : Words)
    (before : ShowsNetwork count net n was) (after : ShowsNetwork count net (suc n) is) (may : MayWait net n end is) (waited : HasWaited net t was is later) where
  few : n < CYCLE_LIMIT
  few = omega (arith, sums, limit)

  -- no router had an event
  none-here : (r : ℕ) → r < nodes net.relation.grid → has_event_at net n r ≡ false
  none-here r l = at (has_event_at net n r) refl
    where
      at : (b : Bool) → has_event_at net n r ≡ b → has_event_at net n r ≡ false
      at false e = e
      at true e =
          let some : last_event_before net (suc n) ≡ Some n = ap (λ b. if b then Some n else last_event_before net n) (lt-ltb 0 (events net n (state_at net n)) (event-here net setup n r l e)) in
          absurd (may.quiet (subst (ShowsLastEvent is.last) some after.last))

  effect : (r : ℕ) → r < nodes net.relation.grid → takes_effect net.relation (view_at net n r) ≡ false
  effect r l = quiet-effect net setup n r l few (none-here r l)

  silent : (r : ℕ) → r < nodes net.relation.grid → IsSilent (beats_at (beats_in net (state_at net n)) r)
  silent r l =
      let b = was.routers r in
      quiet-silent net setup n r l few (none-here r l) b.links.flits b.links.tails b.links.credits (before.routers r l).wires

  held : (r : ℕ) → r < nodes net.relation.grid → IsHeldBefore end (view_at net n r)
  held r l =
      quiet-held net setup n r l few (none-here r l) end
      (subst (λ due. suc n ≤ due → end ≤ due) (after.routers r l).source.due (λ u. may.due r l (omega (arith, u))))

  -- nor has one later
  last-stays : (r : ℕ) → r < nodes net.relation.grid → last_event_at net end r ≡ last_event_at net (suc n) r
  unfolding view_at view_in
  last-stays r l = ap (λ (v : View). v.last_event) (sym (stays-on net setup n t end sums limit effect held silent r l))

  none-later : (m r : ℕ) → n < m → m < end → r < nodes net.relation.grid → has_event_at net m r ≡ false
  none-later m r low high l = at (has_event_at net m r) refl
    where
      at : (b : Bool) → has_event_at net m r ≡ b → has_event_at net m r ≡ false
      at false e = e
      at true e =
          let last = event-last net end r m high e in
          let k = last-before net (suc n) r last.0 (sym (last-stays r l) ∙ last.1) in
          let u = last.2 in
          absurd (omega (arith, k, u, low))

  -- the packets that hold the channels are the same
  holders-on : (k m : ℕ) → suc n + k ≡ m → m ≤ end → (r : ℕ) → r < nodes net.relation.grid → ShowsHolders net (state_at net m) r (is.routers r).marks.packet
  holders-on zero m e u r l = let same : suc n ≡ m = omega (arith, e) in subst (λ x. ShowsHolders net (state_at net x) r (is.routers r).marks.packet) same (after.routers r l).holders
  holders-on (suc k) m e u r l =
      let one : suc (suc n + k) ≡ m = omega (arith, e) in
      subst (λ x. ShowsHolders net (state_at net x) r (is.routers r).marks.packet) one
      (holders-next net setup (suc n + k) (omega (arith, one, u, limit)) (λ s j. none-later (suc n + k) s (omega arith) (omega (arith, one, u)) j) (λ s. (is.routers s).marks.packet)
      (holders-on k (suc n + k) refl (omega (arith, one, u))) r l)

  router-waits : (r : ℕ) → r < nodes net.relation.grid → ShowsRouter count net end r (all_starts net) (later.routers r)
  router-waits r l =
      subst (ShowsRouter count net end r (all_starts net)) (sym (waited.rest r l))
      (shows-on net setup n t end sums limit effect held silent r l (all_starts net) (was.routers r) (is.routers r) (before.routers r l).counts (after.routers r l)
      (holders-on t end (omega (arith, sums)) (omega arith) r l) (later.routers r).counts
      (λ i u. waited.counts r i l (subst (λ (s : Site). i < size_of s) (view_at-seen net n r).site u)))

  -- the network has no event
  last-on : (k m : ℕ) → suc n + k ≡ m → m ≤ end → last_event_before net m ≡ last_event_before net (suc n)
  last-on zero m e u = let same : m ≡ suc n = omega (arith, e) in ap (last_event_before net) same
  last-on (suc k) m e u =
      let one : m ≡ suc (suc n + k) = omega (arith, e) in
      ap (last_event_before net) one ∙ at (nat_lt 0 (events net (suc n + k) (state_at net (suc n + k)))) refl ∙ last-on k (suc n + k) refl (omega (arith, one, u))
    where
      at : (b : Bool) → nat_lt 0 (events net (suc n + k) (state_at net (suc n + k))) ≡ b
          → (if nat_lt 0 (events net (suc n + k) (state_at net (suc n + k))) then Some (suc n + k) else last_event_before net (suc n + k)) ≡ last_event_before net (suc n + k)
      at false h = ap (λ b. if b then Some (suc n + k) else last_event_before net (suc n + k)) h
      at true h =
          let here = event-somewhere net setup (suc n + k) (ltb-true 0 (events net (suc n + k) (state_at net (suc n + k))) h) in
          absurd (false≢true (sym (none-later (suc n + k) here.0 (omega arith) (omega (arith, e, u)) here.1) ∙ here.2))

  -- no packet arrives
  arrivals-stay : (p : ℕ) → p < length net.packets → arrival_in net (state_at net end) p ≡ arrival_in net (state_at net (suc n)) p
  arrivals-stay p l =
      sym (arrival-noted net end p l)
      ∙ ap (λ (v : View). option_and_then (λ (x : ℕ × Option ℕ). x.1) (find (λ (x : ℕ × Option ℕ). nat_eq x.0 p) v.ends))
      (sym (stays-on net setup n t end sums limit effect held silent (packet_at net p).destination (setup.packets p _ l).destination))
      ∙ arrival-noted net (suc n) p l

  pub network-waits : ShowsNetwork count net end later
  network-waits = record {
    limit = limit;
    routers = router-waits;
    last = subst (λ w. ShowsLastEvent w (last_event_before net end)) (sym waited.last) (subst (ShowsLastEvent is.last) (sym (last-on t end (omega (arith, sums)) (omega arith))) after.last);
    arrivals = λ p l. waited.arrivals p l ∙ after.arrivals p l ∙ sym (arrivals-stay p l);
  }
