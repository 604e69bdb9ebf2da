-- A router that is awake in a cycle: what is counted of its channels, and whether something happens
-- in it.
use Rattle.std.proofs.Common.{◌≡◌, ℕ, suc, ◌+◌, ◌<◌, ◌≤◌, Bool, true, false, List, length, Option, Some, None, refl, ap, sym, ◌∙◌, subst, arith, add-one, bit_or, zero, [], sum}
use Rattle.std.specs.Prelude.{not, nat_eq, if◌then◌else◌, slice_index_or}
use Rattle.noc_theory.specs.Lockstep.{last_event_at}
use Rattle.noc_sets.specs.Counts.{with_verdicts}
use Rattle.noc_theory_bits.proofs.Common.{same_Some, nodes, ports, local_port, length-tabulate, Beat, Routes, arbiter_at, MembersAreBelow, Decisions, Site, View, decisions_of, has_event, local_step, size_of, view_after_commit, view_after_inject, view_after_takes, flit_out, tail_packet, with_arrival, with_misfit, arrivals_after, is_expected_in, CYCLE_LIMIT, IsGoodSetup, counts_before, has_event_at, view_at, view_in, Setup, size, view_at-seen, Column, RouterMarks, IsColumn, ByVerdict, ShowsCounts, lane_verdicts, nine_counts, ten_counts, HasDecided, Still, Allocation, IsLayoutOf, Layout, Effects, lane_heads, Start, AreEffects, or-zero, permitted}
use Rattle.noc_theory_bits.proofs.bits.CycleLemmas.{around, column-was, decisions, picks-there, put, quiet, switched-there}
use Rattle.noc_theory_bits.proofs.bits.FreezeLemmas.{ShowsStill}
use Rattle.noc_theory_bits.proofs.network.NetworkLemmas.{beats, beats-taken, frozen-arbiters, frozen-seen, frozen_view, next-count, taken_view}
use Rattle.noc_theory_bits.proofs.routers.CountLemmas.{counts-decided, counts-put, injected-keeps}
use Rattle.noc_theory_bits.proofs.routers.DecideLemmas.{HasTurns, AreDecided}
use Rattle.noc_theory_bits.proofs.routers.EventLemmas.{event-decided}
use Rattle.noc_theory_bits.proofs.routers.SettlingLemmas.{effects, moves-below}

-- ---- the event of a router in a cycle
committed-event : (d : Decisions) (v : View) → (view_after_commit d v).last_event ≡ (if has_event d v then Some v.given else v.last_event)
unfolding view_after_commit
committed-event d v = kept (tail_packet (flit_out v d.round (local_port v.site.grid))) _
  where
    kept : (p : Option ℕ) (w : View) → (with_arrival p w).last_event ≡ w.last_event
    kept None w = refl
    kept (Some p) w = at (is_expected_in p w.ends)
      where
        at : (b : Bool) → (if b then record w { ends = arrivals_after p w.given w.ends } else with_misfit w).last_event ≡ w.last_event
        at true = refl
        at false = refl

step-event : (relation : Routes) (v : View) (row : List Beat) (n : ℕ)
    → (local_step relation v row n).0.last_event
    ≡ (if has_event (decisions_of relation (view_after_inject n (view_after_takes relation row v))) (view_after_inject n (view_after_takes relation row v))
    then Some (view_after_inject n (view_after_takes relation row v)).given else (view_after_inject n (view_after_takes relation row v)).last_event)
unfolding local_step
step-event relation v row n = committed-event (decisions_of relation (view_after_inject n (view_after_takes relation row v))) (view_after_inject n (view_after_takes relation row v))

-- the last event before a cycle is of an earlier one
pub last-before : (net : Setup) (n r m : ℕ) → last_event_at net n r ≡ Some m → m < n
last-before net zero r m e = absurd (cc e)
last-before net (suc n) r m e = by (has_event_at net n r) e (last-before net n r m)
  where
    by : (b : Bool) → (if b then Some n else last_event_at net n r) ≡ Some m → (last_event_at net n r ≡ Some m → m < n) → m < suc n
    by true k rest = let same : n ≡ m = same_Some n m k in omega (arith, same)
    by false k rest = let below = rest k in omega (arith, below)

-- so two cases of it are told by what it is afterwards
pub same-event : (n : ℕ) (b d : Bool) (last : Option ℕ) → (last ≡ Some n → ⊥) → (if b then Some n else last) ≡ (if d then Some n else last) → b ≡ d
same-event n true true last other e = refl
same-event n true false last other e = absurd (other (sym e))
same-event n false true last other e = absurd (other e)
same-event n false false last other e = refl

-- ---- of its view
module _ (net : Setup) (setup : IsGoodSetup net) (n r : ℕ) (l : r < nodes net.relation.grid) (few : n < CYCLE_LIMIT) where
  abbrev x : View
  x = frozen_view net setup n r l

  frozen-site : (frozen_view net setup n r l).site ≡ (view_at net n r).site
  unfolding view_at view_in
  frozen-site = (frozen-seen net setup n r l).site

  -- what was counted and when something last happened is as at the start of the cycle
  taken-rest : (v w : View) → w ≡ record v { buffers = w.buffers; inputs = w.inputs; outputs = w.outputs; had_event = w.had_event } → (w.counts ≡ v.counts) × (w.last_event ≡ v.last_event)
  taken-rest v w e = (ap (λ (y : View). y.counts) e, ap (λ (y : View). y.last_event) e)

  frozen-keeps : ((frozen_view net setup n r l).counts ≡ (view_at net n r).counts) × ((frozen_view net setup n r l).last_event ≡ (view_at net n r).last_event) × ((frozen_view net setup n r l).given ≡ n)
  frozen-keeps =
      let k = injected-keeps n (taken_view net setup n r l) in
      let t = taken-rest (view_at net n r) (taken_view net setup n r l) (beats-taken net setup n r l few).rest in
      (k.0 ∙ t.0, k.1 ∙ t.1, k.2)

  counts-many : length (view_at net n r).counts ≡ size_of (view_at net n r).site
  unfolding view_at view_in
  counts-many = length-tabulate (size net) (counts_before net n r)

  frozen-many : length (frozen_view net setup n r l).counts ≡ size_of (frozen_view net setup n r l).site
  frozen-many = ap (λ (cs : List (List ℕ)). length cs) frozen-keeps.0 ∙ counts-many ∙ sym (ap (λ (s : Site). size_of s) frozen-site)

  last-is : (m : ℕ) → (view_at net m r).last_event ≡ last_event_at net m r
  unfolding view_at view_in
  last-is m = refl

  -- whether it has an event is what its view decides
  pub event-is : has_event (decisions_of net.relation (frozen_view net setup n r l)) (frozen_view net setup n r l) ≡ has_event_at net n r
  event-is =
      same-event n (has_event (decisions_of net.relation x) x) (has_event_at net n r) (last_event_at net n r) (λ e. let k = last-before net n r n e in omega (arith, k))
      (sym (step-event net.relation (view_at net n r) (beats net setup n r l) n ∙ same (has_event (decisions_of net.relation x) x)) ∙ ap (λ (y : View). y.last_event) (next-count net setup n r l few) ∙ last-is (suc n))
    where
      same : (b : Bool) → (if b then Some (frozen_view net setup n r l).given else (frozen_view net setup n r l).last_event) ≡ (if b then Some n else last_event_at net n r)
      same true = ap Some frozen-keeps.2
      same false = frozen-keeps.1 ∙ last-is n

-- ---- by its words
module _ {count : ℕ} (net : Setup) (setup : IsGoodSetup net) (n r : ℕ) (l : r < nodes net.relation.grid) (layout : Layout) (is_layout : IsLayoutOf count net.relation net.depth layout) (starts : List Start) (few : n < CYCLE_LIMIT)
    (s : Still) (shows : ShowsStill count net n r starts (frozen_view net setup n r l) s.column s.marks s.ended s.filled s.source)
    (a b : Allocation) (picked ahead : ℕ) (e : Effects) (c : Column) (w : RouterMarks) (ended : ℕ)
    (decided : HasDecided (ports net.relation.grid) net.relation.vcs layout (permitted net r) s a b picked ahead e c w ended) where
  abbrev v : View
  v = frozen_view net setup n r l

  pub some-vcs : 0 < (frozen_view net setup n r l).site.vcs
  some-vcs = subst (λ (t : Site). 0 < t.vcs) (sym (frozen-seen net setup n r l).site) setup.relation.table.some_vcs

  pub was : IsColumn count a.column a.marks (frozen_view net setup n r l)
  was = column-was net setup n r l layout is_layout starts few s shows a b picked ahead e c w ended decided

  pub turns : HasTurns a.column (frozen_view net setup n r l)
  turns =
      let are = (frozen-arbiters net setup n r l).inputs in
      record {
        ahead = was.turns.inputs;
        pointers = subst (λ (t : Site). (p : ℕ) → p < ports t.grid → (arbiter_at (frozen_view net setup n r l).arbiters.inputs p).pointer < t.vcs) (sym (frozen-seen net setup n r l).site) are.pointers;
        arbiters = are.count ∙ sym (ap (λ (t : Site). ports t.grid) (frozen-seen net setup n r l).site);
      }

  pub decides : AreDecided picked a.column (frozen_view net setup n r l) s.filled b.lost e
  decides = decisions net setup n r l layout is_layout starts few s shows a b picked ahead e c w ended decided

  pub fit : AreEffects e
  fit =
      effects net.relation layout (around net setup n r l layout is_layout starts few s shows a b picked ahead e c w ended decided) v
      (quiet net setup n r l layout is_layout starts few s shows a b picked ahead e c w ended decided) a b _ was
      (picks-there net setup n r l layout is_layout starts few s shows a b picked ahead e c w ended decided)
      (put net setup n r l layout is_layout starts few s shows a b picked ahead e c w ended decided) w e decided.supplied
      (switched-there net setup n r l layout is_layout starts few s shows a b picked ahead e c w ended decided) decided.heads decided.granted

  pub counts-next : (counts next : ℕ → ByVerdict)
      → ((i : ℕ) → i < size net → next i ≡ with_verdicts (lane_verdicts s.filled picked e.heads e.granted b.lost e.moved a.column) i (counts i))
      → ShowsCounts n counts (view_at net n r) → ShowsCounts (suc n) next (view_at net (suc n) r)
  counts-next counts next nexts before i u =
      let there : i < size net = subst (λ (t : Site). i < size_of t) (view_at-seen net (suc n) r).site u in
      let is = nexts i there ∙ ap (λ h. with_verdicts (lane_verdicts s.filled picked h e.granted b.lost e.moved a.column) i (counts i)) decided.heads in
      subst (λ (y : ByVerdict). CountsAt (suc n) y) (sym is) (subst (λ m. CountsAt m (with_verdicts (lane_verdicts s.filled picked (lane_heads s.filled a.column) e.granted b.lost e.moved a.column) i (counts i))) (add-one n) (after i u))
    where
      CountsAt : ℕ → ByVerdict → Type 0
      CountsAt cycles y = (slice_index_or (view_at net (suc n) r).counts i [] ≡ ten_counts cycles y) × (sum (nine_counts y) ≤ cycles)

      frozen-counts : ShowsCounts n counts (frozen_view net setup n r l)
      frozen-counts k lk =
          let shown = before k (subst (λ (t : Site). k < size_of t) (frozen-site net setup n r l few) lk) in
          (ap (λ (cs : List (List ℕ)). slice_index_or cs k []) (frozen-keeps net setup n r l few).0 ∙ shown.0, shown.1)

      after : ShowsCounts (n + 1) (λ i. with_verdicts (lane_verdicts s.filled picked (lane_heads s.filled a.column) e.granted b.lost e.moved a.column) i (counts i)) (view_at net (suc n) r)
      after =
          subst (λ (y : View). ShowsCounts (n + 1) (λ i. with_verdicts (lane_verdicts s.filled picked (lane_heads s.filled a.column) e.granted b.lost e.moved a.column) i (counts i)) y) (next-count net setup n r l few)
          (counts-put (n + 1) _ net.relation (view_at net n r) (beats net setup n r l) n
          (counts-decided net.relation count picked a.column v s.filled b.lost e was.words fit some-vcs
          (picks-there net setup n r l layout is_layout starts few s shows a b picked ahead e c w ended decided) was.channels shows.fill turns decides n counts
          (omega (arith, few)) (frozen-many net setup n r l few) frozen-counts))

  -- whether something happens in it, where this came to it
  pub event-next : (came : ℕ) → (frozen_view net setup n r l).had_event ≡ not (nat_eq came 0)
      → not (nat_eq (bit_or (bit_or (bit_or came e.heads) e.granted) e.moved) 0) ≡ has_event_at net n r
  event-next came had =
      ap not (ap (λ h. nat_eq (bit_or (bit_or (bit_or came h) e.granted) e.moved) 0) decided.heads ∙ ap (λ y. nat_eq (bit_or (bit_or (bit_or y (lane_heads s.filled a.column)) e.granted) e.moved) 0) (sym (or-zero came))
      ∙ event-decided net.relation count picked a.column v s.filled b.lost e was.words fit some-vcs
      (picks-there net setup n r l layout is_layout starts few s shows a b picked ahead e c w ended decided) was.channels shows.fill turns decides granted-below moved-there came 0
      (had ∙ ap (λ y. not (nat_eq y 0)) (sym (or-zero came))))
      ∙ twice (has_event (decisions_of net.relation v) v) ∙ event-is net setup n r l few
    where
      twice : (y : Bool) → not (not y) ≡ y
      twice true = refl
      twice false = refl

      granted-below : MembersAreBelow (size_of v.site) e.granted
      granted-below = subst (MembersAreBelow (size_of v.site)) (sym decided.granted) (put net setup n r l layout is_layout starts few s shows a b picked ahead e c w ended decided).granted_below

      moved-there : MembersAreBelow (size_of v.site) e.moved
      moved-there =
          moves-below net.relation layout (around net setup n r l layout is_layout starts few s shows a b picked ahead e c w ended decided) v
          (quiet net setup n r l layout is_layout starts few s shows a b picked ahead e c w ended decided) a b _ was
          (picks-there net setup n r l layout is_layout starts few s shows a b picked ahead e c w ended decided)
          (put net setup n r l layout is_layout starts few s shows a b picked ahead e c w ended decided) w e decided.supplied
          (switched-there net setup n r l layout is_layout starts few s shows a b picked ahead e c w ended decided) decided.heads decided.granted
