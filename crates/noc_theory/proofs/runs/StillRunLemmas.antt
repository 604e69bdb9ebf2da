-- The lockstep run where nothing happens: no beat is in flight, nothing is injected, and no verdict
-- takes effect. Each cycle is then the same.
use Rattle.std.proofs.Common.{◌≡◌, ℕ, zero, suc, ◌+◌, ◌-◌, ◌<◌, ◌≤◌, Bool, true, false, List, [], ◌∷◌, length, map, get_or, Option, Some, None, refl, ap, sym, subst, ◌∙◌, arith, inl, inr}
use Rattle.std.specs.Prelude.{◌⊎◌, if◌then◌else◌, find, nat_le, nat_lt}
use Rattle.std.proofs.lemmas.List.{map-id, get_or_default}
use Rattle.std.proofs.lemmas.Simd.{map-map}
use Rattle.noc_view.specs.Still.{IsHeldBefore, counted_times, takes_effect, view_after_waiting}
use Rattle.noc_alloc.proofs.RequestLemmas.{at_replicate}
use Rattle.noc_view.proofs.StillLemmas.{map_indexed-same, still-committed}
use Rattle.noc_theory.proofs.Common.{All, cases_lt, same_lists, length-map, get_or-map, get_or_past, below, map_indexed, nodes, neighbour, local_port, get_or-map_indexed, get_or-tabulate, length-map_indexed, map_indexed-from_each, Packet, Beat, Routes, View, Decisions, view_after_takes, begun_on, view_after_commit, counts_after, decided_verdict, flit_out, idle_beat, idle_beats, view_after_inject, view_after_inject_from, is_vacant, local_channel, local_step, opening_view, decisions_of, tail_packet, view_buffer, view_round, with_arrival, with_injected, Finding, IsSilent, beat_at, view_after_decide, view_after_puts, incoming, lockstep_at, lockstep_cycle, opening_lockstep, beats_at, beat_from, site_at, starts_at, ends_at, Setup}
use Rattle.noc_theory.proofs.runs.RunLemmas.{count_rows, count_views, halfway, next_views, next_wires}
use Rattle.noc_theory.proofs.runs.StepLemmas.{local_step-view, taken_end}

-- ---- one router
-- a view but for its findings
abbrev pub without_findings : View → View
without_findings v = record v { findings = [] }

-- one more cycle n in which nothing happens
abbrev once : Routes → ℕ → View → View
once relation n v = record v {
  counts = map_indexed (λ i counts. counts_after (decided_verdict (decisions_of relation v) i) counts) v.counts;
  findings = (decisions_of relation v).findings;
  given = n;
}

-- k such cycles from cycle n on
waiting : Routes → ℕ → ℕ → View → View
waiting relation n zero v = v
waiting relation n (suc k) v = once relation (n + k) (waiting relation n k v)

-- what was counted and found, and the cycle that was last, change nothing of what is decided
abbrev with_counts : List (List ℕ) → List Finding → ℕ → View → View
with_counts counts findings n v = record v { counts = counts; findings = findings; given = n }

planned-counts : (relation : Routes) (counts : List (List ℕ)) (findings : List Finding) (n : ℕ) (v : View) → decisions_of relation (with_counts counts findings n v) ≡ decisions_of relation v
unfolding decisions_of view_round
planned-counts relation counts findings n v = refl

-- they change nothing of what is injected
abbrev but_counts : List (List ℕ) → List Finding → View → View
but_counts counts findings v = record v { counts = counts; findings = findings }

either_counts : (counts : List (List ℕ)) (findings : List Finding) (b : Bool) (x y : View) → (if b then but_counts counts findings x else but_counts counts findings y) ≡ but_counts counts findings (if b then x else y)
either_counts counts findings true x y = refl
either_counts counts findings false x y = refl

counts-begun_on : (counts : List (List ℕ)) (findings : List Finding) (vc : Option ℕ) (number : ℕ) (p : Packet) (rest : List (ℕ × Packet)) (v : View)
    → begun_on vc number p rest (but_counts counts findings v) ≡ but_counts counts findings (begun_on vc number p rest v)
counts-begun_on counts findings None number p rest v = refl
counts-begun_on counts findings (Some vc) number p rest v = refl

counts-injected_from : (counts : List (List ℕ)) (findings : List Finding) (n : ℕ) (queue : List (ℕ × Packet)) (sending : Option (ℕ × ℕ)) (v : View)
    → view_after_inject_from n queue sending (but_counts counts findings v) ≡ but_counts counts findings (view_after_inject_from n queue sending v)
counts-injected_from counts findings n [] sending v = refl
counts-injected_from counts findings n ((number, p) ∷ rest) (Some (vc, index)) v =
    either_counts counts findings (nat_lt (length (view_buffer v (local_channel v.site vc))) v.site.depth) (with_injected vc index number p rest v) v
counts-injected_from counts findings n ((number, p) ∷ rest) None v =
    ap (λ x. if nat_le p.due n then x else but_counts counts findings v) (counts-begun_on counts findings (find (is_vacant v) (below v.site.vcs)) number p rest v)
    ∙ either_counts counts findings (nat_le p.due n) (begun_on (find (is_vacant v) (below v.site.vcs)) number p rest v) v

injected-counts : (counts : List (List ℕ)) (findings : List Finding) (m n : ℕ) (v : View) → view_after_inject m (with_counts counts findings n v) ≡ but_counts counts findings (view_after_inject m v)
unfolding view_after_inject
injected-counts counts findings m n v = counts-injected_from counts findings m v.queue v.sending (record v { given = m })

-- after such cycles only these three are others
waiting-parts : (relation : Routes) (n k : ℕ) (v : View)
    → waiting relation n k v ≡ with_counts (map_indexed (λ i counts. counted_times k (decided_verdict (decisions_of relation v) i) counts) v.counts) (waiting relation n k v).findings (waiting relation n k v).given v
unfolding waiting
waiting-parts relation n zero v = ap (λ counts. record v { counts = counts }) (sym (map_indexed-same (λ i counts. counts) v.counts [] (λ i counts. refl)))
waiting-parts relation n (suc k) v =
    let d = decisions_of relation v in
    let f : ℕ → List ℕ → List ℕ = λ i counts. counted_times k (decided_verdict d i) counts in
    let g : ℕ → List ℕ → List ℕ = λ i counts. counted_times (suc k) (decided_verdict d i) counts in
    let w = waiting relation n k v in
    let before : w ≡ with_counts (map_indexed f v.counts) w.findings w.given v = waiting-parts relation n k v in
    let same : decisions_of relation w ≡ d = ap (decisions_of relation) before ∙ planned-counts relation (map_indexed f v.counts) w.findings w.given v in
    ap (λ (x : View). record x {
      counts = map_indexed (λ i counts. counts_after (decided_verdict (decisions_of relation w) i) counts) x.counts;
      findings = (decisions_of relation w).findings;
      given = n + k;
    }) before
    ∙ ap (λ (p : Decisions). with_counts (map_indexed (λ i counts. counts_after (decided_verdict p i) counts) (map_indexed f v.counts)) (decisions_of relation w).findings (n + k) v) same
    ∙ ap (λ counts. with_counts counts (decisions_of relation w).findings (n + k) v)
    (map_indexed-from_each g v.counts (map_indexed (λ i counts. counts_after (decided_verdict d i) counts) (map_indexed f v.counts)) [] []
    (length-map_indexed _ (map_indexed f v.counts) ∙ length-map_indexed f v.counts)
    (λ i l. get_or-map_indexed (λ i counts. counts_after (decided_verdict d i) counts) (map_indexed f v.counts) i [] [] (omega (arith, length-map_indexed f v.counts))
    ∙ ap (counts_after (decided_verdict d i)) (get_or-map_indexed f v.counts i [] [] l)))

waiting-is : (relation : Routes) (n k : ℕ) (v : View) → without_findings (waiting relation n (suc k) v) ≡ without_findings (view_after_waiting relation (suc k) (n + k) v)
unfolding view_after_waiting waiting
waiting-is relation n k v = ap without_findings (waiting-parts relation n (suc k) v)

-- it does what it did
waiting-effect : (relation : Routes) (n k : ℕ) (v : View) → takes_effect relation v ≡ false → takes_effect relation (waiting relation n k v) ≡ false
waiting-effect relation n k v off =
    let same : decisions_of relation (waiting relation n k v) ≡ decisions_of relation v =
    ap (decisions_of relation) (waiting-parts relation n k v) ∙ planned-counts relation _ _ _ v in
    rw same off

waiting-held : (relation : Routes) (n k m : ℕ) (v : View) → view_after_inject m v ≡ record v { given = m } → view_after_inject m (waiting relation n k v) ≡ record (waiting relation n k v) { given = m }
waiting-held relation n k m v held =
    let w = waiting relation n k v in
    let counts = map_indexed (λ i counts. counted_times k (decided_verdict (decisions_of relation v) i) counts) v.counts in
    ap (view_after_inject m) (waiting-parts relation n k v) ∙ injected-counts counts w.findings m w.given v ∙ ap (but_counts counts w.findings) held
    ∙ sym (ap (λ (x : View). record x { given = m }) (waiting-parts relation n k v))

-- ---- a router between its cycles
pub record IsBetween (v : View) : Type 0 where
  pub no_event : v.had_event ≡ false
  pub beats : v.to_put ≡ idle_beats v.site

either_event : (b : Bool) (x y : View) → x.had_event ≡ false → y.had_event ≡ false → (if b then x else y).had_event ≡ false
either_event true x y e f = e
either_event false x y e f = f

event-with_arrival : (p : Option ℕ) (v : View) → v.had_event ≡ false → (with_arrival p v).had_event ≡ false
event-with_arrival None v e = e
event-with_arrival (Some p) v e = either_event _ _ _ e e

event-committed : (d : Decisions) (v : View) → (view_after_commit d v).had_event ≡ false
unfolding view_after_commit
event-committed d v = event-with_arrival (tail_packet (flit_out v d.round (local_port v.site.grid))) _ refl

between-decided : (relation : Routes) (n : ℕ) (beats : List Beat) (v : View) → IsBetween (view_after_puts (view_after_decide relation n beats v))
unfolding view_after_decide
between-decided relation n beats v = let frozen = view_after_inject n (view_after_takes relation beats v) in record { no_event = event-committed (decisions_of relation frozen) frozen; beats = refl }

-- after the first half of a cycle in which nothing happens
still-half : (relation : Routes) (n : ℕ) (beats : List Beat) (v : View) → IsSilent beats → takes_effect relation v ≡ false → view_after_inject n v ≡ record v { given = n } → IsBetween v
    → view_after_decide relation n (incoming relation.grid beats) v ≡ once relation n v
unfolding view_after_decide
still-half relation n beats v silent off held between =
    let w = record v { given = n } in
    let frozen : view_after_inject n (view_after_takes relation (incoming relation.grid beats) v) ≡ w = ap (view_after_inject n) (taken_end relation relation.grid beats v silent) ∙ held in
    let same : decisions_of relation w ≡ decisions_of relation v = planned-counts relation v.counts v.findings n v in
    let still : takes_effect relation w ≡ false = rw same off in
    let counts = map_indexed (λ i counts. counts_after (decided_verdict (decisions_of relation v) i) counts) v.counts in
    let found = (decisions_of relation v).findings in
    ap (λ (x : View). view_after_commit (decisions_of relation x) x) frozen
    ∙ still-committed relation w still
    ∙ ap (λ (d : Decisions). record v {
      given = n;
      counts = map_indexed (λ i counts. counts_after (decided_verdict d i) counts) v.counts;
      findings = d.findings;
      to_put = idle_beats v.site;
      last_event = if v.had_event then Some n else v.last_event;
      had_event = false;
    }) same
    ∙ ap (λ b. record v { given = n; counts = counts; findings = found; to_put = idle_beats v.site; last_event = (if b then Some n else v.last_event); had_event = false }) between.no_event
    ∙ ap (λ b. record v { given = n; counts = counts; findings = found; to_put = idle_beats v.site; had_event = b }) (sym between.no_event)
    ∙ ap (λ beats. record v { given = n; counts = counts; findings = found; to_put = beats }) (sym between.beats)

-- ---- all routers
module _ (net : Setup) where
  -- some view
  abbrev any_view : View
  any_view = opening_view (site_at net 0) [] []

  -- no beat is in flight at the start of cycle n
  abbrev pub IsSilentAt : ℕ → Type 0
  IsSilentAt n = (r port : ℕ) → beat_at (lockstep_at net n).wires r port ≡ idle_beat

  -- no verdict takes effect in it
  abbrev pub IsStillAt : ℕ → Type 0
  IsStillAt n = All (λ v. takes_effect net.relation v ≡ false) (lockstep_at net n).views

  -- the routers are between their cycles
  between_views : (n r : ℕ) (d : View) → r < nodes net.relation.grid → IsBetween (get_or (lockstep_at net n).views r d)
  unfolding lockstep_at opening_lockstep lockstep_cycle
  between_views zero r d l =
      subst IsBetween (sym (get_or-tabulate (nodes net.relation.grid) r (λ k. opening_view (site_at net k) (starts_at net k) (ends_at net k)) d l)) (record { no_event = refl; beats = refl })
  between_views (suc n) r d l =
      let views = (lockstep_at net n).views in
      let step = λ (k : ℕ) (view : View). local_step net.relation view (beats_at (lockstep_at net n).wires k) n in
      let in_views : r < length (lockstep_at net n).views = omega (arith, count_views net n) in
      let old = get_or views r d in
      let now = get_or-map (λ (s : View × List Beat). s.0) (map_indexed step views) r (d, []) d (omega (arith, length-map_indexed step views))
      ∙ ap (λ (s : View × List Beat). s.0) (get_or-map_indexed step views r d (d, []) in_views)
      ∙ local_step-view net.relation old (beats_at (lockstep_at net n).wires r) n in
      subst IsBetween (sym now) (between-decided net.relation n (beats_at (lockstep_at net n).wires r) old)

  -- nothing is put
  silent-put : (half : List View) → All IsBetween half → (from : Option (ℕ × ℕ)) → beat_from (map (λ (v : View). v.to_put) half) from ≡ idle_beat
  silent-put half between None = refl
  silent-put half between (Some from) = at (cases_lt from.0 (length half))
    where
      sent : List (List Beat)
      sent = map (λ (v : View). v.to_put) half

      at : (from.0 < length half) ⊎ (length half ≤ from.0) → get_or (beats_at sent from.0) from.1 idle_beat ≡ idle_beat
      at (inl l) =
          let v = get_or half from.0 any_view in
          ap (λ row. get_or row from.1 idle_beat) (get_or-map (λ (v : View). v.to_put) half from.0 any_view [] l ∙ (between from.0 any_view l).beats)
          ∙ at_replicate idle_beat (local_port v.site.grid) from.1
      at (inr u) = ap (λ row. get_or row from.1 idle_beat) (get_or_past sent from.0 [] (omega (arith, length-map half (λ (v : View). v.to_put))))

  -- a cycle in which nothing happens
  module _ (n : ℕ) (silent : IsSilentAt n) (still : IsStillAt n) (held : All (λ v. view_after_inject n v ≡ record v { given = n }) (lockstep_at net n).views) where
    abbrev views : List View
    views = (lockstep_at net n).views

    abbrev wires : List (List Beat)
    wires = (lockstep_at net n).wires

    abbrev half : List View
    half = halfway net n wires

    long : length half ≡ length views
    long = length-map_indexed (λ r v. view_after_decide net.relation n (incoming net.relation.grid (beats_at wires r)) v) views

    in_net : (r : ℕ) → r < length views → r < nodes net.relation.grid
    in_net r l = omega (arith, count_views net n)

    each : (r : ℕ) (d : View) → r < length views → get_or half r d ≡ once net.relation n (get_or views r d)
    each r d l =
        get_or-map_indexed (λ r v. view_after_decide net.relation n (incoming net.relation.grid (beats_at wires r)) v) views r d d l
        ∙ still-half net.relation n (beats_at wires r) (get_or views r d) (silent r) (still r d l) (held r d l) (between_views n r d (in_net r l))

    between : All IsBetween half
    between r d l =
        let low : r < length views = omega (arith, long) in
        let b = between_views n r d (in_net r low) in
        subst IsBetween (sym (each r d low)) (record { no_event = b.no_event; beats = b.beats })

    after : map (once net.relation n) views ≡ map view_after_puts half
    after =
        same_lists (map (once net.relation n) views) (map view_after_puts half) (length-map views (once net.relation n) ∙ sym (length-map half view_after_puts ∙ long))
        (λ i e l.
        let low : i < length views = omega (arith, length-map views (once net.relation n)) in
        let v = get_or views i e in
        get_or-map (once net.relation n) views i e e low
        ∙ ap (λ beats. record (once net.relation n v) { to_put = beats }) (between_views n i e (in_net i low)).beats
        ∙ sym (get_or-map view_after_puts half i e e (omega (arith, long)) ∙ ap view_after_puts (each i e low)))

    next-views : (lockstep_at net (n + 1)).views ≡ map (once net.relation n) views
    next-views = sym (after ∙ next_views net n wires (λ r port. refl))

    next-silent : IsSilentAt (n + 1)
    next-silent r port =
        sym (next_wires net n wires wires (λ s q. refl) (count_rows net n) (λ s q l. silent s q ∙ sym (silent-put half between (neighbour net.relation.grid s q))) r port) ∙ silent r port

  -- k more of them
  still-run : (k n : ℕ) → IsSilentAt n → IsStillAt n → All (IsHeldBefore (n + k)) (lockstep_at net n).views
      → ((lockstep_at net (n + k)).views ≡ map (waiting net.relation n k) (lockstep_at net n).views) × IsSilentAt (n + k)
  unfolding waiting
  still-run zero n silent still held =
      let same : n ≡ n + 0 = omega arith in
      subst (λ m. ((lockstep_at net m).views ≡ map (λ (v : View). v) (lockstep_at net n).views) × IsSilentAt m) same (sym (map-id (lockstep_at net n).views), silent)
  still-run (suc k) n silent still held =
      let views = (lockstep_at net n).views in
      let w = waiting net.relation n k in
      let more : n + k + 1 ≡ n + suc k = omega arith in
      let ran = still-run k n silent still (λ r d l m small. held r d l m (omega arith)) in
      let now : IsStillAt (n + k) = subst (All (λ v. takes_effect net.relation v ≡ false)) (sym ran.0)
      (λ r d l. let i : r < length views = omega (arith, length-map views w) in
      ap (takes_effect net.relation) (get_or_default (map w views) r d (w d) l ∙ get_or-map w views r d (w d) i) ∙ waiting-effect net.relation n k (get_or views r d) (still r d i)) in
      let holds = subst (All (λ v. view_after_inject (n + k) v ≡ record v { given = n + k })) (sym ran.0)
      (λ r d l. let i : r < length views = omega (arith, length-map views w) in
      subst (λ (v : View). view_after_inject (n + k) v ≡ record v { given = n + k }) (sym (get_or_default (map w views) r d (w d) l ∙ get_or-map w views r d (w d) i))
      (waiting-held net.relation n k (n + k) (get_or views r d) (held r d i (n + k) (omega arith)))) in
      subst (λ m. ((lockstep_at net m).views ≡ map (waiting net.relation n (suc k)) views) × IsSilentAt m) more
      (next-views (n + k) ran.1 now holds ∙ ap (map (once net.relation (n + k))) ran.0 ∙ map-map (once net.relation (n + k)) w views, next-silent (n + k) ran.1 now holds)

  -- where no beat is in flight, and no router does anything by itself before the end, all cycles up
  -- to there are those that wait, but for what is found in them
  pub still-wait : (first end : ℕ) → first < end → IsSilentAt first → IsStillAt first → All (IsHeldBefore end) (lockstep_at net first).views
      → ((r : ℕ) (d : View) → r < nodes net.relation.grid → without_findings (get_or (lockstep_at net end).views r d)
      ≡ without_findings (view_after_waiting net.relation (end - first) (end - 1) (get_or (lockstep_at net first).views r d))) × IsSilentAt end
  still-wait first end less silent still held = at (end - first) refl
    where
      views : List View
      views = (lockstep_at net first).views

      at : (k : ℕ) → end - first ≡ k
          → ((r : ℕ) (d : View) → r < nodes net.relation.grid → without_findings (get_or (lockstep_at net end).views r d) ≡ without_findings (view_after_waiting net.relation (end - first) (end - 1) (get_or views r d)))
          × IsSilentAt end
      at zero e = absurd (omega arith)
      at (suc k) e =
          let there : first + suc k ≡ end = omega arith in
          let last : first + k ≡ end - 1 = omega arith in
          let w = waiting net.relation first (suc k) in
          let ran = still-run (suc k) first silent still (λ r d l m small. held r d l m (omega arith)) in
          let now : (lockstep_at net end).views ≡ map w views = subst (λ m. (lockstep_at net m).views ≡ map w views) there ran.0 in (
            (λ r d l. let low : r < length views = omega (arith, count_views net first) in
                ap without_findings (ap (λ vs. get_or vs r d) now ∙ get_or-map w views r d d low)
                ∙ waiting-is net.relation first k (get_or views r d)
                ∙ ap (λ cycles. without_findings (view_after_waiting net.relation cycles (first + k) (get_or views r d))) (sym e)
                ∙ ap (λ m. without_findings (view_after_waiting net.relation (end - first) m (get_or views r d))) last),
            subst IsSilentAt there ran.1,
          )
