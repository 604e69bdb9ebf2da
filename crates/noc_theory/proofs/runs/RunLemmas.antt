-- The lockstep run, and one cycle more of it in two halves.
use Rattle.std.proofs.Common.{◌≡◌, ℕ, zero, suc, ◌+◌, ◌<◌, ◌≤◌, List, [], ◌∷◌, ◌++◌, length, map, get_or, None, refl, ap, sym, ◌∙◌, ⊎_elim, arith, add-one, replicate}
use Rattle.std.proofs.lemmas.List.{map_push}
use Rattle.noc_view.specs.View.{IsRelationOf}
use Rattle.noc_theory.proofs.Common.{All, same_lists, length-map, get_or-map, get_or-replicate, get_or_past, length-replicate, cases_lt, le-ltb, below, tabulate, map_indexed, nodes, local_port, neighbour, length-tabulate, get_or-tabulate, tabulate-from_each, length-map_indexed, get_or-map_indexed, below-next, Beat, Site, View, local_step, opening_view, idle_beat, beat_at, view_after_decide, view_after_puts, incoming, IsSilent, lockstep_at, lockstep_cycle, opening_lockstep, wires_after_puts, beats_at, beat_from, site_at, starts_at, ends_at, Setup}
use Rattle.noc_theory.specs.Halves.{HaveTheirBeats}
use Rattle.noc_theory.proofs.runs.StepLemmas.{local_step-view, local_step-beats, site-decided, count-decided}

pub map_map_indexed : {X Y Z W : Type 0} (f : Y → W) (g : ℕ → X → Y) (k : Z → W) (h : ℕ → X → Z) (xs : List X) (d : X) (y : Y) (z : Z)
    → ((r : ℕ) (x : X) → r < length xs → f (g r x) ≡ k (h r x)) → map f (map_indexed g xs) ≡ map k (map_indexed h xs)
map_map_indexed f g k h xs d y z same =
    let n : length (map f (map_indexed g xs)) ≡ length xs = length-map (map_indexed g xs) f ∙ length-map_indexed g xs in
    let m : length (map k (map_indexed h xs)) ≡ length xs = length-map (map_indexed h xs) k ∙ length-map_indexed h xs in
    same_lists (map f (map_indexed g xs)) (map k (map_indexed h xs)) (n ∙ sym m)
    (λ i e l.
    let in_xs : i < length xs = omega arith in
    get_or-map f (map_indexed g xs) i y e (omega (arith, length-map_indexed g xs))
    ∙ ap f (get_or-map_indexed g xs i d y in_xs)
    ∙ same i (get_or xs i d) in_xs
    ∙ ap k (sym (get_or-map_indexed h xs i d z in_xs))
    ∙ sym (get_or-map k (map_indexed h xs) i z e (omega (arith, length-map_indexed h xs))))

-- no router yet
pub tabulate_none : {X : Type 0} (f : ℕ → X) → [] ≡ tabulate 0 f
unfolding tabulate below
tabulate_none f = refl

-- one router more
pub tabulate_more : {X : Type 0} (n : ℕ) (f : ℕ → X) → tabulate (n + 1) f ≡ tabulate n f ++ f n ∷ []
unfolding tabulate
tabulate_more n f = ap (map f) (below-next n) ∙ map_push f (below n) n

-- silent wires
pub silent_at : (beats : List (List Beat)) → All IsSilent beats → (r port : ℕ) → beat_at beats r port ≡ idle_beat
silent_at beats silent r port =
    ⊎_elim (λ (l : r < length beats). silent r [] l port)
    (λ (past : length beats ≤ r). ap (λ (row : List Beat). get_or row port idle_beat) (get_or_past beats r [] past))
    (cases_lt r (length beats))

module _ (net : Setup) where
  -- some view
  abbrev some_view : View
  some_view = opening_view (site_at net 0) [] []

  pub count_views : (n : ℕ) → length (lockstep_at net n).views ≡ nodes net.relation.grid
  unfolding lockstep_at opening_lockstep lockstep_cycle
  count_views zero = length-tabulate (nodes net.relation.grid) _
  count_views (suc n) = length-map _ _ ∙ length-map_indexed _ (lockstep_at net n).views ∙ count_views n

  pub count_rows : (n : ℕ) → length (lockstep_at net n).wires ≡ nodes net.relation.grid
  unfolding lockstep_at opening_lockstep lockstep_cycle wires_after_puts
  count_rows zero = length-replicate (nodes net.relation.grid) _
  count_rows (suc n) = length-tabulate (nodes net.relation.grid) _

  pub count_row : (n r : ℕ) → r < nodes net.relation.grid → length (beats_at (lockstep_at net n).wires r) ≡ local_port net.relation.grid
  unfolding lockstep_at opening_lockstep lockstep_cycle wires_after_puts
  count_row zero r l = ap length (get_or-replicate (nodes net.relation.grid) r (replicate (local_port net.relation.grid) idle_beat) [] l) ∙ length-replicate (local_port net.relation.grid) idle_beat
  count_row (suc n) r l = ap length (get_or-tabulate (nodes net.relation.grid) r _ [] l) ∙ length-tabulate (local_port net.relation.grid) _

  -- the wires past the link ports are idle
  pub linked_wires : (n r port : ℕ) → local_port net.relation.grid ≤ port → beat_at (lockstep_at net n).wires r port ≡ idle_beat
  linked_wires n r port l =
      ⊎_elim (λ (in_net : r < nodes net.relation.grid). get_or_past (beats_at (lockstep_at net n).wires r) port idle_beat (let c = count_row n r in_net in omega arith))
      (λ (past : nodes net.relation.grid ≤ r).
      let row : beats_at (lockstep_at net n).wires r ≡ [] = get_or_past (lockstep_at net n).wires r [] (let c = count_rows n in omega arith) in
      rw row refl)
      (cases_lt r (nodes net.relation.grid))

  -- the wires past the routers are idle
  pub past_wires : (n r port : ℕ) → nodes net.relation.grid ≤ r → beat_at (lockstep_at net n).wires r port ≡ idle_beat
  past_wires n r port past =
      let row : beats_at (lockstep_at net n).wires r ≡ [] = get_or_past (lockstep_at net n).wires r [] (let c = count_rows n in omega arith) in
      rw row refl

  -- each router is at the place of its node
  pub site_views : (n r : ℕ) (d : View) → r < nodes net.relation.grid → (get_or (lockstep_at net n).views r d).site ≡ site_at net r
  unfolding lockstep_at opening_lockstep lockstep_cycle
  site_views zero r d l = ap (λ (v : View). v.site) (get_or-tabulate (nodes net.relation.grid) r (λ k. opening_view (site_at net k) (starts_at net k) (ends_at net k)) d l)
  site_views (suc n) r d l =
      let views = (lockstep_at net n).views in
      let step = λ (k : ℕ) (view : View). local_step net.relation view (beats_at (lockstep_at net n).wires k) n in
      let in_views : r < length (lockstep_at net n).views = omega (arith, count_views n) in
      let old = get_or views r d in
      ap (λ (v : View). v.site) (get_or-map (λ (s : View × List Beat). s.0) (map_indexed step views) r (d, []) d (omega (arith, length-map_indexed step views))
      ∙ ap (λ (s : View × List Beat). s.0) (get_or-map_indexed step views r d (d, []) in_views)
      ∙ local_step-view net.relation old (beats_at (lockstep_at net n).wires r) n)
      ∙ site-decided net.relation n (beats_at (lockstep_at net n).wires r) old
      ∙ site_views n r d l

  -- the beats that came are those of the run
  incoming_row : (n : ℕ) (beats : List (List Beat)) → ((r port : ℕ) → beat_at beats r port ≡ beat_at (lockstep_at net n).wires r port)
      → (r : ℕ) → r < nodes net.relation.grid → beats_at (lockstep_at net n).wires r ≡ incoming net.relation.grid (beats_at beats r)
  unfolding incoming
  incoming_row n beats same r l =
      tabulate-from_each (local_port net.relation.grid) (λ port. get_or (beats_at beats r) port idle_beat) (beats_at (lockstep_at net n).wires r) idle_beat (count_row n r l) (λ port m. sym (same r port))

  -- the routers after the first half of the next cycle
  abbrev pub halfway : ℕ → List (List Beat) → List View
  halfway n beats = map_indexed (λ (r : ℕ) (v : View). view_after_decide net.relation n (incoming net.relation.grid (beats_at beats r)) v) (lockstep_at net n).views

  pub next_views : (n : ℕ) (beats : List (List Beat)) → ((r port : ℕ) → beat_at beats r port ≡ beat_at (lockstep_at net n).wires r port)
      → map view_after_puts (halfway n beats) ≡ (lockstep_at net (n + 1)).views
  unfolding lockstep_at lockstep_cycle
  next_views n beats same = rw (add-one n)
      (sym (map_map_indexed (λ (s : View × List Beat). s.0) (λ (r : ℕ) (view : View). local_step net.relation view (beats_at (lockstep_at net n).wires r) n) view_after_puts
      (λ (r : ℕ) (v : View). view_after_decide net.relation n (incoming net.relation.grid (beats_at beats r)) v) (lockstep_at net n).views some_view (some_view, []) some_view
      (λ r v l. local_step-view net.relation v (beats_at (lockstep_at net n).wires r) n
      ∙ ap (λ row. view_after_puts (view_after_decide net.relation n row v)) (incoming_row n beats same r (let c = count_views n in omega arith)))))

  next_sent : (n : ℕ) (beats : List (List Beat)) → ((r port : ℕ) → beat_at beats r port ≡ beat_at (lockstep_at net n).wires r port)
      → map (λ (s : View × List Beat). s.1) (map_indexed (λ (r : ℕ) (view : View). local_step net.relation view (beats_at (lockstep_at net n).wires r) n) (lockstep_at net n).views)
      ≡ map (λ (v : View). v.to_put) (halfway n beats)
  next_sent n beats same =
      map_map_indexed (λ (s : View × List Beat). s.1) (λ (r : ℕ) (view : View). local_step net.relation view (beats_at (lockstep_at net n).wires r) n) (λ (v : View). v.to_put)
      (λ (r : ℕ) (v : View). view_after_decide net.relation n (incoming net.relation.grid (beats_at beats r)) v) (lockstep_at net n).views some_view (some_view, []) some_view
      (λ r v l. local_step-beats net.relation v (beats_at (lockstep_at net n).wires r) n
      ∙ ap (λ row. (view_after_decide net.relation n row v).to_put) (incoming_row n beats same r (let c = count_views n in omega arith)))

  pub no_link : (r port : ℕ) → local_port net.relation.grid ≤ port → neighbour net.relation.grid r port ≡ None
  no_link r port l = rw (le-ltb port (local_port net.relation.grid) l) refl

  pub next_wires : (n : ℕ) (beats after : List (List Beat)) → ((r port : ℕ) → beat_at beats r port ≡ beat_at (lockstep_at net n).wires r port)
      → length after ≡ nodes net.relation.grid
      → ((r port : ℕ) → r < nodes net.relation.grid → beat_at after r port ≡ beat_from (map (λ (v : View). v.to_put) (halfway n beats)) (neighbour net.relation.grid r port))
      → (r port : ℕ) → beat_at after r port ≡ beat_at (lockstep_at net (n + 1)).wires r port
  unfolding lockstep_at lockstep_cycle wires_after_puts
  next_wires n beats after same count put r port =
      ⊎_elim (λ (in_net : r < nodes net.relation.grid).
      ⊎_elim (λ (link : port < local_port net.relation.grid).
      let sent = map (λ (s : View × List Beat). s.1) (map_indexed (λ (r : ℕ) (view : View). local_step net.relation view (beats_at (lockstep_at net n).wires r) n) (lockstep_at net n).views) in
      put r port in_net
      ∙ ap (λ beats. beat_from beats (neighbour net.relation.grid r port)) (sym (next_sent n beats same))
      ∙ rw (add-one n) (sym (ap (λ row. get_or row port idle_beat) (get_or-tabulate (nodes net.relation.grid) r (λ k. tabulate (local_port net.relation.grid) (λ q. beat_from sent (neighbour net.relation.grid k q))) [] in_net)
      ∙ get_or-tabulate (local_port net.relation.grid) port (λ q. beat_from sent (neighbour net.relation.grid r q)) idle_beat link)))
      (λ (past : local_port net.relation.grid ≤ port).
      let lone : neighbour net.relation.grid r port ≡ None = no_link r port past in
      put r port in_net ∙ ap (λ to. beat_from (map (λ (v : View). v.to_put) (halfway n beats)) to) lone ∙ sym (linked_wires (n + 1) r port past))
      (cases_lt port (local_port net.relation.grid)))
      (λ (past : nodes net.relation.grid ≤ r).
      let row : beats_at after r ≡ [] = get_or_past after r [] (omega arith) in
      ap (λ row. get_or row port idle_beat) row ∙ sym (past_wires (n + 1) r port past))
      (cases_lt r (nodes net.relation.grid))

  -- at the start
  pub opening_wires : (beats : List (List Beat)) → ((r port : ℕ) → beat_at beats r port ≡ idle_beat) → (r port : ℕ) → beat_at beats r port ≡ beat_at (lockstep_at net 0).wires r port
  unfolding lockstep_at opening_lockstep
  opening_wires beats idle r port =
      idle r port ∙ sym (⊎_elim (λ (in_net : r < nodes net.relation.grid).
      ap (λ row. get_or row port idle_beat) (get_or-replicate (nodes net.relation.grid) r (replicate (local_port net.relation.grid) idle_beat) [] in_net)
      ∙ ⊎_elim (λ (link : port < local_port net.relation.grid). get_or-replicate (local_port net.relation.grid) port idle_beat idle_beat link)
      (λ (past : local_port net.relation.grid ≤ port). get_or_past (replicate (local_port net.relation.grid) idle_beat) port idle_beat (let c = length-replicate (local_port net.relation.grid) idle_beat in omega arith))
      (cases_lt port (local_port net.relation.grid)))
      (λ (past : nodes net.relation.grid ≤ r). past_wires 0 r port past)
      (cases_lt r (nodes net.relation.grid)))

  pub opening_views : (lockstep_at net 0).views ≡ tabulate (nodes net.relation.grid) (λ r. opening_view (site_at net r) (starts_at net r) (ends_at net r))
  unfolding lockstep_at opening_lockstep
  opening_views = refl

  -- the routers halfway are at their places
  pub placed_halfway : (n : ℕ) (beats : List (List Beat)) → HaveTheirBeats net.relation (halfway n beats)
  placed_halfway n beats r d l =
      let views = (lockstep_at net n).views in
      let first_half = λ (k : ℕ) (v : View). view_after_decide net.relation n (incoming net.relation.grid (beats_at beats k)) v in
      let count : length (map_indexed first_half views) ≡ length views = length-map_indexed first_half views in
      let in_net : r < nodes net.relation.grid = omega (arith, count_views n) in
      let old = get_or views r d in
      let now : get_or (halfway n beats) r d ≡ view_after_decide net.relation n (incoming net.relation.grid (beats_at beats r)) old = get_or-map_indexed first_half views r d d (omega (arith, count_views n)) in
      let old_site : old.site ≡ site_at net r = site_views n r d in_net in
      let site : (get_or (halfway n beats) r d).site ≡ site_at net r = ap (λ (v : View). v.site) now ∙ site-decided net.relation n (incoming net.relation.grid (beats_at beats r)) old ∙ old_site in
      record {
        built_for = record { grid = sym (ap (λ (s : Site). s.grid) site); vcs = sym (ap (λ (s : Site). s.vcs) site) };
        site = ap (λ (s : Site). s.node) site;
        beats = ap (λ (v : View). length v.to_put) now ∙ count-decided net.relation n (incoming net.relation.grid (beats_at beats r)) old ∙ ap (λ (s : Site). local_port s.grid) old_site;
      }

  -- the routers are of the relation
  pub relation_views : (n r : ℕ) (d : View) → r < length (lockstep_at net n).views → IsRelationOf net.relation (get_or (lockstep_at net n).views r d)
  relation_views n r d l =
      let site : (get_or (lockstep_at net n).views r d).site ≡ site_at net r = site_views n r d (let c = count_views n in omega arith) in
      record { grid = sym (ap (λ (s : Site). s.grid) site); vcs = sym (ap (λ (s : Site). s.vcs) site) }
