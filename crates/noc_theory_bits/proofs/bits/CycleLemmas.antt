-- A router by bits from its frozen state to the next count: the landed lemmas on a cycle hold,
-- where its heads are routed by the numbers of packets.
use Rattle.std.proofs.Common.{◌≡◌, ℕ, suc, ◌/◌, ◌^◌, ◌<◌, Bool, true, false, List, [], ◌∷◌, Option, Some, None, IfSome, refl, ap, ap₂, sym, ◌∙◌, subst, arith, inl, ◌%◌}
use Rattle.std.specs.Prelude.{is_some, if◌then◌else◌, ◌&&◌, not, slice_get, slice_index_or}
use Rattle.noc_route.specs.Routes.{set_at}
use Rattle.noc_view.specs.View.{route_for}
use Rattle.noc_sets.proofs.SettleLemmas.{is_tail_by}
use Rattle.noc_sets.specs.Cycle.{granted_in}
use Rattle.noc_sets.specs.Ended.{leads_tail}
use Rattle.noc_sets.specs.Routed.{HasChosen}
use Rattle.noc_theory_bits.proofs.Common.{Has, nodes, local_port, ports, has_bit, Flit, Packet, Beat, Routes, is_empty, is_idle_phase, is_expected_in, arrivals_after, Site, View, size_of, view_buffer, view_input, view_round, decisions_of, Decisions, flit_out, mover_to, tail_packet, view_after_commit, view_after_inject, view_after_takes, with_arrival, with_misfit, local_step, first_flit, CYCLE_LIMIT, IsGoodSetup, site_at, view_at, Setup, frozen_at, packet_at, size, less, Column, RouterMarks, IsColumn, Allocation, Effects, lane_heads, lane_ready, due_of, ShowsNext, ShowsQueue, ShowsSource, Source, Start, below_fits, less_members, AreMoved, AreTails, single_in, HasSwitched, Still, HasDecided, ShowsEnded, AreConsecutive, Surroundings, IsLayoutOf, Layout, ArePast, ArePicked, holder_at, ShowsLeaving, permitted}
use Rattle.noc_theory_bits.proofs.network.FlitLemmas.{IsFlitOf, frozen-flits}
use Rattle.noc_theory_bits.proofs.routers.MoveLemmas.{moved-is}
use Rattle.noc_theory_bits.proofs.network.NetworkLemmas.{beats, frozen_view, frozen-seen, frozen-size, frozen-tidy, next-count}
use Rattle.noc_theory_bits.proofs.routers.ChosenLemmas.{IsStill, ShowsChosen, choice, given, ArePermitted}
use Rattle.noc_theory_bits.proofs.routers.CycleLemmas.{still}
use Rattle.noc_theory_bits.proofs.routers.SettleLemmas.{committed-site, column-put}
use Rattle.noc_theory_bits.proofs.routers.SettlingLemmas.{moves-below, says-out, decided as all-decided}
use Rattle.noc_theory_bits.proofs.routers.SwitchedLemmas.{moving}
use Rattle.noc_theory_bits.specs.Wires.{is_tail_of}
use Rattle.noc_theory_bits.proofs.bits.BufferLemmas.{frozen-consecutive}
use Rattle.noc_theory_bits.proofs.bits.EndedLemmas.{ended-moved, released-told, tails-told}
use Rattle.noc_theory_bits.proofs.bits.FreezeLemmas.{ShowsStill}
use Rattle.noc_theory_bits.proofs.bits.HolderLemmas.{seen-packet}
use Rattle.noc_theory_bits.proofs.routers.SettledLemmas.{column-settled}
use Rattle.noc_theory_bits.proofs.routers.DecideLemmas.{AreDecided}

-- ---- a step puts its beats away, and nothing else
ended-step : (relation : Routes) (v : View) (row : List Beat) (n ended : ℕ)
    → ShowsEnded ended (view_after_commit (decisions_of relation (view_after_inject n (view_after_takes relation row v))) (view_after_inject n (view_after_takes relation row v))) → ShowsEnded ended (local_step relation v row n).0
unfolding local_step
ended-step relation v row n ended is = record { each = is.each; below = is.below }

arrival-queue : (p : Option ℕ) (v : View) → (with_arrival p v).queue ≡ v.queue
arrival-queue None v = refl
arrival-queue (Some p) v = at (is_expected_in p v.ends)
  where
    at : (b : Bool) → (if b then record v { ends = arrivals_after p v.given v.ends } else with_misfit v).queue ≡ v.queue
    at true = refl
    at false = refl

committed-queue : (d : Decisions) (v : View) → (view_after_commit d v).queue ≡ v.queue
unfolding view_after_commit
committed-queue d v = arrival-queue (tail_packet (flit_out v d.round (local_port v.site.grid))) _

source-step : (starts : List Start) (s : Source) (relation : Routes) (v : View) (row : List Beat) (n : ℕ)
    → ShowsSource starts s (view_after_inject n (view_after_takes relation row v)) → ShowsSource starts s (local_step relation v row n).0
unfolding local_step
source-step starts s relation v row n is =
    let y : View = view_after_inject n (view_after_takes relation row v) in
    let queue : (view_after_commit (decisions_of relation y) y).queue ≡ y.queue = committed-queue (decisions_of relation y) y in
    let sending : (view_after_commit (decisions_of relation y) y).sending ≡ y.sending = (committed-site (decisions_of relation y) y).1 in
    record {
      few = is.few;
      due = is.due ∙ ap due_of (sym queue);
      queue = subst (λ (q : List (ℕ × Packet)). ShowsQueue starts s.queue q) (sym queue) is.queue;
      next = subst (λ (q : List (ℕ × Packet)). ShowsNext s q (view_after_commit (decisions_of relation y) y).sending) (sym queue)
          (subst (λ (t : Option (ℕ × ℕ)). ShowsNext s y.queue t) (sym sending) is.next);
    }

module _ {count : ℕ} (net : Setup) (setup : IsGoodSetup net) (n r : ℕ) (l : r < nodes net.relation.grid) (layout : Layout) (is_layout : IsLayoutOf count net.relation net.depth layout) (starts : List Start) (few : n < CYCLE_LIMIT)
    (s : Still) (shows : ShowsStill count net n r starts (frozen_view net setup n r l) s.column s.marks s.ended s.filled s.source)
    (a b : Allocation) (picked ahead : ℕ) (e : Effects) (c : Column) (w : RouterMarks) (ended : ℕ)
    (decided : HasDecided (ports net.relation.grid) net.relation.vcs layout (permitted net r) s a b picked ahead e c w ended) where
  abbrev pub x : View
  x = frozen_view net setup n r l

  x-site : x.site ≡ site_at net r
  x-site = (frozen-seen net setup n r l).site

  pub column-was : IsColumn count a.column a.marks x
  column-was = subst (λ (d : Column). IsColumn count d a.marks x) (sym decided.column_was) (subst (λ (m : RouterMarks). IsColumn count s.column m x) (sym decided.marks_were) shows.column)

  worms : (i : ℕ) → i < size_of x.site → AreConsecutive (view_buffer x i)
  worms i u = frozen-consecutive net setup n r l i (subst (λ (t : Site). i < size_of t) x-site u)

  tails-are : AreTails (leads_tail s.ended a.column.len) x
  tails-are = tails-told count a.column a.marks x s.ended column-was shows.tails worms

  abbrev pub around : Surroundings
  around = record { tail = leads_tail s.ended a.column.len; filled = s.filled; picked = picked; ahead = ahead }

  pub quiet : IsStill net.relation layout around (frozen_view net setup n r l)
  quiet = still net setup n r l layout around is_layout shows.fill tails-are

  -- ---- heads are routed by the numbers of their packets
  pub first-is : (k : ℕ) (f : Flit) (rest : List Flit) → k < size net → view_buffer x k ≡ f ∷ rest
      → (s.marks.packet k ≡ f.packet) × (f.class ≡ (packet_at net f.packet).class) × (f.dst ≡ (packet_at net f.packet).destination)
  first-is k f rest u z =
      let one : IsFlitOf net setup f = frozen-flits net setup n r l k u f (subst (λ (fs : List Flit). Has f fs) (sym z) (inl refl)) in
      let number : one.packet ≡ f.packet = sym (ap (λ (y : Flit). y.packet) one.is) in
      let known : (view_input x k).packet ≡ Some f.packet = (frozen-tidy net setup n r l).firsts k f rest (subst (λ (t : Site). k < size_of t) (sym x-site) u) z in
      let held : holder_at net (frozen_at net n) r k ≡ Some f.packet = seen-packet net (frozen_at net n) r x (frozen-seen net setup n r l) k f.packet u known in (
        subst (λ (o : Option ℕ). IfSome o (λ q. s.marks.packet k ≡ q)) held (shows.holders k u),
        ap (λ (y : Flit). y.class) one.is ∙ ap (λ q. (packet_at net q).class) number,
        ap (λ (y : Flit). y.dst) one.is ∙ ap (λ q. (packet_at net q).destination) number,
      )

  within : (k : ℕ) → k < size_of x.site → k < size net
  within k u = subst (λ (t : Site). k < size_of t) x-site u

  pub permits : ArePermitted net.relation (frozen_view net setup n r l) (permitted net r) a.marks.packet
  permits = record {
    set = λ k f rest u idle z.
        let one = first-is k f rest (within k u) z in
        ap (λ (m : RouterMarks). permitted net r k (m.packet k)) decided.marks_were ∙ ap (permitted net r k) one.0
        ∙ ap₂ (λ m d. set_at net.relation m r (k / net.relation.vcs) (k % net.relation.vcs) d) (sym one.1) (sym one.2)
        ∙ sym (ap (λ y. if y then route_for net.relation x k (first_flit x k) else 0) idle ∙ ap (λ (fs : List Flit). route_for net.relation x k (slice_get fs 0)) z
        ∙ ap (λ (t : Site). set_at net.relation f.class t.node (k / t.vcs) (k % t.vcs) f.dst) x-site);
    number = λ k f rest u z. ap (λ (m : RouterMarks). m.packet k) decided.marks_were ∙ (first-is k f rest (within k u) z).0;
  }

  -- ---- at the next count
  abbrev Chosen : Site → Type 0
  Chosen t = HasChosen (size_of t) (λ o. o / t.vcs) (lane_heads s.filled a.column) (permitted net r) a b

  pub chosen-there : HasChosen (size_of (frozen_view net setup n r l).site) (λ o. o / (frozen_view net setup n r l).site.vcs) (lane_heads s.filled a.column) (permitted net r) a b
  chosen-there = subst Chosen (sym x-site) decided.chosen

  pub picks-there : ArePicked (frozen_view net setup n r l).site.vcs (ports (frozen_view net setup n r l).site.grid) (lane_ready s.filled a.column) a.column.ahead picked
  picks-there = subst (λ (t : Site). ArePicked t.vcs (ports t.grid) (lane_ready s.filled a.column) a.column.ahead picked) (sym x-site) decided.picks

  past-there : ArePast (frozen_view net setup n r l).site.vcs (ports (frozen_view net setup n r l).site.grid) a.column.ahead e.moved ahead
  past-there = subst (λ (t : Site). ArePast t.vcs (ports t.grid) a.column.ahead e.moved ahead) (sym x-site) decided.past

  pub switched-there : HasSwitched (frozen_view net setup n r l).site.vcs (ports (frozen_view net setup n r l).site.grid) picked (single_in layout.links a.column) (leads_tail s.ended a.column.len) b.marks w e b.column.supplied decided.supplied
  switched-there =
      subst (λ (t : Site). HasSwitched t.vcs (ports t.grid) picked (single_in layout.links a.column) (leads_tail s.ended a.column.len) b.marks w e b.column.supplied decided.supplied) (sym x-site)
      decided.switched

  abbrev pub outs : ℕ
  outs = (given net.relation layout around x quiet (permitted net r) a b permits column-was decided.no_grant decided.no_loss chosen-there).outs

  pub put : ShowsChosen net.relation s.filled a b (given net.relation layout around x quiet (permitted net r) a b permits column-was decided.no_grant decided.no_loss chosen-there).outs x
  put = choice net.relation layout around x quiet (permitted net r) a b permits column-was decided.no_grant decided.no_loss chosen-there

  pub column-next : IsColumn count c w (view_at net (suc n) r)
  column-next =
      subst (λ (v : View). IsColumn count c w v) (next-count net setup n r l few)
      (column-put count c w net.relation (view_at net n r) (beats net setup n r l) n
      (subst (λ (d : Column). IsColumn count d w (view_after_commit (decisions_of net.relation (frozen_view net setup n r l)) (frozen_view net setup n r l))) (sym decided.column)
      (column-settled net.relation layout around (frozen_view net setup n r l) quiet a b _ column-was picks-there put w e decided.supplied switched-there decided.heads decided.granted past-there)))

  pub moved-are : AreMoved x e.moved
  moved-are =
      subst (AreMoved x) (sym switched-there.moved)
      (moved-is x picked b.marks.to_port b.marks.port_turn (moving net.relation layout around x quiet a b _ column-was picks-there put))

  moved-fits : e.moved < 2 ^ 64
  moved-fits = below_fits 64 e.moved (λ k h.
      let u = moves-below net.relation layout around x quiet a b _ column-was picks-there put w e decided.supplied switched-there decided.heads decided.granted k h in
      let f = quiet.few in
      omega (arith, u, f))

  -- what is decided of all channels
  pub decisions : AreDecided picked a.column (frozen_view net setup n r l) s.filled b.lost e
  decisions = all-decided net.relation layout around x quiet a b _ column-was picks-there put w e decided.supplied switched-there decided.heads decided.granted

  -- ---- what leaves
  pub leaves : ShowsLeaving x (record { flits = e.out; tails = e.freed; credits = e.moved })
  leaves = record {
    flits = λ o u. (says-out net.relation layout around x quiet a b _ column-was picks-there put w e decided.supplied switched-there decided.heads decided.granted o u).left;
    tails = λ o u. (says-out net.relation layout around x quiet a b _ column-was picks-there put w e decided.supplied switched-there decided.heads decided.granted o u).freed ∙ same (mover_to x (view_round x) o);
    credits = moved-are.each;
  }
    where
      same : (m : Option ℕ) → is_tail_by x m ≡ is_tail_of x m
      same None = refl
      same (Some i) = refl

  -- ---- the tails that stay
  ended-put : ShowsEnded ended (view_after_commit (decisions_of net.relation x) x)
  ended-put =
      subst (λ n. ShowsEnded n (view_after_commit (decisions_of net.relation x) x)) (sym decided.ended_is)
      (ended-moved count a.column a.marks x s.ended column-was shows.tails worms net.relation (frozen-size net setup n r l) quiet.few e.moved moved-are moved-fits e.released decided.switched.released_fits
      (λ k u. ap (λ m. has_bit m k) decided.released ∙ released-told count a.column a.marks x s.ended column-was shows.tails worms net.relation (frozen-size net setup n r l) quiet.few e.moved moved-are moved-fits k))

  pub ended-after : ShowsEnded ended (view_at net (suc n) r)
  ended-after = subst (ShowsEnded ended) (next-count net setup n r l few) (ended-step net.relation (view_at net n r) (beats net setup n r l) n ended ended-put)

  -- ---- the source
  pub source-after : ShowsSource starts s.source (view_at net (suc n) r)
  source-after = subst (ShowsSource starts s.source) (next-count net setup n r l few) (source-step starts s.source net.relation (view_at net n r) (beats net setup n r l) n shows.source)

  -- ---- the grants, by the words
  pub grants-are : (o : ℕ) → o < size net → granted_in a b o ≡ slice_index_or (view_round x).grants o None
  grants-are o u = by (slice_index_or (view_round x).grants o None) refl
    where
      inside : o < size_of x.site
      inside = subst (λ (t : Site). o < size_of t) (sym x-site) u

      -- idle before, and not after
      bit : has_bit (less a.column.idle b.column.idle) o ≡ (has_bit a.column.idle o && not (has_bit a.column.idle o && not (has_bit outs o)))
      bit =
          ap (λ k. has_bit (less a.column.idle k) o) (ap (λ (d : Column). d.idle) put.column)
          ∙ less_members a.column.idle (less a.column.idle outs) o
          ∙ ap (λ y. has_bit a.column.idle o && not y) (less_members a.column.idle outs o)

      by : (g : Option ℕ) → slice_index_or (view_round x).grants o None ≡ g → (if has_bit (less a.column.idle b.column.idle) o then Some (b.marks.owner o) else None) ≡ slice_index_or (view_round x).grants o None
      by None g =
          ap (λ y. if y then Some (b.marks.owner o) else None) (bit ∙ ap (λ y. has_bit a.column.idle o && not (has_bit a.column.idle o && not y)) (put.taken o inside ∙ ap is_some g) ∙ off (has_bit a.column.idle o)) ∙ sym g
        where
          off : (y : Bool) → (y && not (y && not false)) ≡ false
          off true = refl
          off false = refl
      by (Some k) g =
          let free = (says-out net.relation layout around x quiet a b _ column-was picks-there put w e decided.supplied switched-there decided.heads decided.granted o inside).free (ap is_some g) in
          let idle : has_bit a.column.idle o ≡ true = (column-was.channels.outputs o inside).idle ∙ free.0 in
          ap (λ y. if y then Some (b.marks.owner o) else None) (bit ∙ ap₂ (λ y z. y && not (y && not z)) idle (put.taken o inside ∙ ap is_some g)) ∙ ap Some (put.owners o k inside g) ∙ sym g

-- ---- what is found: the packet of a channel is the one that holds it, and none where it is idle and has no flit
pub packet-found : {count : ℕ} (net : Setup) (setup : IsGoodSetup net) (n r : ℕ) (l : r < nodes net.relation.grid) (starts : List Start) (c : Column) (m : RouterMarks) (ended filled : ℕ) (s : Source)
    → ShowsStill count net n r starts (frozen_view net setup n r l) c m ended filled s → (i : ℕ) → i < size_of (frozen_view net setup n r l).site
    → (view_input (frozen_view net setup n r l) i).packet ≡ (if is_idle_phase (view_input (frozen_view net setup n r l) i).phase && is_empty (view_buffer (frozen_view net setup n r l) i) then None else Some (m.packet i))
packet-found net setup n r l starts c m ended filled s shows i u = by (is_idle_phase (view_input x i).phase) refl (view_buffer x i) refl
  where
    x : View
    x = frozen_view net setup n r l

    seen : i < size net
    seen = subst (λ (t : Site). i < size_of t) (frozen-seen net setup n r l).site u

    by : (idle : Bool) → is_idle_phase (view_input (frozen_view net setup n r l) i).phase ≡ idle → (flits : List Flit) → view_buffer (frozen_view net setup n r l) i ≡ flits
        → (view_input (frozen_view net setup n r l) i).packet ≡ (if is_idle_phase (view_input (frozen_view net setup n r l) i).phase && is_empty (view_buffer (frozen_view net setup n r l) i) then None else Some (m.packet i))
    by false h flits z =
        shows.column.marks.packets i u h
        ∙ sym (ap (λ b. if b && is_empty (view_buffer (frozen_view net setup n r l) i) then None else Some (m.packet i)) h)
    by true h [] z =
        (frozen-tidy net setup n r l).vacant i u h z
        ∙ sym (ap₂ (λ b (fs : List Flit). if b && is_empty fs then None else Some (m.packet i)) h z)
    by true h (f ∷ rest) z =
        let known : (view_input (frozen_view net setup n r l) i).packet ≡ Some f.packet = (frozen-tidy net setup n r l).firsts i f rest u z in
        let held : holder_at net (frozen_at net n) r i ≡ Some f.packet = seen-packet net (frozen_at net n) r (frozen_view net setup n r l) (frozen-seen net setup n r l) i f.packet seen known in
        let told : m.packet i ≡ f.packet = subst (λ (o : Option ℕ). IfSome o (λ q. m.packet i ≡ q)) held (shows.holders i seen) in
        known ∙ ap Some (sym told)
        ∙ sym (ap₂ (λ b (fs : List Flit). if b && is_empty fs then None else Some (m.packet i)) h z)
