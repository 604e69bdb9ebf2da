-- A cycle of one router: where its words show its view at a count, what leaves it is what it sends
-- in the network, and once it has what its neighbours send, its words show the next.
use Rattle.std.proofs.Common.{◌≡◌, ℕ, suc, ◌+◌, ◌*◌, ◌/◌, ◌%◌, ◌<◌, ◌≤◌, List, Option, ap, sym, ◌∙◌, subst, arith, mul-le-mul_right, Some, None}
use Rattle.std.specs.Prelude.{IfSome, is_some, option_map, slice_index_or}
use Rattle.noc_topo.specs.Shape.{IsGrid}
use Rattle.noc_sets.specs.Cycle.{HasWorked, came_in, packets_in, still_of}
use Rattle.noc_sets.specs.Gather.{comes_over, gathered}
use Rattle.noc_sets.proofs.GatherLemmas.{gathered-is, gathered-links}
use Rattle.noc_theory_bits.proofs.Common.{div-add-mod', mod_below, mul-add-lt, nodes, ports, neighbour, has_bit, Beat, MembersAreBelow, Site, View, size_of, is_tail, view_round, empty_finding, CYCLE_LIMIT, IsGoodSetup, beats_at, beats_in, has_event_at, site_at, view_at, findings_before, Setup, frozen_at, size, state_at, view_at-seen, Column, IsColumn, RouterMarks, ByVerdict, ShowsCounts, Links, Router, Still, Turn, ShowsEnded, IsLayoutOf, Layout, ShowsSource, Source, Start, credit_from, flit_from, ShowsRouter, permitted, ShowsHolders, frozen_of, holder_at, beat_of, ShowsBeat, ShowsLeaving, ShowsWires}
use Rattle.noc_theory_bits.specs.Network.{HasGathered, HasTurned}
use Rattle.noc_theory_bits.specs.Sends.{Sends}
use Rattle.noc_theory_bits.proofs.bits.CameLemmas.{came-event}
use Rattle.noc_theory_bits.proofs.bits.CountedLemmas.{counts-next, event-next}
use Rattle.noc_theory_bits.proofs.bits.CycleLemmas.{column-next, ended-after, grants-are, leaves, source-after}
use Rattle.noc_theory_bits.proofs.bits.FreezeLemmas.{ShowsStill, shows-still}
use Rattle.noc_theory_bits.proofs.bits.HolderLemmas.{holders-heard, tells-granted}
use Rattle.noc_theory_bits.proofs.bits.PacketLemmas.{with-packets}
use Rattle.noc_theory_bits.proofs.bits.WireLemmas.{beat-shown, credits-over, flits-over, tails-over}
use Rattle.noc_theory_bits.proofs.network.NetworkLemmas.{frozen_view, good}
use Rattle.noc_theory_bits.proofs.bits.ArrivedLemmas.{ShowsArrived, arrived-shows}
use Rattle.noc_theory_bits.proofs.bits.FoundLemmas.{found-is, found-next}

-- router r is through a cycle: its words after it, but for the numbers of packets that it is told,
-- and what leaves it
pub record IsThrough (count : ℕ) (net : Setup) (n r : ℕ) (starts : List Start) (packets : ℕ → ℕ) (t : Turn) : Type 0 where
  pub column : IsColumn count t.column t.marks (view_at net (suc n) r)
  pub tails : ShowsEnded t.ended (view_at net (suc n) r)
  pub queue : ShowsSource starts t.source (view_at net (suc n) r)
  pub counts : ShowsCounts (suc n) t.counts (view_at net (suc n) r)
  pub leaves : ShowsLeaving (frozen_of net n r) t.left
  pub holders : ShowsHolders net (frozen_at net n) r packets
  pub granted : (o : ℕ) → o < size net → t.grants o ≡ slice_index_or (view_round (frozen_of net n r)).grants o None
  pub happened : t.happened ≡ has_event_at net n r
  pub arrived : ShowsArrived net n r packets t.arrived
  pub found : (i : ℕ) → i < size net → t.found i ≡ slice_index_or (findings_before net (suc n) r) i empty_finding

module _ {count : ℕ} (net : Setup) (setup : IsGoodSetup net) (n : ℕ) (few : n < CYCLE_LIMIT) (layout : Layout) (is_layout : IsLayoutOf count net.relation net.depth layout) (starts : List Start) (r : ℕ) (l : r < nodes net.relation.grid)
    (b : Router) (shows : ShowsRouter count net n r starts b) (t : Turn) where
  abbrev pub still : HasWorked (ports net.relation.grid) net.relation.vcs layout starts (permitted net r) n b t → Still
  still k = still_of layout starts n k.up b

  pub still-shows : (k : HasWorked (ports net.relation.grid) net.relation.vcs layout starts (permitted net r) n b t)
      → ShowsStill count net n r starts (frozen_view net setup n r l) (still k).column (still k).marks (still k).ended (still k).filled (still k).source
  still-shows k = shows-still net setup n r l starts b shows few layout k.up is_layout k.ups k.up_fits

  pub through : HasWorked (ports net.relation.grid) net.relation.vcs layout starts (permitted net r) n b t → IsThrough count net n r starts (packets_in layout starts n b) t
  through k = record {
    column = column-next net setup n r l layout is_layout starts few (still k) (still-shows k) k.before k.chosen k.picked k.ahead k.effects t.column t.marks t.ended k.decided;
    tails = ended-after net setup n r l layout is_layout starts few (still k) (still-shows k) k.before k.chosen k.picked k.ahead k.effects t.column t.marks t.ended k.decided;
    queue =
        subst (λ (s : Source). ShowsSource starts s (view_at net (suc n) r)) (sym k.source_is)
        (source-after net setup n r l layout is_layout starts few (still k) (still-shows k) k.before k.chosen k.picked k.ahead k.effects t.column t.marks t.ended k.decided);
    counts =
        counts-next net setup n r l layout is_layout starts few (still k) (still-shows k) k.before k.chosen k.picked k.ahead k.effects t.column t.marks t.ended k.decided b.counts t.counts k.counted shows.counts;
    leaves =
        subst (ShowsLeaving (frozen_view net setup n r l)) (sym k.left_is)
        (leaves net setup n r l layout is_layout starts few (still k) (still-shows k) k.before k.chosen k.picked k.ahead k.effects t.column t.marks t.ended k.decided);
    holders = (still-shows k).holders;
    granted = λ o u.
        k.grants_are o u ∙ grants-are net setup n r l layout is_layout starts few (still k) (still-shows k) k.before k.chosen k.picked k.ahead k.effects t.column t.marks t.ended k.decided o u;
    happened =
        k.happened_is
        ∙ event-next net setup n r l layout is_layout starts few (still k) (still-shows k) k.before k.chosen k.picked k.ahead k.effects t.column t.marks t.ended k.decided (came_in layout n b)
        (came-event net setup n r l starts b shows few layout k.up is_layout k.ups k.up_fits);
    arrived =
        subst (ShowsArrived net n r (packets_in layout starts n b)) (sym k.arrived_are)
        (arrived-shows net setup n r l layout is_layout starts few (still k) (still-shows k) k.before k.chosen k.picked k.ahead k.effects t.column t.marks t.ended k.decided);
    found = λ i u.
        k.found_are i u
        ∙ found-is net setup n r l layout is_layout starts few (still k) (still-shows k) k.before k.chosen k.picked k.ahead k.effects t.column t.marks t.ended k.decided i u
        ∙ found-next net setup n r l few i u;
  }

-- ---- it is, and so are its neighbours
module _ {count : ℕ} (net : Setup) (setup : IsGoodSetup net) (n : ℕ) (starts : List Start) (r : ℕ) (l : r < nodes net.relation.grid) (packets : ℕ → ℕ) (t : Turn) (one : IsThrough count net n r starts packets t) where
  -- what leaves it, and what it tells, is what the router of the network sends
  pub sends : (port : ℕ) → port < ports net.relation.grid → Sends net n r port t.left (λ o. option_map packets (t.grants o))
  sends port low = record {
    beat = beat-shown net setup n r l t.left one.leaves port low;
    told = λ vc u.
        let within : port * net.relation.vcs + vc < size net = (let m = mul-add-lt port net.relation.vcs vc (ports net.relation.grid) low u in omega (arith, m)) in
        ap (option_map packets) (one.granted (port * net.relation.vcs + vc) within) ∙ tells-granted net setup n r l packets one.holders (port * net.relation.vcs + vc) within;
  }

  module _ (few : n < CYCLE_LIMIT) (left : ℕ → Links) (tells : ℕ → ℕ → Option ℕ) (sent : (q s port : ℕ) → neighbour net.relation.grid r q ≡ Some (s, port) → Sends net n s port (left s) (tells s))
      (next : Router) (have : HasGathered net.relation.grid net.relation.vcs left tells packets r next) where
    abbrev v : View
    v = view_at net (suc n) r

    abbrev row : List Beat
    row = beats_at (beats_in net (state_at net (suc n))) r

    grid : IsGrid net.relation.grid
    grid = (good net setup).relation.table.grid

    some-vcs : 0 < net.relation.vcs
    some-vcs = (good net setup).relation.table.some_vcs

    site : (view_at net (suc n) r).site ≡ site_at net r
    site = (view_at-seen net (suc n) r).site

    beats : (q s port : ℕ) → neighbour net.relation.grid r q ≡ Some (s, port) → ShowsBeat net.relation.vcs port (beat_of net n s port) (left s)
    beats q s port e = (sent q s port e).beat

    -- a channel of a link is one of the router
    link-size : (words : ℕ → ℕ) → MembersAreBelow (size net) (gathered net.relation.grid net.relation.vcs words r)
    link-size words k e =
        let link = gathered-links net.relation.grid grid net.relation.vcs some-vcs words r l k e in
        let m : (k / net.relation.vcs + 1) * net.relation.vcs ≤ ports net.relation.grid * net.relation.vcs = mul-le-mul_right net.relation.vcs (omega (arith, link)) in
        let rest = mod_below k net.relation.vcs some-vcs in
        let whole : k / net.relation.vcs * net.relation.vcs + k % net.relation.vcs ≡ k = div-add-mod' k net.relation.vcs in
        omega (arith, m, rest, whole)

    over : (words : ℕ → ℕ) (i : ℕ) → has_bit (gathered net.relation.grid net.relation.vcs words r) i ≡ comes_over net.relation.grid net.relation.vcs words r i
    over words i = gathered-is net.relation.grid grid net.relation.vcs some-vcs words r l i

    abbrev Wires : Site → Type 0
    Wires s = ((i : ℕ) → i < size_of s → has_bit next.links.flits i ≡ is_some (flit_from s.vcs 0 row i)) × MembersAreBelow (size_of s) next.links.flits
        × ((i : ℕ) → i < size_of s → has_bit next.links.tails i ≡ is_tail (flit_from s.vcs 0 row i)) × MembersAreBelow (size_of s) next.links.tails
        × ((o : ℕ) → o < size_of s → has_bit next.links.credits o ≡ credit_from s.vcs 0 row o) × MembersAreBelow (size_of s) next.links.credits

    wires-at : Wires (site_at net r)
    wires-at = (
      λ i u. ap (λ k. has_bit k i) have.flits ∙ over (λ s. (left s).flits) i ∙ sym (flits-over net setup n few left r l beats i),
      subst (MembersAreBelow (size net)) (sym have.flits) (link-size (λ s. (left s).flits)),
      λ i u. ap (λ k. has_bit k i) have.tails ∙ over (λ s. (left s).tails) i ∙ sym (tails-over net setup n few left r l beats i),
      subst (MembersAreBelow (size net)) (sym have.tails) (link-size (λ s. (left s).tails)),
      λ o u. ap (λ k. has_bit k o) have.credits ∙ over (λ s. (left s).credits) o ∙ sym (credits-over net setup n few left r l beats o),
      subst (MembersAreBelow (size net)) (sym have.credits) (link-size (λ s. (left s).credits)),
    )

    wires-are : ShowsWires (view_at net (suc n) r) next.links.flits next.links.tails next.links.credits (beats_at (beats_in net (state_at net (suc n))) r)
    wires-are =
        let all = subst Wires (sym site) wires-at in
        record { comes = all.0; comes_below = all.1; tail_comes = all.2; tail_comes_below = all.3; returns = all.4; returns_below = all.5 }

    holders-are : ShowsHolders net (state_at net (suc n)) r next.marks.packet
    holders-are i u =
        subst (λ k. IfSome (holder_at net (state_at net (suc n)) r i) (λ p. k ≡ p)) (sym (have.packet i u))
        (holders-heard net setup n packets tells r l one.holders (λ k to port e. (sent (k / net.relation.vcs) to port e).told (k % net.relation.vcs) (mod_below k net.relation.vcs some-vcs)) i u)

    -- all of it
    pub router-next : HasTurned t next → ShowsRouter count net (suc n) r starts next
    router-next turned = record {
      column =
          subst (λ (d : Column). IsColumn count d next.marks v) (sym turned.column)
          (subst (λ (m : RouterMarks). IsColumn count t.column m v) (sym turned.marks)
          (with-packets net (state_at net (suc n)) r v (view_at-seen net (suc n) r) count t.column t.marks next.marks.packet one.column holders-are));
      ended = subst (λ k. ShowsEnded k v) (sym turned.ended) one.tails;
      holders = holders-are;
      wires = wires-are;
      source = subst (λ (s : Source). ShowsSource starts s v) (sym turned.source) one.queue;
      counts = subst (λ (c : ℕ → ByVerdict). ShowsCounts (suc n) c v) (sym turned.counts) one.counts;
    }
