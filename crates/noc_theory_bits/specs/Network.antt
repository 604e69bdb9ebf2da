-- What the words of all routers show of a network, and a cycle of all of them.
use Rattle.std.specs.Prelude.{◌≡◌, ◌≢◌, ℕ, suc, ◌+◌, ◌*◌, ◌/◌, ◌%◌, ◌<◌, ◌≤◌, Bool, true, false, List, length, Option, Some, None, nat_eq, option_map, unwrap_or}
use Rattle.noc_topo.specs.Shape.{Grid, neighbour, nodes, ports}
use Rattle.noc_packet.specs.Set.{has_bit}
use Rattle.noc_route.specs.Routes.{set_at}
use Rattle.noc_theory.specs.Lockstep.{beats_at, beats_in, has_event_at, view_at}
use Rattle.noc_theory.specs.declared.limits.TheConstants.{CYCLE_LIMIT}
use Rattle.noc_theory.specs.Network.{Setup, arrival_in, packet_at, size, state_at}
use Rattle.noc_theory.specs.Progress.{events, last_event_before}
use Rattle.noc_sets.specs.Column.{IsColumn}
use Rattle.noc_sets.specs.Counts.{RunOn, ShowsCounts, ShowsLastEvent, no_counts}
use Rattle.noc_sets.specs.Cycle.{HasWorked, Links, Router, Turn, packets_in}
use Rattle.noc_sets.specs.Ended.{ShowsEnded}
use Rattle.noc_sets.specs.Gather.{gathered}
use Rattle.noc_sets.specs.Layout.{Layout}
use Rattle.noc_sets.specs.Opening.{AreEmptyMarks, IsEmptyColumn}
use Rattle.noc_sets.specs.Source.{ShowsSource, Start}
use Rattle.noc_theory_bits.specs.Owners.{ShowsHolders, heard}
use Rattle.noc_theory_bits.specs.Sends.{Sends}
use Rattle.noc_theory_bits.specs.Starts.{opened_source, starts_list}
use Rattle.noc_theory_bits.specs.Wires.{ShowsWires}

-- the list of the packets of all its sources
abbrev pub all_starts : Setup → List Start
all_starts net = starts_list net.packets (nodes net.relation.grid)

-- ---- at a count
-- these words, with numbers in planes of so many bits, show router r of a network at count n
pub record ShowsRouter (count : ℕ) (net : Setup) (n r : ℕ) (starts : List Start) (w : Router)
    : Type 0 where
  pub column : IsColumn count w.column w.marks (view_at net n r)
  pub ended : ShowsEnded w.ended (view_at net n r)
  pub holders : ShowsHolders net (state_at net n) r w.marks.packet
  pub wires : ShowsWires (view_at net n r) w.links.flits w.links.tails w.links.credits
      (beats_at (beats_in net (state_at net n)) r)
  pub source : ShowsSource starts w.source (view_at net n r)
  pub counts : ShowsCounts n w.counts (view_at net n r)

-- the words of all routers do
abbrev pub ShowRouters : ℕ → Setup → ℕ → List Start → (ℕ → Router) → Type 0
ShowRouters count net n starts words =
    (r : ℕ) → r < nodes net.relation.grid → ShowsRouter count net n r starts (words r)

-- what is kept of a network: the words of its routers, the cycle after that of its last event (0
-- before the first), and by packet the cycle in which it arrived
pub record Words : Type 0 where
  pub routers : ℕ → Router
  pub last : ℕ
  pub arrivals : ℕ → Option ℕ

-- it shows the network at count n
pub record ShowsNetwork (count : ℕ) (net : Setup) (n : ℕ) (w : Words) : Type 0 where
  pub limit : n ≤ CYCLE_LIMIT
  pub routers : ShowRouters count net n (all_starts net) w.routers
  pub last : ShowsLastEvent w.last (last_event_before net n)
  pub arrivals : (p : ℕ) → p < length net.packets → w.arrivals p ≡ arrival_in net (state_at net n) p

-- ---- some of the routers of a network, its own
-- router r is one of them
abbrev pub IsOwn : Setup → (ℕ → Bool) → ℕ → Type 0
IsOwn net own r = (r < nodes net.relation.grid) × (own r ≡ true)

-- the word of the last event by count n, as far as they know: it has the cycle after one with an
-- event, or 0, and since then they have had none
pub record ShowsLastOf (net : Setup) (own : ℕ → Bool) (n word : ℕ) : Type 0 where
  pub event : (m : ℕ) → word ≡ m + 1 → (m < n) × (0 < events net m (state_at net m))
  pub none : (m r : ℕ) → word ≤ m → m < n → IsOwn net own r → has_event_at net m r ≡ false

-- it shows them at count n: their words, and the arrivals of the packets that end in them
pub record ShowsOwn (count : ℕ) (net : Setup) (own : ℕ → Bool) (n : ℕ) (w : Words) : Type 0 where
  pub limit : n ≤ CYCLE_LIMIT
  pub routers : (r : ℕ) → IsOwn net own r → ShowsRouter count net n r (all_starts net) (w.routers r)
  pub last : ShowsLastOf net own n w.last
  pub arrivals : (p : ℕ) → p < length net.packets → own (packet_at net p).destination ≡ true
      → w.arrivals p ≡ arrival_in net (state_at net n) p

-- words have what those of the parts of a network have, where each router is in the part of this
-- number: the words of each router, the latest of the last events, and of each packet the arrival
-- in the part where it ends
pub record AreJoined (net : Setup) (part : ℕ → ℕ) (parts : ℕ → Words) (w : Words) : Type 0 where
  pub routers : (r : ℕ) → r < nodes net.relation.grid → w.routers r ≡ (parts (part r)).routers r
  pub latest : (r : ℕ) → r < nodes net.relation.grid → (parts (part r)).last ≤ w.last
  pub last : (r : ℕ) × (r < nodes net.relation.grid) × (w.last ≡ (parts (part r)).last)
  pub arrivals : (p : ℕ) → p < length net.packets
      → w.arrivals p ≡ (parts (part (packet_at net p).destination)).arrivals p

-- the routers of the part that router r is in
abbrev pub with_router : (ℕ → ℕ) → ℕ → ℕ → Bool
with_router part r s = nat_eq (part s) (part r)

-- ---- before the first cycle
-- every channel is idle and has no flit, nothing is on the wires, nothing was counted, and each
-- source has all its packets
pub record HasOpened (count : ℕ) (net : Setup) (layout : Layout) (r : ℕ) (w : Router) : Type 0 where
  pub column : IsEmptyColumn count
      (ports net.relation.grid * net.relation.vcs) layout.links layout.local net.depth w.column
  pub marks : AreEmptyMarks (ports net.relation.grid)
      (ports net.relation.grid * net.relation.vcs) w.marks
  pub ended : w.ended ≡ 0
  pub links : w.links ≡ record { flits = 0; tails = 0; credits = 0 }
  pub source : w.source ≡ opened_source net.packets r
  pub counts : (i : ℕ) → w.counts i ≡ no_counts

-- .. of all routers, and nothing has happened
pub record HaveOpened (count : ℕ) (net : Setup) (layout : Layout) (w : Words) : Type 0 where
  pub routers : (r : ℕ) → r < nodes net.relation.grid → HasOpened count net layout r (w.routers r)
  pub last : w.last ≡ 0
  pub arrivals : (p : ℕ) → w.arrivals p ≡ None

-- ---- a cycle
-- the set that the relation permits to packet p in input channel k of router r
abbrev pub permitted : Setup → ℕ → ℕ → ℕ → ℕ
permitted net r k p =
    set_at net.relation (packet_at net p).class r (k / net.relation.vcs) (k % net.relation.vcs)
    (packet_at net p).destination

-- router r makes this turn of cycle n
abbrev pub IsTurn : Setup → Layout → ℕ → ℕ → Router → Turn → Type 0
IsTurn net layout n r b t =
    HasWorked (ports net.relation.grid) net.relation.vcs layout (all_starts net)
    (permitted net r) n b t

-- what router r has of all that left the routers, and of the numbers of packets that they told by
-- output channel: what its links bring, and the numbers of its packets, which were these
pub record HasGathered (grid : Grid) (vcs : ℕ) (left : ℕ → Links) (tells : ℕ → ℕ → Option ℕ)
    (packets : ℕ → ℕ) (r : ℕ) (w : Router) : Type 0 where
  pub flits : w.links.flits ≡ gathered grid vcs (λ s. (left s).flits) r
  pub tails : w.links.tails ≡ gathered grid vcs (λ s. (left s).tails) r
  pub credits : w.links.credits ≡ gathered grid vcs (λ s. (left s).credits) r
  pub packet : (i : ℕ) → i < ports grid * vcs
      → w.marks.packet i ≡ unwrap_or (heard grid vcs tells r i) (packets i)

-- its other words are those of its turn
pub record HasTurned (t : Turn) (w : Router) : Type 0 where
  pub column : w.column ≡ t.column
  pub marks : w.marks ≡ record t.marks { packet = w.marks.packet }
  pub ended : w.ended ≡ t.ended
  pub source : w.source ≡ t.source
  pub counts : w.counts ≡ t.counts

-- the cycle after the last event is that after cycle n, where something happens in one of these
-- routers in it, and else what it was
pub record IsLastAfter (Among : ℕ → Type 0) (n : ℕ) (t : ℕ → Turn) (before after : ℕ) : Type 0 where
  pub some : (r : ℕ) → Among r → (t r).happened ≡ true → after ≡ n + 1
  pub none : ((r : ℕ) → Among r → (t r).happened ≡ false) → after ≡ before

-- the packets of the channels of these routers that are left by the local port arrive in cycle n,
-- and no others, where these are the numbers of packets
pub record AreArrivals (Among : ℕ → Type 0) (size n : ℕ) (t : ℕ → Turn) (packets : ℕ → ℕ → ℕ)
    (before after : ℕ → Option ℕ) : Type 0 where
  pub some : (r i : ℕ) → Among r → i < size → has_bit (t r).arrived i ≡ true
      → after (packets r i) ≡ Some n
  pub others : (p : ℕ)
      → ((r i : ℕ) → Among r → i < size → has_bit (t r).arrived i ≡ true → packets r i ≢ p)
      → after p ≡ before p

-- the numbers of packets that router r has for its input channels in cycle n, and those that it
-- tells by output channel in this turn
abbrev pub numbers_in : Setup → Layout → ℕ → Router → ℕ → ℕ
numbers_in net layout n b = packets_in layout (all_starts net) n b

abbrev pub tells_in : Setup → Layout → ℕ → Router → Turn → ℕ → Option ℕ
tells_in net layout n b t o = option_map (numbers_in net layout n b) (t.grants o)

-- cycle n of a network, from the words b to the words `next`, where each router makes this of it
pub record HasRun (net : Setup) (layout : Layout) (n : ℕ) (b : Words) (t : ℕ → Turn) (next : Words)
    : Type 0 where
  pub turns : (r : ℕ) → r < nodes net.relation.grid → IsTurn net layout n r (b.routers r) (t r)
  pub gathered_are : (r : ℕ) → r < nodes net.relation.grid
      → HasGathered net.relation.grid net.relation.vcs (λ s. (t s).left)
      (λ s. tells_in net layout n (b.routers s) (t s)) (numbers_in net layout n (b.routers r)) r
      (next.routers r)
  pub are : (r : ℕ) → r < nodes net.relation.grid → HasTurned (t r) (next.routers r)
  pub last : IsLastAfter (λ r. r < nodes net.relation.grid) n t b.last next.last
  pub arrivals : AreArrivals (λ r. r < nodes net.relation.grid) (size net) n t
      (λ s. numbers_in net layout n (b.routers s)) b.arrivals next.arrivals

-- cycle n of the own routers of a network, where this has left all routers, and they have told
-- these numbers: what the others send over the links to own ones is right
pub record HasRunOwn (net : Setup) (layout : Layout) (own : ℕ → Bool) (n : ℕ) (b : Words)
    (t : ℕ → Turn) (left : ℕ → Links) (tells : ℕ → ℕ → Option ℕ) (next : Words) : Type 0 where
  pub turns : (r : ℕ) → IsOwn net own r → IsTurn net layout n r (b.routers r) (t r)
  pub left_are : (s : ℕ) → IsOwn net own s → left s ≡ (t s).left
  pub told_are : (s o : ℕ) → IsOwn net own s → o < size net
      → tells s o ≡ tells_in net layout n (b.routers s) (t s) o
  pub sent : (r q s port : ℕ) → IsOwn net own r → neighbour net.relation.grid r q ≡ Some (s, port)
      → own s ≡ false → Sends net n s port (left s) (tells s)
  pub gathered_are : (r : ℕ) → IsOwn net own r
      → HasGathered net.relation.grid net.relation.vcs left tells
      (numbers_in net layout n (b.routers r)) r (next.routers r)
  pub are : (r : ℕ) → IsOwn net own r → HasTurned (t r) (next.routers r)
  pub last : IsLastAfter (IsOwn net own) n t b.last next.last
  pub arrivals : AreArrivals (IsOwn net own) (size net) n t
      (λ s. numbers_in net layout n (b.routers s)) b.arrivals next.arrivals

-- cycle after cycle from the words of an opened network: the words at each count
pub record HasRunTo (count : ℕ) (net : Setup) (layout : Layout) (end : ℕ) (w : ℕ → Words)
    : Type 0 where
  pub opened : HaveOpened count net layout (w 0)
  pub cycles : (n : ℕ) → n < end → (t : ℕ → Turn) × HasRun net layout n (w n) t (w (suc n))

-- ---- a wait
-- from `was` to `is` a cycle has run in which nothing happened, and then to `later` as many more:
-- what is counted of each channel goes on as in the first of them, and all else stays
pub record HasWaited (net : Setup) (times : ℕ) (was is later : Words) : Type 0 where
  pub counts : (r i : ℕ) → r < nodes net.relation.grid → i < size net
      → RunOn times ((was.routers r).counts i) ((is.routers r).counts i)
      ((later.routers r).counts i)
  pub rest : (r : ℕ) → r < nodes net.relation.grid
      → later.routers r ≡ record (is.routers r) { counts = (later.routers r).counts }
  pub last : later.last ≡ is.last
  pub arrivals : (p : ℕ) → p < length net.packets → later.arrivals p ≡ is.arrivals p

-- nothing happened in cycle n, and no packet is due before cycle `end` that is not yet due after it
pub record MayWait (net : Setup) (n end : ℕ) (is : Words) : Type 0 where
  pub quiet : is.last ≢ n + 1
  pub due : (r : ℕ) → r < nodes net.relation.grid → n < (is.routers r).source.due
      → end ≤ (is.routers r).source.due
