-- What the verdicts of a cycle do: which channels are routed, who comes to own a channel, which
-- flits go on, and which credits go back (docs/MODEL.md, "One cycle").
use Rattle.std.specs.Prelude.{◌≡◌, ◌≢◌, ℕ, ◌+◌, ◌-◌, ◌/◌, ◌%◌, ◌<◌, ◌≤◌, true, length, Some, None, ◌↔◌, ◌⊎◌, if◌then◌else◌, IsTrue}
use Rattle.noc_topo.specs.Lists.{Has}
use Rattle.noc_topo.specs.Shape.{nodes, ports}
use Rattle.noc_alloc.specs.Arbiter.{arbiter_at}
use Rattle.noc_view.specs.declared.verdict.Verdict.TheVariants.{Routed, Moved}
use Rattle.noc_route.specs.Channel.{Channel, Link, Inject, Eject, is_link}
use Rattle.noc_theory.specs.Network.{Setup, State, Source, On, In, Out, arbiters_at, count_in, is_past, landed_place, packet_at, leaving, owner_of, place_of_flit, size, tail_place, state_at, frozen_at}
use Rattle.noc_theory.specs.Good.{IsValid}
use Rattle.noc_theory_headline.specs.Headline.{IsInput, IsInputOf, Owns, IsRouted, AsksForChannel, WinsChannel, CanSend, IsPick, WinsSwitch, Says}

-- ---- before the verdicts

-- the tail of packet p has gone on from the buffer at the end of link channel o: it is out, or on a
-- channel that ends nearer to its destination
abbrev pub HasPassed : Setup → State → ℕ → Channel → Type 0
HasPassed net S p o =
    (is_link o ≡ true) × IsTrue (is_past net o (packet_at net p).destination (tail_place net S p))

-- injection channel v of the node of packet p
abbrev pub entry_channel : Setup → ℕ → ℕ → Channel
entry_channel net p v = Inject (packet_at net p).source v

-- packet p has its tail at its source, and no other packet of its node that has comes before it, by
-- due time and then by number
pub record IsFirstOfNode (net : Setup) (S : State) (p : ℕ) : Type 0 where
  pub exists : p < length net.packets
  pub waits : tail_place net S p ≡ Source
  pub first : (q : ℕ) → q < length net.packets → (packet_at net q).source ≡ (packet_at net p).source
      → tail_place net S q ≡ Source
      → ((packet_at net p).due < (packet_at net q).due)
      ⊎ (((packet_at net p).due ≡ (packet_at net q).due) × (p ≤ q))

-- packet p begins on injection channel v of its node in cycle n: it is the first of its node, due,
-- and has begun on none, and v is the least that nobody owns
pub record Begins (net : Setup) (n p v : ℕ) : Type 0 where
  pub is_first : IsFirstOfNode net (state_at net n) p
  pub due : (packet_at net p).due ≤ n
  pub unbegun : (w : ℕ) → owner_of net (state_at net n) (entry_channel net p w) ≢ Some p
  pub exists : v < net.relation.vcs
  pub idle : owner_of net (state_at net n) (entry_channel net p v) ≡ None
  pub least : (w : ℕ) → w < v → owner_of net (state_at net n) (entry_channel net p w) ≢ None

-- packet p goes on from its source on injection channel v, where it has
-- begun and the buffer has room
pub record GoesOnAt (net : Setup) (n p v : ℕ) : Type 0 where
  pub is_first : IsFirstOfNode net (state_at net n) p
  pub begun : owner_of net (state_at net n) (entry_channel net p v) ≡ Some p
  pub room : count_in net (state_at net n) (entry_channel net p v) < net.depth

-- flit i of packet p is the first of its packet that is at the source
abbrev pub IsNextFlit : Setup → State → ℕ → ℕ → Type 0
IsNextFlit net S p i =
    (place_of_flit net S p i ≡ Source)
    × ((j : ℕ) → IsValid net p j → place_of_flit net S p j ≡ Source → i ≤ j)

-- ---- what the verdicts do

-- the pointer of an arbiter over so many requesters goes to one past its winner,
-- and without one it stays
abbrev pub IsPointerAfter : ℕ → (ℕ → Type 0) → ℕ → ℕ → Type 0
IsPointerAfter size Wins before after =
    ((x : ℕ) → Wins x → after ≡ (x + 1) % size) × (((x : ℕ) → ¬ Wins x) → after ≡ before)

-- packet p is granted channel o: the channel where it is asks for o, and
-- arbitration picks that request
pub record IsGrantedTo (net : Setup) (F : State) (o : Channel) (p : ℕ) : Type 0 where
  pub router : ℕ
  pub input : ℕ
  pub output : ℕ
  pub channel : Channel
  pub at : IsInputOf net router input channel
  pub is : leaving net router output ≡ o
  pub packet : Owns net F router p channel
  pub asks : AsksForChannel net F router channel output
  pub wins : WinsChannel net F router input output

-- flit i of packet p is sent on channel o: it is the first in its buffer, its packet owns o next,
-- there is a credit, and it wins the switch
pub record IsSentOn (net : Setup) (F : State) (p i : ℕ) (o : Channel) : Type 0 where
  pub router : ℕ
  pub input : ℕ
  pub output : ℕ
  pub channel : Channel
  pub at : IsInputOf net router input channel
  pub is : leaving net router output ≡ o
  pub there : place_of_flit net F p i ≡ In channel
  pub first : (j : ℕ) → IsValid net p j → place_of_flit net F p j ≡ In channel → i ≤ j
  pub sends : CanSend net F router channel output
  pub picked : IsPick net F router (input / net.relation.vcs) (input % net.relation.vcs)
  pub wins : WinsSwitch net F router (input / net.relation.vcs) (output / net.relation.vcs)

-- the tail of packet p is sent from the buffer of channel c
abbrev pub IsTailSent : Setup → State → ℕ → Channel → Type 0
IsTailSent net F p c =
    (tail_place net F p ≡ In c) × (o : Channel) × IsSentOn net F p ((packet_at net p).length - 1) o

-- packet p leaves channel o in this cycle: its tail is sent from the buffer of an injection
-- channel, or on an ejection channel. A link channel is left in a later cycle, in which the
-- credit for the tail arrives
abbrev pub IsLeftBy : Setup → State → ℕ → Channel → Type 0
IsLeftBy net F p (Link r port v) = ⊥
IsLeftBy net F p (Inject m v) = IsTailSent net F p (Inject m v)
IsLeftBy net F p (Eject m v) = IsSentOn net F p ((packet_at net p).length - 1) (Eject m v)

-- what comes before the verdicts of cycle n, and what the verdicts do
pub record IsRightStep (net : Setup) (n : ℕ) : Type 0 where
  -- before them each flit on a wire lands in the buffer of its channel, and else only a flit at its
  -- source may move: into the buffer of an injection channel of its node
  pub starts : (p i : ℕ) → IsValid net p i
      → (place_of_flit net (frozen_at net n) p i
      ≡ landed_place net (place_of_flit net (state_at net n) p i))
      ⊎ ((place_of_flit net (state_at net n) p i ≡ Source) × (v : ℕ)
      × (place_of_flit net (frozen_at net n) p i ≡ In (Inject (packet_at net p).source v)))
  -- it does exactly where its packet begins, or goes on, on that channel, and
  -- it is the first flit there
  pub injects : (p i v : ℕ) → IsValid net p i
      → ((place_of_flit net (state_at net n) p i ≡ Source)
      × (place_of_flit net (frozen_at net n) p i ≡ In (entry_channel net p v)))
      ↔ ((Begins net n p v ⊎ GoesOnAt net n p v) × IsNextFlit net (state_at net n) p i)
  -- a channel keeps its owner, but for a link channel that the tail of its owner has passed, which
  -- is idle; and a packet that begins comes to own its injection channel
  pub owners : (o : Channel) (p : ℕ) → (owner_of net (frozen_at net n) o ≡ Some p)
      ↔ (((owner_of net (state_at net n) o ≡ Some p) × ¬ HasPassed net (state_at net n) p o)
      ⊎ ((v : ℕ) × (o ≡ entry_channel net p v) × Begins net n p v))
  -- all credits arrive, and the routed channels and the pointers are the same
  pub no_credit : (c : Channel) → ¬ Has c (frozen_at net n).back
  pub routed_same : (frozen_at net n).routed ≡ (state_at net n).routed
  pub pointers_same : (frozen_at net n).arbiters ≡ (state_at net n).arbiters
  -- an input channel is routed from its verdict Routed until the tail of its packet is sent
  pub routed : (r i : ℕ) (c : Channel) → IsInputOf net r i c
      → IsRouted net (state_at net (n + 1)) r c
      ↔ (Says net (frozen_at net n) r i c Routed
      ⊎ (IsRouted net (frozen_at net n) r c
      × ((p : ℕ) → Owns net (frozen_at net n) r p c → ¬ IsTailSent net (frozen_at net n) p c)))
  -- and nothing but an input channel of some router is routed
  pub routed_inputs : (c : Channel) → Has c (state_at net (n + 1)).routed → IsInput net c
  -- a packet comes to own an idle channel exactly where it is granted
  pub granted : (o : Channel) (p : ℕ) → owner_of net (frozen_at net n) o ≡ None
      → (owner_of net (state_at net (n + 1)) o ≡ Some p) ↔ IsGrantedTo net (frozen_at net n) o p
  -- the owner of a channel stays its owner, and leaves it idle exactly where its tail goes
  pub kept : (o : Channel) (p : ℕ) → owner_of net (frozen_at net n) o ≡ Some p
      → ¬ IsLeftBy net (frozen_at net n) p o → owner_of net (state_at net (n + 1)) o ≡ Some p
  pub released : (o : Channel) (p : ℕ) → owner_of net (frozen_at net n) o ≡ Some p
      → IsLeftBy net (frozen_at net n) p o → owner_of net (state_at net (n + 1)) o ≡ None
  -- a flit leaves its place exactly where it is sent on some channel
  pub moved : (p i : ℕ) → IsValid net p i
      → (place_of_flit net (state_at net (n + 1)) p i ≢ place_of_flit net (frozen_at net n) p i)
      ↔ ((o : Channel) × IsSentOn net (frozen_at net n) p i o)
  -- it goes onto the wire of a link channel, and by an ejection channel it is out
  pub goes : (p i : ℕ) (o : Channel) → IsValid net p i → IsSentOn net (frozen_at net n) p i o
      → place_of_flit net (state_at net (n + 1)) p i ≡ (if is_link o then On o else Out n)
  -- for a flit that leaves the buffer of a link channel a credit goes back, and for no other
  pub credit : (r i : ℕ) (c : Channel) → IsInputOf net r i c
      → Has c (state_at net (n + 1)).back
      ↔ ((is_link c ≡ true) × Says net (frozen_at net n) r i c Moved)
  -- and each credit that is on its way is of an input channel of some router
  pub credit_inputs : (c : Channel) → Has c (state_at net (n + 1)).back → IsInput net c
  -- the pointer of an output channel goes past the input channel that was chosen, and that
  -- of an output port past the input port. That of an input port goes past its pick, where
  -- the port won an output port
  pub channel_pointers : (r o : ℕ) → r < nodes net.relation.grid → o < size net
      → IsPointerAfter (size net) (λ i. WinsChannel net (frozen_at net n) r i o)
      (arbiter_at (arbiters_at net (frozen_at net n) r).channels o).pointer
      (arbiter_at (arbiters_at net (state_at net (n + 1)) r).channels o).pointer
  pub output_pointers : (r port : ℕ) → r < nodes net.relation.grid → port < ports net.relation.grid
      → IsPointerAfter (ports net.relation.grid) (λ q. WinsSwitch net (frozen_at net n) r q port)
      (arbiter_at (arbiters_at net (frozen_at net n) r).outputs port).pointer
      (arbiter_at (arbiters_at net (state_at net (n + 1)) r).outputs port).pointer
  pub input_pointers : (r port : ℕ) → r < nodes net.relation.grid → port < ports net.relation.grid
      → IsPointerAfter net.relation.vcs (λ v. IsPick net (frozen_at net n) r port v
      × ((out : ℕ) × (out < ports net.relation.grid) × WinsSwitch net (frozen_at net n) r port out))
      (arbiter_at (arbiters_at net (frozen_at net n) r).inputs port).pointer
      (arbiter_at (arbiters_at net (state_at net (n + 1)) r).inputs port).pointer
