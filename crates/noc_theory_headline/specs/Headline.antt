-- What a network does in each cycle, in terms of its state: who is granted what, which flit
-- moves, and why others wait (docs/MODEL.md, "Arbiters" and "Verdicts"; Dally and Towles,
-- chapters 16, 18 and 19).
use Rattle.std.specs.Prelude.{◌≡◌, ℕ, ◌+◌, ◌*◌, ◌/◌, ◌%◌, ◌<◌, ◌≤◌, true, false, IsTrue, Some, None, ◌↔◌, ◌⊎◌}
use Rattle.noc_topo.specs.Lists.{Has}
use Rattle.noc_topo.specs.Shape.{nodes, ports}
use Rattle.noc_alloc.specs.Arbiter.{distance_in_turn, arbiter_at}
use Rattle.noc_route.specs.Channel.{Channel, is_link}
use Rattle.noc_route.specs.Routes.{permits}
use Rattle.noc_view.specs.declared.verdict.Verdict.{Verdict}
use Rattle.noc_view.specs.declared.verdict.Verdict.TheVariants.{Empty, Routed, Granted, Moved, NoFlit, NoIdleChannel, LostChannel, NoCredit, LostInput, LostSwitch}
use Rattle.noc_theory.specs.Network.{Setup, State, Out, size, packet_at, arriving, leaving, owner_of, has_channel, count_in, credit_of, arbiters_at, all_inputs, verdict_in, place_of_flit, state_at, frozen_at}
use Rattle.noc_theory.specs.Worm.{IsWormOrder}
use Rattle.noc_theory.specs.Good.{IsValid, slots_taken}

-- x comes first in turn: of the requesters below the size that ask, none stands
-- less far behind the pointer
pub record IsFirstInTurn (size pointer : ℕ) (Asks : ℕ → Type 0) (x : ℕ) : Type 0 where
  pub exists : x < size
  pub asks : Asks x
  pub first : (y : ℕ) → y < size → Asks y
      → distance_in_turn size pointer x ≤ distance_in_turn size pointer y

-- a router, in the state of the network from which all verdicts of a cycle are taken.
-- Channel c is one that ends there; i and o are indices, port * vcs + vc, of its input
-- channels and of its output channels
module _ (net : Setup) (F : State) (r : ℕ) where
  -- ---- what holds of a channel

  -- packet p owns channel c
  abbrev pub Owns : ℕ → Channel → Type 0
  Owns p c = owner_of net F c ≡ Some p

  -- the head of its packet was routed there, and the tail has not left
  abbrev pub IsRouted : Channel → Type 0
  IsRouted c = has_channel F.routed c ≡ true

  -- there is a flit in its buffer
  abbrev pub HasFlit : Channel → Type 0
  HasFlit c = 0 < count_in net F c

  -- it is an ejection channel, or has a credit
  abbrev pub HasCredit : Channel → Type 0
  HasCredit c = (is_link c ≡ false) ⊎ (0 < credit_of net F c)

  -- nobody owns it
  abbrev pub IsIdle : Channel → Type 0
  IsIdle c = owner_of net F c ≡ None

  -- ---- what the packet of a channel goes on with

  -- the packet that owns c also owns output channel o: that is its next channel
  pub record GoesOnBy (c : Channel) (o : ℕ) : Type 0 where
    pub packet : ℕ
    pub here : Owns packet c
    pub next : Owns packet (leaving net r o)
    pub exists : o < size net
    pub routed : IsRouted c

  -- it owns none yet
  pub record IsWaiting (c : Channel) : Type 0 where
    pub routed : IsRouted c
    pub no_next : (o : ℕ) → ¬ GoesOnBy c o

  -- the relation permits output channel o to the packet that owns c, and o is idle
  pub record MayTake (c : Channel) (o : ℕ) : Type 0 where
    pub packet : ℕ
    pub here : Owns packet c
    pub permitted : IsTrue (permits net.relation (packet_at net packet).class c
        (packet_at net packet).destination (leaving net r o))
    pub idle : IsIdle (leaving net r o)
    pub exists : o < size net

  -- c waits, and o is the first output channel that it may take
  pub record AsksForChannel (c : Channel) (o : ℕ) : Type 0 where
    pub waits : IsWaiting c
    pub may : MayTake c o
    pub least : (k : ℕ) → k < o → ¬ MayTake c k

  -- the flit in front of c can go by output channel o
  pub record CanSend (c : Channel) (o : ℕ) : Type 0 where
    pub goes : GoesOnBy c o
    pub flit : HasFlit c
    pub credit : HasCredit (leaving net r o)

  -- ---- arbitration

  -- this holds of the channel that arrives as input channel i, if there is one
  abbrev pub HoldsAt : (Channel → Type 0) → ℕ → Type 0
  HoldsAt P i = (c : Channel) × (arriving net r i ≡ Some c) × P c

  -- input channel i is first in turn among those that ask for output channel o
  abbrev pub WinsChannel : ℕ → ℕ → Type 0
  WinsChannel i o =
      IsFirstInTurn (size net) (arbiter_at (arbiters_at net F r).channels o).pointer
      (HoldsAt (λ c. AsksForChannel c o)) i

  -- virtual channel v is first in turn among those of an input port that can send
  abbrev pub IsPick : ℕ → ℕ → Type 0
  IsPick port v =
      IsFirstInTurn net.relation.vcs (arbiter_at (arbiters_at net F r).inputs port).pointer
      (λ vc. HoldsAt (λ c. (o : ℕ) × CanSend c o) (port * net.relation.vcs + vc)) v

  -- the pick of an input port goes through an output port
  abbrev pub PickGoesThrough : ℕ → ℕ → Type 0
  PickGoesThrough out port =
      (v : ℕ) × IsPick port v
      × HoldsAt (λ c. (o : ℕ) × CanSend c o × (o / net.relation.vcs ≡ out))
      (port * net.relation.vcs + v)

  -- an input port is first in turn among those whose pick goes through an output port
  abbrev pub WinsSwitch : ℕ → ℕ → Type 0
  WinsSwitch port out =
      IsFirstInTurn (ports net.relation.grid) (arbiter_at (arbiters_at net F r).outputs out).pointer
      (PickGoesThrough out) port

  -- ---- what each verdict says of channel c, which arrives as input channel i
  abbrev pub Says : ℕ → Channel → Verdict → Type 0
  Says i c Empty = (¬ IsRouted c) × (¬ HasFlit c)
  Says i c Routed = (¬ IsRouted c) × HasFlit c
  Says i c NoIdleChannel = IsWaiting c × ((o : ℕ) → ¬ MayTake c o)
  Says i c LostChannel = (o : ℕ) × AsksForChannel c o × (¬ WinsChannel i o)
  Says i c Granted = (o : ℕ) × AsksForChannel c o × WinsChannel i o
  Says i c NoFlit = (o : ℕ) × GoesOnBy c o × (¬ HasFlit c)
  Says i c NoCredit = (o : ℕ) × GoesOnBy c o × HasFlit c × (¬ HasCredit (leaving net r o))
  Says i c LostInput =
      (o : ℕ) × CanSend c o × (¬ IsPick (i / net.relation.vcs) (i % net.relation.vcs))
  Says i c LostSwitch =
      (o : ℕ) × CanSend c o × IsPick (i / net.relation.vcs) (i % net.relation.vcs)
      × (¬ WinsSwitch (i / net.relation.vcs) (o / net.relation.vcs))
  Says i c Moved =
      (o : ℕ) × CanSend c o × IsPick (i / net.relation.vcs) (i % net.relation.vcs)
      × WinsSwitch (i / net.relation.vcs) (o / net.relation.vcs)

-- channel c arrives at router r as input channel i
pub record IsInputOf (net : Setup) (r i : ℕ) (c : Channel) : Type 0 where
  pub router : r < nodes net.relation.grid
  pub index : i < size net
  pub is : arriving net r i ≡ Some c

-- channel c is an input channel of some router
abbrev pub IsInput : Setup → Channel → Type 0
IsInput net c = (r : ℕ) × (i : ℕ) × IsInputOf net r i c

-- what holds of cycle n of a network: the verdicts of its channels, and its buffers,
-- owners, credits and flits
pub record IsRightCycle (net : Setup) (n : ℕ) : Type 0 where
  -- each channel with a buffer ends at one router, as one of its input channels
  pub somewhere : (c : Channel) → Has c (all_inputs net) → IsInput net c
  pub once : (r i s j : ℕ) (c : Channel) → IsInputOf net r i c → IsInputOf net s j c
      → (r ≡ s) × (i ≡ j)
  -- it gets each verdict exactly where that says what holds
  pub verdicts : (r i : ℕ) (c : Channel) → IsInputOf net r i c → (verdict : Verdict)
      → (verdict_in net (frozen_at net n) c ≡ verdict) ↔ Says net (frozen_at net n) r i c verdict
  -- no buffer holds more than its slots or flits of two packets, no channel has two owners
  pub start : IsWormOrder net (state_at net n)
  pub frozen : IsWormOrder net (frozen_at net n)
  -- the credits of a channel are the free slots of its buffer, also those
  -- that the verdicts look at
  pub credits : (c : Channel)
      → credit_of net (state_at net n) c + slots_taken net (state_at net n) c ≡ net.depth
  pub frozen_credits : (c : Channel)
      → credit_of net (frozen_at net n) c + slots_taken net (frozen_at net n) c ≡ net.depth
  -- the flits of a packet go out in order
  pub out_in_order : (p i j a b : ℕ) → IsValid net p j → i < j
      → place_of_flit net (state_at net n) p i ≡ Out a
      → place_of_flit net (state_at net n) p j ≡ Out b → a < b
