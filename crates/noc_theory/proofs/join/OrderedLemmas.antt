-- What is asked of a network and of its states: the ownership laws, and four facts more.
use Rattle.std.specs.Prelude.{◌≡◌, ◌≢◌, ℕ, ◌<◌, ◌≤◌, true, false, length, Some}
use Rattle.noc_packet.specs.declared.limits.TheConstants.{MAX_LENGTH}
use Rattle.noc_theory.proofs.Common.{Has, nodes, neighbour, Channel, Link, Eject, is_link, set_at, IsRelation, IsValid, Setup, State, On, packet_at, place_of_flit, has_channel, all_inputs}
use Rattle.noc_theory.specs.Good.{IsWellFormedPacket}
use Rattle.noc_theory.proofs.worms.BuiltRecordLemmas.{IsBuilt}
use Rattle.noc_theory.proofs.worms.FirstOfNodeLemmas.{IsQueued}
use Rattle.noc_theory.proofs.worms.GrantLemmas.{IsWired}
use Rattle.noc_theory.proofs.worms.RoutedStateLemmas.{IsCovering, IsWhole, IsWholeFrozen}

-- what a network has that was made
pub record IsGood (net : Setup) : Type 0 where
  pub built : IsBuilt net
  pub wired : IsWired net
  pub covering : IsCovering net
  pub relation : IsRelation net.relation
  pub packets : (p : ℕ) → p < length net.packets → IsWellFormedPacket net.relation (packet_at net p)

module _ (net : Setup) where
  -- no packet has more flits than a router takes
  abbrev pub AreShort : Type 0
  AreShort = (p : ℕ) → p < length net.packets → (packet_at net p).length ≤ MAX_LENGTH

  -- what each pair of a channel and its owner keeps, and the arbiters
  pub record IsLed (S : State) : Type 0 where
    -- where a link channel of a packet ends, the relation leads the packet on
    pub led : (r a v p : ℕ) (to : ℕ × ℕ) → Has (Link r a v, p) S.own → neighbour net.relation.grid r a ≡ Some to
        → set_at net.relation (packet_at net p).class to.0 to.1 v (packet_at net p).destination ≢ 0
    -- an ejection channel of a packet is at its destination, and is one of
    -- the virtual channels there
    pub at_goal : (n v p : ℕ) → Has (Eject n v, p) S.own → n ≡ (packet_at net p).destination
    pub low : (n v p : ℕ) → Has (Eject n v, p) S.own → v < net.relation.vcs
    pub n_arbiters : length S.arbiters ≡ nodes net.relation.grid

  -- a state at the start of a cycle
  pub record IsOrdered (S : State) : Type 0 where
    pub whole : IsWhole net S
    pub queued : IsQueued net S
    pub more : IsLed S
    -- two flits on one link are one, and two credits
    pub one_on_link : (p i q j r a v u : ℕ) → IsValid net p i → IsValid net q j → place_of_flit net S p i ≡ On (Link r a v) → place_of_flit net S q j ≡ On (Link r a u) → (p ≡ q) × (i ≡ j)
    pub one_back : (r a v u : ℕ) → has_channel S.back (Link r a v) ≡ true → has_channel S.back (Link r a u) ≡ true → v ≡ u
    -- each credit is of a link channel of the network
    pub back_in : (c : Channel) → has_channel S.back c ≡ true → (is_link c ≡ true) × Has c (all_inputs net)

  -- a state in the middle of a cycle: nothing is on its way
  pub record IsOrderedFrozen (F : State) : Type 0 where
    pub whole : IsWholeFrozen net F
    pub queued : IsQueued net F
    pub more : IsLed F
    pub no_credit : (c : Channel) → has_channel F.back c ≡ false
