-- What is assumed of the frozen state of a cycle: that each packet's channels are a chain along
-- which its flits can follow.
use Rattle.std.proofs.Common.{◌≡◌, ℕ, ◌-◌, ◌<◌, true, false, [], length, Some}
use Rattle.std.specs.Prelude.{IsTrue, find}
use Rattle.noc_theory.proofs.Common.{end_distance, In, Located, Setup, State, all_inputs, count_in, first_waiting, has_channel, injections, is_injection_of, next_channel, owned_by, owner_of, packet_at, verdict_in, is_flying, Channel, Eject, Inject, Link, permits, is_event, Has}

module _ (net : Setup) where
  -- each permitted hop brings the packet nearer
  abbrev pub IsNearing : Type 0
  IsNearing = (m : ℕ) (c : Channel) (t r q v : ℕ) → IsTrue (permits net.relation m c t (Link r q v)) → end_distance net.relation (Link r q v) t < end_distance net.relation c t

  -- how packet p came by channel c: it began there, or the relation let it go on to c
  abbrev pub Came : ℕ → Channel → Type 0
  Came p (Link r q v) = (d : Channel) × IsTrue (permits net.relation (packet_at net p).class d (packet_at net p).destination (Link r q v))
  Came p (Inject n v) = (n ≡ (packet_at net p).source) × (v < net.relation.vcs)
  Came p (Eject n v) = (d : Channel) × IsTrue (permits net.relation (packet_at net p).class d (packet_at net p).destination (Eject n v))

  pub record IsChain (F : State) : Type 0 where
    -- each owner is a packet, that began on the channel or was let go on to it
    pub owners : (c : Channel) (p : ℕ) → Has (c, p) F.own → (p < length net.packets) × Came p c
    pub one_owner : (c : Channel) (p q : ℕ) → Has (c, p) F.own → Has (c, q) F.own → p ≡ q
    -- each step of a worm is permitted
    pub steps : (c : Channel) (p r q v : ℕ) → owner_of net F c ≡ Some p → next_channel net F c ≡ Some (Link r q v)
        → IsTrue (permits net.relation (packet_at net p).class c (packet_at net p).destination (Link r q v))
    -- a channel with a next channel is routed
    pub routed : (c o : Channel) → next_channel net F c ≡ Some o → has_channel F.routed c ≡ true
    -- an owned link channel with an empty buffer has a channel before it, an
    -- ejection channel always has one
    pub links_fed : (r q v p : ℕ) → owner_of net F (Link r q v) ≡ Some p → count_in net F (Link r q v) ≡ 0 → (d : Channel) × (next_channel net F d ≡ Some (Link r q v))
    pub ends_fed : (n v p : ℕ) → owner_of net F (Eject n v) ≡ Some p → (d : Channel) × (next_channel net F d ≡ Some (Eject n v))
    -- the owner of an injection channel with an empty buffer is the first of its node with a flit
    -- at its source, and goes on there
    pub starts_fed : (n v p : ℕ) → owner_of net F (Inject n v) ≡ Some p → count_in net F (Inject n v) ≡ 0
        → (first_waiting net F n ≡ Some p) × (find (is_injection_of net n) (owned_by net F p) ≡ Some (Inject n v))
    -- the tail of each packet is somewhere, and a buffer that holds a flit has an owner
    pub tails : (p : ℕ) → p < length net.packets → (f : Located) × Has f F.at × (f.packet ≡ p) × (f.index ≡ (packet_at net p).length - 1)
    pub kept : (f : Located) (c : Channel) → Has f F.at → f.place ≡ In c → (p : ℕ) × (owner_of net F c ≡ Some p)

  -- nothing happens in this cycle
  pub record IsQuiet (n : ℕ) (F : State) : Type 0 where
    pub still : (f : Located) → Has f F.at → is_flying f.place ≡ false
    pub no_credit : F.back ≡ []
    pub none_injected : injections net F n ≡ []
    pub silent : (c : Channel) → Has c (all_inputs net) → is_event (verdict_in net F c) ≡ false
