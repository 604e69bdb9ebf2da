-- The arbiters of each router of a network have their sizes, and their pointers are below them.
use Rattle.std.proofs.Common.{◌≡◌, ℕ, zero, suc, ◌+◌, ◌*◌, ◌%◌, ◌<◌, List, [], length, Option, Some, None, ap, sym, ◌∙◌, subst, arith, get_or, replicate, mod-lt}
use Rattle.std.proofs.Math.Nat.{mul-pos}
use Rattle.std.proofs.lemmas.List.{length-replicate}
use Rattle.noc_topo.proofs.ListLemmas.{length-map_indexed}
use Rattle.noc_alloc.specs.Allocation.{arbiters_after_winners, winning_pick}
use Rattle.noc_view.specs.Verdict.{opening_arbiters}
use Rattle.noc_theory.specs.Network.{arbiters_at, round_at}
use Rattle.noc_theory.proofs.worms.OneBackLemmas.{arbiters-frozen, arbiters-state}
use Rattle.noc_theory_bits.proofs.Common.{get_or-replicate, nodes, ports, get_or-map_indexed, RoundRobin, arbiter_at, arbiter_after, pointer_after, ArbiterStates, Round, arbiters_after, Setup, opening_state, after_verdicts, network_cycle, state_at, frozen_at}

-- so many arbiters, each over so many requesters, with its pointer at one of them
pub record AreTurns (n size : ℕ) (turns : List RoundRobin) : Type 0 where
  pub count : length turns ≡ n
  pub sizes : (i : ℕ) → i < n → (arbiter_at turns i).size ≡ size
  pub pointers : (i : ℕ) → i < n → (arbiter_at turns i).pointer < size

-- the arbiters of a router of so many ports and virtual channels
pub record AreArbiters (p v : ℕ) (a : ArbiterStates) : Type 0 where
  pub channels : AreTurns (p * v) (p * v) a.channels
  pub inputs : AreTurns p v a.inputs
  pub outputs : AreTurns p p a.outputs

opening-turns : (n size : ℕ) → 0 < size → AreTurns n size (replicate n (record { size = size; pointer = 0 }))
opening-turns n size some =
    let at : (i : ℕ) → i < n → arbiter_at (replicate n (record { size = size; pointer = 0 })) i ≡ record { size = size; pointer = 0 } = λ i l. get_or-replicate n i (record { size = size; pointer = 0 }) (record { size = 0; pointer = 0 }) l in
    record {
      count = length-replicate n _;
      sizes = λ i l. ap (λ (t : RoundRobin). t.size) (at i l);
      pointers = λ i l. subst (λ k. k < size) (sym (ap (λ (t : RoundRobin). t.pointer) (at i l))) some;
    }

pub opening-arbiters : (p v : ℕ) → 0 < p → 0 < v → AreArbiters p v (opening_arbiters p v)
opening-arbiters p v some_ports some_vcs = record {
  channels = opening-turns (p * v) (p * v) (mul-pos some_ports some_vcs);
  inputs = opening-turns p v some_vcs;
  outputs = opening-turns p p some_ports;
}

turned-turns : (n size : ℕ) (turns : List RoundRobin) (winner : ℕ → Option ℕ) → AreTurns n size turns → AreTurns n size (arbiters_after_winners winner turns)
turned-turns n size turns winner are = record {
  count = length-map_indexed (λ i (t : RoundRobin). arbiter_after t (winner i)) turns ∙ are.count;
  sizes = λ i l. ap (λ (t : RoundRobin). t.size) (at i l) ∙ are.sizes i l;
  pointers = λ i l. subst (λ k. k < size) (sym (ap (λ (t : RoundRobin). t.pointer) (at i l))) (low (arbiter_at turns i).size (arbiter_at turns i).pointer (winner i) (are.sizes i l) (are.pointers i l));
}
  where
    at : (i : ℕ) → i < n → arbiter_at (arbiters_after_winners winner turns) i ≡ arbiter_after (arbiter_at turns i) (winner i)
    at i l = get_or-map_indexed (λ i (t : RoundRobin). arbiter_after t (winner i)) turns i (record { size = 0; pointer = 0 }) (record { size = 0; pointer = 0 }) (omega (arith, are.count))

    low : (s p : ℕ) (w : Option ℕ) → s ≡ size → p < size → pointer_after s p w < size
    low s p None e l = l
    low s p (Some w) e l = subst (λ k. (w + 1) % k < size) (sym e) (mod-lt (w + 1) (omega (arith, l)))

pub arbiters-turned : (p v : ℕ) (round : Round) (a : ArbiterStates) → AreArbiters p v a → AreArbiters p v (arbiters_after round a)
arbiters-turned p v round a are = record {
  channels = turned-turns (p * v) (p * v) a.channels (λ o. get_or round.grants o None) are.channels;
  inputs = turned-turns p v a.inputs (winning_pick round.picks round.wins) are.inputs;
  outputs = turned-turns p p a.outputs (λ port. get_or round.wins port None) are.outputs;
}

module _ (net : Setup) (some : 0 < net.relation.vcs) where
  frozen-same : (n r : ℕ) → arbiters_at net (frozen_at net n) r ≡ arbiters_at net (state_at net n) r
  frozen-same n r = ap (λ (xs : List ArbiterStates). get_or xs r (record { channels = []; inputs = []; outputs = [] })) (arbiters-frozen net n (state_at net n))

  pub arbiters-start : (n r : ℕ) → r < nodes net.relation.grid → AreArbiters (ports net.relation.grid) net.relation.vcs (arbiters_at net (state_at net n) r)
  unfolding state_at network_cycle opening_state after_verdicts
  arbiters-start zero r l =
      subst (λ (a : ArbiterStates). AreArbiters (ports net.relation.grid) net.relation.vcs a)
      (sym (get_or-replicate (nodes net.relation.grid) r (opening_arbiters (ports net.relation.grid) net.relation.vcs) (record { channels = []; inputs = []; outputs = [] }) l))
      (opening-arbiters (ports net.relation.grid) net.relation.vcs (omega arith) some)
  arbiters-start (suc n) r l =
      let many : length (frozen_at net n).arbiters ≡ nodes net.relation.grid = ap length (arbiters-frozen net n (state_at net n)) ∙ arbiters-state net n in
      subst (λ (a : ArbiterStates). AreArbiters (ports net.relation.grid) net.relation.vcs a)
      (sym
      (get_or-map_indexed (λ k (a : ArbiterStates). arbiters_after (round_at net (frozen_at net n) k) a) (frozen_at net n).arbiters r (record { channels = []; inputs = []; outputs = [] }) (record { channels = []; inputs = []; outputs = [] }) (omega (arith, many))
      ∙ ap (arbiters_after (round_at net (frozen_at net n) r)) (frozen-same n r)))
      (arbiters-turned (ports net.relation.grid) net.relation.vcs (round_at net (frozen_at net n) r) (arbiters_at net (state_at net n) r) (arbiters-start n r l))

  pub arbiters-frozen_at : (n r : ℕ) → r < nodes net.relation.grid → AreArbiters (ports net.relation.grid) net.relation.vcs (arbiters_at net (frozen_at net n) r)
  arbiters-frozen_at n r l = subst (λ (a : ArbiterStates). AreArbiters (ports net.relation.grid) net.relation.vcs a) (sym (frozen-same n r)) (arbiters-start n r l)
