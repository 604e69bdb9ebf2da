-- A router of a block, which is one of a network or one that the network does not have, through a
-- cycle.
use Rattle.std.proofs.Common.{◌≡◌, ℕ, ◌*◌, ◌<◌, ◌≤◌, Bool, true, length, arith, inl, inr}
use Rattle.std.proofs.lemmas.Bool.{cases_lt}
use Rattle.noc_topo.specs.Shape.{nodes, ports}
use Rattle.noc_packet.specs.Set.{has_bit}
use Rattle.noc_sets.specs.Cycle.{Router, Turn, still_of}
use Rattle.noc_sets.specs.Layout.{Layout}
use Rattle.noc_sets.specs.Source.{NEVER}
use Rattle.noc_theory.specs.Good.{IsGoodSetup}
use Rattle.noc_theory.specs.Network.{Setup}
use Rattle.noc_theory.specs.declared.limits.TheConstants.{CYCLE_LIMIT}
use Rattle.noc_theory_bits.specs.Network.{HasTurned, IsTurn, all_starts, numbers_in, tells_in}
use Rattle.noc_theory_bits.specs.Sends.{Sends}
use Rattle.noc_theory_bits.proofs.bits.ThroughLemmas.{sends, through}
use Rattle.noc_columns.specs.declared.channels.Decided.{Decided}
use Rattle.noc_columns.specs.declared.channels.Links.{Links}
use Rattle.noc_columns.specs.declared.channels.Standing.{Standing}
use Rattle.noc_columns.specs.declared.channels.Verdicts.{Verdicts}
use Rattle.noc_cycles.specs.Concluding.{HasConcludedHeld}
use Rattle.noc_cycles.specs.Deciding.{HasDecidedHeld}
use Rattle.noc_cycles.specs.Held.{Held}
use Rattle.noc_cycles.specs.May.{MayConclude, MayDecide, MayInject, MayTake}
use Rattle.noc_cycles.specs.Taking.{HasTaken}
use Rattle.noc_cycles.specs.declared.pattern.Pattern.{Pattern}
use Rattle.noc_theory_cycles.specs.Blank.{DoesNothing, IsBlank, channels_count}
use Rattle.noc_theory_cycles.specs.Fits.{FitsNetwork}
use Rattle.noc_theory_cycles.specs.Nodes.{IsNodeTurn, ShowsNode}
use Rattle.noc_theory_cycles.proofs.BlankLemmas.{does-nothing, stays-blank}
use Rattle.noc_theory_cycles.proofs.BlankMayLemmas.{blank-may-conclude, blank-may-decide, blank-may-inject, blank-may-take}
use Rattle.noc_theory_cycles.proofs.HeadLemmas.{works-as-permitted}
use Rattle.noc_theory_cycles.proofs.RouterLemmas.{arrived-picked, concluded-may, may-conclude, may-decide, may-inject, may-take}

-- its turn is one of the network
pub node-turn : (count : ℕ) (net : Setup) (layout : Layout) (pattern : Pattern) (n node : ℕ) (b : Router) (t : Turn) → FitsNetwork count net layout pattern → IsNodeTurn net pattern layout n node b t → IsTurn net layout n node b t
node-turn count net layout pattern n node b t fits works = works-as-permitted net pattern.table.ports layout (all_starts net) n node b t fits.ports works

module _ (count : ℕ) (net : Setup) (layout : Layout) (pattern : Pattern) (n node : ℕ) (links : Links ℕ) (h : Held) (b : Router)
    (setup : IsGoodSetup net) (few : n < CYCLE_LIMIT) (fits : FitsNetwork count net layout pattern) (is : ShowsNode count net pattern n node links h b) where
  soon : n < NEVER
  soon = omega (arith, few)

  -- ---- before the cycle
  pub node-may-take : MayTake pattern (all_starts net) h b
  node-may-take = elim (cases_lt node (nodes net.relation.grid)) [
    | inl l ↦ may-take count net layout pattern (all_starts net) n node links h b setup fits l (is.shows l) is.held
    | inr u ↦ blank-may-take pattern h links b is.held (is.blank u) (all_starts net)
  ]

  pub node-may-inject : MayInject (all_starts net) n h
  node-may-inject = elim (cases_lt node (nodes net.relation.grid)) [
    | inl l ↦ may-inject count net layout pattern (all_starts net) n node links h b setup fits l (is.shows l) is.held few
    | inr u ↦ blank-may-inject pattern h links b is.held (is.blank u) (all_starts net) n soon
  ]

  -- ---- once it has taken what comes
  module _ (a : Held) (standing : Standing ℕ) (no_credit : ℕ) (comes : Bool) (taken : HasTaken pattern layout (all_starts net) n b a standing no_credit comes) where
    pub node-may-decide : MayDecide pattern (length net.packets) (nodes net.relation.grid) node a standing
    node-may-decide = elim (cases_lt node (nodes net.relation.grid)) [
      | inl l ↦ may-decide count net layout pattern (all_starts net) n node b a standing no_credit comes setup few fits l (is.shows l) taken
      | inr u ↦ blank-may-decide pattern layout (all_starts net) n b a standing no_credit comes soon (is.blank u) taken (length net.packets) (nodes net.relation.grid) node
    ]

    -- ---- once it has decided, and that has taken effect
    module _ (sets : ℕ → ℕ → ℕ) (d k : Held) (decided : Decided ℕ) (granted lost arrived : ℕ) (left after : Links ℕ) (before verdicts : Verdicts ℕ)
        (decides : HasDecidedHeld pattern layout sets (still_of layout (all_starts net) n taken.up b) a d standing decided granted lost left)
        (concludes : HasConcludedHeld pattern standing decided granted after arrived d k before verdicts) where
      among : (i : ℕ) → has_bit arrived i ≡ true → has_bit decided.picked i ≡ true
      among = arrived-picked pattern standing decided granted after arrived d k before verdicts concludes

      may : MayConclude (length net.packets) d arrived
      may = elim (cases_lt node (nodes net.relation.grid)) [
        | inl l ↦ may-conclude count net layout pattern (all_starts net) n node b a standing no_credit comes setup few fits l (is.shows l) taken sets d decided granted lost arrived left decides among
        | inr u ↦ blank-may-conclude pattern layout (all_starts net) n b a standing no_credit comes soon (is.blank u) taken sets d decided granted lost arrived (length net.packets) left decides among
      ]

      pub node-may-conclude : MayConclude (length net.packets) k arrived
      node-may-conclude = concluded-may (length net.packets) pattern standing decided granted after arrived d k before verdicts concludes may

  -- ---- its turn
  module _ (t : Turn) (turn : IsNodeTurn net pattern layout n node b t) where
    pub node-sends : (port : ℕ) → node < nodes net.relation.grid → port < ports net.relation.grid → Sends net n node port t.left (tells_in net layout n b t)
    node-sends port l low =
        sends net setup n (all_starts net) node l (numbers_in net layout n b) t (through net setup n few layout fits.layout_is (all_starts net) node l b (is.shows l) t (node-turn count net layout pattern n node b t fits turn)) port low

    -- one that the network does not have
    pub node-nothing : nodes net.relation.grid ≤ node → DoesNothing (ports net.relation.grid * net.relation.vcs) t
    node-nothing u = does-nothing count net layout fits.layout_is (all_starts net) _ n b t soon (channels_count pattern) (is.blank u) (node-turn count net layout pattern n node b t fits turn)

    pub node-blank : nodes net.relation.grid ≤ node → (next : Router) → HasTurned t next → next.links.flits ≡ 0 → next.links.credits ≡ 0 → IsBlank (channels_count pattern) next
    node-blank u next turned flits credits = stays-blank count net layout fits.layout_is (all_starts net) _ n b t soon (channels_count pattern) (is.blank u) (node-turn count net layout pattern n node b t fits turn) next turned flits credits
