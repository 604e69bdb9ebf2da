-- The turn of a block of a network in a cycle.
use Rattle.std.specs.Prelude.{◌≡◌, ℕ, ◌+◌, ◌*◌, ◌<◌, ◌≤◌, ◌||◌, Bool, List, true, bit_or, length, nat_eq, not}
use Rattle.noc_topo.specs.Lists.{one_if}
use Rattle.noc_packet.specs.Set.{has_bit}
use Rattle.noc_route.specs.Routes.{Routes}
use Rattle.noc_sets.specs.Counts.{with_verdicts}
use Rattle.noc_sets.specs.Cycle.{Router, Turn}
use Rattle.noc_sets.specs.Unions.{some_below}
use Rattle.noc_theory.specs.Good.{IsGoodSetup}
use Rattle.noc_theory.specs.Network.{Setup}
use Rattle.noc_theory.specs.declared.limits.TheConstants.{CYCLE_LIMIT}
use Rattle.noc_theory_bits.specs.Network.{numbers_in, tells_in}
use Rattle.noc_columns.specs.Picks.{channels_of}
use Rattle.noc_columns.specs.Words.{set_of}
use Rattle.noc_columns.specs.declared.channels.Links.{Links}
use Rattle.noc_columns.specs.declared.ports.RouterPorts.{RouterPorts}
use Rattle.noc_columns.specs.declared.words.TheConstants.{ROUTERS}
use Rattle.noc_counts.specs.Counts.{WaitsOn}
use Rattle.noc_counts.specs.Told.{told_at}
use Rattle.noc_cycles.specs.Gathered.{ShowsLeft}
use Rattle.noc_columns.specs.Heads.{packet_in}
use Rattle.noc_cycles.specs.Held.{held_at, links_at}
use Rattle.noc_cycles.specs.Taking.{IsPunctual, comes_to, links_count}
use Rattle.noc_cycles.specs.Told.{Tells, port_in, vc_in}
use Rattle.noc_cycles.specs.Turning.{ShowsTurn}
use Rattle.noc_cycles.specs.declared.block.Block.{Block}
use Rattle.noc_cycles.specs.declared.block.Work.{Work}
use Rattle.noc_theory_cycles.specs.Fits.{bits_of, layout_of}
use Rattle.noc_theory_cycles.specs.Nodes.{IsNodeTurn, ShowsNode}
use Rattle.noc_engine.specs.Finds.{found_at}
use Rattle.noc_engine.specs.Shows.{IsPlanOf}
use Rattle.noc_engine.specs.declared.plan.Plan.{Plan}

-- block b may have its turn in cycle n, by this relation, where these are the words of all routers
pub record MayTurn (net : Setup) (relation : Routes) (plan : Plan) (n b : ℕ) (words : ℕ → Router)
    (block : Block) (work : Work) : Type 0 where
  pub good : IsGoodSetup net
  pub is : net.relation ≡ relation
  pub few : n < CYCLE_LIMIT
  pub plan_is : IsPlanOf net plan
  pub number : b < length plan.around.items
  pub routers : (r : ℕ) → r < ROUTERS
      → ShowsNode (bits_of plan.pattern) net plan.pattern n (ROUTERS * b + r)
      (links_at plan.pattern.table.ports work.came r)
      (held_at plan.pattern.table.ports block r) (words (ROUTERS * b + r))
  pub before : ℕ  -- a cycle of which it is known which packets are due
  pub known : before ≤ n
  pub punctual : IsPunctual before plan.pattern.table.ports block

-- whether something happens in router r: something comes to it, a head comes to wait, an output
-- channel is granted, or a flit moves
abbrev pub happens_in : RouterPorts → Block → Work → ℕ → Bool
happens_in ports block work r =
    let set = set_of (channels_of ports) r in
    comes_to ports work.came r
    || not (nat_eq (bit_or (bit_or (set work.standing.heads) (set block.grants.granted))
    (set work.verdicts.moved)) 0)

-- it has had it: each of its routers makes one of these turns, and this is what it holds then, and
-- has worked out
pub record HasTurnedBlock (net : Setup) (plan : Plan) (n b : ℕ) (words : ℕ → Router)
    (turns : ℕ → Turn) (block : Block) (work : Work) (left : Links (List ℕ)) (happened : Bool)
    : Type 0 where
  pub turn : (r : ℕ) → r < ROUTERS
      → IsNodeTurn net plan.pattern (layout_of plan.pattern) n (ROUTERS * b + r)
      (words (ROUTERS * b + r)) (turns (ROUTERS * b + r))
  pub shows : (r : ℕ) → r < ROUTERS
      → ShowsTurn plan.pattern (held_at plan.pattern.table.ports block r)
      (turns (ROUTERS * b + r))
  pub packets : (r : ℕ) → r < ROUTERS
      → packet_in block.packets r
      ≡ numbers_in net (layout_of plan.pattern) n (words (ROUTERS * b + r))
  pub leaves : (r : ℕ) → r < ROUTERS
      → ShowsLeft (links_count plan.pattern) (links_at plan.pattern.table.ports left r)
      (turns (ROUTERS * b + r)).left
  pub arrived : (r : ℕ) → r < ROUTERS
      → set_of (channels_of plan.pattern.table.ports) r work.arrived
      ≡ (turns (ROUTERS * b + r)).arrived
  pub leaving : work.leaving ≡ 0 → (r : ℕ)
      → set_of (channels_of plan.pattern.table.ports) r work.arrived ≡ 0
  pub arrive : (r k : ℕ) → r < ROUTERS
      → has_bit (set_of (channels_of plan.pattern.table.ports) r work.arrived) k ≡ true
      → packet_in block.packets r k < length net.packets
  pub told : (r : ℕ) → r < ROUTERS
      → Tells net.relation.grid net.relation.vcs (ROUTERS * b + r)
      (set_of (channels_of plan.pattern.table.ports) r block.grants.granted)
      (port_in plan.pattern.table.ports block r) (vc_in plan.pattern.table.ports block r)
      (packet_in block.packets r)
      (tells_in net (layout_of plan.pattern) n (words (ROUTERS * b + r))
      (turns (ROUTERS * b + r)))
  pub counted : (r i : ℕ) → r < ROUTERS
      → i < (plan.pattern.table.ports.links.width + 1) * plan.pattern.table.ports.links.vcs
      → (turns (ROUTERS * b + r)).counts i
      ≡ with_verdicts (told_at (channels_of plan.pattern.table.ports) block work r) i
      ((words (ROUTERS * b + r)).counts i)
  pub waits : (r i : ℕ) → r < ROUTERS
      → WaitsOn (told_at (channels_of plan.pattern.table.ports) block work r) i
      (one_if (has_bit (words (ROUTERS * b + r)).column.waiting i))
      (one_if (has_bit (turns (ROUTERS * b + r)).column.waiting i))
  pub found : (r i : ℕ) → r < ROUTERS
      → (turns (ROUTERS * b + r)).found i
      ≡ found_at plan.pattern block work r i
  pub happened_is : happened
      ≡ some_below ROUTERS (λ r. (turns (ROUTERS * b + r)).happened)
  pub punctual : IsPunctual n plan.pattern.table.ports block
