-- What is decided in one router of a block takes effect, and so it has taken part in the cycle.
use Rattle.std.specs.Prelude.{◌≡◌, ◌≢◌, ℕ, ◌+◌, ◌*◌, ◌<◌, true, List}
use Rattle.noc_packet.specs.Set.{has_bit}
use Rattle.noc_alloc.specs.Members.{MembersAreBelow}
use Rattle.noc_columns.specs.Arrivals.{given_back, leaves_from}
use Rattle.noc_columns.specs.Channels.{decided_by, standing_by, verdicts_by}
use Rattle.noc_columns.specs.Picks.{channels_of}
use Rattle.noc_columns.specs.Steps.{Pays, Settles}
use Rattle.noc_columns.specs.Words.{set_of}
use Rattle.noc_columns.specs.declared.channels.Decided.{Decided}
use Rattle.noc_columns.specs.declared.channels.Links.{Links}
use Rattle.noc_columns.specs.declared.channels.Standing.{Standing}
use Rattle.noc_columns.specs.declared.channels.Verdicts.{Verdicts}
use Rattle.noc_columns.specs.declared.ports.RouterPorts.{RouterPorts}
use Rattle.noc_cycles.specs.Held.{Held}
use Rattle.noc_cycles.specs.declared.pattern.Pattern.{Pattern}

-- the words of router r in records of a block
abbrev pub standing_at : RouterPorts → Standing (List ℕ) → ℕ → Standing ℕ
standing_at ports words r = standing_by (set_of (channels_of ports) r) words

abbrev pub decided_at : RouterPorts → Decided (List ℕ) → ℕ → Decided ℕ
decided_at ports words r = decided_by (set_of (channels_of ports) r) words

abbrev pub verdicts_at : RouterPorts → Verdicts (List ℕ) → ℕ → Verdicts ℕ
verdicts_at ports words r = verdicts_by (set_of (channels_of ports) r) words

-- from h to n this takes effect: `granted` are its input channels that are granted an output
-- channel, and `left` is what leaves it over its links. Its verdicts go from v to w, and from the
-- input channels `arrived` packets leave the network
pub record HasConcludedHeld (pattern : Pattern) (standing : Standing ℕ) (decided : Decided ℕ)
    (granted : ℕ) (left : Links ℕ) (arrived : ℕ) (h n : Held) (v w : Verdicts ℕ) : Type 0 where
  pub settles : Settles pattern.frame.deep standing decided granted h.inputs n.inputs v w
  pub pays : Pays pattern.frame.deep left.flits left.tails h.outputs n.outputs
  pub leaves : (c : ℕ) → c < (pattern.table.ports.links.width + 1) * pattern.table.ports.links.vcs
      → has_bit arrived c
      ≡ leaves_from pattern.table.ports.links.width w.moved standing.last h.out_port c
  pub idle : n.idle
      ≡ given_back h.idle
      ((pattern.table.ports.links.width + 1) * pattern.table.ports.links.vcs)
      (pattern.table.ports.links.width * pattern.table.ports.links.vcs) arrived h.out_vc
  pub credits : (c : ℕ) → c < pattern.table.ports.links.width * pattern.table.ports.links.vcs
      → has_bit left.credits c ≡ has_bit w.moved c
  pub rest : n ≡ record h { inputs = n.inputs; outputs = n.outputs; idle = n.idle }
  -- it has so many channels
  pub arrived_below : MembersAreBelow
      ((pattern.table.ports.links.width + 1) * pattern.table.ports.links.vcs) arrived
  pub active_below : MembersAreBelow
      ((pattern.table.ports.links.width + 1) * pattern.table.ports.links.vcs) h.inputs.active
  pub granted_below : MembersAreBelow
      ((pattern.table.ports.links.width + 1) * pattern.table.ports.links.vcs) granted
  pub flits_below : MembersAreBelow
      (pattern.table.ports.links.width * pattern.table.ports.links.vcs) left.flits
  pub tails_below : MembersAreBelow
      (pattern.table.ports.links.width * pattern.table.ports.links.vcs) left.tails

-- ---- packets leave the network
-- in this cycle the packets arrive that hold these channels of so many routers, and no others
pub record HaveArrived (cycle routers : ℕ) (channels : ℕ → ℕ) (packet : ℕ → ℕ → ℕ)
    (old new : ℕ → ℕ) : Type 0 where
  pub some : (r i : ℕ) → r < routers → has_bit (channels r) i ≡ true → new (packet r i) ≡ cycle
  pub others : (p : ℕ)
      → ((r i : ℕ) → r < routers → has_bit (channels r) i ≡ true → packet r i ≢ p)
      → new p ≡ old p
