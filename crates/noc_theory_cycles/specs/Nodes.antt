-- A router of a block, which is one of a network or one that the network does not have.
use Rattle.std.specs.Prelude.{ℕ, ◌+◌, ◌<◌, ◌≤◌, map}
use Rattle.noc_topo.specs.Shape.{nodes}
use Rattle.noc_sets.specs.Cycle.{HasWorked, Router, Turn}
use Rattle.noc_sets.specs.Layout.{Layout}
use Rattle.noc_theory.specs.Network.{Setup}
use Rattle.noc_theory_bits.specs.Network.{ShowsRouter, all_starts}
use Rattle.noc_columns.specs.Routing.{header_of, sets_by}
use Rattle.noc_columns.specs.declared.channels.Links.{Links}
use Rattle.noc_cycles.specs.Held.{Held, ShowsHeld}
use Rattle.noc_cycles.specs.declared.pattern.Pattern.{Pattern}
use Rattle.noc_theory_cycles.specs.Blank.{IsBlank, channels_count}

-- what it holds, and its links bring to it, shows by its words router `node` of a network at count
-- n, or that it is blank
pub record ShowsNode (count : ℕ) (net : Setup) (pattern : Pattern) (n node : ℕ) (links : Links ℕ)
    (h : Held) (b : Router) : Type 0 where
  pub held : ShowsHeld pattern h links b
  pub shows : node < nodes net.relation.grid → ShowsRouter count net n node (all_starts net) b
  pub blank : nodes net.relation.grid ≤ node → IsBlank (channels_count pattern) b

-- it makes this turn of cycle n
abbrev pub IsNodeTurn : Setup → Pattern → Layout → ℕ → ℕ → Router → Turn → Type 0
IsNodeTurn net pattern layout n node b t =
    HasWorked (pattern.table.ports.links.width + 1) pattern.table.ports.links.vcs layout
    (all_starts net) (sets_by net.relation (map header_of net.packets) node) n b t
