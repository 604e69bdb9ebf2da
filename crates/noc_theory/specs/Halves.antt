-- The two halves of a cycle: each router takes its beats, injects, decides and commits; then
-- each one puts its beats.
use Rattle.std.specs.Prelude.{◌≡◌, ℕ, ◌<◌, ◌≤◌, List, length, Option, Some, None, slice_index_or, slice_set, nat_eq, if◌then◌else◌}
use Rattle.noc_topo.specs.Lists.{tabulate}
use Rattle.noc_topo.specs.Shape.{Grid, local_port}
use Rattle.noc_packet.specs.declared.packet.Beat.{Beat}
use Rattle.noc_route.specs.Routes.{Routes}
use Rattle.noc_view.specs.Finish.{view_after_finish}
use Rattle.noc_view.specs.View.{View, IsRelationOf, view_after_takes, idle_beat, idle_beats, beat_to_put}
use Rattle.noc_theory.specs.Lockstep.{beats_at}

-- the beat on the wire that arrives at a port of router r
abbrev pub beat_at : List (List Beat) → ℕ → ℕ → Beat
beat_at wires r port = slice_index_or (beats_at wires r) port idle_beat

-- a beat for each link port
unfoldable pub incoming : Grid → List Beat → List Beat
incoming grid beats = tabulate (local_port grid) (λ port. slice_index_or beats port idle_beat)

-- a router after the first half of cycle n over these beats
unfoldable pub view_after_decide : Routes → ℕ → List Beat → View → View
view_after_decide relation n beats v =
    view_after_finish relation n (view_after_takes relation beats v)

-- a router that has put all its beats
abbrev pub view_after_puts : View → View
view_after_puts v = record v { to_put = idle_beats v.site }

-- a wire that arrives, after router v has put its beats: the neighbour at its port is given
abbrev pub wire_after_puts : View → Option (ℕ × ℕ) → Beat → Beat
wire_after_puts v None beat = beat
wire_after_puts v (Some from) beat =
    if nat_eq from.0 v.site.node then beat_to_put v from.1 else beat

-- no beat arrives at a port that has no link
abbrev pub IsLinked : Grid → List Beat → Type 0
IsLinked grid beats =
    (port : ℕ) → local_port grid ≤ port → slice_index_or beats port idle_beat ≡ idle_beat

-- no beat arrives
abbrev pub IsSilent : List Beat → Type 0
IsSilent beats = (port : ℕ) → slice_index_or beats port idle_beat ≡ idle_beat

-- the router of this node, with a beat to put for each link port
pub record HasItsBeats (relation : Routes) (node : ℕ) (v : View) : Type 0 where
  pub built_for : IsRelationOf relation v
  pub site : v.site.node ≡ node
  pub beats : length v.to_put ≡ local_port relation.grid

-- the routers of a relation, each at the index of its node and with its beats
abbrev pub HaveTheirBeats : Routes → List View → Type 0
HaveTheirBeats relation routers =
    (node : ℕ) (d : View) → node < length routers
    → HasItsBeats relation node (slice_index_or routers node d)

-- the wires with this beat on the one that arrives at an input port, if there is one
abbrev pub sent_on : List (List Beat) → Option (ℕ × ℕ) → Beat → List (List Beat)
sent_on wires None beat = wires
sent_on wires (Some input) beat =
    slice_set wires input.0 (slice_set (beats_at wires input.0) input.1 beat)
