use Rattle.std.proofs.Common.{◌≡◌, ℕ, true, not, ◌||◌, take}
use Rattle.std.specs.List.{list_all}
use Rattle.noc_topo.specs.Lists.{below}
use Rattle.noc_theory.specs.Core.{has_beat, is_linked, link_ports}
use Rattle.noc_theory.specs.Network.{Setup}
use Rattle.noc_wires.proofs.room.Room.has_all.Given as goal

-- a beat is taken at each link before this port
abbrev pub invariant-loop-port : goal.invariant-loop-port
invariant-loop-port l = (net : Setup) → net.relation.grid ≡ l.router.site.grid
    → list_all (λ (port : ℕ). not (is_linked net l.router.site.node port) || has_beat (take l.links l.self.taken) port) (take l.port (below (link_ports net))) ≡ true
