use Rattle.std.proofs.Common.{◌≡◌, take}
use Rattle.noc_net.specs.Latest.{latest_of}
use Rattle.noc_net.proofs.parts.Parts.last_event.Given as goal

-- the latest of the routers so far
abbrev pub invariant-loop-router : goal.invariant-loop-router
invariant-loop-router l = l.last ≡ latest_of (take l.router-index l.self.routers.items)
