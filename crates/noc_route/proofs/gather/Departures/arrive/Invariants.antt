use Rattle.std.proofs.Common.{◌≡◌, ℕ, ◌/◌, ◌%◌, ◌<◌, List, get_or}
use Rattle.std.specs.Prelude.{◌&&◌, nat_lt}
use Rattle.noc_packet.specs.Set.{has_bit}
use Rattle.noc_topo.specs.Shape.{nodes}
use Rattle.noc_route.specs.Trimming.{routes_in, comes_in}
use Rattle.noc_route.proofs.gather.Departures.arrive.Given as goal

abbrev pub invariant-loop-port : goal.invariant-loop-port
invariant-loop-port l =
    let f = l.self.map.now.sizes in
    (sets : List ℕ) (t i : ℕ) → t < nodes f.shape → has_bit (get_or l.coming t 0) i ≡ (nat_lt (i / f.vcs) l.port && comes_in (routes_in f sets) l.self.outs.now (l.pair % f.classes) (l.pair / f.classes) t i)
