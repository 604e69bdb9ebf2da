use Rattle.std.proofs.Common.{◌≡◌, ℕ, ◌/◌, List}
use Rattle.std.specs.Prelude.{◌&&◌, nat_lt}
use Rattle.noc_packet.specs.Set.{has_bit}
use Rattle.noc_route.specs.Trimming.{routes_in, comes_in}
use Rattle.noc_route.proofs.gather.Departures.arrivals.Given as goal

abbrev pub invariant-loop-port : goal.invariant-loop-port
invariant-loop-port l =
    let f = l.self.map.now.sizes in
    (sets : List ℕ) (i : ℕ) → has_bit l.all i ≡ (nat_lt (i / f.vcs) l.port && comes_in (routes_in f sets) l.self.outs.now l.class l.router l.dst i)
