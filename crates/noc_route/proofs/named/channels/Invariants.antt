use Rattle.std.proofs.Common.{◌≡◌, ℕ, ◌/◌, ◌%◌}
use Rattle.std.specs.Prelude.{◌&&◌, nat_eq, nat_lt}
use Rattle.noc_packet.specs.Set.{has_bit}
use Rattle.noc_topo.specs.Shape.{coordinates}
use Rattle.noc_route.specs.Entered.{parts_of, IsWay}
use Rattle.noc_route.specs.Relation.{takes_channel}
use Rattle.noc_route.proofs.named.channels.Given as goal

abbrev pub invariant-loop-vc : goal.invariant-loop-vc
invariant-loop-vc l =
    let g = parts_of l.fitting in
    (r t k : ℕ) → IsWay g.grid l.way r t
    → has_bit l.set k
    ≡ (nat_eq (k / g.vcs) l.port
    && (nat_lt (k % g.vcs) l.vc && takes_channel g.grid g.vcs g.classes g.rule l.fn.class (coordinates g.grid.radix r) (coordinates g.grid.radix t) l.port (k % g.vcs)))
