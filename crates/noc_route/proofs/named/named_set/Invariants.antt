use Rattle.std.proofs.Common.{◌≡◌, ℕ, ◌/◌, ◌%◌}
use Rattle.std.specs.Prelude.{◌&&◌, nat_lt}
use Rattle.noc_packet.specs.Set.{has_bit}
use Rattle.noc_route.specs.Entered.{parts_of}
use Rattle.noc_route.specs.Relation.{is_led}
use Rattle.noc_route.proofs.named.named_set.Given as goal

abbrev pub invariant-loop-port : goal.invariant-loop-port
invariant-loop-port l =
    let g = parts_of l.fitting in
    (k : ℕ) → has_bit l.set k ≡ (nat_lt (k / g.vcs) l.port && is_led g l.fn.class l.fn.router l.fn.dst (k / g.vcs) (k % g.vcs))
