use Rattle.std.proofs.Common.{◌≡◌, ℕ, ◌+◌, ◌-◌, ◌<◌, ◌≤◌, get_or}
use Rattle.std.specs.Prelude.{◌&&◌, ◌||◌, nat_le, nat_lt}
use Rattle.noc_packet.specs.Set.{has_bit}
use Rattle.noc_route.proofs.gather.bring.Given as goal

abbrev pub invariant-loop-dst : goal.invariant-loop-dst
invariant-loop-dst l = record {
  done : (t i : ℕ) → t < l.dst
      → has_bit (get_or l.coming t 0) i
      ≡ (has_bit (get_or l.fn.coming t 0) i || (nat_le l.to i && nat_lt i (l.to + l.count) && has_bit (get_or l.outs (l.first + t) 0) (l.from + (i - l.to))));
  rest : (t : ℕ) → l.dst ≤ t → get_or l.coming t 0 ≡ get_or l.fn.coming t 0;
}
