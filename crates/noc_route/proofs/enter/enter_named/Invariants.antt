use Rattle.std.proofs.Common.{◌≡◌, ℕ, ◌<◌, ◌/◌, ◌%◌, get_or}
use Rattle.std.specs.Prelude.{◌&&◌, nat_lt}
use Rattle.noc_packet.specs.Set.{has_bit}
use Rattle.noc_route.specs.Entered.{routing_in}
use Rattle.noc_route.specs.Relation.{is_led}
use Rattle.noc_route.specs.Routes.{width, page_class, page_router, page_dst}
use Rattle.noc_route.proofs.enter.enter_named.Given as goal

abbrev pub invariant-loop-page : goal.invariant-loop-page
invariant-loop-page l =
    let f = l.fitting.map.now.sizes in
    (b k : ℕ) → b < l.page
    → has_bit (get_or l.sets b 0) k
    ≡ (nat_lt k (width f.shape f.vcs) && is_led (routing_in f l.fitting.rule.now) (page_class f.shape f.classes b) (page_router f.shape f.classes b) (page_dst f.shape b) (k / f.vcs) (k % f.vcs))
