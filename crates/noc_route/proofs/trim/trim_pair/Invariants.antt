use Rattle.std.proofs.Common.{◌≡◌, ℕ, ◌+◌, ◌*◌, ◌<◌, get_or}
use Rattle.noc_topo.specs.Shape.{nodes}
use Rattle.noc_route.specs.Entered.{sets_in}
use Rattle.noc_route.specs.Trimming.{reached_at}
use Rattle.noc_route.proofs.trim.trim_pair.Given as goal

abbrev pub invariant-loop-input : goal.invariant-loop-input
invariant-loop-input l =
    let f = l.sizes in
    (i t : ℕ) → i < l.input → t < nodes f.shape → get_or l.block (i * nodes f.shape + t) 0 ≡ reached_at f (sets_in f l.entered) l.coming l.pair i t
