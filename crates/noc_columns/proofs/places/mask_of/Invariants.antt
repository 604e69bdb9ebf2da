use Rattle.std.proofs.Common.{◌≡◌, ◌+◌, ◌*◌}
use Rattle.noc_columns.specs.Places.{stands_in}
use Rattle.noc_columns.specs.Words.{set_below}
use Rattle.noc_columns.proofs.places.mask_of.Given as goal

abbrev pub invariant-loop-r : goal.invariant-loop-r
invariant-loop-r l = l.mask ≡ set_below l.r (λ k. stands_in l.shape (64 * l.block + k) l.port l.round l.to)
