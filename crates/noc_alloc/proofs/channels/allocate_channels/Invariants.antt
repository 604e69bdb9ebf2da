use Rattle.std.proofs.Common.{◌≡◌, None, get_or, length}
use Rattle.noc_alloc.proofs.OfferLemmas.{AllNearest}
use Rattle.noc_alloc.proofs.channels.allocate_channels.Given as goal

abbrev pub invariant-loop-input : goal.invariant-loop-input
invariant-loop-input l = AllNearest (length l.asks) l.arbiters (λ i. get_or l.asks i None) l.input l.grants × (length l.grants ≡ length l.arbiters)
