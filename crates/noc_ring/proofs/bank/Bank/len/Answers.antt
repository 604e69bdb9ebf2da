use Rattle.std.proofs.Common.{sym, arith}
use Rattle.noc_ring.proofs.RingLemmas.{ring-known}
use Rattle.noc_ring.proofs.bank.Bank.len.Goals as goal

pub bounds-extents-ring : goal.bounds-extents-ring
bounds-extents-ring c = let ring = ring-known c.self.invariant.0 c.self.view_is c.requires in ring.listed

pub offset_bounds-extents-ring : goal.offset_bounds-extents-ring
offset_bounds-extents-ring c = let ring = ring-known c.self.invariant.0 c.self.view_is c.requires in omega (arith, ring.listed)

pub returns-clause-count : goal.returns-clause-count
returns-clause-count c = let ring = ring-known c.self.invariant.0 c.self.view_is c.requires in sym ring.count

pub returns-clause-fits : goal.returns-clause-fits
returns-clause-fits c = let ring = ring-known c.self.invariant.0 c.self.view_is c.requires in omega (arith, ring.len_within, ring.capacity)
