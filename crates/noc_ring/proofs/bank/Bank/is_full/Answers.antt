use Rattle.std.proofs.Common.{ap, sym, ◌∙◌, arith, length}
use Rattle.std.specs.Prelude.{nat_le}
use Rattle.noc_ring.specs.Buffers.{buffer_at}
use Rattle.noc_ring.proofs.RingLemmas.{ring-known}
use Rattle.noc_ring.proofs.bank.Bank.is_full.Goals as goal

pub bounds-self-inside-ring : goal.bounds-self-inside-ring
bounds-self-inside-ring c = let ring = ring-known c.self.invariant.0 c.self.view_is c.requires in ring.listed

pub offset_bounds-self-inside-ring : goal.offset_bounds-self-inside-ring
offset_bounds-self-inside-ring c = let ring = ring-known c.self.invariant.0 c.self.view_is c.requires in omega (arith, ring.listed)

pub returns : goal.returns
returns c =
    let ring = ring-known c.self.invariant.0 c.self.view_is c.requires in
    ap (nat_le c.self.inside.capacity) (sym ring.count)
    ∙ ap (λ n. nat_le n (length (buffer_at c.args.self.now c.args.ring))) (sym ring.capacity)
