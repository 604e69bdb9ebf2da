use Rattle.std.proofs.Common.{arith}
use Rattle.noc_ring.proofs.RingLemmas.{ring-known, slot, offset-below, set-fits, pushed-is}
use Rattle.noc_ring.proofs.HeldLemmas.{push-held}
use Rattle.noc_ring.proofs.bank.Bank.push.Goals as goal

pub bounds-self-inside-ring : goal.bounds-self-inside-ring
bounds-self-inside-ring c = let ring = ring-known c.self.invariant.0 c.self.view_is c.requires.ring in ring.listed

pub offset_bounds-self-inside-ring : goal.offset_bounds-self-inside-ring
offset_bounds-self-inside-ring c = let ring = ring-known c.self.invariant.0 c.self.view_is c.requires.ring in omega (arith, ring.listed)

pub bounds-self-inside-ring-2 : goal.bounds-self-inside-ring-2
bounds-self-inside-ring-2 c = let ring = ring-known c.self.invariant.0 c.self.view_is c.requires.ring in ring.listed

pub offset_bounds-self-inside-ring-2 : goal.offset_bounds-self-inside-ring-2
offset_bounds-self-inside-ring-2 c = let ring = ring-known c.self.invariant.0 c.self.view_is c.requires.ring in omega (arith, ring.listed)

pub wrapped-offset-requires : goal.wrapped-offset-requires
wrapped-offset-requires c =
    let ring = ring-known c.self.invariant.0 c.self.view_is c.requires.ring in
    omega (arith, ring.head_below, ring.len_within)

pub overflow_mul-ring : goal.overflow_mul-ring
overflow_mul-ring c =
    let ring = ring-known c.self.invariant.0 c.self.view_is c.requires.ring in
    omega (arith, ring.few_slots, slot ring _ (offset-below ring _ _ c.wrapped-offset.ensures))

pub overflow_add-ring : goal.overflow_add-ring
overflow_add-ring c =
    let ring = ring-known c.self.invariant.0 c.self.view_is c.requires.ring in
    omega (arith, ring.few_slots, slot ring _ (offset-below ring _ _ c.wrapped-offset.ensures))

pub put-requires : goal.put-requires
put-requires c =
    let ring = ring-known c.self.invariant.0 c.self.view_is c.requires.ring in
    slot ring _ (offset-below ring _ _ c.wrapped-offset.ensures)

pub overflow_add-self : goal.overflow_add-self
overflow_add-self c =
    let ring = ring-known c.self.invariant.0 c.self.view_is c.requires.ring in
    omega (arith, ring.len_within, c.self.invariant.0.small)

pub invariant_of-self : goal.invariant_of-self
invariant_of-self c =
    let ring = ring-known c.self.invariant.0 c.self.view_is c.requires.ring in
    rw (c.put.ensures.flits) (rw (c.put.ensures.filled) (
      set-fits _ _ _ _ _ _ c.args.flit _ c.self.invariant.0 ring.inside ring.head_below (omega (arith, ring.count, ring.capacity, c.requires.room)),
      push-held c.self.inside.store.filled ring c.self.invariant.1 _ (omega (arith, ring.count, ring.capacity, c.requires.room)) c.wrapped-offset.ensures,
    ))

pub returns : goal.returns
returns c =
    let ring = ring-known c.self.invariant.0 c.self.view_is c.requires.ring in
    rw (c.put.ensures.flits) (pushed-is ring _ c.args.flit (omega (arith, ring.count, ring.capacity, c.requires.room)) c.wrapped-offset.ensures)
