use Rattle.std.proofs.Common.{ap, sym, ◌∙◌, ◌∷◌, arith}
use Rattle.noc_ring.specs.Buffers.{Buffers, buffer_at}
use Rattle.noc_ring.proofs.RingLemmas.{ring-known, slot, offset-below, set-extents_fits, popped-is, front-is, ring_at-popped}
use Rattle.noc_ring.proofs.HeldLemmas.{front-held, pop-held}
use Rattle.noc_ring.proofs.bank.Bank.pop.Goals as goal

pub bounds-self-inside-ring : goal.bounds-self-inside-ring
bounds-self-inside-ring c = let ring = ring-known c.self.invariant.0 c.self.view_is c.requires.ring in ring.listed

pub offset_bounds-self-inside-ring : goal.offset_bounds-self-inside-ring
offset_bounds-self-inside-ring c = let ring = ring-known c.self.invariant.0 c.self.view_is c.requires.ring in omega (arith, ring.listed)

pub bounds-self-inside-ring-2 : goal.bounds-self-inside-ring-2
bounds-self-inside-ring-2 c = let ring = ring-known c.self.invariant.0 c.self.view_is c.requires.ring in ring.listed

pub offset_bounds-self-inside-ring-2 : goal.offset_bounds-self-inside-ring-2
offset_bounds-self-inside-ring-2 c = let ring = ring-known c.self.invariant.0 c.self.view_is c.requires.ring in omega (arith, ring.listed)

pub overflow_mul-ring : goal.overflow_mul-ring
overflow_mul-ring c =
    let ring = ring-known c.self.invariant.0 c.self.view_is c.requires.ring in
    omega (arith, ring.few_slots, slot ring _ ring.head_below)

pub overflow_add-ring : goal.overflow_add-ring
overflow_add-ring c =
    let ring = ring-known c.self.invariant.0 c.self.view_is c.requires.ring in
    omega (arith, ring.few_slots, slot ring _ ring.head_below)

pub take-flit-requires-clause-slot : goal.take-flit-requires-clause-slot
take-flit-requires-clause-slot c = let ring = ring-known c.self.invariant.0 c.self.view_is c.requires.ring in slot ring _ ring.head_below

pub take-flit-requires-clause-holds : goal.take-flit-requires-clause-holds
take-flit-requires-clause-holds c =
    let ring = ring-known c.self.invariant.0 c.self.view_is c.requires.ring in
    front-held c.self.inside.store.filled ring c.self.invariant.1 (omega (arith, ring.count, c.requires.some))

pub wrapped-requires : goal.wrapped-requires
wrapped-requires c =
    let ring = ring-known c.self.invariant.0 c.self.view_is c.requires.ring in
    omega (arith, ring.head_below)

pub overflow_sub-self : goal.overflow_sub-self
overflow_sub-self c =
    let ring = ring-known c.self.invariant.0 c.self.view_is c.requires.ring in
    omega (arith, ring.count, c.requires.some)

pub invariant_of-self : goal.invariant_of-self
invariant_of-self c =
    let ring = ring-known c.self.invariant.0 c.self.view_is c.requires.ring in
    rw (c.take-flit.ensures.flits) (rw (c.take-flit.ensures.filled) (
      set-extents_fits _ _ _ _ _ _ c.self.invariant.0 ring.inside (offset-below ring _ _ c.wrapped.ensures) (omega (arith, ring.len_within)),
      pop-held c.self.inside.store.filled ring c.self.invariant.1 _ (omega (arith, ring.count, c.requires.some)) c.wrapped.ensures,
    ))

pub returns-clause-rest : goal.returns-clause-rest
returns-clause-rest c =
    let ring = ring-known c.self.invariant.0 c.self.view_is c.requires.ring in
    rw (c.take-flit.ensures.flits) (popped-is ring _ (omega (arith, ring.count, c.requires.some)) c.wrapped.ensures)

pub returns-clause-first : goal.returns-clause-first
returns-clause-first c =
    let ring = ring-known c.self.invariant.0 c.self.view_is c.requires.ring in
    front-is ring _ (omega (arith, ring.count, c.requires.some)) c.take-flit.ensures.value
    ∙ ap (λ flits. c.take-flit.result ∷ flits)
    (sym (ap (λ (v : Buffers). buffer_at v c.args.ring) (returns-clause-rest c) ∙ ring_at-popped c.args.self.now c.args.ring c.requires.ring))
