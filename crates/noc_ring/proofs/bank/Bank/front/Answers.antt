use Rattle.std.proofs.Common.{ap, sym, arith}
use Rattle.std.specs.List.{slice_get}
use Rattle.std.proofs.lemmas.Option.{slice_get_past}
use Rattle.noc_ring.specs.Buffers.{buffer_at}
use Rattle.noc_ring.proofs.RingLemmas.{ring-known, slot, front-is}
use Rattle.noc_ring.proofs.HeldLemmas.{front-held}
use Rattle.noc_ring.proofs.bank.Bank.front.Goals as goal

pub bounds-self-inside-ring : goal.bounds-self-inside-ring
bounds-self-inside-ring c = let ring = ring-known c.self.invariant.0 c.self.view_is c.requires in ring.listed

pub offset_bounds-self-inside-ring : goal.offset_bounds-self-inside-ring
offset_bounds-self-inside-ring c = let ring = ring-known c.self.invariant.0 c.self.view_is c.requires in omega (arith, ring.listed)

pub returns-then-extent-eq0 : goal.returns-then-extent-eq0
returns-then-extent-eq0 c =
    let ring = ring-known c.self.invariant.0 c.self.view_is c.requires in
    sym (slice_get_past (buffer_at c.args.self.now c.args.ring) 0 (omega (arith, ring.count)))

pub overflow_mul-ring : goal.overflow_mul-ring
overflow_mul-ring c =
    let ring = ring-known c.self.invariant.0 c.self.view_is c.requires in
    omega (arith, ring.few_slots, slot ring _ ring.head_below)

pub overflow_add-ring : goal.overflow_add-ring
overflow_add-ring c =
    let ring = ring-known c.self.invariant.0 c.self.view_is c.requires in
    omega (arith, ring.few_slots, slot ring _ ring.head_below)

pub get-requires-clause-slot : goal.get-requires-clause-slot
get-requires-clause-slot c = let ring = ring-known c.self.invariant.0 c.self.view_is c.requires in slot ring _ ring.head_below

pub get-requires-clause-holds : goal.get-requires-clause-holds
get-requires-clause-holds c =
    let ring = ring-known c.self.invariant.0 c.self.view_is c.requires in
    front-held c.self.inside.store.filled ring c.self.invariant.1 (omega arith)

pub returns : goal.returns
returns c =
    let ring = ring-known c.self.invariant.0 c.self.view_is c.requires in
    sym (ap (λ flits. slice_get flits 0) (front-is ring c.get.result (omega arith) c.get.ensures))
