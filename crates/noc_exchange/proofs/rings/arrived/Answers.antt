use Rattle.std.proofs.Common.{◌∙◌}
use Rattle.noc_exchange.proofs.RingLemmas.{same-after}
use Rattle.noc_exchange.proofs.rings.arrived.Goals as goal

pub returns-then-not-is_empty-clause-ring : goal.returns-then-not-is_empty-clause-ring
returns-then-not-is_empty-clause-ring g c =
    same-after c.args.back.now c.loop.back c.is_empty.new.self c.loop.invariant.ring c.is_empty.ensures.looked.0

pub returns-then-ends-clause-ring : goal.returns-then-ends-clause-ring
returns-then-ends-clause-ring g c =
    let looked = c.is_empty.new.self in
    let again = c.is_abandoned.new.self in
    let last = c.is_empty-then-ends.new.self in
    same-after c.args.back.now looked last (same-after c.args.back.now c.loop.back looked c.loop.invariant.ring c.is_empty.ensures.looked.0)
    (same-after looked again last c.is_abandoned.ensures.0 c.is_empty-then-ends.ensures.looked.0)

pub loop-preserved : goal.loop-preserved
loop-preserved g c =
    let looked = c.is_empty.new.self in
    let again = c.is_abandoned.new.self in
    record {
      past = c.is_abandoned.ensures.1 ∙ c.is_empty.ensures.looked.1 ∙ c.loop.invariant.past;
      ring = same-after c.args.back.now looked again (same-after c.args.back.now c.loop.back looked c.loop.invariant.ring c.is_empty.ensures.looked.0) c.is_abandoned.ensures.0;
    }
