use Rattle.std.proofs.Common.{◌∙◌, arith, sym}
use Rattle.std.proofs.lemmas.List.{get_or-replicate}
use Rattle.noc_cycles.proofs.Common.{true≢false}
use Rattle.noc_cycles.proofs.OpeningLemmas.{nobody-asks, nobody-granted, nothing-fits, opened-next}
use Rattle.noc_cycles.proofs.opening.open_blocks.Goals as goal

pub invariant_of-push_reserved : goal.invariant_of-push_reserved
invariant_of-push_reserved c = record {
  few = omega arith;
  right = λ i d l. absurd (omega (arith, l));
  all = λ r k low l is. absurd (true≢false (sym is ∙ nobody-granted r k l));
}

pub invariant_of-push_reserved-in-loop-number : goal.invariant_of-push_reserved-in-loop-number
invariant_of-push_reserved-in-loop-number c = record {
  unasked = λ o few. get_or-replicate 65 o 0 0 (omega (arith, few));
  asks = λ r few. nobody-asks r _ _ few;
  fit = nothing-fits;
}

pub push_reserved-requires : goal.push_reserved-requires
push_reserved-requires c = omega (arith, c.loop-number.invariant.room, c.loop-number.invariant.are.many, c.loop-number.blocks.ok.0)

pub loop-number-preserved : goal.loop-number-preserved
loop-number-preserved c = record {
  room = omega (arith, c.loop-number.invariant.room, c.push_reserved.ensures.capacity);
  are = opened-next c.args.pattern.now c.args.firsts.now c.loop-number.number c.loop-number.blocks.items c.push_reserved.new.self.items _ c.open.new.self
      c.push_reserved.ensures.items c.loop-number.invariant.are c.open.ensures;
}
