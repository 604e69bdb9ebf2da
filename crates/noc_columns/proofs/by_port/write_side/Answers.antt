use Rattle.std.proofs.Common.{◌≡◌, ◌+◌, ◌*◌, ◌∙◌, arith, refl, set, inl, inr, slice_index}
use Rattle.std.proofs.lemmas.List.{length-set}
use Rattle.noc_columns.specs.Words.{word}
use Rattle.noc_columns.proofs.PassLemmas.{all-next, word-here, word-other}
use Rattle.noc_columns.proofs.PickLemmas.{within}
use Rattle.noc_columns.proofs.by_port.write_side.Goals as goal

pub loop-j-init : goal.loop-j-init
loop-j-init c = record { size = omega arith; done = λ k l. absurd (omega (arith, l)); others = λ k o. refl }

pub overflow_mul-at : goal.overflow_mul-at
overflow_mul-at c = omega (arith, within c.args.v c.args.ports.now.vcs c.args.ports.now.width c.requires)

pub overflow_add-at : goal.overflow_add-at
overflow_add-at c = omega (arith, within c.args.v c.args.ports.now.vcs c.args.ports.now.width c.requires)

pub overflow_add-words : goal.overflow_add-words
overflow_add-words c = omega (arith, within c.args.v c.args.ports.now.vcs c.args.ports.now.width c.requires)

pub offset_bounds-words-at : goal.offset_bounds-words-at
offset_bounds-words-at c = omega (arith, within c.args.v c.args.ports.now.vcs c.args.ports.now.width c.requires)

pub bounds-words-at : goal.bounds-words-at
bounds-words-at c = omega (arith, within c.args.v c.args.ports.now.vcs c.args.ports.now.width c.requires)

pub loop-j-preserved : goal.loop-j-preserved
loop-j-preserved c =
    let ports = c.args.ports.now in
    let row = within c.args.v ports.vcs ports.width c.requires in
    let j = c.loop-j.j in
    let inv = c.loop-j.invariant in
    let at = ports.first + c.args.v * ports.width in
    let words = c.loop-j.words in
    let x = slice_index c.args.by_port.now j in
    record {
      size = length-set words (at + j) x ∙ inv.size;
      done = all-next (λ k. word (at + k) (set words (at + j) x) ≡ slice_index c.args.by_port.now k) j
          (λ k l. word-other words (at + j) x (at + k) (omega (arith, l)) ∙ inv.done k l)
          (word-here words (at + j) x inv.size (omega (arith, row)));
      others = λ k o.
          word-other words (at + j) x k (elim o [ inl l ↦ omega (arith, l) | inr m ↦ omega (arith, m) ])
          ∙ inv.others k (elim o [ inl l ↦ inl l | inr m ↦ inr (omega (arith, m)) ]);
    }

pub returns-clause-here : goal.returns-clause-here
returns-clause-here c = λ k l. c.loop-j.invariant.done k (omega (arith, l))

pub returns-clause-others : goal.returns-clause-others
returns-clause-others c = λ k o. c.loop-j.invariant.others k (elim o [ inl l ↦ inl l | inr m ↦ inr (omega (arith, m)) ])
