use Rattle.std.proofs.Common.{ℕ, ◌+◌, ◌*◌, ◌∙◌, ap, arith, set, bit_and, bit_or, slice_index, get_or-set_other, get_or-set_same}
use Rattle.noc_columns.specs.Words.{word}
use Rattle.noc_columns.proofs.PassLemmas.{passed-next}
use Rattle.noc_columns.proofs.PickLemmas.{within}
use Rattle.noc_columns.proofs.picks.join_both.Goals as goal

pub overflow_mul-at : goal.overflow_mul-at
overflow_mul-at c = omega (arith, within c.args.v c.args.ports.now.vcs c.args.ports.now.width c.requires)

pub overflow_add-at : goal.overflow_add-at
overflow_add-at c = omega (arith, within c.args.v c.args.ports.now.vcs c.args.ports.now.width c.requires)

pub overflow_add-any : goal.overflow_add-any
overflow_add-any c = omega (arith, within c.args.v c.args.ports.now.vcs c.args.ports.now.width c.requires)

pub offset_bounds-first-at : goal.offset_bounds-first-at
offset_bounds-first-at c = omega (arith, within c.args.v c.args.ports.now.vcs c.args.ports.now.width c.requires)

pub bounds-first-at : goal.bounds-first-at
bounds-first-at c = omega (arith, within c.args.v c.args.ports.now.vcs c.args.ports.now.width c.requires)

pub overflow_add-any-in-loop-j : goal.overflow_add-any-in-loop-j
overflow_add-any-in-loop-j c = omega (arith, within c.args.v c.args.ports.now.vcs c.args.ports.now.width c.requires)

pub offset_bounds-second-at : goal.offset_bounds-second-at
offset_bounds-second-at c = omega (arith, within c.args.v c.args.ports.now.vcs c.args.ports.now.width c.requires)

pub bounds-second-at : goal.bounds-second-at
bounds-second-at c = omega (arith, within c.args.v c.args.ports.now.vcs c.args.ports.now.width c.requires)

pub loop-j-preserved : goal.loop-j-preserved
loop-j-preserved c =
    let ports = c.args.ports.now in
    let j = c.loop-j.j in
    let any = c.loop-j.any in
    let at = ports.first + c.args.v * ports.width in
    let both = λ (k : ℕ). bit_and (word (at + k) c.args.first.now) (word (at + k) c.args.second.now) in
    let x = bit_or (slice_index any j) (both j) in
    passed-next (λ k. bit_or (slice_index c.args.any.now k) (both k)) (slice_index c.args.any.now) (slice_index any) (slice_index (set any j x)) j c.loop-j.invariant
    (get_or-set_same any j x 0 (omega arith) ∙ ap (λ w. bit_or w (both j)) (c.loop-j.invariant.left j (omega arith)))
    (λ k other. get_or-set_other any j k x 0 other)

pub returns : goal.returns
returns c = λ k l. c.loop-j.invariant.done k (omega (arith, l))
