use Rattle.std.proofs.Common.{◌≡◌, ◌+◌, ◌*◌, ◌<◌, ◌∙◌, arith, set, slice_index, get_or-set_other, get_or-set_same}
use Rattle.std.proofs.lemmas.List.{length-set}
use Rattle.noc_columns.specs.Words.{word}
use Rattle.noc_columns.proofs.PassLemmas.{all-next}
use Rattle.noc_columns.proofs.PickLemmas.{within}
use Rattle.noc_columns.proofs.by_port.read_side.Goals as goal

pub overflow_mul-at : goal.overflow_mul-at
overflow_mul-at c = omega (arith, within c.args.v c.args.ports.now.vcs c.args.ports.now.width c.requires)

pub overflow_add-at : goal.overflow_add-at
overflow_add-at c = omega (arith, within c.args.v c.args.ports.now.vcs c.args.ports.now.width c.requires)

pub overflow_add-by_port : goal.overflow_add-by_port
overflow_add-by_port c = omega (arith, within c.args.v c.args.ports.now.vcs c.args.ports.now.width c.requires)

pub offset_bounds-words-at : goal.offset_bounds-words-at
offset_bounds-words-at c = omega (arith, within c.args.v c.args.ports.now.vcs c.args.ports.now.width c.requires)

pub bounds-words-at : goal.bounds-words-at
bounds-words-at c = omega (arith, within c.args.v c.args.ports.now.vcs c.args.ports.now.width c.requires)

pub loop-j-preserved : goal.loop-j-preserved
loop-j-preserved c =
    let ports = c.args.ports.now in
    let j = c.loop-j.j in
    let inv = c.loop-j.invariant in
    let at = ports.first + c.args.v * ports.width in
    let read = c.loop-j.by_port in
    let x = word (at + j) c.args.words.now in
    let few : j < 8 = omega arith in
    record {
      size = length-set read j x ∙ inv.size;
      done = all-next (λ k. slice_index (set read j x) k ≡ word (at + k) c.args.words.now) j
          (λ k l. get_or-set_other read j k x 0 (omega (arith, l)) ∙ inv.done k l)
          (get_or-set_same read j x 0 (omega (arith, inv.size, few)));
    }

pub returns : goal.returns
returns c = λ k l. c.loop-j.invariant.done k (omega (arith, l))
