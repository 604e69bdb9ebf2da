use Rattle.std.proofs.Common.{◌≡◌, ℕ, ◌+◌, ◌*◌, ◌<◌, ◌∙◌, ap, ap₂, arith, refl, rules, set, bit_or, slice_index, get_or-set_other, get_or-set_same}
use Rattle.std.proofs.lemmas.List.{length-set}
use Rattle.noc_sets.specs.Sets.{less}
use Rattle.noc_columns.specs.Picks.{turn_word}
use Rattle.noc_columns.specs.Words.{word}
use Rattle.noc_columns.proofs.PassLemmas.{all-next, passed-next}
use Rattle.noc_columns.proofs.PickLemmas.{within}
use Rattle.noc_columns.proofs.picks.pick_next.Goals as goal

pub overflow_mul-at : goal.overflow_mul-at
overflow_mul-at c = omega (arith, within c.args.v c.args.ports.now.vcs c.args.ports.now.width c.requires)

pub overflow_add-at : goal.overflow_add-at
overflow_add-at c = omega (arith, within c.args.v c.args.ports.now.vcs c.args.ports.now.width c.requires)

pub overflow_add-at-in-loop-j : goal.overflow_add-at-in-loop-j
overflow_add-at-in-loop-j c = omega (arith, within c.args.v c.args.ports.now.vcs c.args.ports.now.width c.requires)

pub overflow_add-at-in-loop-j-2 : goal.overflow_add-at-in-loop-j-2
overflow_add-at-in-loop-j-2 c = omega (arith, within c.args.v c.args.ports.now.vcs c.args.ports.now.width c.requires)

pub offset_bounds-ready-at : goal.offset_bounds-ready-at
offset_bounds-ready-at c = omega (arith, within c.args.v c.args.ports.now.vcs c.args.ports.now.width c.requires)

pub bounds-ready-at : goal.bounds-ready-at
bounds-ready-at c = omega (arith, within c.args.v c.args.ports.now.vcs c.args.ports.now.width c.requires)

pub offset_bounds-ahead-at : goal.offset_bounds-ahead-at
offset_bounds-ahead-at c = omega (arith, within c.args.v c.args.ports.now.vcs c.args.ports.now.width c.requires)

pub bounds-ahead-at : goal.bounds-ahead-at
bounds-ahead-at c = omega (arith, within c.args.v c.args.ports.now.vcs c.args.ports.now.width c.requires)

pub loop-j-init : goal.loop-j-init
loop-j-init c = record {
  before_size = omega arith;
  here_size = search rules;
  first = refl;
  before = record { done = λ k l. absurd (omega (arith, l)); left = λ k l. refl };
  here = λ k l. absurd (omega (arith, l));
}

pub loop-j-preserved : goal.loop-j-preserved
loop-j-preserved c =
    let ports = c.args.ports.now in
    let at = ports.first + c.args.v * ports.width in
    let j = c.loop-j.j in
    let few : j < 8 = omega arith in
    let inv = c.loop-j.invariant in
    let old = c.args.turn.now in
    let before = c.loop-j.turn.before in
    let here = c.loop-j.here in
    let ready = c.args.ready.now in
    let ahead = c.args.ahead.now in
    let turn = λ (k : ℕ). turn_word (slice_index old.first k) (word (at + k) ready) (word (at + k) ahead) in
    let turns : c.less-turns.result ≡ turn_word (slice_index old.first j) (word (at + j) ready) (word (at + j) ahead)
    = c.less-turns.ensures ∙ ap (less (word (at + j) ready)) (c.less.ensures ∙ ap (λ f. less (slice_index f j) (word (at + j) ahead)) inv.first) in
    let was : slice_index before j ≡ slice_index old.before j = inv.before.left j (omega arith) in
    let next = bit_or (slice_index before j) c.less-turns.result in
    let x = c.less-in-loop-j.result in
    record {
      before_size = length-set before j next ∙ inv.before_size;
      here_size = length-set here j x ∙ inv.here_size;
      first = inv.first;
      before = passed-next (λ k. bit_or (slice_index old.before k) (turn k)) (slice_index old.before) (slice_index before) (slice_index (set before j next)) j inv.before
          (get_or-set_same before j next 0 (omega (arith, inv.before_size, few)) ∙ ap₂ bit_or was turns)
          (λ k other. get_or-set_other before j k next 0 other);
      here = all-next (λ k. slice_index (set here j x) k ≡ less (turn k) (slice_index old.before k)) j
          (λ k l. get_or-set_other here j k x 0 (omega (arith, l)) ∙ inv.here k l)
          (get_or-set_same here j x 0 (omega (arith, inv.here_size, few)) ∙ c.less-in-loop-j.ensures ∙ ap₂ less turns was);
    }

pub returns-clause-first : goal.returns-clause-first
returns-clause-first c = c.loop-j.invariant.first

pub returns-clause-before : goal.returns-clause-before
returns-clause-before c = λ k l. c.loop-j.invariant.before.done k (omega (arith, l))

pub returns-clause-picked : goal.returns-clause-picked
returns-clause-picked c = λ k l. c.write_side.ensures.here k l ∙ c.loop-j.invariant.here k (omega (arith, l))

pub returns-clause-others : goal.returns-clause-others
returns-clause-others c = c.write_side.ensures.others
