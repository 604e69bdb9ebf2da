use Rattle.std.proofs.Common.{ℕ, ◌+◌, ◌∙◌, ap, arith, bit_or, set, get_or-set_same}
use Rattle.noc_columns.specs.Words.{word}
use Rattle.noc_columns.proofs.PassLemmas.{passed-next, word-other}
use Rattle.noc_counts.proofs.low.join_row.Goals as goal

pub loop-k-preserved : goal.loop-k-preserved
loop-k-preserved c =
    let i = c.loop-k.k in
    let inv = c.loop-k.invariant in
    let more = λ (k : ℕ). word (c.args.first + k) c.args.row.now in
    let next = bit_or (word i c.loop-k.some) (more i) in
    passed-next (λ k. bit_or (word k c.args.some.now) (more k)) (λ k. word k c.args.some.now) (λ k. word k c.loop-k.some) (λ k. word k (set c.loop-k.some i next)) i inv
    (get_or-set_same c.loop-k.some i next 0 (omega arith) ∙ ap (λ w. bit_or w (more i)) (inv.left i (omega arith)))
    (λ k other. word-other c.loop-k.some i next k other)
