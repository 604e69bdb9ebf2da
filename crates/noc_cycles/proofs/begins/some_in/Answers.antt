use Rattle.std.proofs.Common.{◌≡◌, ℕ, ◌+◌, ◌∙◌, ap, arith, refl}
use Rattle.noc_columns.proofs.PassLemmas.{union-next}
use Rattle.noc_cycles.proofs.Common.{has_bit, has_bit-zero, some_below, word}
use Rattle.noc_cycles.proofs.begins.some_in.Goals as goal

pub loop-i-init : goal.loop-i-init
loop-i-init c = λ r. has_bit-zero r

pub loop-i-preserved : goal.loop-i-preserved
loop-i-preserved c = λ r.
    let words = c.args.words.now in
    let of = λ (k : ℕ). word (c.args.first + k) words in
    union-next c.loop-i.some (word (c.args.first + c.loop-i.i) words) c.loop-i.i r of of (c.loop-i.invariant r) (λ k l. refl) refl

pub returns : goal.returns
returns c = λ r.
    let all : c.loop-i.i ≡ c.args.count = omega arith in
    c.loop-i.invariant r ∙ ap (λ n. some_below n (λ k. has_bit (word (c.args.first + k) c.args.words.now) r)) all
