use Rattle.std.proofs.Common.{◌≡◌, ◌∙◌, ap, arith, sym}
use Rattle.std.specs.Prelude.{◌&&◌, nat_eq, nat_lt, not}
use Rattle.std.proofs.lemmas.Bool.{le-ltb}
use Rattle.noc_packet.proofs.SetLemmas.{has_bit-zero}
use Rattle.noc_columns.specs.Words.{word}
use Rattle.noc_columns.proofs.UsedLemmas.{used-next}
use Rattle.noc_columns.proofs.words.used_of.Goals as goal

pub loop-i-init : goal.loop-i-init
loop-i-init g c = λ k. has_bit-zero k ∙ sym (ap (λ b. b && not (nat_eq (word k c.args.words.now) 0)) (le-ltb k 0 (omega arith)))

pub loop-i-preserved : goal.loop-i-preserved
loop-i-preserved g c = λ k. used-next c.loop-i.used c.alone_if-used.result c.loop-i.i c.args.words.now k (c.loop-i.invariant k) c.alone_if-used.ensures

pub returns : goal.returns
returns g c = λ k.
    let all : c.loop-i.i ≡ g.row.COUNT = omega arith in
    c.loop-i.invariant k ∙ ap (λ n. nat_lt k n && not (nat_eq (word k c.args.words.now) 0)) all
