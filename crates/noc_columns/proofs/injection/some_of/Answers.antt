use Rattle.std.proofs.Common.{◌≡◌, ℕ, ◌+◌, ◌∙◌, ap, arith, refl, sym}
use Rattle.noc_packet.specs.Set.{has_bit}
use Rattle.noc_packet.proofs.SetLemmas.{has_bit-zero}
use Rattle.noc_sets.specs.Unions.{some_below}
use Rattle.noc_columns.specs.Words.{word}
use Rattle.noc_columns.proofs.InjectionLemmas.{side-index}
use Rattle.noc_columns.proofs.PassLemmas.{some-same, union-next}
use Rattle.noc_columns.proofs.injection.some_of.Goals as goal

pub loop-v-init : goal.loop-v-init
loop-v-init c = λ r. has_bit-zero r

pub loop-v-preserved : goal.loop-v-preserved
loop-v-preserved c = λ r.
    let of = λ (k : ℕ). word (c.args.local.now.first + k) c.args.words.now in
    union-next c.loop-v.some (of c.loop-v.v) c.loop-v.v r of of (c.loop-v.invariant r) (λ k l. refl) refl

pub returns : goal.returns
returns c = λ r.
    let local = c.args.local.now in
    let words = c.args.words.now in
    let all : c.loop-v.v ≡ local.vcs = omega arith in
    c.loop-v.invariant r
    ∙ ap (λ n. some_below n (λ k. has_bit (word (local.first + k) words) r)) all
    ∙ some-same local.vcs _ _ (λ k l. ap (λ i. has_bit (word i words) r) (sym (side-index local k c.requires)))
