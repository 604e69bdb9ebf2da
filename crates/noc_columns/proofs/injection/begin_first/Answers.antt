use Rattle.std.proofs.Common.{◌≡◌, ◌≢◌, ℕ, zero, suc, ◌+◌, ◌*◌, ◌<◌, ◌∙◌, ap, ap₂, arith, refl, sym, set, bit_or}
use Rattle.std.proofs.lemmas.List.{length-set}
use Rattle.noc_sets.specs.Sets.{less}
use Rattle.noc_sets.specs.Unions.{union_from}
use Rattle.noc_columns.specs.Words.{word}
use Rattle.noc_columns.proofs.PassLemmas.{passed-next, word-here, word-other}
use Rattle.noc_columns.proofs.PickLemmas.{union-next}
use Rattle.noc_columns.proofs.injection.begin_first.Goals as goal

union-none : (n : ℕ) (words : ℕ → ℕ) → ((k : ℕ) → k < n → words k ≡ 0) → union_from 0 n words ≡ 0
union-none zero words none = refl
union-none (suc n) words none = ap₂ bit_or (union-none n words (λ k l. none k (omega (arith, l)))) (none n (omega arith))

pub returns-then-starts-eq0-clause-begun : goal.returns-then-starts-eq0-clause-begun
returns-then-starts-eq0-clause-begun c = λ v l.
    let none = c.requires.none (omega arith) v l in
    none ∙ sym (ap (λ w. less w (union_from 0 v (λ k. word (c.args.local.now.first + k) c.args.begun.now))) none)

pub returns-then-starts-eq0-clause-some : goal.returns-then-starts-eq0-clause-some
returns-then-starts-eq0-clause-some c = sym (union-none c.args.local.now.vcs (λ k. word (c.args.local.now.first + k) c.args.begun.now) (c.requires.none (omega arith)))

pub loop-v-preserved : goal.loop-v-preserved
loop-v-preserved c =
    let v = c.loop-v.v in
    let inv = c.loop-v.invariant in
    let first = c.args.local.now.first in
    let vcs = c.args.local.now.vcs in
    let now = c.loop-v.begun in
    let i = first + v in
    let one : vcs * c.args.local.now.width ≡ vcs * 1 = ap (λ w. vcs * w) c.requires.width in
    let few : i < 72 = omega (arith, one) in
    let was = λ (k : ℕ). word (first + k) c.args.begun.now in
    let free = inv.passed.left v (omega arith) in
    let x = c.less.result in
    record {
      size = length-set now i x ∙ inv.size;
      before = ap₂ bit_or inv.before free ∙ sym (union-next v was);
      passed = passed-next (λ k. less (was k) (union_from 0 k was)) was (λ k. word (first + k) now) (λ k. word (first + k) (set now i x)) v inv.passed
          (word-here now i x inv.size few ∙ c.less.ensures ∙ ap₂ less free inv.before)
          (λ k other. let apart : first + k ≢ i = omega (arith, other) in word-other now i x (first + k) apart);
    }

pub returns-clause-begun : goal.returns-clause-begun
returns-clause-begun c = λ v l. c.loop-v.invariant.passed.done v (omega (arith, l))

pub returns-clause-some : goal.returns-clause-some
returns-clause-some c =
    let all : c.loop-v.v ≡ c.args.local.now.vcs = omega arith in
    c.loop-v.invariant.before ∙ ap (λ m. union_from 0 m (λ k. word (c.args.local.now.first + k) c.args.begun.now)) all
