use Rattle.std.proofs.Common.{◌≡◌, ℕ, ◌+◌, ◌-◌, ◌*◌, ◌<◌, ◌∙◌, ap, ap₂, sym, subst, arith, bit_and, bit_or, inl, inr}
use Rattle.std.proofs.lemmas.Bool.{cases_lt}
use Rattle.noc_sets.specs.Sets.{less}
use Rattle.noc_columns.specs.Picks.{port_at}
use Rattle.noc_columns.specs.Words.{word}
use Rattle.noc_columns.proofs.InjectionLemmas.{side-index, tails-are}
use Rattle.noc_columns.proofs.SetLemmas.{either, leaf, sets-are, without}
use Rattle.noc_columns.proofs.injection.bring.Goals as goal

-- what holds of the channels before four, and of these four, holds of all of them
four-more : (P : ℕ → Type 0) (first g : ℕ) → ((k : ℕ) → k < 4 * g → P (first + k)) → ((j : ℕ) → j < 4 → P (first + 4 * g + j)) → (k : ℕ) → k < 4 * (g + 1) → P (first + k)
four-more P first g done here k l = elim (cases_lt k (4 * g)) [
  | inl below ↦ done k below
  | inr above ↦
      let j = k - 4 * g in
      let whole : first + 4 * g + j ≡ first + k = omega (arith, above) in
      let few : j < 4 = omega (arith, above, l) in
      subst P whole (here j few)
]

pub loop-g-preserved : goal.loop-g-preserved
loop-g-preserved c =
    let g = c.loop-g.g in
    let inv = c.loop-g.invariant in
    let first = c.args.local.now.first in
    let old = c.args.injection.now in
    let has = c.bring_four.ensures in
    let came = c.bring_four.new.came in
    let injecting = c.bring_four.new.injection.injecting in
    let was = c.loop-g.injection in
    record {
      flits = four-more (λ i. word i came.flits ≡ bit_or (word i old.went) (word i old.begun)) first g
          (λ k l. (has.others (first + k) (inl (omega (arith, l)))).0 ∙ inv.flits k l)
          (λ j l. has.flits j l ∙ ap₂ bit_or (ap (word (first + 4 * g + j)) inv.went) (ap (word (first + 4 * g + j)) inv.begun));
      tails = four-more (λ i. word i came.tails ≡ bit_and (word i came.flits) c.args.last) first g
          (λ k l.
          let away = has.others (first + k) (inl (omega (arith, l))) in
          away.1 ∙ inv.tails k l ∙ ap (λ w. bit_and w c.args.last) (sym away.0))
          has.tails;
      injecting = four-more (λ i. word i injecting ≡ less (bit_or (word i old.injecting) (word i old.begun)) (word i came.tails)) first g
          (λ k l.
          let away = has.others (first + k) (inl (omega (arith, l))) in
          away.2 ∙ inv.injecting k l ∙ ap (less (bit_or (word (first + k) old.injecting) (word (first + k) old.begun))) (sym away.1))
          (λ j l.
          let k = 4 * g + j in
          let same : first + 4 * g + j ≡ first + k = omega arith in
          let kept : word (first + 4 * g + j) was.injecting ≡ word (first + 4 * g + j) old.injecting =
          subst (λ i. word i was.injecting ≡ word i old.injecting) (sym same) (inv.left k (omega arith)) in
          has.injecting j l
          ∙ ap₂ (λ a b. less (bit_or a b) (word (first + 4 * g + j) came.tails)) kept (ap (word (first + 4 * g + j)) inv.begun));
      left = λ k l. (has.others (first + k) (inr (omega (arith, l)))).2 ∙ inv.left k (omega (arith, l));
      went = ap (λ x. x.went) has.rest ∙ inv.went;
      begun = ap (λ x. x.begun) has.rest ∙ inv.begun;
      links_flits = λ k l. (has.others k (inl (omega (arith, l)))).0 ∙ inv.links_flits k l;
      links_tails = λ k l. (has.others k (inl (omega (arith, l)))).1 ∙ inv.links_tails k l;
      credits = has.credits ∙ inv.credits;
    }

pub returns-clause-flits : goal.returns-clause-flits
returns-clause-flits c = λ r.
    let local = c.args.local.now in
    let old = c.args.injection.now in
    sets-are (port_at local 0) r (either (leaf old.went) (leaf old.begun)) c.loop-g.came.flits
    (λ k l. subst (λ i. word i c.loop-g.came.flits ≡ bit_or (word i old.went) (word i old.begun)) (sym (side-index local k c.requires.width)) (c.loop-g.invariant.flits k (omega (arith, l))))

pub returns-clause-tails : goal.returns-clause-tails
returns-clause-tails c = λ r.
    let local = c.args.local.now in
    tails-are (port_at local 0) r c.args.last c.loop-g.came.flits c.loop-g.came.tails
    (λ k l. subst (λ i. word i c.loop-g.came.tails ≡ bit_and (word i c.loop-g.came.flits) c.args.last) (sym (side-index local k c.requires.width)) (c.loop-g.invariant.tails k (omega (arith, l))))

pub returns-clause-injecting : goal.returns-clause-injecting
returns-clause-injecting c = λ r.
    let local = c.args.local.now in
    let old = c.args.injection.now in
    sets-are (port_at local 0) r (without (either (leaf old.injecting) (leaf old.begun)) (leaf c.loop-g.came.tails)) c.loop-g.injection.injecting
    (λ k l. subst (λ i. word i c.loop-g.injection.injecting ≡ less (bit_or (word i old.injecting) (word i old.begun)) (word i c.loop-g.came.tails)) (sym (side-index local k c.requires.width)) (c.loop-g.invariant.injecting k (omega (arith, l))))
