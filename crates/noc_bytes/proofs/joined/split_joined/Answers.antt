use Rattle.std.proofs.Common.{◌≡◌, ◌∙◌, ℕ, ◌+◌, ◌-◌, ◌<◌, ap, arith, drop, inl, inr, length, refl, sym}
use Rattle.std.proofs.lemmas.Bool.{cases_eq}
use Rattle.std.proofs.lemmas.List.{length-drop, take_all}
use Rattle.noc_bytes.specs.Joined.{line_at}
use Rattle.noc_bytes.proofs.joined.split_joined.Goals as goal

pub loop-at-preserved : goal.loop-at-preserved
loop-at-preserved c j l =
    let text = c.args.text.now in
    let none : c.dashes_at-len.result ≡ 0 = omega (arith, c.if-len-gt0.false) in
    elim (cases_eq j c.loop-at.at) [
      | inl same ↦ ap (line_at text) same ∙ sym c.dashes_at-len.ensures.value ∙ none
      | inr other ↦ c.loop-at.invariant j (omega (arith, l, other))
    ]

pub returns-then-len-gt0 : goal.returns-then-len-gt0
returns-then-len-gt0 c =
    let text = c.args.text.now in
    let at = c.loop-at.at in
    let here : 0 < line_at text at = omega (arith, c.dashes_at-len.ensures.value, c.if-len-gt0.true) in
    let after : ℕ = at + c.dashes_at-len.result in
    let rest = take_all (length text - after) (drop after text) (omega (arith, length-drop after text)) in
    (at, record { line = here; first = c.loop-at.invariant; front_is = refl; rest_is = rest ∙ ap (λ n. drop (at + n) text) c.dashes_at-len.ensures.value })

pub returns : goal.returns
returns c i l = c.loop-at.invariant i (omega (arith, l, c.loop-at-test.false))
