use Rattle.std.proofs.Common.{inl, inr, sym, ◌≡◌, ◌∙◌, ◌-◌, ◌^◌, ap, arith}
use Rattle.std.specs.Prelude.{◌||◌, not, nat_eq}
use Rattle.std.proofs.lemmas.Bool.{and_parts, cases_Bool, cases_eq, eqb-true, lt-ltb, true≢false}
use Rattle.noc_packet.specs.Set.{has_bit}
use Rattle.noc_packet.proofs.SetLemmas.{both_members, either_members}
use Rattle.noc_sets.proofs.MemberLemmas.{ones-members}
use Rattle.noc_columns.specs.Words.{word}
use Rattle.noc_columns.proofs.supply.is_one_dry.Goals as goal

pub loop-i-preserved : goal.loop-i-preserved
loop-i-preserved c = λ k r from below inside.
    let i = c.loop-i.i in
    let some = c.args.some.now in
    let draining = c.args.draining.now in
    let parts = and_parts _ _ (sym (both_members c.loop-i.wet _ r) ∙ inside) in
    elim (cases_eq k i) [
      | inl same ↦ ap (λ m. has_bit (word m some) r || has_bit (word m draining) r) same ∙ sym (either_members (word i some) (word i draining) r) ∙ parts.1
      | inr other ↦ c.loop-i.invariant k r from (omega arith) parts.0
    ]

pub returns : goal.returns
returns c = λ wet k r from below few.
    let all : c.loop-i.wet ≡ 2 ^ 64 - 1 = elim (cases_Bool (nat_eq c.loop-i.wet 18446744073709551615)) [ inl same ↦ eqb-true c.loop-i.wet 18446744073709551615 same | inr other ↦ absurd (true≢false (sym (ap not other) ∙ wet)) ] in
    c.loop-i.invariant k r from (omega arith) (ap (λ w. has_bit w r) all ∙ ones-members 64 r ∙ lt-ltb r 64 few)
