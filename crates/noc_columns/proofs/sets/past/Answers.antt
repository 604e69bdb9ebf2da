use Rattle.std.proofs.Common.{◌≡◌, ℕ, ◌-◌, ◌^◌, arith, ap, ap₂, sym, ◌∙◌, inl, inr, bit_or}
use Rattle.std.specs.Prelude.{◌&&◌, ◌||◌, not, nat_eq, nat_lt}
use Rattle.std.proofs.lemmas.Bool.{cases_eq, cases_lt, eq-eqb, le-ltb, lt-ltb, ne_eqb}
use Rattle.noc_packet.specs.Set.{has_bit}
use Rattle.noc_packet.proofs.SetLemmas.{either_members}
use Rattle.noc_sets.proofs.MemberLemmas.{less_members, ones-members, power-members}
use Rattle.noc_columns.proofs.sets.past.Goals as goal

after : (k i : ℕ) → not (nat_eq i k || nat_lt i k) ≡ nat_lt k i
after k i = elim (cases_lt k i) [
  | inl l ↦ ap₂ (λ a b. not (a || b)) (ne_eqb i k (omega (arith, l))) (le-ltb i k (omega (arith, l))) ∙ sym (lt-ltb k i l)
  | inr m ↦ elim (cases_eq i k) [
    | inl e ↦ ap (λ a. not (a || nat_lt i k)) (eq-eqb i k e) ∙ sym (le-ltb k i m)
    | inr o ↦ ap₂ (λ a b. not (a || b)) (ne_eqb i k o) (lt-ltb i k (omega (arith, m, o))) ∙ sym (le-ltb k i m)
  ]
]

pub returns : goal.returns
returns c = λ k i one l.
    let set = c.args.set in
    ap (λ w. has_bit w i) c.less.ensures
    ∙ less_members (2 ^ 64 - 1) (bit_or set (set - 1)) i
    ∙ ap₂ (λ a b. a && not b) (ones-members 64 i ∙ lt-ltb i 64 l)
    (either_members set (set - 1) i ∙ ap₂ (λ a b. a || b) (ap (λ x. has_bit x i) one ∙ power-members k i) (ap (λ x. has_bit (x - 1) i) one ∙ ones-members k i))
    ∙ after k i
