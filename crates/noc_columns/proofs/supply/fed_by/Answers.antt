use Rattle.std.proofs.Common.{◌≡◌, ℕ, ◌<◌, ◌≤◌, sym, subst, arith, inl, inr}
use Rattle.noc_packet.specs.Set.{has_bit}
use Rattle.noc_columns.specs.Supply.{is_fed_word, number_in}
use Rattle.noc_columns.proofs.supply.fed_by.Goals as goal

pub returns-then-width-eq2 : goal.returns-then-width-eq2
returns-then-width-eq2 c =
    let two : c.args.width ≡ 2 = omega arith in
    subst (λ w. (r : ℕ) → number_in c.args.vc.now r < c.args.looked → number_in c.args.port.now r ≤ w → has_bit c.of_two.result r ≡ is_fed_word w c.args.some.now r (number_in c.args.port.now r) (number_in c.args.vc.now r)) (sym two) c.of_two.ensures

pub returns-then-width-eq4 : goal.returns-then-width-eq4
returns-then-width-eq4 c =
    let four : c.args.width ≡ 4 = omega arith in
    subst (λ w. (r : ℕ) → number_in c.args.vc.now r < c.args.looked → number_in c.args.port.now r ≤ w → has_bit c.of_four.result r ≡ is_fed_word w c.args.some.now r (number_in c.args.port.now r) (number_in c.args.vc.now r)) (sym four) c.of_four.ensures

pub returns-else-width-eq4 : goal.returns-else-width-eq4
returns-else-width-eq4 c =
    let six : c.args.width ≡ 6 = elim c.requires [ inl two ↦ absurd (omega arith) | inr rest ↦ elim rest [ inl four ↦ absurd (omega arith) | inr six ↦ six ] ] in
    subst (λ w. (r : ℕ) → number_in c.args.vc.now r < c.args.looked → number_in c.args.port.now r ≤ w → has_bit c.of_six.result r ≡ is_fed_word w c.args.some.now r (number_in c.args.port.now r) (number_in c.args.vc.now r)) (sym six) c.of_six.ensures
