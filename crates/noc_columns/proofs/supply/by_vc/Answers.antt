use Rattle.std.proofs.Common.{ℕ, ◌+◌, ◌*◌, ◌∙◌, subst, ◌<◌, ◌≡◌, arith}
use Rattle.noc_packet.specs.Set.{has_bit}
use Rattle.noc_columns.specs.Supply.{by_four, number_in}
use Rattle.noc_columns.specs.Words.{word}
use Rattle.noc_columns.proofs.SupplyLemmas.{high-number, low-number, two-same}
use Rattle.noc_columns.proofs.supply.by_vc.Goals as goal

pub returns-then-looked-eq4 : goal.returns-then-looked-eq4
returns-then-looked-eq4 c = λ r few.
    let a = has_bit c.args.vc.now.ones r in
    let b = has_bit c.args.vc.now.twos r in
    let at = λ (v : ℕ). has_bit (word (v * c.args.width + c.args.port) c.args.some.now) r in
    let four : c.args.looked ≡ 4 = omega arith in
    c.by_low_vc-low.ensures r ∙ low-number a b (has_bit c.args.vc.now.fours r) at (subst (λ x. number_in c.args.vc.now r < x) four few)

pub returns-else-looked-eq4 : goal.returns-else-looked-eq4
returns-else-looked-eq4 c = λ r few.
    let a = has_bit c.args.vc.now.ones r in
    let b = has_bit c.args.vc.now.twos r in
    let d = has_bit c.args.vc.now.fours r in
    let at = λ (v : ℕ). has_bit (word (v * c.args.width + c.args.port) c.args.some.now) r in
    c.either.ensures r ∙ two-same d _ _ (by_four a b at) (by_four a b (λ v. at (4 + v))) (c.by_low_vc-low.ensures r) (c.by_low_vc.ensures r) ∙ high-number a b d at
