use Rattle.std.proofs.Common.{ℕ, ◌+◌, ◌*◌, ◌∙◌, ap}
use Rattle.std.specs.Prelude.{◌||◌, if◌then◌else◌}
use Rattle.noc_packet.specs.Set.{has_bit}
use Rattle.noc_packet.proofs.SetLemmas.{either_members}
use Rattle.noc_columns.specs.Supply.{by_four, number_in}
use Rattle.noc_columns.specs.Words.{word}
use Rattle.noc_columns.proofs.SupplyLemmas.{port-six, two-same}
use Rattle.noc_columns.proofs.supply.of_six.Goals as goal

pub returns : goal.returns
returns c = λ r few l.
    let a = has_bit c.args.port.now.ones r in
    let b = has_bit c.args.port.now.twos r in
    let d = has_bit c.args.port.now.fours r in
    let at = λ (q : ℕ). has_bit (word (number_in c.args.vc.now r * 6 + q) c.args.some.now) r in
    let high = either_members c.either.result c.args.port.now.twos r ∙ ap (λ x. x || b) (c.either.ensures r ∙ two-same a _ _ (at 4) (at 5) (c.by_vc-next.ensures r few) (c.by_vc-last.ensures r few)) in
    c.either-2.ensures r ∙ two-same d _ _ (by_four a b at) ((if a then at 5 else at 4) || b) (c.by_low_port-low.ensures r few) high ∙ port-six a b d at l
