use Rattle.std.proofs.Common.{ℕ, ◌+◌, ◌*◌, ◌∙◌, ap}
use Rattle.std.specs.Prelude.{◌||◌}
use Rattle.noc_packet.specs.Set.{has_bit}
use Rattle.noc_packet.proofs.SetLemmas.{either_members}
use Rattle.noc_columns.specs.Supply.{number_in}
use Rattle.noc_columns.specs.Words.{word}
use Rattle.noc_columns.proofs.SupplyLemmas.{port-two, two-same}
use Rattle.noc_columns.proofs.supply.of_two.Goals as goal

pub returns : goal.returns
returns c = λ r few l.
    let a = has_bit c.args.port.now.ones r in
    let b = has_bit c.args.port.now.twos r in
    let d = has_bit c.args.port.now.fours r in
    let at = λ (q : ℕ). has_bit (word (number_in c.args.vc.now r * 2 + q) c.args.some.now) r in
    either_members c.either.result c.args.port.now.twos r
    ∙ ap (λ x. x || b) (c.either.ensures r ∙ two-same a _ _ (at 0) (at 1) (c.by_vc-none.ensures r few) (c.by_vc-one.ensures r few))
    ∙ port-two a b d at l
