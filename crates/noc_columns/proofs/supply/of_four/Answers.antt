use Rattle.std.proofs.Common.{ℕ, ◌+◌, ◌*◌, ◌∙◌, ap}
use Rattle.std.specs.Prelude.{◌||◌}
use Rattle.noc_packet.specs.Set.{has_bit}
use Rattle.noc_packet.proofs.SetLemmas.{either_members}
use Rattle.noc_columns.specs.Supply.{number_in}
use Rattle.noc_columns.specs.Words.{word}
use Rattle.noc_columns.proofs.SupplyLemmas.{port-four}
use Rattle.noc_columns.proofs.supply.of_four.Goals as goal

pub returns : goal.returns
returns c = λ r few l.
    let a = has_bit c.args.port.now.ones r in
    let b = has_bit c.args.port.now.twos r in
    let d = has_bit c.args.port.now.fours r in
    let at = λ (q : ℕ). has_bit (word (number_in c.args.vc.now r * 4 + q) c.args.some.now) r in
    either_members c.by_low_port.result c.args.port.now.fours r
    ∙ ap (λ x. x || d) (c.by_low_port.ensures r few)
    ∙ port-four a b d at l
