use Rattle.std.proofs.Common.{ℕ, ◌+◌, ◌*◌, ◌∙◌}
use Rattle.noc_packet.specs.Set.{has_bit}
use Rattle.noc_columns.specs.Supply.{number_in}
use Rattle.noc_columns.specs.Words.{word}
use Rattle.noc_columns.proofs.SupplyLemmas.{four-words}
use Rattle.noc_columns.proofs.supply.by_low_port.Goals as goal

pub returns : goal.returns
returns c = λ r few.
    let a = has_bit c.args.port.now.ones r in
    let b = has_bit c.args.port.now.twos r in
    let at = λ (q : ℕ). has_bit (word (number_in c.args.vc.now r * c.args.width + q) c.args.some.now) r in
    c.four.ensures r ∙ four-words a b r c.by_vc-none.result c.by_vc-one.result c.by_vc-two.result c.by_vc-three.result at (c.by_vc-none.ensures r few) (c.by_vc-one.ensures r few) (c.by_vc-two.ensures r few) (c.by_vc-three.ensures r few)
