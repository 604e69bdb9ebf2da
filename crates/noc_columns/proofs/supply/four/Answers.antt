use Rattle.std.proofs.Common.{◌∙◌, ap₂}
use Rattle.std.specs.Prelude.{if◌then◌else◌}
use Rattle.noc_packet.specs.Set.{has_bit}
use Rattle.noc_columns.proofs.supply.four.Goals as goal

pub returns : goal.returns
returns c = λ r. c.either.ensures r ∙ ap₂ (λ x y. if has_bit c.args.number.now.twos r then y else x) (c.either-low.ensures r) (c.either-high.ensures r)
