use Rattle.std.proofs.Common.{◌∙◌}
use Rattle.noc_columns.specs.Supply.{digits_by, number_in}
use Rattle.noc_columns.specs.Words.{word}
use Rattle.noc_columns.proofs.SupplyLemmas.{among-is, among-looked}
use Rattle.noc_columns.proofs.supply.look_up_wide.Goals as goal

pub returns-then-is_one_dry : goal.returns-then-is_one_dry
returns-then-is_one_dry g c = λ k r below few vc port kept.
    let sends = c.args.sends.now in
    c.look_up_of.ensures k r below vc port
    ∙ among-looked 8 g.row.WIDTH c.args.some.now r (number_in (digits_by (word k) sends.port) r) (number_in (digits_by (word k) sends.vc) r) vc

pub returns-else-is_one_dry : goal.returns-else-is_one_dry
returns-else-is_one_dry g c = λ k r below few vc port kept.
    let sends = c.args.sends.now in
    c.look_up_of-else-is_one_dry.ensures k r below vc port
    ∙ among-is 4 g.row.WIDTH c.args.some.now c.args.draining.now r (number_in (digits_by (word k) sends.port) r) (number_in (digits_by (word k) sends.vc) r) (c.is_one_dry.ensures c.if-is_one_dry.false) few vc kept
