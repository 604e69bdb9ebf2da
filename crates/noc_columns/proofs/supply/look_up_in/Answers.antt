use Rattle.std.proofs.Common.{◌<◌, ◌∷◌, [], ◌∙◌, arith}
use Rattle.noc_sets.proofs.PlaneLemmas.{number-small}
use Rattle.noc_columns.specs.Supply.{digits_by, number_in}
use Rattle.noc_columns.specs.Words.{word}
use Rattle.noc_columns.proofs.SupplyLemmas.{among-looked}
use Rattle.noc_columns.proofs.supply.look_up_in.Goals as goal

pub returns-then-vcs-gt4 : goal.returns-then-vcs-gt4
returns-then-vcs-gt4 g c = λ k r below few vc port kept.
    let digits = c.args.sends.now.vc in
    c.look_up_wide.ensures k r below few (number-small (word k digits.ones ∷ word k digits.twos ∷ word k digits.fours ∷ []) r) port kept

pub returns-else-vcs-gt4 : goal.returns-else-vcs-gt4
returns-else-vcs-gt4 g c = λ k r below few vc port kept.
    let sends = c.args.sends.now in
    let q = number_in (digits_by (word k) sends.port) r in
    let v = number_in (digits_by (word k) sends.vc) r in
    let looked : v < 4 = omega (arith, vc) in
    c.look_up_of.ensures k r below looked port ∙ among-looked 4 g.row.WIDTH c.args.some.now r q v looked
