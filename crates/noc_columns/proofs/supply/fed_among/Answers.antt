use Rattle.noc_columns.specs.Supply.{number_in}
use Rattle.noc_columns.proofs.SupplyLemmas.{fed-or-past}
use Rattle.noc_columns.proofs.supply.fed_among.Goals as goal

pub returns : goal.returns
returns c = λ r few in_port.
    fed-or-past c.fed_by.result c.beyond.result c.args.looked c.args.width c.args.some.now r (number_in c.args.port.now r) (number_in c.args.vc.now r) (λ l. c.fed_by.ensures r l in_port) (c.beyond.ensures r few)
