use Rattle.std.proofs.Common.{◌∙◌, ap}
use Rattle.noc_packet.specs.Set.{has_bit}
use Rattle.noc_sets.specs.Sets.{less}
use Rattle.noc_columns.specs.Sources.{planes_of}
use Rattle.noc_columns.proofs.LeftLemmas.{last-number, sent-number}
use Rattle.noc_columns.proofs.left.Left.send.Goals as goal

pub returns-clause-sent : goal.returns-clause-sent
returns-clause-sent c = λ r. sent-number (planes_of c.args.self.now) (planes_of c.lowered-left.result) c.args.went r c.lowered-left.ensures (c.requires r)

pub returns-clause-last : goal.returns-clause-last
returns-clause-last c = λ r.
    ap (λ w. has_bit w r) (c.less-last.ensures ∙ ap (less c.args.went) c.some.ensures)
    ∙ last-number (planes_of c.args.self.now) (planes_of c.lowered-left.result) c.args.went r c.lowered-left.ensures (c.requires r)
