use Rattle.std.proofs.Common.{ap, arith, bit_and, ◌∙◌}
use Rattle.noc_packet.specs.Set.{has_bit}
use Rattle.noc_columns.proofs.NearLemmas.{turned_alone-is}
use Rattle.noc_columns.proofs.over_links.turned_alone.Goals as goal

pub returns : goal.returns
returns c = λ r few.
    ap (λ w. has_bit (bit_and w c.args.mask) r) c.rotate_right.ensures
    ∙ turned_alone-is c.args.word c.args.distance r (omega arith) c.requires few c.args.mask _ (omega arith)
