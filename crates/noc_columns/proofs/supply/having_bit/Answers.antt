use Rattle.std.proofs.Common.{◌∙◌, ap, sym}
use Rattle.std.specs.Prelude.{◌&&◌, not, if◌then◌else◌}
use Rattle.noc_packet.specs.Set.{has_bit}
use Rattle.noc_packet.proofs.SetLemmas.{both_members}
use Rattle.noc_sets.proofs.MemberLemmas.{less_members}
use Rattle.noc_columns.proofs.supply.having_bit.Goals as goal

pub returns-then-inside : goal.returns-then-inside
returns-then-inside c = λ r. both_members c.args.set c.args.digit r ∙ sym (ap (λ b. has_bit c.args.set r && (if b then has_bit c.args.digit r else not (has_bit c.args.digit r))) c.if-inside.true)

pub returns-else-inside : goal.returns-else-inside
returns-else-inside c = λ r. ap (λ w. has_bit w r) c.less.ensures ∙ less_members c.args.set c.args.digit r ∙ sym (ap (λ b. has_bit c.args.set r && (if b then has_bit c.args.digit r else not (has_bit c.args.digit r))) c.if-inside.false)
