use Rattle.std.proofs.Common.{◌∙◌, ap, sym}
use Rattle.std.specs.Prelude.{nat_eq, if◌then◌else◌}
use Rattle.noc_packet.specs.Set.{has_bit}
use Rattle.noc_columns.proofs.BitLemmas.{with-is, without-is}
use Rattle.noc_columns.proofs.words.with_router.Goals as goal

pub returns-then-inside : goal.returns-then-inside
returns-then-inside c = λ r. with-is c.args.routers c.args.router r c.requires ∙ ap (λ b. if nat_eq r c.args.router then b else has_bit c.args.routers r) (sym c.if-inside.true)

pub returns-else-inside : goal.returns-else-inside
returns-else-inside c = λ r. without-is c.less.result c.args.routers c.args.router r c.requires c.less.ensures ∙ ap (λ b. if nat_eq r c.args.router then b else has_bit c.args.routers r) (sym c.if-inside.false)
