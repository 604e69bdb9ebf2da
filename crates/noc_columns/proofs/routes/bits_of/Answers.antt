use Rattle.std.proofs.Common.{◌∙◌, ◌^◌, ◌<◌, ap, arith}
use Rattle.std.specs.Prelude.{◌&&◌, nat_eq}
use Rattle.noc_columns.proofs.RouteLemmas.{members-all, members-next, members-none}
use Rattle.noc_columns.proofs.routes.bits_of.Goals as goal

pub loop-channel-init : goal.loop-channel-init
loop-channel-init c k = members-none c.args.set k

pub loop-channel-preserved : goal.loop-channel-preserved
loop-channel-preserved c = members-next c.args.set c.loop-channel.bits c.alone_where-bits.result c.loop-channel.channel c.loop-channel.invariant (λ k. c.alone_where-bits.ensures k ∙ ap (λ b. nat_eq k c.loop-channel.channel && b) c.contains.ensures)

pub returns : goal.returns
returns c =
    let few : c.args.set < 2 ^ 56 = omega arith in
    members-all 56 c.args.set c.loop-channel.bits c.loop-channel.channel (omega arith) few c.loop-channel.invariant
