use Rattle.std.proofs.Common.{◌≡◌, ◌+◌, ◌%◌, ◌<◌, ◌≤◌, ◌∙◌, arith}
use Rattle.noc_columns.proofs.ChannelLemmas.{part, positive}
use Rattle.noc_columns.proofs.channel_table.ChannelTable.vc.Goals as goal

pub returns : goal.returns
returns c =
    let self = c.args.self.now in
    let width = self.ports.links.width in
    let vcs = self.ports.links.vcs in
    let channel = c.args.channel in
    let is : c.from.result ≡ channel % vcs = c.from.ensures ∙ self.by_vc channel c.requires in
    let few : channel % vcs < vcs = part (width + 1) vcs (positive vcs (width + 1) channel c.requires) channel in
    let room : vcs ≤ 8 = self.ports.few in
    record { is = is; within = omega (arith, is, few, room) }
