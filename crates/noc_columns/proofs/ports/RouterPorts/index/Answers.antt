use Rattle.std.proofs.Common.{◌≡◌, ◌*◌, ◌/◌, ◌%◌, ap, arith, sym}
use Rattle.noc_columns.proofs.ChannelLemmas.{part}
use Rattle.noc_columns.proofs.PickLemmas.{within}
use Rattle.noc_columns.proofs.PortLemmas.{link-index, local-place}
use Rattle.noc_columns.proofs.ports.RouterPorts.index.Goals as goal

pub overflow_mul-result : goal.overflow_mul-result
overflow_mul-result c =
    let self = c.args.self.now in
    let row = within (c.args.channel % self.links.vcs) self.links.vcs self.links.width (part 1 self.links.vcs c.requires.some c.args.channel) in
    omega (arith, row)

pub overflow_add-result : goal.overflow_add-result
overflow_add-result c =
    let self = c.args.self.now in
    let row = within (c.args.channel % self.links.vcs) self.links.vcs self.links.width (part 1 self.links.vcs c.requires.some c.args.channel) in
    omega (arith, row)

pub overflow_add-result-then-port-self : goal.overflow_add-result-then-port-self
overflow_add-result-then-port-self c =
    let self = c.args.self.now in
    let row = within (c.args.channel % self.links.vcs) self.links.vcs self.links.width (part 1 self.links.vcs c.requires.some c.args.channel) in
    omega (arith, row)

pub returns-then-port-self-clause-within : goal.returns-then-port-self-clause-within
returns-then-port-self-clause-within c =
    let self = c.args.self.now in
    let row = within (c.args.channel % self.links.vcs) self.links.vcs self.links.width (part 1 self.links.vcs c.requires.some c.args.channel) in
    omega (arith, row)

pub overflow_add-result-else-port-self : goal.overflow_add-result-else-port-self
overflow_add-result-else-port-self c =
    let ports = c.args.self.now in
    let v = part 1 ports.links.vcs c.requires.some c.args.channel in
    let whole : ports.local.vcs * ports.local.width ≡ ports.local.vcs * 1 = ap (λ w. ports.local.vcs * w) ports.one in
    omega (arith, v, whole)

pub returns-else-port-self-clause-within : goal.returns-else-port-self-clause-within
returns-else-port-self-clause-within c =
    let ports = c.args.self.now in
    let v = part 1 ports.links.vcs c.requires.some c.args.channel in
    let whole : ports.local.vcs * ports.local.width ≡ ports.local.vcs * 1 = ap (λ w. ports.local.vcs * w) ports.one in
    omega (arith, v, whole)

pub returns-then-port-self-clause-is : goal.returns-then-port-self-clause-is
returns-then-port-self-clause-is c = sym (link-index c.args.self.now (c.args.channel / c.args.self.now.links.vcs) (c.args.channel % c.args.self.now.links.vcs) c.if-port-self.true)

pub returns-else-port-self-clause-is : goal.returns-else-port-self-clause-is
returns-else-port-self-clause-is c = sym (local-place c.args.self.now (c.args.channel / c.args.self.now.links.vcs) (c.args.channel % c.args.self.now.links.vcs) c.if-port-self.false c.args.self.now.one)
