use Rattle.std.proofs.Common.{◌+◌, ◌*◌, ◌<◌, ◌≤◌, ◌∙◌, arith, subst}
use Rattle.noc_cycles.proofs.TellLemmas.{first-next, first-none, it-below, it-granted, it-vc}
use Rattle.noc_cycles.proofs.tells.tell_grant.Goals as goal

pub tell_one-requires-clause-wired : goal.tell_one-requires-clause-wired
tell_one-requires-clause-wired c =
    let g = c.requires.told.0 in
    let tells = c.requires.told.1 in
    let told = c.requires.told.2 in
    let pattern = c.args.pattern.now in
    let around = c.args.around.now in
    let block = c.args.block.now in
    let k = c.channel_at-channel.result in
    let at = c.channel_at-channel.ensures in
    let is = at.is ∙ c.from-index.ensures in (
      g,
      told.wired,
      (told.each _ (it-below g pattern around block tells told c.args.number c.requires.number k at.within is)).router k (it-granted g pattern around block tells told c.args.number c.requires.number k at.within is),
    )

pub tell_one-requires-clause-router : goal.tell_one-requires-clause-router
tell_one-requires-clause-router c =
    let at = c.channel_at-channel.ensures in
    it-below c.requires.told.0 c.args.pattern.now c.args.around.now c.args.block.now c.requires.told.1 c.requires.told.2 c.args.number c.requires.number c.channel_at-channel.result at.within (at.is ∙ c.from-index.ensures)

pub tell_one-requires-clause-vc : goal.tell_one-requires-clause-vc
tell_one-requires-clause-vc c =
    let g = c.requires.told.0 in
    let tells = c.requires.told.1 in
    let told = c.requires.told.2 in
    let pattern = c.args.pattern.now in
    let around = c.args.around.now in
    let block = c.args.block.now in
    let number = c.args.number in
    let k = c.channel_at-channel.result in
    let at = c.channel_at-channel.ensures in
    let is = at.is ∙ c.from-index.ensures in
    subst (λ v. v < pattern.table.ports.links.vcs) (it-vc g pattern around block tells told number c.requires.number k at.within is)
    ((told.each _ (it-below g pattern around block tells told number c.requires.number k at.within is)).vc_is k (it-granted g pattern around block tells told number c.requires.number k at.within is))

pub returns-then-index-channels-clause-notes : goal.returns-then-index-channels-clause-notes
returns-then-index-channels-clause-notes c = λ g tells told was.
    let pattern = c.args.pattern.now in
    let around = c.args.around.now in
    let block = c.args.block.now in
    let number = c.args.number in
    let k = c.channel_at-channel.result in
    let at = c.channel_at-channel.ensures in
    let is = at.is ∙ c.from-index.ensures in
    first-next g pattern around block tells told number c.requires.number k at.within is c.args.notes.now.items c.tell_one.new.notes.items was
    (c.tell_one.ensures.noted g told.wired ((told.each _ (it-below g pattern around block tells told number c.requires.number k at.within is)).router k (it-granted g pattern around block tells told number c.requires.number k at.within is)))

pub returns-else-index-channels-clause-notes : goal.returns-else-index-channels-clause-notes
returns-else-index-channels-clause-notes c = λ g tells told was.
    let ports = c.args.pattern.now.table.ports in
    let beyond : (ports.links.width + 1) * ports.links.vcs ≤ c.from-index.result = subst (λ n. n ≤ c.from-index.result) c.requires.channels (omega arith) in
    first-none g c.args.pattern.now c.args.around.now c.args.block.now tells told c.args.number c.requires.number c.args.notes.now.items (subst (λ x. (ports.links.width + 1) * ports.links.vcs ≤ x) c.from-index.ensures beyond) was
