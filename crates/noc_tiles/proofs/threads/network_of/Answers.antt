use Rattle.noc_tiles.proofs.DoneLemmas.{can-be-emptied, parts-done}
use Rattle.noc_tiles.proofs.threads.network_of.Goals as goal

pub empty_all-requires : goal.empty_all-requires
empty_all-requires c =
    let D = c.requires.done in
    can-be-emptied D.1 c.args.all D.2 c.deref_mut.result.now c.deref_mut.ensures.value

pub from_parts-requires : goal.from_parts-requires
from_parts-requires c =
    let D = c.requires.done in
    parts-done D.1 c.args.all D.2 c.deref_mut.result.now c.deref_mut.ensures.value c.requires.kept c.empty_all.new.beats c.empty_all.ensures
