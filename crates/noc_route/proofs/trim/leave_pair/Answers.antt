use Rattle.std.proofs.Common.{◌+◌, ◌*◌, sym, ◌∙◌}
use Rattle.noc_topo.specs.Shape.{nodes}
use Rattle.noc_route.specs.Entered.{sets_in}
use Rattle.noc_route.proofs.EntryLemmas.{flat-below}
use Rattle.noc_route.proofs.StuckLemmas.{left_in-at, reached-left}
use Rattle.noc_route.proofs.trim.leave_pair.Goals as goal

pub returns-clause-block : goal.returns-clause-block
returns-clause-block c = λ t i l m.
    let f = c.args.leaving.now.map.now.sizes in
    let sets = sets_in f c.args.entered.now in
    let outs = c.args.leaving.now.outs.now in
    let pair = c.args.pair in
    c.trim_pair.ensures t i l m
    ∙ reached-left f sets outs c.arrive.new.coming pair i t c.arrive.ensures l m
    ∙ sym (left_in-at f sets outs (pair * nodes f.shape + t) i (flat-below pair (nodes f.shape * f.classes) t (nodes f.shape) c.requires.pair l) m)
