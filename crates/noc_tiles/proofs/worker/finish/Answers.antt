use Rattle.std.proofs.Common.{◌<◌, Some, ap, subst, sym, ◌∙◌}
use Rattle.noc_topo.specs.Shape.{neighbour, nodes}
use Rattle.noc_view.specs.View.{Site, View}
use Rattle.noc_theory.specs.Halves.{HasItsBeats, beat_at, view_after_puts, wire_after_puts}
use Rattle.noc_tiles.proofs.FinishLemmas.{finish-placed, finish-site}
use Rattle.noc_tiles.proofs.worker.finish.Goals as goal

pub deliver-requires-clause-router : goal.deliver-requires-clause-router
deliver-requires-clause-router c =
    subst (λ (v : View). HasItsBeats c.args.relation.now v.site.node v) (sym c.finish.ensures) (finish-placed c.args.relation.now c.args.cycle c.args.router.now c.requires.built)

pub deliver-requires-clause-node : goal.deliver-requires-clause-node
deliver-requires-clause-node c =
    subst (λ (s : Site). s.node < nodes c.args.relation.now.grid) (sym (ap (λ (v : View). v.site) c.finish.ensures ∙ finish-site c.args.relation.now c.args.cycle c.args.router.now)) c.requires.node

pub deliver-requires-clause-idle : goal.deliver-requires-clause-idle
deliver-requires-clause-idle c = λ r q p e.
    c.requires.idle r q p (e ∙ ap (λ (s : Site). Some (s.node, p)) (ap (λ (v : View). v.site) c.finish.ensures ∙ finish-site c.args.relation.now c.args.cycle c.args.router.now))

pub returns-clause-router : goal.returns-clause-router
returns-clause-router c = c.deliver.ensures.router ∙ ap view_after_puts c.finish.ensures

pub returns-clause-beats : goal.returns-clause-beats
returns-clause-beats c = λ r q l.
    c.deliver.ensures.beats r q l ∙ ap (λ (v : View). wire_after_puts v (neighbour c.args.relation.now.grid r q) (beat_at c.args.beats.now r q)) c.finish.ensures
