use Rattle.std.proofs.Common.{ap, set, length-set, ◌∙◌, arith, take}
use Rattle.noc_topo.specs.Shape.{local_port}
use Rattle.noc_router.specs.Inside.{view_of}
use Rattle.noc_view.specs.View.{View, idle_beat, view_after_put}
use Rattle.noc_router.proofs.PutLemmas.{relinked, take-set_at}
use Rattle.noc_router.proofs.router.Router.put.Goals as goal

pub offset_bounds-self-inside-port : goal.offset_bounds-self-inside-port
offset_bounds-self-inside-port c = omega (arith, c.requires, ap (λ (v : View). local_port v.site.grid) c.self.view_is, c.self.invariant.grid.few_dimensions)

pub invariant_of-self : goal.invariant_of-self
invariant_of-self c = relinked c.self.inside _ c.self.invariant (length-set c.self.inside.to_put c.args.port c.idle.result)

pub returns-clause-view : goal.returns-clause-view
returns-clause-view c =
    let r = c.self.inside in
    ap (λ beat. record (view_of r) { to_put = take (local_port r.shape) (set r.to_put c.args.port beat) }) c.idle.ensures
    ∙ ap (λ beats. record (view_of r) { to_put = beats }) (take-set_at (local_port r.shape) r.to_put c.args.port idle_beat)
    ∙ ap (view_after_put c.args.port) c.self.view_is

pub returns-clause-site : goal.returns-clause-site
returns-clause-site c = ap (λ (x : View). x.site) (returns-clause-view c)
