use Rattle.std.proofs.Common.{ap, length-set, refl, ◌∙◌, arith, sym}
use Rattle.noc_topo.specs.Shape.{local_port}
use Rattle.noc_router.specs.Inside.{view_of}
use Rattle.noc_router.specs.Settled.{credit_put}
use Rattle.noc_router.proofs.PutLemmas.{relinked, take-credit, put-none}
use Rattle.noc_router.proofs.router.Router.put_credit.Goals as goal

pub invariant_of-self : goal.invariant_of-self
invariant_of-self c = relinked c.self.inside _ c.self.invariant (length-set c.self.inside.to_put c.args.port _)

pub returns-then-port-self : goal.returns-then-port-self
returns-then-port-self c =
    let r = c.self.inside in
    ap (λ beats. record (view_of r) { to_put = beats }) (take-credit (local_port r.shape) c.args.port c.args.vc r.to_put _ refl (omega arith))
    ∙ ap (credit_put c.args.port c.args.vc) c.self.view_is

pub returns-else-port-self : goal.returns-else-port-self
returns-else-port-self c =
    let r = c.self.inside in
    let v = view_of r in
    sym c.self.view_is ∙ ap (λ beats. record v { to_put = beats }) (put-none (local_port r.shape) c.args.port r.to_put _ (omega arith)) ∙ ap (credit_put c.args.port c.args.vc) c.self.view_is
