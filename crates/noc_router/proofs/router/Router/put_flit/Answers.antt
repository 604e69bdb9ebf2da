use Rattle.std.proofs.Common.{◌≡◌, true, ap, sym, ◌∙◌, arith, length-set, refl, Some, None, false}
use Rattle.std.specs.Prelude.{nat_lt, if◌then◌else◌}
use Rattle.std.proofs.lemmas.Bool.{lt-ltb, le-ltb}
use Rattle.noc_topo.specs.Shape.{local_port}
use Rattle.noc_router.specs.Inside.{view_of}
use Rattle.noc_router.specs.Settled.{flit_put, with_flit_at}
use Rattle.noc_view.specs.View.{with_arrival}
use Rattle.noc_router.proofs.PutLemmas.{relinked, take-flit, put-none}
use Rattle.noc_router.proofs.router.Router.put_flit.Goals as goal

pub invariant_of-self : goal.invariant_of-self
invariant_of-self c = relinked c.self.inside _ c.self.invariant (length-set c.self.inside.to_put c.args.port _)

pub returns-then-port-self : goal.returns-then-port-self
returns-then-port-self c =
    let r = c.self.inside in
    let v = view_of r in
    let f = c.args.flit in
    let inside : nat_lt c.args.port (local_port r.shape) ≡ true = lt-ltb c.args.port (local_port r.shape) (omega arith) in
    ap (λ beats. record v { to_put = beats }) (take-flit (local_port r.shape) c.args.port c.args.vc f r.to_put _ refl (omega arith))
    ∙ ap (λ b. with_arrival (if b then None else (if f.last then Some f.packet else None)) (record v { to_put = with_flit_at c.args.port c.args.vc f v.to_put })) (sym inside)
    ∙ ap (flit_put c.args.port c.args.vc f) c.self.view_is

pub returns-then-flit : goal.returns-then-flit
returns-then-flit c =
    let r = c.self.inside in
    let v = view_of r in
    let f = c.args.flit in
    let after = record v { to_put = with_flit_at c.args.port c.args.vc f v.to_put } in
    let local : nat_lt c.args.port (local_port r.shape) ≡ false = le-ltb c.args.port (local_port r.shape) (omega arith) in
    let same : v ≡ after = ap (λ beats. record v { to_put = beats }) (put-none (local_port r.shape) c.args.port r.to_put _ (omega arith)) in
    c.arrive.ensures ∙ ap (with_arrival (Some f.packet)) (sym c.self.view_is ∙ same)
    ∙ ap (λ b. with_arrival (if b then Some f.packet else None) after) (sym c.if-flit.true)
    ∙ ap (λ b. with_arrival (if b then None else (if f.last then Some f.packet else None)) after) (sym local)
    ∙ ap (flit_put c.args.port c.args.vc f) c.self.view_is

pub returns-else-flit : goal.returns-else-flit
returns-else-flit c =
    let r = c.self.inside in
    let v = view_of r in
    let f = c.args.flit in
    let after = record v { to_put = with_flit_at c.args.port c.args.vc f v.to_put } in
    let local : nat_lt c.args.port (local_port r.shape) ≡ false = le-ltb c.args.port (local_port r.shape) (omega arith) in
    let same : v ≡ after = ap (λ beats. record v { to_put = beats }) (put-none (local_port r.shape) c.args.port r.to_put _ (omega arith)) in
    sym c.self.view_is ∙ same
    ∙ ap (λ b. with_arrival (if b then Some f.packet else None) after) (sym c.if-flit.false)
    ∙ ap (λ b. with_arrival (if b then None else (if f.last then Some f.packet else None)) after) (sym local)
    ∙ ap (flit_put c.args.port c.args.vc f) c.self.view_is
