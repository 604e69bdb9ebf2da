use Rattle.std.proofs.Common.{◌≡◌, ◌<◌, ◌/◌, ◌%◌, ℕ, true, ap, subst, sym, ◌∙◌, arith}
use Rattle.std.proofs.lemmas.Bool.{lt-ltb}
use Rattle.noc_topo.specs.Shape.{ports}
use Rattle.noc_router.specs.Parts.{ChannelStates}
use Rattle.noc_router.specs.Inside.{IsRouter, view_of}
use Rattle.noc_view.specs.View.{View, size_of}
use Rattle.noc_router.specs.declared.router.Router.TheInside.{Inside}
use Rattle.noc_router.proofs.RouterLemmas.{IsRouter-channels}
use Rattle.noc_router.proofs.AskedLemmas.{port-below}
use Rattle.noc_router.proofs.WholeLemmas.{size_view}
use Rattle.noc_router.proofs.router.Router.move_flit.Goals as goal

-- the port of a channel is one of the router's
placed : (r : Inside) (v : View) (i : ℕ) (p : ℕ × ℕ) → view_of r ≡ v → IsRouter r → i < size_of v.site → p ≡ (i / v.site.vcs, i % v.site.vcs) → p.0 < ports r.shape
placed r v i p view is l at =
    let within : i < r.channels.size = omega (arith, l, size_view r v view is, is.channels) in
    omega (arith, port-below r i is (lt-ltb i r.channels.size within), ap (λ (q : ℕ × ℕ). q.0) at ∙ ap (λ (w : View). i / w.site.vcs) (sym view), is.ports)

pub put_credit-requires-clause-port : goal.put_credit-requires-clause-port
put_credit-requires-clause-port c = placed c.self.inside c.args.self.now c.args.index c.split-port.result c.self.view_is c.self.invariant c.requires.input c.split-port.ensures

pub put_flit-requires-clause-port : goal.put_flit-requires-clause-port
put_flit-requires-clause-port c =
    subst (λ n. c.split-output.result.0 < n) (sym (ap (λ (v : View). ports v.site.grid) c.put_credit.ensures))
    (placed c.self.inside c.args.self.now c.args.next c.split-output.result c.self.view_is c.self.invariant c.requires.output c.split-output.ensures)

pub invariant_of-self : goal.invariant_of-self
invariant_of-self c = IsRouter-channels c.self.inside c.send-flit.new.self true c.self.invariant (ap (λ (s : ChannelStates). s.size) c.send-flit.ensures.states) (ap (λ (s : ChannelStates). s.bank.capacity) c.send-flit.ensures.states) c.send-flit.ensures.awaits
