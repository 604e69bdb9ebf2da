use Rattle.std.proofs.Common.{◌≡◌, ◌/◌, ◌%◌, ◌<◌, ℕ, ap, arith, subst, sym, ◌∙◌}
use Rattle.std.proofs.lemmas.Nat.{mod_below}
use Rattle.std.proofs.lemmas.Bool.{lt-ltb}
use Rattle.noc_topo.specs.Shape.{Grid, nodes, ports}
use Rattle.noc_view.specs.View.{View}
use Rattle.noc_router.proofs.AskedLemmas.{port-below}
use Rattle.noc_router.proofs.WholeLemmas.{size_view}
use Rattle.noc_router.proofs.router.Router.route_for.Goals as goal

pub permitted-requires : goal.permitted-requires
permitted-requires c =
    let r = c.self.inside in
    let h = c.self.invariant in
    let g = c.args.relation.now in
    let shape : r.shape ≡ g.grid = ap (λ (v : View). v.site.grid) c.self.view_is ∙ sym c.requires.relation.grid in
    let vcs : r.vcs ≡ g.vcs = ap (λ (v : View). v.site.vcs) c.self.view_is ∙ sym c.requires.relation.vcs in
    let own : c.args.self.now.site.vcs ≡ r.vcs = sym (ap (λ (v : View). v.site.vcs) c.self.view_is) in
    let within : c.args.index < r.channels.size = omega (arith, c.requires.index, size_view r c.args.self.now c.self.view_is h, h.channels) in
    record {
      class = omega arith;
      router = subst (λ (s : Grid). r.node < nodes s) shape h.node;
      in_port = omega (arith, port-below r c.args.index h (lt-ltb _ _ within), ap (λ (p : ℕ × ℕ). p.0) c.split-port.ensures ∙ ap (λ n. c.args.index / n) own, ap ports shape);
      in_vc = subst (λ n. c.split-port.result.1 < n) vcs (rw (ap (λ (p : ℕ × ℕ). p.1) c.split-port.ensures ∙ ap (λ n. c.args.index % n) own) (mod_below c.args.index r.vcs h.some_vc));
      dst = omega (arith, ap nodes c.shape.ensures.value);
    }
