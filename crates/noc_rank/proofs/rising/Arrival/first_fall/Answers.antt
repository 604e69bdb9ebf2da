use Rattle.std.proofs.Common.{◌≡◌, ◌/◌, ◌%◌, ℕ, refl, subst, ap, ◌∙◌, arith}
use borrow.Author.Count.{below_more}
use Rattle.noc_topo.specs.Shape.{nodes}
use Rattle.noc_route.specs.Routes.{set_at}
use Rattle.noc_rank.specs.NotRising.{link_output_count, HasNone, IsLeastBelow}
use Rattle.noc_rank.specs.Arriving.{falls_in}
use Rattle.noc_rank.proofs.rising.Arrival.first_fall.Goals as goal

pub permitted-set-requires-clause-dst : goal.permitted-set-requires-clause-dst
permitted-set-requires-clause-dst c =
    let all : c.nodes-dst-end.result ≡ nodes c.args.self.now.ranked.now.relation.now.grid = c.nodes-dst-end.ensures.value ∙ ap nodes c.shape.ensures.value in
    omega (arith, c.loop-dst-test.true)

pub loop-dst-preserved : goal.loop-dst-preserved
loop-dst-preserved c =
    let a = c.args.self.now in
    let P : ℕ → Type 0 = λ set. HasNone (falls_in a set) (link_output_count a.ranked.now.ranks.now) in
    below_more (λ t. P (set_at a.ranked.now.relation.now a.class a.router a.in_port a.in_vc t)) c.loop-dst.dst c.loop-dst.invariant (subst P c.permitted-set.ensures.value c.in_default.ensures.none)

pub returns : goal.returns
returns c = λ t l.
    let ranked = c.args.self.now.ranked.now in
    let all : c.nodes-dst-end.result ≡ nodes ranked.ranks.now.grid = c.nodes-dst-end.ensures.value ∙ ap nodes (c.shape.ensures.value ∙ ranked.grid) in
    c.loop-dst.invariant t (omega (arith, l, c.loop-dst-test.false))

pub returns-in-Some : goal.returns-in-Some
returns-in-Some c =
    let a = c.args.self.now in
    let k = a.ranked.now.ranks.now in
    let i = c.in-Some.index in
    let vcs : c.vcs-vcs.result ≡ k.vcs = c.vcs-vcs.ensures.value ∙ a.ranked.now.vcs in
    let all : c.nodes-dst-end.result ≡ nodes k.grid = c.nodes-dst-end.ensures.value ∙ ap nodes (c.shape.ensures.value ∙ a.ranked.now.grid) in
    let L : ℕ → Type 0 = λ set. IsLeastBelow (falls_in a set) (link_output_count k) i in
    record {
      index = i;
      dst = c.loop-dst.dst;
      exists = omega (arith, c.loop-dst-test.true);
      step = ap (λ v. record { class = a.class; router = a.router; in_port = a.in_port; in_vc = a.in_vc; dst = c.loop-dst.dst; out_port = i / v; out_vc = i % v }) vcs;
      rank = refl;
      next = c.in-Some.ensures.some.1;
      least = subst L c.permitted-set.ensures.value c.in-Some.ensures.some.0;
      earlier = c.loop-dst.invariant;
    }
