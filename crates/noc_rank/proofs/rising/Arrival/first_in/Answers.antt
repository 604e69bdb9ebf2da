use Rattle.std.proofs.Common.{◌≡◌, false, ap, ◌∙◌, arith}
use borrow.Author.Count.{below_more}
use Rattle.noc_topo.specs.Shape.{local_port}
use Rattle.noc_rank.specs.Arriving.{falls_in}
use Rattle.noc_rank.proofs.IndexLemmas.{index-known, index-past, index-few}
use Rattle.noc_rank.proofs.rising.Arrival.first_in.Goals as goal

pub falls_to-requires-clause-index : goal.falls_to-requires-clause-index
falls_to-requires-clause-index c =
    index-known c.args.self.now.ranked.now.ranks.now c.loop-index.index c.link_ports.result c.vcs.result (c.link_ports.ensures.value ∙ ap local_port (c.shape.ensures.value ∙ c.args.self.now.ranked.now.grid)) (c.vcs.ensures.value ∙ c.args.self.now.ranked.now.vcs) c.loop-index-test.true

pub falls_to-requires-clause-few : goal.falls_to-requires-clause-few
falls_to-requires-clause-few c = index-few c.loop-index.index c.link_ports.result c.vcs.result c.link_ports.ensures.few (omega (arith, c.vcs.ensures.value, c.vcs.ensures.built.table.few_vcs)) c.loop-index-test.true

pub loop-index-preserved : goal.loop-index-preserved
loop-index-preserved c = below_more (λ j. falls_in c.args.self.now c.args.set j ≡ false) c.loop-index.index c.loop-index.invariant c.in_default.ensures.none

pub returns-clause-none : goal.returns-clause-none
returns-clause-none c = λ j l.
    c.loop-index.invariant j
    (index-past c.args.self.now.ranked.now.ranks.now c.loop-index.index j c.link_ports.result c.vcs.result (c.link_ports.ensures.value ∙ ap local_port (c.shape.ensures.value ∙ c.args.self.now.ranked.now.grid)) (c.vcs.ensures.value ∙ c.args.self.now.ranked.now.vcs) c.loop-index-test.false l)

pub returns-in-Some-clause-some : goal.returns-in-Some-clause-some
returns-in-Some-clause-some c = (
  record {
    inside = index-known c.args.self.now.ranked.now.ranks.now c.loop-index.index c.link_ports.result c.vcs.result (c.link_ports.ensures.value ∙ ap local_port (c.shape.ensures.value ∙ c.args.self.now.ranked.now.grid)) (c.vcs.ensures.value ∙ c.args.self.now.ranked.now.vcs) c.loop-index-test.true;
    holds = c.in-Some.ensures.some.0;
    none = c.loop-index.invariant;
  },
  c.in-Some.ensures.some.1,
)
