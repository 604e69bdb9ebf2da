use Rattle.std.proofs.Common.{◌≡◌, ◌*◌, ℕ, List, ap, arith, length, rules, subst, ◌∙◌}
use Rattle.std.proofs.lemmas.List.{length-replicate}
use Rattle.noc_topo.specs.Shape.{nodes}
use Rattle.noc_packet.specs.declared.packet.Packet.{Packet}
use Rattle.noc_theory_cycles.specs.Firsts.{AreFirsts}
use Rattle.noc_engine.specs.Origins.{setup_by}
use Rattle.noc_engine.proofs.OpenedLemmas.{blocks-are, opens-at, same-opened}
use Rattle.noc_engine.proofs.columns.Columns.new.Goals as goal

pub overflow_mul-nodes : goal.overflow_mul-nodes
overflow_mul-nodes c = omega (arith, c.nodes-nodes.ensures.few)

pub returns : goal.returns
returns c =
    let net = setup_by c.args.setup.now in
    let count = c.div_ceil-count.result in
    let firsts = c.in-Ok-all_starts.starts.firsts.items in
    let plan = c.in-Ok-plan_of.ensures in
    let nodes-are : c.nodes-nodes.result ≡ nodes net.relation.grid = c.nodes-nodes.ensures.value ∙ ap nodes c.shape.ensures.value in
    opens-at net firsts count _ (record {
      good = c.requires.good;
      made = c.of.ensures;
      plan = plan;
      count_is = blocks-are net c.in-Ok-plan_of.plan c.nodes-nodes.result count plan nodes-are c.nodes-nodes.ensures.some c.div_ceil-count.ensures;
      firsts_are = subst (λ (p : List Packet). AreFirsts p (nodes net.relation.grid) firsts) c.as_slice-packets.ensures.value
          (subst (λ (n : ℕ). AreFirsts c.as_slice-packets.result.now n firsts) c.requires.queues.many c.in-Ok-all_starts.ensures.firsts);
      tile = same-opened c.in-Ok-plan_of.plan.pattern c.deref.result.now firsts count _ _ _ c.deref.ensures.value (ap (λ (p : List Packet). length p) c.as_slice-packets.ensures.value) c.in-Ok-all_blocks.ensures;
      found = ap length (c.in-Ok.ensures.items_if_clones_equal (λ y e. search rules)) ∙ length-replicate (c.nodes-nodes.result * 64) _ ∙ ap (λ n. n * 64) nodes-are;
    })
