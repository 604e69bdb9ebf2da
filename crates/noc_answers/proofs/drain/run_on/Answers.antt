use Rattle.std.proofs.Common.{◌≤◌, ◌∙◌, ap, arith, inl, inr, sym}
use Rattle.noc_theory.specs.Network.{Run}
use Rattle.noc_answers.proofs.DrainLemmas.{goes-on, goes-to}
use Rattle.noc_answers.proofs.drain.run_on.Goals as goal

pub loop-network-preserved : goal.loop-network-preserved
loop-network-preserved c =
    let so_far = c.loop-network.invariant in
    record {
      net = ap (λ (u : Run). u.net) c.run.ensures.value ∙ so_far.net;
      on = goes-on c.args.network.now c.loop-network.network c.limit-limit.result so_far.net so_far.on c.run.new.self c.next_piece-cycles.result c.next_piece-cycles.ensures.on c.run.ensures.value;
    }

pub returns-else-not-all_out-clause-end : goal.returns-else-not-all_out-clause-end
returns-else-not-all_out-clause-end c =
    rw c.if-not-drain.false
    (goes-to c.args.network.now c.loop-network.network c.limit-limit.result c.loop-network.invariant.net c.loop-network.invariant.on c.limit-limit.ensures.value (inr (sym c.all_out.ensures.value ∙ c.if-not-all_out.false)))

pub returns-after-loop-network-clause-end : goal.returns-after-loop-network-clause-end
returns-after-loop-network-clause-end c =
    let late : c.limit-limit.result ≤ c.loop-network.network.count = omega (arith, c.count.ensures.value, c.loop-network-test.false) in
    rw c.if-not-drain.false
    (goes-to c.args.network.now c.loop-network.network c.limit-limit.result c.loop-network.invariant.net c.loop-network.invariant.on c.limit-limit.ensures.value (inl late))
