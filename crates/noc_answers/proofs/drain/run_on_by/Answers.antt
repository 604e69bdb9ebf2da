use Rattle.std.proofs.Common.{◌+◌, ◌≤◌, ◌∙◌, ap, arith, inl, inr, sym}
use Rattle.noc_theory.specs.Network.{Run}
use Rattle.noc_answers.proofs.DrainLemmas.{goes-on, goes-to}
use Rattle.noc_answers.proofs.drain.run_on_by.Goals.{then-loop-network-test+else-not-all_out, else-loop-network-test}
use Rattle.noc_answers.proofs.drain.run_on_by.Goals as goal

pub loop-network-preserved : goal.loop-network-preserved
loop-network-preserved g c =
    let so_far = c.loop-network.invariant in
    let after : Run = record c.loop-network.network { count = c.loop-network.network.count + c.next_piece-cycles.result } in
    record {
      net = ap (λ (u : Run). u.net) {y = after} c.in_ok-network.ensures.value ∙ so_far.net;
      on = goes-on c.args.network c.loop-network.network c.limit-limit.result so_far.net so_far.on c.in_ok-network.network c.next_piece-cycles.result c.next_piece-cycles.ensures.on c.in_ok-network.ensures.value;
    }

pub returns-clause-end : goal.returns-clause-end
returns-clause-end g c =
    let now = c.loop-network.network in
    let so_far = c.loop-network.invariant in
    rw c.if-not-drain.false
    (elim c.loop-network-test.branch [
      | then-loop-network-test+else-not-all_out w ↦
          goes-to c.args.network now c.limit-limit.result so_far.net so_far.on c.limit-limit.ensures.value (inr (sym w.all_out.ensures.value ∙ w.if-not-all_out.false))
      | else-loop-network-test w ↦
          let late : c.limit-limit.result ≤ now.count = omega (arith, c.count.ensures.value, w.loop-network-test.false) in
          goes-to c.args.network now c.limit-limit.result so_far.net so_far.on c.limit-limit.ensures.value (inl late)
    ])
