use Rattle.std.proofs.Common.{◌≡◌, [], ◌∷◌, ◌∙◌, None, arith, refl, sym, length-append}
use Rattle.std.specs.List.{filter_map}
use Rattle.std.proofs.lemmas.List.Sums.{fold_push, sum_by_push}
use Rattle.noc_topo.specs.Lists.{below}
use Rattle.noc_net.specs.Latency.{latency_at}
use Rattle.noc_files.specs.Summary.{greater_of, greatest_of}
use Rattle.noc_files.proofs.BelowLemmas.{found_no_more, found_nothing, found_one}
use Rattle.noc_files.proofs.summary.latencies.Goals as goal
use Rattle.noc_files.proofs.summary.latencies.Goals.{in-Some, in_default}

pub loop-packet-init : goal.loop-packet-init
loop-packet-init c = rw (found_nothing (latency_at c.args.network.now)) (record { few = omega arith; bound = omega arith; count_is = refl; sum_is = refl; greatest_is = refl })

pub loop-packet-preserved : goal.loop-packet-preserved
loop-packet-preserved c =
    let f = latency_at c.args.network.now in
    let n = c.loop-packet.packet in
    let before = filter_map f (below n) in
    let so_far = c.loop-packet.invariant in
    elim c.match-latency.branch [
      | in-Some w ↦ let x = w.in-Some.latency in
          let greater : c.match-latency.greatest ≡ greater_of (greatest_of before) x = rw (w.greatest-is, w.max.ensures, w.unwrap_or.ensures, so_far.greatest_is) refl in
          rw (found_one f n x w.in-Some.ensures) (record {
            few = omega arith;
            bound = omega (arith, w.from-sum.ensures);
            count_is = omega (arith, so_far.count_is, length-append before (x ∷ []));
            sum_is = w.sum-is ∙ omega (arith, so_far.sum_is, w.from-sum.ensures, sum_by_push (λ k. k) before x);
            greatest_is = greater ∙ sym (fold_push greater_of None before x);
          })
      | in_default w ↦ rw (found_no_more f n w.in_default.ensures) (record { few = omega arith; bound = omega arith; count_is = w.count-is ∙ so_far.count_is; sum_is = w.sum-is ∙ so_far.sum_is; greatest_is = w.greatest-is ∙ so_far.greatest_is })
    ]
