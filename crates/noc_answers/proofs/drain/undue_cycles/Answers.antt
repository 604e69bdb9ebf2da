use Rattle.std.proofs.Common.{◌≡◌, ℕ, ◌+◌, ◌<◌, ◌≤◌, false, arith, inl, inr}
use Rattle.std.specs.Prelude.{◌⊎◌}
use Rattle.std.proofs.lemmas.Bool.{cases_lt}
use Rattle.noc_requests.specs.Drain.{is_out_at}
use Rattle.noc_answers.proofs.WaitingLemmas.{not-out-undue}
use Rattle.noc_answers.proofs.drain.undue_cycles.Goals as goal

pub loop-number-preserved : goal.loop-number-preserved
loop-number-preserved c = λ k some within. at k some within (cases_lt c.loop-number.cycles k)
  where
    at : (k : ℕ) → 0 < k → k ≤ c.max-cycles.result → (c.loop-number.cycles < k) ⊎ (k ≤ c.loop-number.cycles) → is_out_at c.args.network.now.net (c.args.network.now.count + k) ≡ false
    at k some within (inr old) = c.loop-number.invariant k some old
    at k some within (inl new) =
        let early : k ≤ c.saturating_sub.result = omega (arith, within, new, c.max-cycles.ensures) in
        not-out-undue c.args.network.now.net c.packets-number-end.ensures.good (c.args.network.now.count + k) c.loop-number.number c.packet.result
        (omega (arith, c.packets-number-end.ensures.value)) c.packet.ensures (omega (arith, early, some, c.saturating_sub.ensures, c.from-due.ensures, c.count-count.ensures.value))
