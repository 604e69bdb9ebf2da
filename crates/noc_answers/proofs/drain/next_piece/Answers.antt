use Rattle.std.proofs.Common.{◌≡◌, ℕ, ◌+◌, ◌-◌, ◌<◌, ◌≤◌, ◌∙◌, false, ap, arith, inl, inr, min}
use Rattle.std.specs.Prelude.{◌⊎◌}
use Rattle.std.proofs.lemmas.Bool.{cases_lt}
use Rattle.noc_net.specs.Limit.{are_all_out}
use Rattle.noc_requests.specs.Drain.{is_out_at}
use Rattle.noc_answers.proofs.DrainLemmas.{drains-waiting}
use Rattle.noc_answers.proofs.drain.next_piece.Goals as goal

pub returns-clause-on : goal.returns-clause-on
returns-clause-on c = λ end.
    let now = c.args.network.now in
    let piece = c.min.ensures ∙ ap (λ n. min c.to_next_look.result (c.args.limit - n)) c.count.ensures.value in
    drains-waiting now.net c.args.limit now.count c.max-waiting.result c.to_next_look.result c.min.result end
    c.requires.early (λ k l. none k l (cases_lt c.unchanged_cycles.result k) (cases_lt c.undue_cycles.result k)) c.to_next_look.ensures.look piece
  where
    none : (k : ℕ) → k ≤ c.max-waiting.result → (c.unchanged_cycles.result < k) ⊎ (k ≤ c.unchanged_cycles.result) → (c.undue_cycles.result < k) ⊎ (k ≤ c.undue_cycles.result)
        → is_out_at c.args.network.now.net (c.args.network.now.count + k) ≡ false
    none k l (inr quiet) due = ap (are_all_out c.args.network.now.net) (c.unchanged_cycles.ensures.same k quiet) ∙ c.requires.waiting
    none k l (inl more) (inr due) = c.undue_cycles.ensures.waiting k (omega (arith, more)) due
    none k l (inl more) (inl later) = c.arriving_cycles.ensures.waiting k (omega (arith, more)) (omega (arith, l, more, later, c.max.ensures, c.max-waiting.ensures))
