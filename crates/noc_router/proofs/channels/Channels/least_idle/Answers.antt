use Rattle.std.proofs.Common.{◌≡◌, Bool, ℕ, ap, sym, ◌∙◌, ⊎_elim, arith}
use Rattle.std.specs.Prelude.{◌&&◌}
use Rattle.std.proofs.lemmas.Bool.{cases_eq}
use Rattle.noc_packet.specs.Set.{has_bit}
use Rattle.noc_vc.specs.Output.{is_free}
use Rattle.noc_view.proofs.FindLemmas.{find-below, find-none}
use Rattle.noc_router.specs.Sound.{nth_output}
use Rattle.noc_router.proofs.channels.Channels.least_idle.Goals as goal

pub loop-output-preserved : goal.loop-output-preserved
loop-output-preserved c = λ k l.
    let asks : ℕ → Bool = λ o. has_bit c.args.set o && is_free (nth_output c.args.self.now.outputs.items o).holder in
    ⊎_elim (λ (here : k ≡ c.loop-output.output). ap asks here ∙ sym c.is_idle_in.ensures ∙ c.if-is_idle_in.false)
    (λ (other : k ≡ c.loop-output.output → ⊥). c.loop-output.invariant k (omega arith))
    (cases_eq k c.loop-output.output)

pub returns-then-is_idle_in : goal.returns-then-is_idle_in
returns-then-is_idle_in c =
    let asks : ℕ → Bool = λ o. has_bit c.args.set o && is_free (nth_output c.args.self.now.outputs.items o).holder in
    sym (find-below asks c.args.self.now.size c.loop-output.output (omega (arith, c.loop-output-test.true)) (sym c.is_idle_in.ensures ∙ c.if-is_idle_in.true) c.loop-output.invariant)

pub returns : goal.returns
returns c =
    let asks : ℕ → Bool = λ o. has_bit c.args.set o && is_free (nth_output c.args.self.now.outputs.items o).holder in
    sym (find-none asks c.args.self.now.size (λ k l. c.loop-output.invariant k (omega (arith, l, c.loop-output-test.false))))
