use Rattle.std.proofs.Common.{◌≡◌, ℕ, ◌+◌, false, below_more, ap, sym, ◌∙◌, refl, arith}
use Rattle.std.proofs.lemmas.Bool.{false_from_ne_true, false≢true}
use Rattle.noc_theory.specs.Network.{Run}
use Rattle.noc_tiles.proofs.tiles.run_single.Goals as goal

pub loop-k-preserved : goal.loop-k-preserved
loop-k-preserved g c =
    let shuts = g.G.Gate.shuts c.args.gate.now 0 in
    let v = c.loop-k.invariant in
    let k = c.loop-k.k in
    let free : shuts (c.count-first.result + k) ≡ false = false_from_ne_true (shuts (c.count-first.result + k)) (λ shut. false≢true (sym (c.if-not-pass.ensures.shut shut))) in
    let sum : c.args.network.count + k + 1 ≡ c.args.network.count + (k + 1) = omega arith in
    record {
      run = c.cycle.ensures.value ∙ (ap (λ (u : Run). record u { count = u.count + 1 }) v.run ∙ ap (λ (m : ℕ). record c.args.network { count = m }) sum);
      asked = below_more (λ (m : ℕ). shuts (c.args.network.count + m) ≡ false) k v.asked (ap (λ n. shuts (n + k)) (sym c.count-first.ensures.value) ∙ free);
    }

pub returns-then-always-clause-asked : goal.returns-then-always-clause-asked
returns-then-always-clause-asked g c = λ k l. c.if-always.ensures.none_shut refl 0 (c.args.network.count + k)
