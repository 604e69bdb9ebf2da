use Rattle.std.proofs.Common.{◌≡◌, ℕ, ◌+◌, ap, ◌∙◌, arith}
use Rattle.noc_theory.specs.Network.{Run, Setup}
use Rattle.noc_net.specs.Parts.{setup_in}
use Rattle.noc_net.proofs.parts.Parts.run.Goals as goal

abbrev of : Setup → ℕ → Run
of net count = record { net = net; count = count }

pub loop-init : goal.loop-init
loop-init c = record {
  parts = c.requires.parts;
  network = let none : c.args.self.now.count ≡ c.args.self.now.count + 0 = omega arith in ap (of (setup_in c.args.self.now)) none;
}

pub cycle-requires-clause-within : goal.cycle-requires-clause-within
cycle-requires-clause-within c = omega (arith, ap (λ (u : Run). u.count) c.loop.invariant.network, c.requires.within, c.loop-test.true)

pub loop-preserved : goal.loop-preserved
loop-preserved c =
    let net = setup_in c.args.self.now in
    let count = c.args.self.now.count in
    let next : count + c.loop.counter + 1 ≡ count + (c.loop.counter + 1) = omega arith in
    record {
      parts = c.cycle.ensures.parts;
      network = c.cycle.ensures.network ∙ ap (λ (u : Run). of u.net (u.count + 1)) c.loop.invariant.network ∙ ap (of net) next;
    }

pub returns-clause-network : goal.returns-clause-network
returns-clause-network c =
    let end : c.args.self.now.count + c.loop.counter ≡ c.args.self.now.count + c.args.cycles = omega (arith, c.loop.auto.counter-end) in
    c.loop.invariant.network ∙ ap (of (setup_in c.args.self.now)) end
