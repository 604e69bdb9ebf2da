use Rattle.std.proofs.Common.{◌≡◌, ℕ, ◌+◌, ◌≤◌, ◌∙◌, Option, Some, ap, arith, sym, subst}
use Rattle.noc_theory.specs.declared.limits.TheConstants.{CYCLE_LIMIT}
use Rattle.noc_theory.specs.Network.{Run}
use Rattle.noc_net.specs.declared.parts.Parts.{Parts}
use Rattle.noc_net.specs.Inside.{IsNetwork}
use Rattle.noc_net.proofs.NetworkLemmas.{by-routers, by-columns, shown}
use Rattle.noc_net.proofs.network.Network.run_by.Goals.{in-Some+in_ok-run_by-in-Some, in-None}
use Rattle.noc_net.proofs.network.Network.run_by.Goals as goal

pub run_by-requires-clause-setup : goal.run_by-requires-clause-setup
run_by-requires-clause-setup g c κs bounds = ap (λ (u : Run). u.net) (shown c.self.inside c.self.invariant c.in-Some.engine c.in-Some.is)

pub run_by-requires-clause-within : goal.run_by-requires-clause-within
run_by-requires-clause-within g c κs bounds =
    let n = c.self.inside in
    let count = ap (λ (u : Run). u.count) (shown n c.self.invariant c.in-Some.engine c.in-Some.is) in
    let within : n.count + c.args.cycles ≤ CYCLE_LIMIT = subst (λ (u : Run). u.count + c.args.cycles ≤ CYCLE_LIMIT) (sym c.self.view_is) c.requires in
    omega (arith, within, c.starting_at-next.ensures.cycles, count)

pub invariant_of-result : goal.invariant_of-result
invariant_of-result g c =
    let n = c.self.inside in
    let within : n.count + c.args.cycles ≤ CYCLE_LIMIT = subst (λ (u : Run). u.count + c.args.cycles ≤ CYCLE_LIMIT) (sym c.self.view_is) c.requires in
    let next = c.starting_at-next in
    let k = next.result.cycles in
    let count = next.result.end in
    let end : n.count + k ≡ count = omega (arith, next.ensures.cycles, next.ensures.end) in
    elim c.match-engine.branch [
      | in-Some+in_ok-run_by-in-Some w ↦
          subst (λ (p : Parts). IsNetwork (record { parts = p; engine = c.match-engine.engine; count = count })) (sym w.parts-is)
          (subst (λ (e : Option Run). IsNetwork (record { parts = n.parts; engine = e; count = count })) (sym w.engine-is)
          (let room : n.count + k ≤ CYCLE_LIMIT = omega (arith, within, next.ensures.cycles) in
          subst (λ (e : ℕ). IsNetwork (record { parts = n.parts; engine = Some w.in_ok-run_by-in-Some.field-0; count = e })) end
          (by-columns n c.self.invariant w.in-Some.engine w.in-Some.is k room w.in_ok-run_by-in-Some.field-0 w.in_ok-run_by-in-Some.ensures.value)))
      | in-None w ↦
          subst (λ (p : Parts). IsNetwork (record { parts = p; engine = c.match-engine.engine; count = count })) (sym w.parts-is)
          (subst (λ (e : Option Run). IsNetwork (record { parts = w.run.new.self; engine = e; count = count })) (w.in-None.is ∙ sym w.engine-is)
          (subst (λ (e : ℕ). IsNetwork (record { parts = w.run.new.self; engine = n.engine; count = e })) (sym next.ensures.end)
          (by-routers n c.self.invariant w.in-None.is c.args.cycles within w.run.new.self w.run.ensures.parts w.run.ensures.network)))
    ]
