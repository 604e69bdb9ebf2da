use Rattle.std.proofs.Common.{◌≡◌, ℕ, ◌+◌, ◌≤◌, Some, ap, arith, sym, subst}
use Rattle.noc_theory.specs.declared.limits.TheConstants.{CYCLE_LIMIT}
use Rattle.noc_theory.specs.Network.{Run}
use Rattle.noc_theory.proofs.worms.BuiltLemmas.{well-formed}
use Rattle.noc_theory.proofs.budget.ProgressTheoremLemmas.{not-stuck}
use Rattle.noc_net.specs.declared.network.Network.TheInside.{Inside}
use Rattle.noc_net.specs.Inside.{IsNetwork}
use Rattle.noc_net.proofs.NetworkLemmas.{by-routers, by-columns, shown}
use Rattle.noc_net.proofs.network.Network.run.Goals.{in-Some, in-None}
use Rattle.noc_net.proofs.network.Network.run.Goals as goal

pub run-requires : goal.run-requires
run-requires c =
    let n = c.self.inside in
    let is = shown n c.self.invariant c.in-Some.engine c.in-Some.is in
    let within : n.count + c.args.cycles ≤ CYCLE_LIMIT = subst (λ (u : Run). u.count + c.args.cycles ≤ CYCLE_LIMIT) (sym c.self.view_is) c.requires in
    let next = c.starting_at-next in
    record { relation = ap (λ (u : Run). u.net.relation) is; within = let count = ap (λ (u : Run). u.count) is in omega (arith, within, next.ensures.cycles, count) }

pub invariant_of-self : goal.invariant_of-self
invariant_of-self c =
    let n = c.self.inside in
    let within : n.count + c.args.cycles ≤ CYCLE_LIMIT = subst (λ (u : Run). u.count + c.args.cycles ≤ CYCLE_LIMIT) (sym c.self.view_is) c.requires in
    let next = c.starting_at-next in
    let k = next.result.cycles in
    let end : n.count + k ≡ next.result.end = omega (arith, next.ensures.cycles, next.ensures.end) in
    elim c.match-self.branch [
      | in-Some w ↦ subst (λ (m : Inside). IsNetwork (record { parts = m.parts; engine = m.engine; count = next.result.end })) (sym w.self-inside-is)
          (let room : n.count + k ≤ CYCLE_LIMIT = omega (arith, within, next.ensures.cycles) in
          subst (λ (e : ℕ). IsNetwork (record { parts = n.parts; engine = Some w.run.new.self; count = e })) end
          (by-columns n c.self.invariant w.in-Some.engine w.in-Some.is k room w.run.new.self w.run.ensures))
      | in-None w ↦ subst (λ (m : Inside). IsNetwork (record { parts = m.parts; engine = m.engine; count = next.result.end })) (sym w.self-inside-is)
          (subst (λ (e : ℕ). IsNetwork (record { parts = w.run-in-None.new.self; engine = n.engine; count = e })) (sym next.ensures.end)
          (by-routers n c.self.invariant w.in-None.is c.args.cycles within w.run-in-None.new.self w.run-in-None.ensures.parts w.run-in-None.ensures.network))
    ]

pub returns-clause-unstuck : goal.returns-clause-unstuck
returns-clause-unstuck c = λ ranks ranked.
    let sound : IsNetwork _ = invariant_of-self c in
    not-stuck _ (well-formed _ sound.parts.good) ranks ranked _
