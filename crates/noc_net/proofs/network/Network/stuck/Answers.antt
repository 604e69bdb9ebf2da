use Rattle.std.proofs.Common.{◌≡◌, ℕ, suc, ◌+◌, Bool, Option, Some, None, refl, ap, sym, ◌∙◌, arith, subst}
use Rattle.std.specs.Prelude.{◌&&◌, nat_eq, not}
use Rattle.std.specs.Option.{option_eq}
use Rattle.noc_topo.specs.Lists.{is_some_of}
use Rattle.noc_theory.specs.Good.{IsGoodSetup}
use Rattle.noc_theory.specs.Network.{Run, Setup, state_at}
use Rattle.noc_theory.specs.Progress.{is_pending, is_stuck, last_event_before}
use Rattle.noc_theory.proofs.worms.BuiltLemmas.{well-formed}
use Rattle.noc_theory.proofs.budget.ProgressTheoremLemmas.{not-stuck}
use Rattle.noc_theory.proofs.budget.StuckLemmas.{stuck-after}
use Rattle.noc_net.proofs.network.Network.stuck.Goals as goal

test-is : (o : Option ℕ) (last : ℕ) → option_eq nat_eq o (Some last) ≡ is_some_of o last
test-is None last = refl
test-is (Some n) last = refl

-- at the count behind the last cycle, by its last event
since : (net : Setup) → IsGoodSetup net → (last count : ℕ) → last + 1 ≡ count → (event : Option ℕ) → event ≡ last_event_before net count
    → (test : Bool) → test ≡ not (option_eq nat_eq event (Some last)) → (test && is_pending net last (state_at net count)) ≡ is_stuck net count
since net good last count e event is test tested =
    let s : suc last ≡ count = omega arith in
    ap (λ b. b && is_pending net last (state_at net count)) (tested ∙ ap not (test-is event last) ∙ ap (λ (o : Option ℕ). not (is_some_of o last)) is)
    ∙ ap (λ n. not (is_some_of (last_event_before net n) last) && is_pending net last (state_at net n)) (sym s) ∙ stuck-after net (well-formed net good) last ∙ ap (is_stuck net) s

pub returns-then-was_quiet-clause-value : goal.returns-then-was_quiet-clause-value
returns-then-was_quiet-clause-value c =
    let u = c.args.self.now in
    let good : IsGoodSetup u.net = subst (λ (u : Run). IsGoodSetup u.net) c.self.view_is c.self.invariant.parts.good in
    c.is_waiting_by.ensures ∙ ap (λ b. b && is_pending u.net c.in-Some.last (state_at u.net u.count)) (sym c.if-was_quiet.true)
    ∙ since u.net good c.in-Some.last u.count (omega (arith, ap (λ (u : Run). u.count) c.self.view_is)) c.last_event.result c.last_event.ensures c.was_quiet.result c.was_quiet.ensures

pub returns-else-was_quiet-clause-value : goal.returns-else-was_quiet-clause-value
returns-else-was_quiet-clause-value c =
    let u = c.args.self.now in
    let good : IsGoodSetup u.net = subst (λ (u : Run). IsGoodSetup u.net) c.self.view_is c.self.invariant.parts.good in
    c.if-was_quiet.false ∙ ap (λ b. b && is_pending u.net c.in-Some.last (state_at u.net u.count)) (sym c.if-was_quiet.false)
    ∙ since u.net good c.in-Some.last u.count (omega (arith, ap (λ (u : Run). u.count) c.self.view_is)) c.last_event.result c.last_event.ensures c.was_quiet.result c.was_quiet.ensures

pub returns-then-was_quiet-clause-ranked : goal.returns-then-was_quiet-clause-ranked
returns-then-was_quiet-clause-ranked c = λ ranks ranked.
    returns-then-was_quiet-clause-value c ∙ not-stuck c.args.self.now.net (well-formed _ (subst (λ (u : Run). IsGoodSetup u.net) c.self.view_is c.self.invariant.parts.good)) ranks ranked c.args.self.now.count
