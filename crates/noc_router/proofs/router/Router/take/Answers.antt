use Rattle.std.proofs.Common.{ℕ, ap, sym, ◌∙◌, Option, Some}
use Rattle.noc_packet.specs.declared.packet.Flit.{Flit}
use Rattle.noc_view.specs.View.{View, with_flit, with_credit, view_after_take}
use Rattle.noc_view.proofs.SiteLemmas.{taken-site}
use Rattle.noc_router.proofs.router.Router.take.Goals as goal
use Rattle.noc_router.proofs.router.Router.take.Goals.{in-Some, in_default}

pub returns-in-Some-credit-clause-view : goal.returns-in-Some-credit-clause-view
unfolding view_after_take
returns-in-Some-credit-clause-view c =
    let v = c.args.self.now in
    let g = c.args.relation.now in
    c.take_credit.ensures
    ∙ ap (λ vc. with_credit c.args.port (Some vc) c.match-beat.self) c.from-in-Some-credit.ensures
    ∙ ap (λ o. with_credit c.args.port o c.match-beat.self) (sym c.in-Some-credit.is)
    ∙ ap (λ (x : View). with_credit c.args.port c.args.beat.credit x) (elim c.match-beat.branch [
      | in-Some w ↦ w.self-is ∙ w.take_flit.ensures ∙ ap (λ vc. with_flit g c.args.port (Some (vc, w.in-Some.flit)) v) w.from.ensures ∙ ap (λ (o : Option (ℕ × Flit)). with_flit g c.args.port o v) (sym w.in-Some.is)
      | in_default w ↦ w.self-is ∙ ap (λ (o : Option (ℕ × Flit)). with_flit g c.args.port o v) (sym w.in_default.is)
    ])

pub returns-in_default-credit-clause-view : goal.returns-in_default-credit-clause-view
unfolding view_after_take
returns-in_default-credit-clause-view c =
    let v = c.args.self.now in
    let g = c.args.relation.now in
    ap (λ o. with_credit c.args.port o c.match-beat.self) (sym c.in_default-credit.is)
    ∙ ap (λ (x : View). with_credit c.args.port c.args.beat.credit x) (elim c.match-beat.branch [
      | in-Some w ↦ w.self-is ∙ w.take_flit.ensures ∙ ap (λ vc. with_flit g c.args.port (Some (vc, w.in-Some.flit)) v) w.from.ensures ∙ ap (λ (o : Option (ℕ × Flit)). with_flit g c.args.port o v) (sym w.in-Some.is)
      | in_default w ↦ w.self-is ∙ ap (λ (o : Option (ℕ × Flit)). with_flit g c.args.port o v) (sym w.in_default.is)
    ])

pub returns-in-Some-credit-clause-site : goal.returns-in-Some-credit-clause-site
returns-in-Some-credit-clause-site c = ap (λ (x : View). x.site) (returns-in-Some-credit-clause-view c) ∙ taken-site c.args.relation.now c.args.port c.args.beat c.args.self.now

pub returns-in_default-credit-clause-site : goal.returns-in_default-credit-clause-site
returns-in_default-credit-clause-site c = ap (λ (x : View). x.site) (returns-in_default-credit-clause-view c) ∙ taken-site c.args.relation.now c.args.port c.args.beat c.args.self.now
