use Rattle.std.proofs.Common.{◌≡◌, ◌<◌, ap, arith, not, sym, true, ◌∙◌}
use Rattle.noc_vc.specs.Input.{is_empty}
use Rattle.noc_vc.specs.declared.input.InputState.TheVariants.{Active}
use Rattle.noc_view.specs.Verdict.{Holds, Round, verdict_of}
use Rattle.noc_view.specs.View.{View, claim_in, size_of, view_buffer, view_claim, view_input}
use Rattle.noc_router.specs.Inside.{view_of}
use Rattle.noc_router.proofs.AskedLemmas.{ask-below}
use Rattle.noc_router.proofs.WholeLemmas.{size_view}
use Rattle.noc_router.proofs.router.Router.verdict.Goals as goal

pub offset_bounds-grants-output : goal.offset_bounds-grants-output
offset_bounds-grants-output c =
    let v = c.args.self.now in
    let l : c.in-Some.output < size_of v.site = ask-below v c.args.index c.args.asked c.in-Some.output c.requires.asked c.in-Some.is in
    omega (arith, l, size_view c.self.inside v c.self.view_is c.self.invariant, c.self.invariant.channels, c.self.inside.channels.few)

pub bounds-grants-output : goal.bounds-grants-output
bounds-grants-output c =
    let v = c.args.self.now in
    let l : c.in-Some.output < size_of v.site = ask-below v c.args.index c.args.asked c.in-Some.output c.requires.asked c.in-Some.is in
    omega (arith, l, c.requires.grants)

pub returns-else-not-has_credit : goal.returns-else-not-has_credit
returns-else-not-has_credit c =
    let v = c.args.self.now in
    let i = c.args.index in
    let o = c.in-Active.next in
    let round : Round = record { grants = c.args.grants.now; picks = c.args.picks.now; wins = c.args.wins.now } in
    let phase : (view_input (view_of c.self.inside) i).phase ≡ Active o = sym c.state.ensures.value ∙ c.in-Active.is in
    let claim : view_claim v i ≡ Holds o true = ap (λ (w : View). view_claim w i) (sym c.self.view_is) ∙ ap (claim_in (view_of c.self.inside)) phase ∙ ap (Holds o) (sym c.has_credit.ensures ∙ c.if-not-has_credit.false) in
    let flit : not (is_empty (view_buffer v i)) ≡ true = ap (λ (w : View). not (is_empty (view_buffer w i))) (sym c.self.view_is) ∙ sym c.has_flit-in-Active.ensures ∙ c.if-not-has_flit.false in
    c.switch_verdict.ensures c.args.grants.now
    ∙ sym (ap (λ claimed. verdict_of v.site.vcs round i claimed true) claim)
    ∙ sym (ap (verdict_of v.site.vcs round i (view_claim v i)) flit)
