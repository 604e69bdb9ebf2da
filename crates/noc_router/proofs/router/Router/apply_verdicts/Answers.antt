use Rattle.std.proofs.Common.{◌≡◌, ◌*◌, ◌<◌, ap, arith}
use Rattle.noc_view.specs.View.{Site, size_of}
use Rattle.noc_router.specs.Settled.{decisions_by}
use Rattle.noc_router.proofs.MoveLemmas.{site-kept}
use Rattle.noc_router.proofs.OutcomeLemmas.{can_take-next, effect_first, effect_last, effect_next, outcome-decided}
use Rattle.noc_router.proofs.SettleLemmas.{from_next}
use Rattle.noc_router.proofs.WholeLemmas.{size_view, whole_view}
use Rattle.noc_router.proofs.router.Router.apply_verdicts.Goals as goal

pub loop-index-init : goal.loop-index-init
loop-index-init c =
    let v = c.args.self.now in
    let whole = whole_view c.self.inside v c.self.view_is c.self.invariant in
    record { whole = whole; settling = effect_first c.args.plan.now v whole c.requires.plan c.requires.beats }

pub apply_verdict-requires : goal.apply_verdict-requires
apply_verdict-requires c =
    let p = c.args.plan.now in
    let v = c.args.self.now in
    let l = c.loop-index in
    let decided = outcome-decided p v c.requires.plan in
    let size : size_of v.site ≡ c.self.inside.ports * c.self.inside.vcs = size_view c.self.inside v c.self.view_is c.self.invariant in
    let inside : l.index < size_of v.site = omega (arith, size, c.loop-index-test.true) in
    let same : size_of l.self.site ≡ size_of v.site = ap (λ (s : Site). size_of s) (site-kept (decisions_by p v) v l.self (from_next (size_of v.site) l.index) l.invariant.settling) in
    record {
      index = omega (arith, inside, same);
      asks = omega (arith, inside, decided.asks);
      verdicts = omega (arith, inside, decided.verdicts);
      routes = omega (arith, inside, decided.routes);
      can = can_take-next p v l.self l.index l.invariant.whole c.requires.plan inside l.invariant.settling;
    }

pub loop-index-preserved : goal.loop-index-preserved
loop-index-preserved c =
    let p = c.args.plan.now in
    let v = c.args.self.now in
    let l = c.loop-index in
    let size : size_of v.site ≡ c.self.inside.ports * c.self.inside.vcs = size_view c.self.inside v c.self.view_is c.self.invariant in
    record {
      whole = l.invariant.whole;
      settling = effect_next p v l.self l.index c.apply_verdict.new.self l.invariant.whole c.requires.plan (omega (arith, size, c.loop-index-test.true)) l.invariant.settling c.apply_verdict.ensures;
    }

pub returns : goal.returns
returns c =
    let l = c.loop-index in
    let v = c.args.self.now in
    let size : size_of v.site ≡ c.self.inside.ports * c.self.inside.vcs = size_view c.self.inside v c.self.view_is c.self.invariant in
    effect_last c.args.plan.now v l.self l.index l.invariant.whole c.requires.plan (omega (arith, size, c.loop-index-test.false)) l.invariant.settling
