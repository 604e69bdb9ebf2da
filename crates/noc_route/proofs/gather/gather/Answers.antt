use Rattle.std.proofs.Common.{◌≡◌, ◌+◌, ◌-◌, subst, arith}
use Rattle.noc_route.specs.Entered.{sets_in}
use Rattle.noc_route.specs.Trimming.{routes_in}
use Rattle.noc_route.specs.Gathering.{AreOutsFrom}
use Rattle.noc_route.proofs.gather.gather.Goals as goal

pub loop-step-init : goal.loop-step-init
loop-step-init c = record { lists = c.requires.outs; full = λ m r t place l. absurd (omega (arith, l, c.farthest-farthest.ensures.bound r t place.router place.dst)) }

pub gather_at-requires : goal.gather_at-requires
gather_at-requires c =
    let same : c.farthest-farthest.result + 1 - c.loop-step.step ≡ c.farthest-farthest.result - c.loop-step.step + 1 = omega (arith, c.loop-step-test.true) in
    subst (λ n. AreOutsFrom (routes_in c.args.map.now.sizes (sets_in c.args.map.now.sizes c.args.entered.now)) n c.loop-step.outs) same c.loop-step.invariant

pub loop-step-preserved : goal.loop-step-preserved
loop-step-preserved c =
    let same : c.farthest-farthest.result - c.loop-step.step ≡ c.farthest-farthest.result + 1 - (c.loop-step.step + 1) = omega arith in
    subst (λ n. AreOutsFrom (routes_in c.args.map.now.sizes (sets_in c.args.map.now.sizes c.args.entered.now)) n c.gather_at.new.outs) same c.gather_at.ensures

pub returns : goal.returns
returns c =
    let last : c.farthest-farthest.result + 1 - c.loop-step.step ≡ 0 = omega (arith, c.loop-step-test.false) in
    subst (λ n. AreOutsFrom (routes_in c.args.map.now.sizes (sets_in c.args.map.now.sizes c.args.entered.now)) n c.loop-step.outs) last c.loop-step.invariant
