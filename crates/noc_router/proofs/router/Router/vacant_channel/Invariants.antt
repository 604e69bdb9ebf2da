use Rattle.std.proofs.Common.{◌≡◌, ◌<◌, ℕ, false}
use Rattle.noc_view.specs.View.{is_vacant}
use Rattle.noc_router.proofs.router.Router.vacant_channel.Given as goal

-- no local channel so far is vacant
abbrev pub invariant-loop-vc : goal.invariant-loop-vc
invariant-loop-vc l = (k : ℕ) → k < l.vc → is_vacant l.self k ≡ false
