use Rattle.std.proofs.Common.{◌+◌, ◌*◌}
use Rattle.noc_route.specs.Entered.{sets_in}
use Rattle.noc_route.specs.Routes.{width}
use Rattle.noc_route.specs.Trimming.{routes_in, left_in, IsFirstStuck}
use Rattle.noc_route.proofs.trim.stuck_page.Given as goal

abbrev pub invariant-loop-input : goal.invariant-loop-input
invariant-loop-input l =
    let f = l.leaving.map.now.sizes in
    IsFirstStuck (routes_in f (left_in f (sets_in f l.entered) l.leaving.outs.now)) l.leaving.outs.now (l.page * width f.shape f.vcs + l.input) l.first
