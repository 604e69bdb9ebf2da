use Rattle.std.specs.Prelude.{vec_len, ◌*◌, ◌≤◌}
use Rattle.noc_topo.specs.Shape.{nodes}
use Rattle.noc_route.specs.Columns.{AreKept}
use Rattle.noc_route.specs.Entered.{sets_in}
use Rattle.noc_route.specs.Routes.{width}
use Rattle.noc_route.specs.Trimming.{left_in, IsFirstLeft}
use Rattle.noc_route.proofs.columns.keep_all.Given as goal

abbrev pub invariant-loop-pair : goal.invariant-loop-pair
invariant-loop-pair l =
    let f = l.leaving.map.now.sizes in
    record {
      few : l.end ≤ l.pair * (nodes f.shape * width f.shape f.vcs);
      within : l.end ≤ vec_len l.sets;
      kept : AreKept f (left_in f (sets_in f l.entered) l.leaving.outs.now) l.sets.items l.starts l.pair l.end;
      first : IsFirstLeft f (sets_in f l.entered) l.leaving.outs.now (l.pair * nodes f.shape * width f.shape f.vcs) l.first;
    }
