use Rattle.std.proofs.Common.{◌≡◌, ◌+◌, ◌*◌, ◌≤◌, ◌++◌, flat_map, length, take}
use Rattle.noc_view.specs.declared.verdict.TheConstants.Verdict.{ALL}
use Rattle.noc_files.specs.Summary.{total_line}
use Rattle.noc_files.specs.declared.summary.TheConstants.{LINE}
use Rattle.noc_files.proofs.summary.add_totals.Given as goal

-- the lines so far
abbrev pub invariant-loop-index : goal.invariant-loop-index
invariant-loop-index l = record {
  added : l.page ≡ l.fn.page ++ flat_map (total_line l.totals) (take l.index ALL);
  short : length l.page ≤ length l.fn.page + LINE * l.index;
}
