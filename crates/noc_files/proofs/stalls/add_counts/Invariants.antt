use Rattle.std.proofs.Common.{◌≡◌, ◌≤◌, ◌+◌, ◌*◌, ◌++◌, flat_map, length, take}
use Rattle.noc_files.specs.Stalls.{count_text}
use Rattle.noc_files.specs.declared.page.TheConstants.{COLUMN}
use Rattle.noc_files.proofs.stalls.add_counts.Given as goal

abbrev pub invariant-loop-count : goal.invariant-loop-count
invariant-loop-count l = record {
  added : l.page ≡ l.fn.page ++ flat_map count_text (take l.count-index l.counts);
  short : length l.page ≤ length l.fn.page + COLUMN * l.count-index;
}
