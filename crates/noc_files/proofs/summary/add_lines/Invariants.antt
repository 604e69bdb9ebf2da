use Rattle.std.proofs.Common.{◌≡◌, ◌+◌, ◌*◌, ◌≤◌, ◌++◌, flat_map, length, take}
use Rattle.noc_files.specs.Summary.{entry_value, summary_line}
use Rattle.noc_files.specs.declared.summary.TheConstants.{LINE}
use Rattle.noc_files.proofs.summary.add_lines.Given as goal

-- the lines so far
abbrev pub invariant-loop-entry : goal.invariant-loop-entry
invariant-loop-entry l = record {
  added : l.page ≡ l.fn.page ++ flat_map (λ entry. summary_line (entry_value entry)) (take l.entry-index l.entries);
  short : length l.page ≤ length l.fn.page + LINE * l.entry-index;
}
