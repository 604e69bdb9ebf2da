use Rattle.std.proofs.Common.{◌≡◌, ◌≤◌, ◌<◌, ◌+◌, ◌*◌, ◌-◌, ◌++◌, true, flat_map, length}
use Rattle.noc_topo.specs.Lists.{below}
use Rattle.noc_packet.specs.Set.{has_bit}
use Rattle.noc_files.specs.Trace.{has_below, member_text}
use Rattle.noc_files.specs.declared.sets.TheConstants.{MEMBER}
use Rattle.noc_files.proofs.sets.add_set.Given as goal

-- the members below the index are on the page
abbrev pub invariant-loop-index : goal.invariant-loop-index
invariant-loop-index l = record {
  within : l.index ≤ l.count;
  member : l.index < l.count → has_bit l.set l.index ≡ true;
  some : l.has_some ≡ has_below l.set l.index;
  added : l.page ≡ l.fn.page ++ flat_map (member_text l.relation.grid l.relation.vcs l.set) (below l.index);
  short : length l.page ≤ length l.fn.page + MEMBER * l.index;
}

abbrev pub decreases-loop-index : goal.decreases-loop-index
decreases-loop-index l = l.count - l.index
