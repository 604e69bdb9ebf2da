use Rattle.std.proofs.Common.{◌≡◌, ◌≤◌, ◌+◌, ◌*◌, ◌++◌, flat_map, length}
use Rattle.noc_topo.specs.Lists.{below}
use Rattle.noc_files.specs.declared.listing.TheConstants.{LONGEST_LINE}
use Rattle.noc_files.proofs.listing.Listing.add_lines.Given as goal

abbrev pub invariant-loop-vc : goal.invariant-loop-vc
invariant-loop-vc g l = record {
  said : l.page ≡ l.fn.page ++ flat_map (g.L.Lines.said l.self.lines.now l.router l.port) (below l.vc);
  short : length l.page ≤ length l.fn.page + LONGEST_LINE * l.vc;
}
