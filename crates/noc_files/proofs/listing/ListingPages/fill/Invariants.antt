use Rattle.std.proofs.Common.{◌≡◌, ◌≤◌, ◌*◌, flat_map, length}
use Rattle.noc_topo.specs.Lists.{below}
use Rattle.noc_files.specs.Channels.{lines_of_port}
use Rattle.noc_files.specs.declared.listing.TheConstants.{LONGEST_PORT}
use Rattle.noc_files.proofs.listing.ListingPages.fill.Given as goal

abbrev pub invariant-loop-port : goal.invariant-loop-port
invariant-loop-port g l = record {
  said : l.page ≡ flat_map (lines_of_port (g.L.Lines.grid l.self.lines.now) (g.L.Lines.vcs l.self.lines.now) l.router (g.L.Lines.said l.self.lines.now l.router)) (below l.port);
  short : length l.page ≤ LONGEST_PORT * l.port;
}
