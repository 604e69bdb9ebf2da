use Rattle.std.proofs.Common.{◌≡◌, ◌≤◌, ◌*◌, flat_map, length}
use Rattle.std.specs.Io.KnownBytes.{Appends}
use Rattle.noc_topo.specs.Lists.{below}
use Rattle.noc_files.specs.declared.page.TheConstants.{PAGE}
use Rattle.noc_files.proofs.pages.put_pages.Given as goal

abbrev pub invariant-loop-number : goal.invariant-loop-number
invariant-loop-number g l = record {
  took : Appends (g.W.Sink.contents l.fn.sink) (g.W.Sink.contents l.sink) (flat_map (g.P.Pages.text l.pages) (below l.number));
  counted : l.written ≡ length (flat_map (g.P.Pages.text l.pages) (below l.number));
  short : l.written ≤ PAGE * l.number;
}
