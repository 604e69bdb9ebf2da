use Rattle.std.proofs.Common.{◌≡◌, ◌≤◌, ◌+◌, ◌*◌, ◌++◌, flat_map, length}
use Rattle.std.specs.Io.KnownBytes.{Appends}
use Rattle.noc_topo.specs.Lists.{below}
use Rattle.noc_files.specs.Trace.{cycle_text, trace_header}
use Rattle.noc_files.specs.declared.pages.TheConstants.{LONGEST_TEXT}
use Rattle.noc_files.proofs.TraceCycleLemmas.{IsKept}
use Rattle.noc_files.proofs.trace.write_trace.Given as goal

abbrev pub invariant-loop : goal.invariant-loop
invariant-loop g l = record {
  net : l.network.net ≡ l.fn.network.net;
  count : l.network.count ≡ l.fn.network.count + l.counter;
  traced : l.trace.0 ≡ l.fn.trace.0;
  kept : IsKept l.fn.network.net l.fn.trace.0 l.fn.network.count (l.fn.network.count + l.counter) l.trace.1;
  took : Appends (g.W.Sink.contents l.fn.sink) (g.W.Sink.contents l.sink) (trace_header ++ flat_map (λ k. cycle_text l.fn.network.net l.fn.trace.0 l.fn.network.count (l.fn.network.count + k)) (below l.counter));
  counted : l.written ≡ length (trace_header ++ flat_map (λ k. cycle_text l.fn.network.net l.fn.trace.0 l.fn.network.count (l.fn.network.count + k)) (below l.counter));
  short : l.written ≤ LONGEST_TEXT * (l.counter + 1);
}
